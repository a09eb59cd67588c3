use Rattle.std.proofs.Common.{◌≡◌, ◌+◌, ◌-◌, ◌≤◌, ◌^◌, Bool, List, length, sym, ap, ap₂, subst, ◌∙◌, arith}
use Rattle.std.proofs.lemmas.List.{with_items_is}
use Rattle.one_rule.specs.Stimulus.{inputs_of}
use Rattle.circuit_eval.specs.Machines.{after_steps, rows_after}
use Rattle.circuit_eval.proofs.RowByRow.{steps-turn}
use Rattle.circuit_eval.proofs.Stimuli.{HaveWidths-AreBits}
use Rattle.one_rule.specs.declared.rows.Row.{Row}
use Rattle.stim_report.specs.Shapes.{RowFits}
use Rattle.koika_top.specs.inner.Telling.{GoesOnFrom, counted, counted_all}
use Rattle.koika_top.specs.declared.teller.Teller.{Teller}
use Rattle.koika_top.proofs.CountedRows.{counted-more, goes-on-next, has-flags, has-values, is-before}
use Rattle.koika_top.proofs.MachineRows.{rows-turn}
use Rattle.koika_top.proofs.machine_engine.count_cycles.Given.{Over}
use Rattle.koika_top.proofs.machine_engine.count_cycles.Goals.{After-step-in-loop-last}
use Rattle.koika_top.proofs.machine_engine.count_cycles.Goals as goal

pub step-requires : goal.step-requires
step-requires g c =
    let given = HaveWidths-AreBits c.args.stimulus.now.widths c.in_ok-inputs.field-0 c.in_ok-inputs.ensures.fits in
    rw (c.loop-last.invariant.widths, ← c.requires.widths) given

-- the machine after one step more
stepped : (g : Over) (c : After-step-in-loop-last g) → c.step-in-loop-last.new.self ≡ g.M.Machine.after_step c.loop-last.machine (inputs_of c.args.stimulus.now (c.loop-last.last + 1))
stepped g c = c.step-in-loop-last.ensures ∙ ap (g.M.Machine.after_step c.loop-last.machine) c.in_ok-inputs.ensures.inputs

-- and after all the steps so far
made : (g : Over) (c : After-step-in-loop-last g) → c.step-in-loop-last.new.self ≡ after_steps g.M.Machine.after_step (inputs_of c.args.stimulus.now) (c.loop-last.last + 1 - c.args.ends.from) c.args.ends.from c.args.machine.now
made g c = steps-turn g.M.Machine.after_step (inputs_of c.args.stimulus.now) c.args.ends.from c.loop-last.last c.args.machine.now c.loop-last.machine c.step-in-loop-last.new.self (omega arith) c.loop-last.invariant.made (stepped g c)

-- its row fits the shape
fits : (g : Over) (c : After-step-in-loop-last g) → RowFits c.args.shape.now.registers c.args.shape.now.rules (g.M.Machine.row_at c.step-in-loop-last.new.self)
fits g c = subst (λ m. RowFits c.args.shape.now.registers c.args.shape.now.rules (g.M.Machine.row_at m)) (sym (made g c)) (c.requires.fit (c.loop-last.last + 1 - c.args.ends.from))

-- a step changes no count of flags
same-count : (g : Over) (c : After-step-in-loop-last g) → g.M.Machine.flag_count c.step-in-loop-last.new.self ≡ g.M.Machine.flag_count c.loop-last.machine
same-count g c = ap g.M.Machine.flag_count c.step-in-loop-last.ensures ∙ g.met.M.Machine.keeps_flag_count c.loop-last.machine c.in_ok-inputs.field-0

pub put_flags-requires : goal.put_flags-requires
put_flags-requires g c =
    ap length c.deref_mut.ensures.value ∙ c.loop-last.invariant.room
    ∙ sym (ap g.M.Machine.flag_count c.step-in-loop-last.ensures ∙ g.met.M.Machine.keeps_flag_count c.loop-last.machine c.in_ok-inputs.field-0)

pub count-requires-clause-flags : goal.count-requires-clause-flags
count-requires-clause-flags g c =
    let at = (goal.at.count-requires-clause-flags g c).After-step-in-loop-last in
    let put = with_items_is c.loop-last.fired c.put_flags.new.room (omega (arith, c.put_flags.auto.room, c.deref_mut.ensures.len, c.loop-last.fired.ok.0)) in
    has-flags c.loop-last.teller c.args.shape.now c.loop-last.last _ c.loop-last.invariant.goes_on
    (subst (λ (fired : List Bool). length c.args.shape.now.rules ≤ length fired) (sym (c.deref.ensures.value ∙ put ∙ c.put_flags.ensures)) (fits g at).flags)

pub count-requires-clause-few : goal.count-requires-clause-few
count-requires-clause-few g c = is-before c.loop-last.teller c.args.shape.now c.loop-last.last (2 ^ 32) c.loop-last.invariant.goes_on (omega (arith, c.loop-last-test.true, c.requires.few))

pub loop-last-preserved : goal.loop-last-preserved
loop-last-preserved g c =
    let last = c.loop-last.last in
    let inputs = inputs_of c.args.stimulus.now in
    let at = (goal.at.loop-last-preserved g c).After-step-in-loop-last in
    let rows = rows_after g.M.Machine.after_step g.M.Machine.row_at inputs (last - c.args.ends.from) c.args.ends.from c.args.machine.now in
    let put = with_items_is c.loop-last.fired c.put_flags.new.room (omega (arith, c.put_flags.auto.room, c.deref_mut.ensures.len, c.loop-last.fired.ok.0)) in
    let flags = c.deref.ensures.value ∙ put ∙ c.put_flags.ensures in
    record {
      widths = ap g.M.Machine.input_widths (stepped g at) ∙ g.met.M.Machine.keeps_widths c.loop-last.machine (inputs (last + 1)) ∙ c.loop-last.invariant.widths;
      room = ap length put ∙ c.put_flags.auto.room ∙ ap length c.deref_mut.ensures.value ∙ c.loop-last.invariant.room ∙ sym (same-count g at);
      made = made g at;
      counted =
          c.count.ensures ∙ ap₂ counted {y = counted_all c.args.teller.now rows} c.loop-last.invariant.counted flags ∙ sym (counted-more c.args.teller.now rows (g.M.Machine.row_at c.step-in-loop-last.new.self))
          ∙ ap (counted_all c.args.teller.now) (sym (rows-turn g.M.Machine.after_step inputs g.M.Machine.row_at c.args.ends.from last c.args.machine.now c.step-in-loop-last.new.self (omega arith) (made g at)));
      goes_on = subst (λ (t : Teller). GoesOnFrom t c.args.shape.now (last + 1)) (sym c.count.ensures) (goes-on-next c.loop-last.teller c.args.shape.now last _ c.loop-last.invariant.goes_on);
    }
