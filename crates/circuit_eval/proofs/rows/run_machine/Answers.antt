use Rattle.std.specs.Prelude.{Result, Ok, Err, OnErr}
use Rattle.std.proofs.Common.{◌≡◌, ◌+◌, ◌-◌, [], ◌∷◌, ◌++◌, sym, ◌∙◌, ap, arith}
use Rattle.one_rule.specs.Stimulus.{inputs_of}
use Rattle.one_rule.specs.declared.rows.Row.{Row}
use Rattle.circuit_eval.specs.Machines.{MadeSome, after_steps}
use Rattle.circuit_eval.proofs.RowByRow.{rows-end, rows-turn, steps-turn}
use Rattle.circuit_eval.proofs.Stimuli.{HaveWidths-AreBits}
use Rattle.circuit_eval.proofs.rows.run_machine.Given.{Over}
use Rattle.circuit_eval.proofs.rows.run_machine.Goals.{After-step}
use Rattle.circuit_eval.proofs.rows.run_machine.Goals as goal

pub step-requires : goal.step-requires
step-requires g c =
    let given = HaveWidths-AreBits c.args.stimulus.now.widths c.in_ok-inputs.field-0 c.in_ok-inputs.ensures.fits in
    rw (c.loop-last.invariant.widths, ← c.requires.widths) given

on_err : {T E P : Type 0} (r : Result T E) → P → OnErr r P
on_err (Ok value) p = tt
on_err (Err error) p = p

-- the machine after one step more
stepped : (g : Over) (c : After-step g) → c.step.new.self ≡ g.M.Machine.after_step c.loop-last.machine (inputs_of c.args.stimulus.now (c.loop-last.last + 1))
stepped g c = c.step.ensures ∙ ap (g.M.Machine.after_step c.loop-last.machine) c.in_ok-inputs.ensures.inputs

-- and after all the steps so far
made : (g : Over) (c : After-step g) → c.step.new.self ≡ after_steps g.M.Machine.after_step (inputs_of c.args.stimulus.now) (c.loop-last.last + 1 - c.args.from) c.args.from c.args.machine.now
made g c = steps-turn g.M.Machine.after_step (inputs_of c.args.stimulus.now) c.args.from c.loop-last.last c.args.machine.now c.loop-last.machine c.step.new.self (omega arith) c.loop-last.invariant.made (stepped g c)

made_some : (g : Over) (c : After-step g) → MadeSome g.M.Machine.after_step (inputs_of c.args.stimulus.now) (c.args.to - c.args.from) c.args.from c.args.machine.now c.step.new.self
made_some g c = (c.loop-last.last + 1 - c.args.from, omega (arith, c.loop-last-test.true), made g c)

pub loop-last-preserved : goal.loop-last-preserved
loop-last-preserved g c =
    let last = c.loop-last.last in
    let inputs = inputs_of c.args.stimulus.now in
    let at = (goal.at.loop-last-preserved g c).After-step in
    record {
      widths = ap g.M.Machine.input_widths (stepped g at) ∙ g.met.M.Machine.keeps_widths c.loop-last.machine (inputs (last + 1)) ∙ c.loop-last.invariant.widths;
      rows = rows-turn g.M.Machine.after_step inputs g.M.Machine.row_at c.args.to last c.loop-last.machine c.step.new.self c.loop-last.rows c.push-in-loop-last.new.self _ c.loop-last-test.true (stepped g at)
          (c.in_ok-push-2.ensures.ok ∙ ap (λ (row : Row). c.loop-last.rows ++ row ∷ []) c.in_ok-row_of-2.ensures) c.loop-last.invariant.rows;
      made = made g at;
    }

pub returns-clause-rows : goal.returns-clause-rows
returns-clause-rows g c =
    sym (rows-end g.M.Machine.after_step (inputs_of c.args.stimulus.now) g.M.Machine.row_at c.args.to c.loop-last.last c.loop-last.machine c.loop-last.rows c.loop-last-test.false) ∙ c.loop-last.invariant.rows

pub returns-in_err-row_of-2-clause-short : goal.returns-in_err-row_of-2-clause-short
returns-in_err-row_of-2-clause-short g c = on_err c.from_residual-in_err-row_of-2.result (made_some g (goal.at.returns-in_err-row_of-2-clause-short g c).After-step)

pub returns-in_err-push-2-clause-short : goal.returns-in_err-push-2-clause-short
returns-in_err-push-2-clause-short g c = on_err c.from_residual-in_err-push-2.result (made_some g (goal.at.returns-in_err-push-2-clause-short g c).After-step)
