use Rattle.std.proofs.Common.{◌≡◌, ◌+◌, ◌-◌, List, length, sym, ap, subst, ◌∙◌, arith}
use Rattle.std.proofs.lemmas.Result.{IfOk-weaker}
use Rattle.kw_bits.specs.BitVector.{BitVector}
use Rattle.typed_core.specs.Widths.{HaveWidths, register_widths}
use Rattle.one_rule.specs.Cycle.{system_of}
use Rattle.one_rule.specs.Run.{last_registers, run}
use Rattle.one_rule.specs.Stimulus.{inputs_of}
use Rattle.one_rule.specs.declared.rows.Row.{Row}
use Rattle.one_rule.proofs.Runs.{rows_are_cycles}
use Rattle.lab_top.proofs.Registers.{last-fits, last-row}
use Rattle.lab_top.proofs.runs.left_by_batch.Goals as goal

pub get-last-requires : goal.get-last-requires
get-last-requires c =
    omega (arith, c.len.ensures, ap length c.in_ok-rows.ensures.run, rows_are_cycles (system_of c.args.design.now) (inputs_of c.args.stimulus.now) c.args.regs.now c.args.from c.args.to)

pub returns-clause-left : goal.returns-clause-left
returns-clause-left c =
    let rows = c.in_ok-rows.rows in
    let some = rows_are_cycles (system_of c.args.design.now) (inputs_of c.args.stimulus.now) c.args.regs.now c.args.from c.args.to in
    let at : c.len.result - 1 + 1 ≡ length rows = omega (arith, c.len.ensures, ap length c.in_ok-rows.ensures.run, some) in
    let is : c.as_slice.result.now ≡ last_registers c.args.regs.now (run (system_of c.args.design.now) (inputs_of c.args.stimulus.now) c.args.regs.now c.args.from c.args.to) =
    c.as_slice.ensures ∙ ap (λ (r : Row). r.regs) c.get-last.ensures ∙ sym (last-row c.args.regs.now rows (c.len.result - 1) c.get-last.result.now at) ∙ ap (last_registers c.args.regs.now) c.in_ok-rows.ensures.run in
    IfOk-weaker c.from_slice.result (λ (regs : List BitVector). regs ≡ c.as_slice.result.now) _ (λ regs same. same ∙ is) c.from_slice.ensures

pub returns-clause-fits : goal.returns-clause-fits
returns-clause-fits c =
    let rows = c.in_ok-rows.rows in
    let some = rows_are_cycles (system_of c.args.design.now) (inputs_of c.args.stimulus.now) c.args.regs.now c.args.from c.args.to in
    let at : c.len.result - 1 + 1 ≡ length rows = omega (arith, c.len.ensures, ap length c.in_ok-rows.ensures.run, some) in
    let is : c.as_slice.result.now ≡ last_registers c.args.regs.now rows =
    c.as_slice.ensures ∙ ap (λ (r : Row). r.regs) c.get-last.ensures ∙ sym (last-row c.args.regs.now rows (c.len.result - 1) c.get-last.result.now at) in
    let fits = last-fits c.args.design.now c.args.regs.now rows c.requires.registers c.in_ok-rows.ensures.fit in
    IfOk-weaker c.from_slice.result (λ (regs : List BitVector). regs ≡ c.as_slice.result.now) (HaveWidths (register_widths c.args.design.now)) (λ regs same. subst (HaveWidths (register_widths c.args.design.now)) (sym (same ∙ is)) fits) c.from_slice.ensures
