use Rattle.std.proofs.Common.{◌≡◌, List, Bool, length, subst, sym, ap, ap₂, ◌∙◌}
use Rattle.kw_bits.specs.BitVector.{BitVector}
use Rattle.typed_core.specs.Alone.{after}
use Rattle.typed_core.specs.Valid.{IsValid}
use Rattle.typed_core.specs.Widths.{register_widths}
use Rattle.one_rule.specs.PortRun.{PortState, port_walk}
use Rattle.one_rule.specs.Rows.{RowFits}
use Rattle.one_rule.specs.declared.rows.Row.{Row}
use Rattle.one_rule.proofs.Fitting.{cycle_fits}
use Rattle.one_rule.proofs.PortRuns.{port_cycles_are_cycles}
use Rattle.plain_run.proofs.Walking.{flags_none}
use Rattle.plain_run.proofs.cycles.next_row.Goals as goal

pub walk-requires-clause-begin : goal.walk-requires-clause-begin
walk-requires-clause-begin c =
    record {
      log = c.requires.logs.0;
      flags = ap (λ (row : Row). row.fired) c.in_ok-after.ensures.row ∙ flags_none (length c.args.design.now.rules);
    }

pub returns-clause-cycle : goal.returns-clause-cycle
returns-clause-cycle c =
    let design = c.args.design.now in
    let regs = c.args.regs.now in
    let inputs = c.args.inputs.now in
    let valid : IsValid design = c.recall.ensures in
    let end : PortState = port_walk design inputs regs in
    let stands = c.in_ok-rule.ensures.walk in
    let first : c.in_ok-after.field-0.regs ≡ regs = ap (λ (row : Row). row.regs) c.in_ok-after.ensures.row ∙ c.in_ok-from_slice.ensures ∙ c.as_slice.ensures in
    ap₂ (λ (rs : List BitVector) (fired : List Bool). let row : Row = record { regs = rs; fired = fired } in row)
    (c.apply.ensures (register_widths design) end.log stands.log ∙ ap (after end.log) first) stands.flags
    ∙ port_cycles_are_cycles design inputs regs valid c.requires.inputs c.requires.registers

pub returns-clause-fits : goal.returns-clause-fits
returns-clause-fits c =
    let design = c.args.design.now in
    let valid : IsValid design = c.recall.ensures in
    subst (λ (row : Row). RowFits design row) (sym (returns-clause-cycle c)) (cycle_fits design valid c.args.inputs.now c.args.regs.now c.requires.inputs c.requires.registers)
