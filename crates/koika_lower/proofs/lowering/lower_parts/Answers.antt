use Rattle.std.proofs.Common.{ap, map, ◌∙◌}
use Rattle.koika_check.specs.declared.checked.Host.{Host}
use Rattle.koika_check.specs.declared.checked.Table.{Table}
use Rattle.koika_lower.specs.Lowering.{core_input}
use Rattle.koika_lower.proofs.Designs.{parts-lowered, parts-valid}
use Rattle.koika_lower.proofs.lowering.lower_parts.Goals as goal

pub returns-clause-lowered : goal.returns-clause-lowered
returns-clause-lowered c =
    parts-lowered c.args.checked.now c.requires _ c.in_ok-regs.ensures (c.in_ok-inputs.ensures ∙ ap (map core_input) c.as_slice.ensures)
    (c.in_ok-tables.ensures ∙ ap (map (λ (t : Table). t.spec)) c.as_slice-2.ensures) (c.in_ok-hosts.ensures ∙ ap (map (λ (h : Host). h.spec)) c.as_slice-3.ensures)
    c.in_ok-rules.ensures (c.in_ok-nodes.ensures ∙ c.as_slice-4.ensures)

pub returns-clause-valid : goal.returns-clause-valid
returns-clause-valid c =
    parts-valid c.args.checked.now c.requires _ c.in_ok-regs.ensures (c.in_ok-inputs.ensures ∙ ap (map core_input) c.as_slice.ensures)
    (c.in_ok-tables.ensures ∙ ap (map (λ (t : Table). t.spec)) c.as_slice-2.ensures) (c.in_ok-hosts.ensures ∙ ap (map (λ (h : Host). h.spec)) c.as_slice-3.ensures)
    c.in_ok-rules.ensures (c.in_ok-nodes.ensures ∙ c.as_slice-4.ensures)
