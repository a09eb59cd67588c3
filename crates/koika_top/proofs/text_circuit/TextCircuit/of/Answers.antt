use Rattle.std.proofs.Common.{Bool, List, length, sym, ap, subst, ◌∙◌}
use Rattle.std.specs.List.{list_any}
use Rattle.btor2_model.specs.Rules.{is_bad, rule_of}
use Rattle.btor2_text.specs.declared.line.Line.{Line}
use Rattle.koika_top.specs.inner.CircuitRuns.{IsCircuitOf, IsParted, output_mask}
use Rattle.koika_top.specs.declared.text_circuit.TextCircuit.{TextCircuit}
use Rattle.koika_top.proofs.BesideRuns.{parted-is}
use Rattle.koika_top.proofs.CircuitTexts.{mask-each, none-bad}
use Rattle.koika_top.proofs.Records.{if_ok}
use Rattle.koika_top.proofs.text_circuit.TextCircuit.of.Goals as goal

pub without_bads-requires-clause-none : goal.without_bads-requires-clause-none
without_bads-requires-clause-none c =
    none-bad c.args.text
    (ap (list_any (λ (line : Line). is_bad (rule_of line.keyword))) (sym (c.as_slice.ensures ∙ c.lines.ensures.lines))
    ∙ sym c.has_bads.ensures
    ∙ c.if-not-has_bads.true)

pub parted-requires : goal.parted-requires
parted-requires c =
    ap length (c.deref.ensures.value ∙ c.in_ok-mask.ensures ∙ ap output_mask (c.as_slice-2.ensures ∙ c.lines-2.ensures.lines)) ∙ mask-each c.args.text c.in_ok-mixed.mixed c.in_ok-mixed.ensures

pub returns : goal.returns
returns c =
    let text = c.args.text in
    let mixed = c.in_ok-mixed.mixed in
    let marks = c.deref.ensures.value ∙ c.in_ok-mask.ensures ∙ ap output_mask (c.as_slice-2.ensures ∙ c.lines-2.ensures.lines) in
    if_ok c.parted.result _ (λ (made : TextCircuit). IsCircuitOf text made.circuit made.shape made.bads)
    (λ made is.
    parted-is text mixed c.in_ok-mixed.ensures c.recall.ensures made.circuit made.shape made.bads
    (subst (λ (mask : List Bool). IsParted mixed mask made.circuit made.shape made.bads) marks is))
    c.parted.ensures
