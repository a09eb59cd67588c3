use Rattle.std.proofs.Common.{refl, sym, subst, ap, ◌∙◌}
use Rattle.one_rule.specs.KeptLines.{IsKeptLine}
use Rattle.one_rule.specs.Stimulus.{inputs_by}
use Rattle.one_rule.proofs.Inputs.{inputs_by-same, AgreesWith-from_same}
use Rattle.one_rule.proofs.stimulus.Stimulus.gives_same.Goals as goal

pub returns-then-agrees_with : goal.returns-then-agrees_with
returns-then-agrees_with c =
    let widths = c.args.self.now.widths in
    let line = c.line-line.result.now in
    let others = c.line-others.result.now in
    let kept = subst (λ ws. IsKeptLine ws others) (sym c.requires) c.line-others.ensures.kept in
    let inputs = ap (λ ws. inputs_by ws others) c.requires ∙ c.line-others.ensures.inputs in (
      λ h. sym c.line-line.ensures.inputs ∙ inputs_by-same widths line others c.line-line.ensures.kept kept (c.if-agrees_with.ensures.0 refl) (c.agrees_with-then-agrees_with.ensures.0 h) ∙ inputs,
      λ e. c.agrees_with-then-agrees_with.ensures.1 (AgreesWith-from_same widths others line kept (inputs ∙ sym e ∙ sym c.line-line.ensures.inputs)),
    )

pub returns-else-agrees_with : goal.returns-else-agrees_with
returns-else-agrees_with c =
    let widths = c.args.self.now.widths in
    let line = c.line-line.result.now in
    let others = c.line-others.result.now in
    let inputs = ap (λ ws. inputs_by ws others) c.requires ∙ c.line-others.ensures.inputs in
    (λ h. absurd cc, λ e. c.agrees_with.ensures.1 (AgreesWith-from_same widths line others c.line-line.ensures.kept (c.line-line.ensures.inputs ∙ e ∙ sym inputs)))
