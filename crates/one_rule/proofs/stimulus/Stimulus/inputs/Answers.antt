use Rattle.std.proofs.Common.{sym, subst, ap, ◌∙◌}
use Rattle.std.proofs.lemmas.Result.{IfOk-weaker}
use Rattle.typed_core.specs.Widths.{HaveWidths}
use Rattle.one_rule.specs.Stimulus.{inputs_by, InputVectors}
use Rattle.one_rule.proofs.Cycles.{AlwaysFits-kept}
use Rattle.one_rule.proofs.stimulus.Stimulus.inputs.Goals as goal

pub returns-clause-always : goal.returns-clause-always
returns-clause-always c = AlwaysFits-kept _ _ _ c.self.view_is c.self.invariant

pub returns-clause-fits : goal.returns-clause-fits
returns-clause-fits c =
    let widths = c.deref.ensures.value ∙ ap (λ (s : InputVectors). s.widths) c.self.view_is in
    let of_cycle = ap (λ ws. inputs_by ws c.line.result.now) widths ∙ c.line.ensures.inputs in
    let fits = AlwaysFits-kept _ _ _ c.self.view_is c.self.invariant c.args.cycle in
    IfOk-weaker c.inputs_by.result _ _ (λ inputs is. subst (HaveWidths c.args.self.now.widths) (sym (is ∙ of_cycle)) fits) c.inputs_by.ensures
