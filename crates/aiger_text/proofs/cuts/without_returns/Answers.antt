use Rattle.std.proofs.Common.{[], ◌∷◌, ◌++◌, sym, ap, ◌∙◌}
use Rattle.std.proofs.lemmas.List.{nil_from_length}
use Rattle.aiger_text.specs.Cuts as cuts
use Rattle.aiger_text.proofs.Cutting.{not_return, without_returns-other, without_returns-return}
use Rattle.aiger_text.proofs.cuts.without_returns.Goals as goal

pub returns-then-last-ne13 : goal.returns-then-last-ne13
returns-then-last-ne13 c =
    let front = c.in-Some.ensures.cases.0 in
    front ∙ sym (without_returns-other c.in-Some.rest.now c.in-Some.last.now (not_return c.in-Some.last.now c.if-last-ne13.true)) ∙ ap cuts.without_returns (sym front) ∙ c.loop-last.invariant

pub loop-last-preserved : goal.loop-last-preserved
loop-last-preserved c =
    let front = c.in-Some.ensures.cases.0 ∙ ap (λ b. c.in-Some.rest.now ++ b ∷ []) c.if-last-ne13.false in
    sym (ap cuts.without_returns front ∙ without_returns-return c.in-Some.rest.now) ∙ c.loop-last.invariant

pub returns : goal.returns
returns c =
    let none = nil_from_length _ c.in_default.ensures.cases in
    none ∙ ap cuts.without_returns (sym none) ∙ c.loop-last.invariant
