use Rattle.std.proofs.Common.{◌∷◌, ap, ◌∙◌}
use Rattle.kw_base.specs.Texts.{pieces_after}
use Rattle.kw_base.specs.declared.texts.Separator.TheVariants as at
use Rattle.kw_base.proofs.Cutting.{some_by_test, whole_lines-last, whole_lines-more}
use Rattle.kw_base.proofs.texts.next_whole_line.Goals as goal

pub returns-in_default-clause-found : goal.returns-in_default-clause-found
returns-in_default-clause-found c =
    let line = c.cut.result.0.now in
    whole_lines-last c.args.text.now line (c.cut.ensures.pieces ∙ ap (λ after. line ∷ pieces_after at.LineFeed after) c.in_default.is) (some_by_test _ _ c.is_empty.ensures c.if-is_empty.false)

pub returns-clause-found : goal.returns-clause-found
returns-clause-found c =
    let line = c.cut.result.0.now in
    whole_lines-more c.args.text.now line c.in-Some.rest.now (c.cut.ensures.pieces ∙ ap (λ after. line ∷ pieces_after at.LineFeed after) c.in-Some.is)
