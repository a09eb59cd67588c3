use Rattle.std.proofs.Common.{sym, ap, ◌∙◌}
use Rattle.kw_base.specs.Texts.{front_of, is_blank, rest_of}
use Rattle.kw_base.proofs.Cutting.{begins-stops, front_of-parts, none-pass, rest_of-parts}
use Rattle.aiger_text.specs.Cuts.{not_blank}
use Rattle.aiger_text.proofs.cuts.split_word.Goals as goal

pub returns-clause-front : goal.returns-clause-front
returns-clause-front c =
    let cut = c.split_before.ensures in
    sym (front_of-parts not_blank _ _ _ cut.parts (none-pass is_blank _ cut.front) (begins-stops is_blank _ cut.rest)) ∙ ap (front_of not_blank) c.without_blanks.ensures.rest

pub returns-clause-rest : goal.returns-clause-rest
returns-clause-rest c =
    let cut = c.split_before.ensures in
    sym (rest_of-parts not_blank _ _ _ cut.parts (none-pass is_blank _ cut.front) (begins-stops is_blank _ cut.rest)) ∙ ap (rest_of not_blank) c.without_blanks.ensures.rest
