use Rattle.std.proofs.Common.{◌≡◌, Some, None, sym, ap, ◌∙◌}
use Rattle.std.proofs.lemmas.Bool.{false≢true}
use Rattle.koika_syntax.proofs.KeywordTable.{keyword_at, keyword_at-keyword_text}
use Rattle.koika_syntax.proofs.keyword.Keyword.of_word.Goals as goal

pub returns-else-is_spelled-clause-absent : goal.returns-else-is_spelled-clause-absent
returns-else-is_spelled-clause-absent c = λ keyword same.
    let at : c.in_place.result ≡ keyword_at c.args.word.now = rw (← c.from.ensures, ← c.from-2.ensures, ← c.from-3.ensures) c.in_place.ensures in
    let found : Some c.in-Some.keyword ≡ Some keyword = sym c.in-Some.is ∙ at ∙ ap keyword_at same ∙ keyword_at-keyword_text keyword in
    let is : c.in-Some.keyword ≡ keyword = cc in
    false≢true (sym c.if-is_spelled.false ∙ c.is_spelled.ensures.1 (rw is same))

pub returns-in_default-clause-absent : goal.returns-in_default-clause-absent
returns-in_default-clause-absent c = λ keyword same.
    let at : c.in_place.result ≡ keyword_at c.args.word.now = rw (← c.from.ensures, ← c.from-2.ensures, ← c.from-3.ensures) c.in_place.ensures in
    let found : None ≡ Some keyword = sym c.in_default.is ∙ at ∙ ap keyword_at same ∙ keyword_at-keyword_text keyword in
    cc
