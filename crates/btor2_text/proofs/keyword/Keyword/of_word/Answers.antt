use Rattle.std.proofs.Common.{arith, below_more, sym, ap, ◌∙◌}
use Rattle.std.proofs.lemmas.Bool.{false≢true}
use Rattle.std.proofs.lemmas.List.{get_or_default}
use Rattle.btor2_text.specs.Forms.{keyword_text}
use Rattle.btor2_text.specs.declared.keyword.TheConstants.{KEYWORDS}
use Rattle.btor2_text.proofs.KeywordTable.{stands}
use Rattle.btor2_text.proofs.keyword.Keyword.of_word.Goals as goal

pub loop-keyword-preserved : goal.loop-keyword-preserved
loop-keyword-preserved c = below_more _ _ c.loop-keyword.invariant (λ keyword same.
    false≢true (sym c.if-is_spelled.false ∙ c.is_spelled.ensures.1 (same ∙ ap keyword_text (get_or_default KEYWORDS c.loop-keyword.keyword-index keyword _ (omega arith)))))

pub returns-clause-absent : goal.returns-clause-absent
returns-clause-absent c = λ keyword same.
    let place = stands keyword in
    c.loop-keyword.invariant place.0 (omega (arith, place.1)) keyword (same ∙ sym (ap keyword_text place.2))
