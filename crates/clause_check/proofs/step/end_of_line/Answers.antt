use Rattle.std.proofs.Common.{refl, ◌∙◌, ap, sym}
use Rattle.kw_base.specs.Texts.{is_blank}
use Rattle.kw_base.proofs.Cutting.{none_by_test, some_by_test}
use Rattle.kw_base.proofs.Words.{rest_stops, words_of-nil}
use Rattle.clause_check.specs.Lines.{tokens_of}
use Rattle.clause_check.specs.Refutations.{fault_in}
use Rattle.clause_check.specs.Steps.{at_end}
use Rattle.clause_check.specs.inner.Tokens.{IsMalformed}
use Rattle.clause_check.proofs.Cutting.{tokens_of-rest}
use Rattle.clause_check.proofs.ReadingLists.{not_at_end}
use Rattle.clause_check.proofs.Refusals.{refused}
use Rattle.clause_check.proofs.step.end_of_line.Goals as goal

pub returns-then-is_empty-clause-end : goal.returns-then-is_empty-clause-end
returns-then-is_empty-clause-end c =
    tokens_of-rest c.args.bytes.now ∙ ap tokens_of (sym c.without_blanks.ensures.rest ∙ none_by_test _ _ c.is_empty.ensures c.if-is_empty.true) ∙ (words_of-nil is_blank)

pub returns-else-is_empty-clause-fault : goal.returns-else-is_empty-clause-fault
returns-else-is_empty-clause-fault c =
    let some = some_by_test _ _ c.is_empty.ensures c.if-is_empty.false in
    refused (Unit {0}) c.fault.result (fault_in 93 c.args.line) (IsMalformed c.args.line (at_end (tokens_of c.args.bytes.now))) c.fault.ensures
    (refl, ap at_end (tokens_of-rest c.args.bytes.now) ∙ not_at_end _ (rest_stops is_blank c.args.bytes.now) (λ none. some (c.without_blanks.ensures.rest ∙ none)))
