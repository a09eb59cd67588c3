use Rattle.std.proofs.Common.{refl, ap, sym, ◌∙◌}
use Rattle.kw_base.specs.Texts.{is_blank}
use Rattle.kw_base.proofs.Cutting.{none_by_test, some_by_test}
use Rattle.kw_base.proofs.Words.{rest_stops, words_of-nil}
use Rattle.clause_check.specs.Lines.{tokens_of}
use Rattle.clause_check.specs.Refutations.{fault_in}
use Rattle.clause_check.specs.Steps.{at_end, numbered_in, step_of}
use Rattle.clause_check.specs.declared.step.Form.{Form}
use Rattle.clause_check.specs.inner.Tokens.{IsMalformed}
use Rattle.clause_check.proofs.Cutting.{tokens_of-rest}
use Rattle.clause_check.proofs.ReadingLists.{not_at_end}
use Rattle.clause_check.proofs.Refusals.{passes_on, refused}
use Rattle.clause_check.proofs.StepsRead.{line_closed, line_comment, line_empty, line_malformed, line_numbered, no_comment, read_so}
use Rattle.clause_check.proofs.step.read_step.Goals as goal

pub returns-then-is_empty-clause-read : goal.returns-then-is_empty-clause-read
returns-then-is_empty-clause-read c =
    line_empty _ _ (tokens_of-rest c.args.bytes.now ∙ ap tokens_of (sym c.without_blanks.ensures.rest ∙ none_by_test _ _ c.is_empty.ensures c.if-is_empty.true) ∙ (words_of-nil is_blank))

pub returns-then-is_some-clause-read : goal.returns-then-is_some-clause-read
returns-then-is_some-clause-read c = line_comment _ _ c.after_letter.result (sym c.is_some.ensures ∙ c.if-is_some.true) c.after_letter.ensures.found

pub returns-in-Number-clause-read : goal.returns-in-Number-clause-read
returns-in-Number-clause-read c =
    let other = no_comment 99 _ c.after_letter.result (sym c.is_some.ensures ∙ c.if-is_some.false) c.after_letter.ensures.absent in
    read_so c.read_numbered.result _ _ _ (line_numbered _ _ _ c.in-Number.rest.now other c.in-Number.ensures.gives) c.read_numbered.ensures.read

pub returns-in-Number-clause-fault : goal.returns-in-Number-clause-fault
returns-in-Number-clause-fault c =
    let other = no_comment 99 _ c.after_letter.result (sym c.is_some.ensures ∙ c.if-is_some.false) c.after_letter.ensures.absent in
    passes_on c.read_numbered.result (IsMalformed c.args.line (numbered_in c.args.variables c.in-Number.number (tokens_of c.in-Number.rest.now))) (IsMalformed c.args.line (step_of c.args.variables (tokens_of c.args.bytes.now))) c.read_numbered.ensures.fault
    (λ fault is. (is.0, line_numbered _ _ _ c.in-Number.rest.now other c.in-Number.ensures.gives ∙ is.1))

pub returns-in-Closing-clause-fault : goal.returns-in-Closing-clause-fault
returns-in-Closing-clause-fault c =
    let other = no_comment 99 _ c.after_letter.result (sym c.is_some.ensures ∙ c.if-is_some.false) c.after_letter.ensures.absent in
    refused Form c.fault.result (fault_in 93 c.args.line) (IsMalformed c.args.line (step_of c.args.variables (tokens_of c.args.bytes.now))) c.fault.ensures (refl, line_closed _ _ c.in-Closing.field-0.now other c.in-Closing.ensures.gives)

pub returns-in-Malformed-clause-fault : goal.returns-in-Malformed-clause-fault
returns-in-Malformed-clause-fault c =
    let other = no_comment 99 _ c.after_letter.result (sym c.is_some.ensures ∙ c.if-is_some.false) c.after_letter.ensures.absent in
    let some = some_by_test _ _ c.is_empty.ensures c.if-is_empty.false in
    refused Form c.fault-in-Malformed.result (fault_in 93 c.args.line) (IsMalformed c.args.line (step_of c.args.variables (tokens_of c.args.bytes.now))) c.fault-in-Malformed.ensures
    (refl, line_malformed _ _ other c.in-Malformed.ensures.gives (ap at_end (tokens_of-rest c.args.bytes.now) ∙ not_at_end _ (rest_stops is_blank c.args.bytes.now) (λ none. some (c.without_blanks.ensures.rest ∙ none))))
