use Rattle.std.proofs.Common.{◌≡◌, Err, ap, sym, ◌∙◌}
use Rattle.std.proofs.lemmas.Result.{err_from_is_err_and}
use Rattle.koika_syntax.proofs.Cuts.{CutTo-blank, CutTo-read, CutTo-refused, CutTo-end, one_list, tokens_or_fault, refused-no_tokens, refused-one_fault}
use Rattle.koika_syntax.proofs.Spans.{tokens_stand, tokens_ascend}
use Rattle.koika_syntax.proofs.lexer.lex.Goals as goal

pub loop-offset-preserved-then-is_blank : goal.loop-offset-preserved-then-is_blank
loop-offset-preserved-then-is_blank c =
    CutTo-blank c.args.text.now c.loop-offset.tokens.items c.loop-offset.offset c.loop-offset.invariant c.loop-offset-test.true (sym c.is_blank.ensures ∙ c.if-is_blank.true)

pub returns-clause-accepted : goal.returns-clause-accepted
returns-clause-accepted c = λ tokens are.
    one_list c.args.text.now c.loop-offset.tokens.items tokens (CutTo-end c.args.text.now c.loop-offset.tokens.items c.loop-offset.offset c.loop-offset.invariant c.loop-offset-test.false) are

pub returns-clause-refused : goal.returns-clause-refused
returns-clause-refused c = λ fault first.
    tokens_or_fault c.args.text.now c.loop-offset.tokens.items fault (CutTo-end c.args.text.now c.loop-offset.tokens.items c.loop-offset.offset c.loop-offset.invariant c.loop-offset-test.false) first

pub returns-clause-spans : goal.returns-clause-spans
returns-clause-spans c =
    tokens_stand c.loop-offset.tokens.items c.args.text.now (CutTo-end c.args.text.now c.loop-offset.tokens.items c.loop-offset.offset c.loop-offset.invariant c.loop-offset-test.false)

pub returns-clause-ascending : goal.returns-clause-ascending
returns-clause-ascending c =
    tokens_ascend c.loop-offset.tokens.items c.args.text.now (CutTo-end c.args.text.now c.loop-offset.tokens.items c.loop-offset.offset c.loop-offset.invariant c.loop-offset-test.false)

pub loop-offset-preserved : goal.loop-offset-preserved
loop-offset-preserved c =
    CutTo-read c.args.text.now c.loop-offset.tokens.items c.loop-offset.offset c.loop-offset.invariant c.read_at.new.tokens.items c.in_ok-offset.offset c.in_ok-offset.ensures.read

pub returns-in_err-offset-clause-accepted : goal.returns-in_err-offset-clause-accepted
returns-in_err-offset-clause-accepted c = λ tokens are.
    let first = CutTo-refused c.args.text.now c.loop-offset.tokens.items c.loop-offset.offset c.loop-offset.invariant c.in_err-offset.field-0.0 c.in_err-offset.ensures.fault in
    let p = err_from_is_err_and c.from_residual.result c.from_residual.ensures.1 in
    refused-no_tokens c.args.text.now c.from_residual.result c.in_err-offset.field-0.0 (p.1 ∙ ap Err p.2) first tokens are (λ found. found.items ≡ tokens)

pub returns-in_err-offset-clause-refused : goal.returns-in_err-offset-clause-refused
returns-in_err-offset-clause-refused c = λ fault other.
    let first = CutTo-refused c.args.text.now c.loop-offset.tokens.items c.loop-offset.offset c.loop-offset.invariant c.in_err-offset.field-0.0 c.in_err-offset.ensures.fault in
    let p = err_from_is_err_and c.from_residual.result c.from_residual.ensures.1 in
    refused-one_fault c.args.text.now c.from_residual.result c.in_err-offset.field-0.0 (p.1 ∙ ap Err p.2) first fault other
