use Rattle.koika_parse.proofs.Expected.{fails_last, last_part, not_so}
use Rattle.koika_parse.proofs.DeclarationWords.{result_type, result_unit}
use Rattle.koika_parse.proofs.source.Source.result.Goals as goal

pub returns-in_err-word-clause-takes : goal.returns-in_err-word-clause-takes
returns-in_err-word-clause-takes c = fails_last _ c.from_residual.ensures
    (result_unit (c.is_at_word.ensures.0 c.if-is_at_word.true)) c.in_err-word.ensures.takes

pub returns-then-is_at_word-clause-takes : goal.returns-then-is_at_word-clause-takes
returns-then-is_at_word-clause-takes c =
    last_part _ (result_unit (c.is_at_word.ensures.0 c.if-is_at_word.true)) c.in_ok-word.ensures.takes

pub returns-in_err-type_expression-clause-takes : goal.returns-in_err-type_expression-clause-takes
returns-in_err-type_expression-clause-takes c = fails_last _ c.from_residual-in_err-type_expression.ensures
    (result_type (not_so c.is_at_word.ensures c.if-is_at_word.false)) c.in_err-type_expression.ensures.takes

pub returns-clause-takes : goal.returns-clause-takes
returns-clause-takes c =
    last_part _ (result_type (not_so c.is_at_word.ensures c.if-is_at_word.false)) c.in_ok-type_expression.ensures.takes
