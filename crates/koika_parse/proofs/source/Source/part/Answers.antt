use Rattle.koika_parse.proofs.Expected.{fails_last, last_part, not_so}
use Rattle.koika_parse.proofs.PrimaryWords.{part_name, part_number}
use Rattle.koika_parse.proofs.source.Source.part.Goals as goal

pub returns-in_err-name-clause-takes : goal.returns-in_err-name-clause-takes
returns-in_err-name-clause-takes c = fails_last _ c.from_residual.ensures
    (part_name (c.is_at_name.ensures.0 c.if-is_at_name.true)) c.in_err-name.ensures.takes

pub returns-in_ok-name-clause-takes : goal.returns-in_ok-name-clause-takes
returns-in_ok-name-clause-takes c =
    last_part _ (part_name (c.is_at_name.ensures.0 c.if-is_at_name.true)) c.in_ok-name.ensures.takes

pub returns-in_err-number-clause-takes : goal.returns-in_err-number-clause-takes
returns-in_err-number-clause-takes c = fails_last _ c.from_residual-in_err-number.ensures
    (part_number (not_so c.is_at_name.ensures c.if-is_at_name.false)) c.in_err-number.ensures.takes

pub returns-in_ok-number-clause-takes : goal.returns-in_ok-number-clause-takes
returns-in_ok-number-clause-takes c =
    last_part _ (part_number (not_so c.is_at_name.ensures c.if-is_at_name.false)) c.in_ok-number.ensures.takes
