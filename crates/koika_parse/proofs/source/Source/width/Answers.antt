use Rattle.koika_parse.proofs.Expected.{last_part, fails, fails_last}
use Rattle.koika_parse.proofs.Words.{width_start}
use Rattle.koika_parse.proofs.Steps.{◌then◌, ◌past◌}
use Rattle.koika_parse.proofs.source.Source.width.Goals as goal

pub returns-clause-read : goal.returns-clause-read
returns-clause-read c = c.in_ok-place.ensures.read then c.in_ok-number.ensures.read

pub returns-in_err-place-clause-takes : goal.returns-in_err-place-clause-takes
returns-in_err-place-clause-takes c = fails _ c.from_residual.ensures width_start c.in_err-place.ensures.takes

pub returns-in_err-number-clause-takes : goal.returns-in_err-number-clause-takes
returns-in_err-number-clause-takes c = fails_last _ c.from_residual-in_err-number.ensures
    (width_start past c.in_ok-place.ensures.takes) c.in_err-number.ensures.takes

pub returns-clause-takes : goal.returns-clause-takes
returns-clause-takes c = last_part _ (width_start past c.in_ok-place.ensures.takes) c.in_ok-number.ensures.takes
