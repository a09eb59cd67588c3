use Rattle.koika_parse.proofs.Expected.{last_part, fails, fails_last}
use Rattle.koika_parse.proofs.Words.{field_start}
use Rattle.koika_parse.proofs.Steps.{◌past◌, ◌then◌}
use Rattle.koika_parse.proofs.source.Source.field.Goals as goal

pub returns-clause-read : goal.returns-clause-read
returns-clause-read c = c.in_ok-name.ensures.read then c.in_ok-sign.ensures.read then c.in_ok-of.ensures.read

pub returns-in_err-name-clause-takes : goal.returns-in_err-name-clause-takes
returns-in_err-name-clause-takes c = fails _ c.from_residual.ensures field_start c.in_err-name.ensures.takes

pub returns-in_err-sign-clause-takes : goal.returns-in_err-sign-clause-takes
returns-in_err-sign-clause-takes c =
    fails _ c.from_residual-in_err-sign.ensures (field_start past c.in_ok-name.ensures.takes) c.in_err-sign.ensures.takes

pub returns-in_err-of-clause-takes : goal.returns-in_err-of-clause-takes
returns-in_err-of-clause-takes c =
    let colon = field_start past c.in_ok-name.ensures.takes past c.in_ok-sign.ensures.takes in
    fails_last _ c.from_residual-in_err-of.ensures colon c.in_err-of.ensures.takes

pub returns-clause-takes : goal.returns-clause-takes
returns-clause-takes c =
    last_part _ (field_start past c.in_ok-name.ensures.takes past c.in_ok-sign.ensures.takes) c.in_ok-of.ensures.takes
