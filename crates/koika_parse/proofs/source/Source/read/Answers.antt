use Rattle.koika_parse.proofs.PrimaryWords.{read_start}
use Rattle.koika_parse.proofs.Reading.{as_leaves}
use Rattle.koika_parse.proofs.Parts.{is_read, level_read}
use Rattle.koika_parse.proofs.Calls.{leaves_read}
use Rattle.koika_parse.proofs.Expected.{fails, fails_last, last_part, takes_word}
use Rattle.koika_parse.proofs.Steps.{◌then◌, ◌past◌, reads_word}
use Rattle.koika_parse.proofs.source.Source.read.Goals as goal

pub returns-clause-read : goal.returns-clause-read
returns-clause-read c = as_leaves _ (leaves_read _ _ _)
    (reads_word c.read_word.ensures c.in_ok-place.ensures.read then c.in_ok-sign.ensures.read
    then c.in_ok-register.ensures.read then c.in_ok-sign-2.ensures.read)

pub returns-clause-is : goal.returns-clause-is
returns-clause-is c = is_read _ _ _ (c.requires, c.in_ok-register.ensures.is)

pub returns-clause-level : goal.returns-clause-level
returns-clause-level c = level_read _ _ _

pub returns-in_err-place-clause-takes : goal.returns-in_err-place-clause-takes
returns-in_err-place-clause-takes c = fails _ c.from_residual.ensures (read_start c.args.port)
    (takes_word c.read_word.ensures c.in_err-place.ensures.takes)

pub returns-in_err-sign-clause-takes : goal.returns-in_err-sign-clause-takes
returns-in_err-sign-clause-takes c = fails _ c.from_residual-in_err-sign.ensures
    (read_start c.args.port past takes_word c.read_word.ensures c.in_ok-place.ensures.takes) c.in_err-sign.ensures.takes

pub returns-in_err-register-clause-takes : goal.returns-in_err-register-clause-takes
returns-in_err-register-clause-takes c = fails _ c.from_residual-in_err-register.ensures
    (read_start c.args.port past takes_word c.read_word.ensures c.in_ok-place.ensures.takes
    past c.in_ok-sign.ensures.takes) c.in_err-register.ensures.takes

pub returns-in_err-sign-2-clause-takes : goal.returns-in_err-sign-2-clause-takes
returns-in_err-sign-2-clause-takes c = fails_last _ c.from_residual-in_err-sign-2.ensures
    (read_start c.args.port past takes_word c.read_word.ensures c.in_ok-place.ensures.takes
    past c.in_ok-sign.ensures.takes past c.in_ok-register.ensures.takes) c.in_err-sign-2.ensures.takes

pub returns-clause-takes : goal.returns-clause-takes
returns-clause-takes c = last_part _
    (read_start c.args.port past takes_word c.read_word.ensures c.in_ok-place.ensures.takes
    past c.in_ok-sign.ensures.takes past c.in_ok-register.ensures.takes) c.in_ok-sign-2.ensures.takes
