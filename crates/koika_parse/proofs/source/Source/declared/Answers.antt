use Rattle.koika_parse.proofs.Expected.{last_part, fails, fails_last}
use Rattle.koika_parse.proofs.Words.{declared_start}
use Rattle.koika_parse.proofs.Steps.{◌past◌, ◌then◌}
use Rattle.koika_parse.proofs.source.Source.declared.Goals as goal

pub returns-clause-read : goal.returns-clause-read
returns-clause-read c = c.in_ok-word.ensures.read then c.in_ok-name.ensures.read

pub returns-in_err-word-clause-takes : goal.returns-in_err-word-clause-takes
returns-in_err-word-clause-takes c = fails _ c.from_residual.ensures (declared_start c.args.begin) c.in_err-word.ensures.takes

pub returns-in_err-name-clause-takes : goal.returns-in_err-name-clause-takes
returns-in_err-name-clause-takes c =
    let word = declared_start c.args.begin past c.in_ok-word.ensures.takes in
    fails_last _ c.from_residual-in_err-name.ensures word c.in_err-name.ensures.takes

pub returns-clause-takes : goal.returns-clause-takes
returns-clause-takes c = last_part _ (declared_start c.args.begin past c.in_ok-word.ensures.takes) c.in_ok-name.ensures.takes
