use Rattle.koika_parse.proofs.DeclarationWords.{some_rule}
use Rattle.koika_parse.proofs.Reading.{shorter}
use Rattle.koika_parse.specs.inner.Words.{RuleWord}
use Rattle.koika_parse.proofs.Expected.{begin, fails, fails_last, last_part}
use Rattle.koika_parse.proofs.Steps.{◌past◌, ◌then◌}
use Rattle.koika_parse.proofs.source.Source.rule_declaration.Goals as goal

pub returns-clause-read : goal.returns-clause-read
returns-clause-read c = c.in_ok-name.ensures.read then c.in_ok-body.ensures.read

pub returns-clause-some : goal.returns-clause-some
returns-clause-some c = shorter (returns-clause-read c)

pub returns-in_err-name-clause-takes : goal.returns-in_err-name-clause-takes
returns-in_err-name-clause-takes c = fails _ c.from_residual.ensures (begin RuleWord some_rule) c.in_err-name.ensures.takes

pub returns-in_err-body-clause-takes : goal.returns-in_err-body-clause-takes
returns-in_err-body-clause-takes c =
    let name = begin RuleWord some_rule past c.in_ok-name.ensures.takes in
    fails_last _ c.from_residual-in_err-body.ensures name c.in_err-body.ensures.takes

pub returns-clause-takes : goal.returns-clause-takes
returns-clause-takes c = last_part _ (begin RuleWord some_rule past c.in_ok-name.ensures.takes) c.in_ok-body.ensures.takes
