use Rattle.std.proofs.Common.{sym}
use Rattle.koika_syntax.specs.Tree.{binary_symbol, sign}
use Rattle.koika_parse.proofs.Reading.{in_place_of}
use Rattle.koika_parse.proofs.Expected.{fails_last, last_part, takes_sign}
use Rattle.koika_parse.proofs.ChainWords.{operator_at, operator_refused}
use Rattle.koika_parse.proofs.source.Source.operator.Goals as goal

pub returns-in_ok-sign-in-Some-clause-read : goal.returns-in_ok-sign-in-Some-clause-read
returns-in_ok-sign-in-Some-clause-read c =
    in_place_of sign (binary_symbol c.in-Some.operator) (sym c.symbol.ensures) c.in_ok-sign-in-Some.ensures.read

pub returns-in-None-clause-takes : goal.returns-in-None-clause-takes
returns-in-None-clause-takes c = operator_refused c.args.wanted c.requires.low c.requires.high c.in-None.ensures.none

pub returns-in_err-sign-in-Some-clause-takes : goal.returns-in_err-sign-in-Some-clause-takes
returns-in_err-sign-in-Some-clause-takes c = fails_last _ c.from_residual.ensures
    (operator_at c.args.wanted c.requires.low c.requires.high c.in-Some.operator c.in-Some.ensures.level
    c.in-Some.ensures.at) (takes_sign c.symbol.ensures c.in_err-sign-in-Some.ensures.takes)

pub returns-in_ok-sign-in-Some-clause-takes : goal.returns-in_ok-sign-in-Some-clause-takes
returns-in_ok-sign-in-Some-clause-takes c = last_part _
    (operator_at c.args.wanted c.requires.low c.requires.high c.in-Some.operator c.in-Some.ensures.level
    c.in-Some.ensures.at) (takes_sign c.symbol.ensures c.in_ok-sign-in-Some.ensures.takes)
