use Rattle.std.proofs.Common.{sym}
use Rattle.koika_syntax.specs.Tree.{placed, symbol, unary_symbol}
use Rattle.koika_parse.proofs.Reading.{in_place_of, shorter}
use Rattle.koika_parse.proofs.Expected.{fails_last, last_part, takes_sign}
use Rattle.koika_parse.proofs.ChainWords.{prefix_at_sign, prefix_refused}
use Rattle.koika_parse.proofs.source.Source.prefix.Goals as goal

pub returns-in_ok-place-in-Some-clause-read : goal.returns-in_ok-place-in-Some-clause-read
returns-in_ok-place-in-Some-clause-read c = in_place_of (λ s. placed (symbol s) c.in_ok-place-in-Some.place)
    (unary_symbol c.in-Some.operator) (sym c.symbol.ensures) c.in_ok-place-in-Some.ensures.read

pub returns-in_ok-place-in-Some-clause-some : goal.returns-in_ok-place-in-Some-clause-some
returns-in_ok-place-in-Some-clause-some c = shorter c.in_ok-place-in-Some.ensures.read

pub returns-in-None-clause-takes : goal.returns-in-None-clause-takes
returns-in-None-clause-takes c = prefix_refused c.in-None.ensures.none

pub returns-in_err-place-in-Some-clause-takes : goal.returns-in_err-place-in-Some-clause-takes
returns-in_err-place-in-Some-clause-takes c = fails_last _ c.from_residual.ensures
    (prefix_at_sign c.in-Some.operator c.in-Some.ensures.at)
    (takes_sign c.symbol.ensures c.in_err-place-in-Some.ensures.takes)

pub returns-in_ok-place-in-Some-clause-takes : goal.returns-in_ok-place-in-Some-clause-takes
returns-in_ok-place-in-Some-clause-takes c = last_part _ (prefix_at_sign c.in-Some.operator c.in-Some.ensures.at)
    (takes_sign c.symbol.ensures c.in_ok-place-in-Some.ensures.takes)
