use Rattle.std.proofs.Common.{◌≡◌, arith}
use Rattle.std.proofs.lemmas.Bool.{ltb-false}
use Rattle.kw_io.proofs.Portions.{OnSome-from_none_left}
use Rattle.stream_run.proofs.reader.Reader.fill.Goals as goal

pub returns-clause-end : goal.returns-clause-end
returns-clause-end g c none =
    let count : c.in_ok-count.count ≡ 0 = omega (arith, ltb-false 0 c.in_ok-count.count none) in
    OnSome-from_none_left _ _ _ _ c.in_ok-count.ensures.taken c.in_ok-count.ensures.end count
