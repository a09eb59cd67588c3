use Rattle.std.proofs.Common.{◌≡◌, take, arith}
use Rattle.std.proofs.lemmas.List.{take_all}
use Rattle.kw_base.specs.Place.{place_at}
use Rattle.kw_base.proofs.place.place_of.Goals as goal

pub returns : goal.returns
unfolding place_at
returns c =
    let front = take c.args.offset c.args.text.now in
    let whole : take c.loop-byte.byte-index front ≡ front = take_all c.loop-byte.byte-index front (omega arith) in
    rw (c.loop-byte.invariant.0, c.loop-byte.invariant.1, whole)
