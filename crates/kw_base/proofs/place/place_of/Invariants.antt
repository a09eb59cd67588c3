use Rattle.std.proofs.Common.{◌≡◌, take}
use Rattle.kw_base.specs.Place.{line_after, column_after}
use Rattle.kw_base.proofs.place.place_of.Given as goal

abbrev pub invariant-loop-byte : goal.invariant-loop-byte
invariant-loop-byte l =
    (l.line ≡ line_after (take l.byte-index l.byte-items)) × (l.column ≡ column_after (take l.byte-index l.byte-items))
