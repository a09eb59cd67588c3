use Rattle.std.proofs.Common.{◌≡◌, ◌++◌, take}
use Rattle.kw_bits.proofs.reserved.Reserved.extend_from_slice.Given as goal

-- the items that were passed are in the list
abbrev pub invariant-loop-item : goal.invariant-loop-item
invariant-loop-item g l = l.self ≡ record l.fn.self { items = l.fn.self.items ++ take l.item-index l.items }
