use Rattle.std.proofs.Common.{◌≡◌, take}
use Rattle.std.specs.List.{fold}
use Rattle.journal_check.specs.Numbers.{with_hex}
use Rattle.journal_check.proofs.number.value_read.Given as goal

abbrev pub invariant-loop-byte : goal.invariant-loop-byte
invariant-loop-byte l = l.number ≡ fold with_hex 0 (take l.byte-index l.digits)
