use Rattle.std.proofs.Common.{◌≡◌, take}
use Rattle.std.specs.List.{fold}
use Rattle.journal_check.specs.Numbers.{with_decimal}
use Rattle.journal_check.proofs.number.number_read.Given as goal

abbrev pub invariant-loop-byte : goal.invariant-loop-byte
invariant-loop-byte l = l.number ≡ fold with_decimal 0 (take l.byte-index l.token)
