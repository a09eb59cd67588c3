use Rattle.std.proofs.Common.{◌≡◌, length, take}
use Rattle.invariant_check.specs.Bits.{register_bits}
use Rattle.invariant_check.specs.inner.FirstNames.{AreFirst}
use Rattle.invariant_check.proofs.bits.add_bits.Given as goal

abbrev pub invariant-loop-word : goal.invariant-loop-word
invariant-loop-word l =
    record {
      first : AreFirst l.names l.numbers.items (register_bits (take l.word-index l.latches));
      count : l.count ≡ length (register_bits (take l.word-index l.latches));
    }
