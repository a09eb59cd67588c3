use Rattle.std.proofs.Common.{◌≡◌, ℕ, ◌+◌, ◌++◌, List, length}
use Rattle.invariant_check.specs.Bits.{bit_names}
use Rattle.invariant_check.specs.inner.FirstNames.{AreFirst}
use Rattle.invariant_check.proofs.bits.add_word.Given as goal

abbrev pub invariant-loop-bit : goal.invariant-loop-bit
invariant-loop-bit l =
    record {
      count : l.count ≡ l.before + l.bit;
      first : (bits : List (List ℕ)) → AreFirst l.fn.names l.fn.numbers.items bits → l.before ≡ length bits
          → AreFirst l.names l.numbers.items (bits ++ bit_names l.name l.bit);
    }
