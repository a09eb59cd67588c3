use Rattle.std.proofs.Common.{◌≡◌, ℕ, ◌+◌, List, ◌++◌, length, length-append, take, ap, subst, arith}
use Rattle.invariant_check.specs.Bits.{bit_names, register_bits}
use Rattle.invariant_check.specs.inner.FirstNames.{AreFirst}
use Rattle.invariant_check.proofs.Reading.{bits_more, length-bit_names}
use Rattle.invariant_check.proofs.bits.add_bits.Goals as goal

pub loop-word-preserved : goal.loop-word-preserved
loop-word-preserved c =
    let latches = c.args.latches.now in
    let k = c.loop-word.word-index in
    let name = c.as_slice-name.result.now in
    let width = c.width.result in
    let front = register_bits (take k latches) in
    let whole : front ++ bit_names name width ≡ register_bits (take (k + 1) latches) =
    bits_more latches k c.word-item.result name width c.loop-word-test.true c.word-item.is c.as_slice-name.ensures
    c.width.ensures.width in
    record {
      first = subst (λ (bs : List (List ℕ)). AreFirst c.add_word.new.names c.add_word.new.numbers.items bs) whole
          (c.in_ok-count.ensures.first front c.loop-word.invariant.first c.loop-word.invariant.count);
      count = omega (
        arith,
        ap length whole,
        length-append front (bit_names name width),
        length-bit_names name width,
        c.in_ok-count.ensures.count,
        c.loop-word.invariant.count,
      );
    }
