use Rattle.std.proofs.Common.{◌≡◌, ◌+◌, ◌<◌, ◌^◌, ◌-◌, ℕ, arith, ap, sym, ◌∙◌}
use Rattle.std.specs.Int.{bit_at}
use Rattle.rule_log.proofs.Bits.{bit_of_clear, clear_of_bit, none_from, nothing_from, test_of_zero, zero_of_test}
use Rattle.rule_log.proofs.flags.PortFlags.has_write_from.Goals as goal

pub returns : goal.returns
returns c =
    let n = c.args.self.0 in
    let port = c.args.port in
    let byte : n < 2 ^ 8 = omega arith in (
      λ h at above p. clear_of_bit n (4 + at) (none_from n (4 + port) (4 + at) (zero_of_test _ h) (omega arith)),
      λ none. test_of_zero _ (nothing_from n 8 (4 + port) byte (λ i above below.
          let e : 4 + (i - 4) ≡ i = omega arith in
          ap (λ (x : ℕ). bit_at n x) (sym e) ∙ bit_of_clear n (4 + (i - 4)) (none (i - 4) (omega arith) (omega arith)))),
    )
