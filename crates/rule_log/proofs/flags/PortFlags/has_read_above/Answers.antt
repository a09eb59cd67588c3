use Rattle.std.proofs.Common.{◌+◌, ◌%◌, ◌<◌, ◌^◌, arith, sym, ◌∙◌}
use Rattle.rule_log.proofs.Bits.{bit_of_clear, bit_of_low, clear_of_bit, none_from, nothing_from, test_of_zero, zero_of_test}
use Rattle.rule_log.proofs.flags.PortFlags.has_read_above.Goals as goal

pub returns : goal.returns
returns c =
    let n = c.args.self.0 in
    let port = c.args.port in
    let low : n % 2 ^ 4 < 2 ^ 4 = omega arith in (
      λ h at above p. clear_of_bit n at (sym (bit_of_low n 4 at p) ∙ none_from (n % 2 ^ 4) (port + 1) at (zero_of_test _ h) (omega arith)),
      λ none. test_of_zero _ (nothing_from (n % 2 ^ 4) 4 (port + 1) low (λ i above below.
          bit_of_low n 4 i below ∙ bit_of_clear n i (none i (omega arith) below))),
    )
