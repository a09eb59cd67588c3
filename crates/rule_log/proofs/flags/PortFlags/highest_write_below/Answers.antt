use Rattle.std.proofs.Common.{◌≡◌, ◌==◌, ◌*◌, ◌/◌, ◌%◌, ◌^◌, ◌<◌, ◌≤◌, ◌+◌, ℕ, false, ap, sym, ◌∙◌, arith}
use Rattle.std.specs.Int.{bit_at}
use Rattle.std.proofs.Math.Nat.{mod-lt}
use Rattle.std.proofs.lemmas.Nat.{pow_pos}
use Rattle.std.proofs.lemmas.Nat.Bits.{bit_at-zero}
use Rattle.rule_log.proofs.Bits.{clear_of_bit, none_above_top, one_shifted, top_below, top_bit, write_below}
use Rattle.rule_log.proofs.flags.PortFlags.highest_write_below.Goals as goal

-- the writes below a port, as the code cuts them off
cut : (n port : ℕ) → port ≤ 4 → n / 2 ^ 4 % (1 * 2 ^ port % 2 ^ 8) ≡ n / 2 ^ 4 % 2 ^ port
cut n port most = ap (λ (m : ℕ). n / 2 ^ 4 % m) (one_shifted port (omega arith))

none : (n port w : ℕ) → w ≡ n / 2 ^ 4 % 2 ^ port → w ≡ 0 → (at : ℕ) → at < port → (bit_at n (4 + at) == 1) ≡ false
none n port w is e at h =
    clear_of_bit n (4 + at) (sym (write_below n port at h) ∙ ap (λ (x : ℕ). bit_at x at) (sym is ∙ e) ∙ bit_at-zero at)

small : (n port w : ℕ) → w ≡ n / 2 ^ 4 % 2 ^ port → w < 2 ^ port
small n port w is =
    let positive = pow_pos port in
    let below : n / 2 ^ 4 % 2 ^ port < 2 ^ port = mod-lt (n / 2 ^ 4) positive in
    omega arith

pub returns-then-writes-eq0-clause-below : goal.returns-then-writes-eq0-clause-below
returns-then-writes-eq0-clause-below c = none c.args.self.0 c.args.port _ (cut c.args.self.0 c.args.port c.requires) c.if-writes-eq0.true

pub returns-then-writes-eq0-clause-highest : goal.returns-then-writes-eq0-clause-highest
returns-then-writes-eq0-clause-highest c = none c.args.self.0 c.args.port _ (cut c.args.self.0 c.args.port c.requires) c.if-writes-eq0.true

pub returns-else-writes-eq0-clause-below : goal.returns-else-writes-eq0-clause-below
returns-else-writes-eq0-clause-below c =
    let n = c.args.self.0 in
    let port = c.args.port in
    let r = c.ilog2.result in
    let is = cut n port c.requires in
    let below : r < port = top_below _ r port c.ilog2.ensures.power_le (small n port _ is) in
    let bit = sym (write_below n port r below) ∙ ap (λ (x : ℕ). bit_at x r) (sym is) ∙ top_bit _ r c.ilog2.ensures.power_le c.ilog2.ensures.next_power_gt in
    (below, ap (λ (x : ℕ). x == 1) bit)

pub returns-else-writes-eq0-clause-highest : goal.returns-else-writes-eq0-clause-highest
returns-else-writes-eq0-clause-highest c at above below =
    let n = c.args.self.0 in
    let port = c.args.port in
    clear_of_bit n (4 + at) (sym (write_below n port at below) ∙ ap (λ (x : ℕ). bit_at x at) (sym (cut n port c.requires)) ∙ none_above_top _ c.ilog2.result at c.ilog2.ensures.next_power_gt above)
