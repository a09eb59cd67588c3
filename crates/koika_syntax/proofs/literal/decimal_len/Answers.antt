use Rattle.std.proofs.Common.{sym, ◌∙◌, arith, ap}
use Rattle.std.specs.Char.{is_digit}
use Rattle.std.proofs.lemmas.List.Sums.{prefix_len_is}
use Rattle.koika_syntax.proofs.literal.decimal_len.Goals as goal

pub returns-else-is_digit : goal.returns-else-is_digit
returns-else-is_digit c =
    sym (prefix_len_is (λ b. is_digit b 10) c.args.bytes.now c.loop-len.len 0 c.loop-len.invariant.0 c.loop-len.invariant.1 (λ _. sym (c.is_digit.ensures.value ∙ ap (λ b. is_digit b 10) c.from.ensures) ∙ c.if-is_digit.false))

pub returns-after-loop-len : goal.returns-after-loop-len
returns-after-loop-len c =
    sym (prefix_len_is (λ b. is_digit b 10) c.args.bytes.now c.loop-len.len 0 c.loop-len.invariant.0 c.loop-len.invariant.1 (λ within. absurd (omega arith)))
