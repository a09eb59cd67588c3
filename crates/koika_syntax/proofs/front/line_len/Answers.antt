use Rattle.std.proofs.Common.{sym, ap, arith}
use Rattle.std.proofs.lemmas.List.Sums.{prefix_len_is}
use Rattle.koika_syntax.specs.Lexemes.{stays_on_line}
use Rattle.koika_syntax.proofs.front.line_len.Goals as goal

pub returns-else-bytes-len-ne10 : goal.returns-else-bytes-len-ne10
returns-else-bytes-len-ne10 c =
    sym (prefix_len_is stays_on_line c.args.bytes.now c.loop-len.len 0 c.loop-len.invariant.0 c.loop-len.invariant.1 (λ _. ap stays_on_line c.if-bytes-len-ne10.false))

pub returns-after-loop-len : goal.returns-after-loop-len
returns-after-loop-len c =
    sym (prefix_len_is stays_on_line c.args.bytes.now c.loop-len.len 0 c.loop-len.invariant.0 c.loop-len.invariant.1 (λ within. absurd (omega arith)))
