use Rattle.std.proofs.Common.{sym, ◌∙◌, arith}
use Rattle.std.proofs.lemmas.List.Sums.{prefix_len_is}
use Rattle.koika_syntax.specs.Lexemes.{continues_word}
use Rattle.koika_syntax.proofs.word.word_len.Goals as goal

pub returns-else-continues_word : goal.returns-else-continues_word
returns-else-continues_word c =
    sym (prefix_len_is continues_word c.args.bytes.now c.loop-len.len 0 c.loop-len.invariant.0 c.loop-len.invariant.1 (λ _. sym c.continues_word.ensures ∙ c.if-continues_word.false))

pub returns-after-loop-len : goal.returns-after-loop-len
returns-after-loop-len c =
    sym (prefix_len_is continues_word c.args.bytes.now c.loop-len.len 0 c.loop-len.invariant.0 c.loop-len.invariant.1 (λ within. absurd (omega arith)))
