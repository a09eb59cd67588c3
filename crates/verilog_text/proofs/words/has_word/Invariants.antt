use Rattle.std.proofs.Common.{◌≡◌, length}
use Rattle.std.specs.Prelude.{bytes_eq}
use Rattle.std.specs.List.{list_any}
use Rattle.verilog_text.specs.inner.Words.{has_word, words_of}
use Rattle.verilog_text.proofs.words.has_word.Given as goal

-- the name is among the words that are left where it is among all
abbrev pub invariant-loop-left : goal.invariant-loop-left
invariant-loop-left l = list_any (λ word. bytes_eq word l.name) (words_of l.left) ≡ has_word l.text l.name

abbrev pub decreases-loop-left : goal.decreases-loop-left
decreases-loop-left l = length (words_of l.left)
