use Rattle.std.proofs.Common.{◌≢◌, ℕ, ◌<◌, get_or}
use Rattle.btor2_text.specs.Forms.{keyword_text}
use Rattle.btor2_text.specs.declared.keyword.Keyword.{Keyword}
use Rattle.btor2_text.proofs.keyword.Keyword.of_word.Given as goal

abbrev pub invariant-loop-keyword : goal.invariant-loop-keyword
invariant-loop-keyword l = (k : ℕ) → k < l.keyword-index → (keyword : Keyword) → l.word ≢ keyword_text (get_or l.keyword-items k keyword)
