-- How words are cut off the front of a text.
use Rattle.std.proofs.Common.{◌≡◌, ℕ, Bool, false, not, List, [], ◌∷◌, ◌++◌, ap, ◌∙◌, append-nil}
use Rattle.std.specs.List.{All, AllPass, slice_split}
use Rattle.std.proofs.lemmas.Bool.{not-false, not-true}
use Rattle.std.proofs.lemmas.List.Splits.{slice_split_at, slice_split_none}
use Rattle.verilog_text.specs.Names.{is_blank}
use Rattle.verilog_text.specs.inner.Words.{StopsAt}

none_passes : (p : ℕ → Bool) (bytes : List ℕ) → AllPass (λ b. not (p b)) bytes → All (λ b. p b ≡ false) bytes
none_passes p bytes all = λ k d within. not-true (p _) (all k d within)

-- a word up to the end, and up to a blank
pub words_last : (text word rest : List ℕ) → text ≡ word ++ rest → AllPass (λ b. not (is_blank b)) word → rest ≡ []
    → slice_split is_blank text ≡ word ∷ []
words_last text word rest parts all none =
    let whole : text ≡ word = parts ∙ ap (λ r. word ++ r) none ∙ append-nil word in
    ap (slice_split is_blank) whole ∙ slice_split_none is_blank word (none_passes is_blank word all)

pub words_first : (text word : List ℕ) (b : ℕ) (rest : List ℕ) → text ≡ word ++ b ∷ rest
    → AllPass (λ x. not (is_blank x)) word → StopsAt (λ x. not (is_blank x)) (b ∷ rest)
    → slice_split is_blank text ≡ word ∷ slice_split is_blank rest
words_first text word b rest parts all stops =
    ap (slice_split is_blank) parts
    ∙ slice_split_at is_blank word b rest (none_passes is_blank word all) (not-false (is_blank b) stops)
