-- The text of the pipeline design is a source that spells a tree, and `print` writes it again: it has no mark, since `%` is
-- none of its bytes.
use Rattle.std.proofs.Common.{◌≡◌, ℕ, zero, suc, ◌-◌, ◌≤◌, Bool, true, false, cond, nat_eq, Option, None, Some, List, [], ◌∷◌, length, take, get_or, codes, refl, sym, ◌∙◌, subst}
use Rattle.std.specs.Prelude.{◌==◌, bytes_eq, if◌then◌else◌, position, slice_index}
use Rattle.std.specs.List.{AllByRecursion, onto_first, slice_split}
use Rattle.std.proofs.lemmas.Bool.{false≢true}
use Rattle.std.proofs.lemmas.List.Quantifiers.{position-Some}
use Rattle.koika_syntax.specs.Grammar.{Derives}
use Rattle.koika_syntax.specs.Tokens.{AreTokensOf}
use Rattle.kw_base.specs.Texts.{ends_line}
use Rattle.stim_report.specs.Cuts.{cut_at, is_mark, parts_of}
use Rattle.front_end.specs.Sources.{design_part}
use Rattle.koika_top.specs.Generator.{pipeline}
use Rattle.koika_top.specs.Reads.{ShowsTree}
use Rattle.koika_top.proofs.GeneratedText.{AreFree, pipeline-free, pipeline-read, pipeline-short}

abbrev AreAllFree : List (List ℕ) → Type 0
AreAllFree lines = AllByRecursion AreFree lines

-- such a line is no mark
no-mark : (line : List ℕ) → AreFree line → is_mark line ≡ false
no-mark [] free = refl
no-mark (b ∷ line) free = by (slice_index (b ∷ line) (length (b ∷ line) - 1) == 13)
  where
    begins : (rest : List ℕ) → bytes_eq (b ∷ rest) (codes "%%") ≡ false
    begins rest = rw free.0 refl

    taken : (n : ℕ) → bytes_eq (take n (b ∷ line)) (codes "%%") ≡ false
    taken zero = refl
    taken (suc n) = begins (take n line)

    by : (c : Bool) → bytes_eq (if c then take (length (b ∷ line) - 1) (b ∷ line) else b ∷ line) (codes "%%") ≡ false
    by true = taken (length (b ∷ line) - 1)
    by false = begins line

no-mark-at : (lines : List (List ℕ)) (i : ℕ) → AreAllFree lines → is_mark (get_or lines i []) ≡ false
no-mark-at [] i free = refl
no-mark-at (line ∷ lines) zero free = no-mark line free.0
no-mark-at (line ∷ lines) (suc i) free = no-mark-at lines i free.1

onto-free : (b : ℕ) (lines : List (List ℕ)) → nat_eq b 37 ≡ false → AreAllFree lines → AreAllFree (onto_first b lines)
onto-free b [] one free = ((one, tt), tt)
onto-free b (line ∷ lines) one free = ((one, free.0), free.1)

lines-free : (text : List ℕ) → AreFree text → AreAllFree (slice_split ends_line text)
lines-free [] free = (tt, tt)
lines-free (b ∷ text) free = by (ends_line b) (lines-free text free.1)
  where
    by : (c : Bool) → AreAllFree (slice_split ends_line text) → AreAllFree (cond c ([] ∷ slice_split ends_line text) (onto_first b (slice_split ends_line text)))
    by true rest = (tt, rest)
    by false rest = onto-free b (slice_split ends_line text) free.0 rest

-- all of it is the design
whole : (text : List ℕ) → AreFree text → design_part text ≡ text
unfolding parts_of
whole text free = of (position is_mark lines) refl
  where
    lines : List (List ℕ)
    lines = slice_split ends_line text

    of : (mark : Option ℕ) → position is_mark lines ≡ mark → (cut_at lines mark text).design ≡ text
    of None at = refl
    of (Some mark) at = absurd (false≢true (sym (no-mark-at lines mark (lines-free text free)) ∙ (position-Some is_mark lines mark [] at).1))

pub pipeline-whole : (stages : ℕ) → stages ≤ 100 → design_part (pipeline stages) ≡ pipeline stages
pipeline-whole stages most = whole (pipeline stages) (pipeline-free stages most)

pub pipeline-shown : (stages : ℕ) → stages ≤ 100 → ShowsTree (pipeline stages) (pipeline stages)
pipeline-shown stages most =
    let read = pipeline-read stages most in
    let all = sym (pipeline-whole stages most) in
    record {
      tree = read.tree;
      spelled = record {
        short = pipeline-short stages most;
        tokens = read.tokens;
        are = subst (AreTokensOf read.tokens) all read.are;
        derived = subst (λ (text : List ℕ). Derives text read.tree read.tokens) all read.derived;
        few = read.few;
      };
      told = read.same;
    }
