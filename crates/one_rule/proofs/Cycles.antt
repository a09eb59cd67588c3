-- What a stimulus that keeps its lines gives in a cycle.
use Rattle.std.proofs.Common.{◌≡◌, ◌⊎◌, ℕ, ◌+◌, ◌-◌, ◌<◌, ◌≤◌, ◌≢◌, add-one, zero, suc, inl, inr, List, [], ◌∷◌, ◌++◌, length, map, get_or, refl, sym, ap, ◌∙◌, subst, arith}
use Rattle.std.specs.List.Sorted.{IsPermutation, IsNonDecreasingBy}
use Rattle.std.proofs.lemmas.List.Elements.{All-get_or, All-nil, All-push}
use Rattle.std.proofs.lemmas.List.Sorted.{All-permutation}
use Rattle.std.proofs.lemmas.Bool.{cases_lt}
use Rattle.std.proofs.lemmas.List.{get_or_default, get_or-map, get_or_past, length-map, map_push}
use Rattle.kw_bits.specs.BitVector.{BitVector}
use Rattle.one_rule.specs.KeptLines.{IsKeptLine, KeepsLines, vectors_of}
use Rattle.typed_core.specs.Widths.{HaveWidths}
use Rattle.one_rule.specs.Stimulus.{AlwaysFits, Assignment, Assigns, inputs_by, inputs_of, InputVectors, IsLine}
use Rattle.one_rule.proofs.Inputs.{inputs_by_fits}
use Rattle.one_rule.proofs.Lines.{IsAscending-sorted, IsDistinct-sorted}

-- a cycle that has no line
pub inputs_of_no_line : (widths : List ℕ) (lines : List (List Assignment)) (cycle : ℕ) → ((cycle ≡ 0) ⊎ (length lines < cycle)) → inputs_of (vectors_of widths lines) cycle ≡ inputs_by widths []
unfolding inputs_of
inputs_of_no_line widths lines zero h = refl
inputs_of_no_line widths lines (suc before) (inl h) = absurd (omega arith)
inputs_of_no_line widths lines (suc before) (inr h) =
    get_or_past (map (inputs_by widths) lines) before (inputs_by widths []) (omega (arith, length-map lines (inputs_by widths)))

-- a cycle that has this line
pub inputs_of_line : (widths : List ℕ) (lines : List (List Assignment)) (cycle : ℕ) (line : List Assignment) → cycle ≢ 0 → cycle ≤ length lines → line ≡ get_or lines (cycle - 1) line → inputs_of (vectors_of widths lines) cycle ≡ inputs_by widths line
unfolding inputs_of
inputs_of_line widths lines zero line some within is = absurd (some refl)
inputs_of_line widths lines (suc before) line some within is =
    let place : suc before - 1 ≡ before = omega arith in
    let here : line ≡ get_or lines before line = is ∙ ap (λ n. get_or lines n line) place in
    get_or-map (inputs_by widths) lines before line (inputs_by widths []) (omega arith) ∙ ap (inputs_by widths) (sym here)

-- in every cycle the values fit
pub AlwaysFits-kept : (s : InputVectors) (widths : List ℕ) (lines : List (List Assignment)) → vectors_of widths lines ≡ s → KeepsLines widths lines → AlwaysFits s
AlwaysFits-kept s widths lines is keeps = subst AlwaysFits is each
  where
    none : (cycle : ℕ) → ((cycle ≡ 0) ⊎ (length lines < cycle)) → HaveWidths widths (inputs_of (vectors_of widths lines) cycle)
    none cycle h = rw (inputs_of_no_line widths lines cycle h) (inputs_by_fits widths [] keeps.each_width (All-nil (Assigns widths)))

    each : AlwaysFits (vectors_of widths lines)
    each zero = none zero (inl refl)
    each (suc before) = elim (cases_lt before (length lines)) [
      | inl within ↦
          let line = get_or lines before [] in
          let place : suc before - 1 ≡ before = omega arith in
          let here = get_or_default lines before [] line within ∙ ap (λ n. get_or lines n line) (sym place) in
          let kept = All-get_or (IsKeptLine widths) lines before [] within keeps.each_line in
          rw (inputs_of_line widths lines (suc before) line (omega arith) within here) (inputs_by_fits widths line keeps.each_width kept.values)
      | inr past ↦ none (suc before) (inr (omega arith))
    ]

-- one line more, which gives all inputs what this line gives
pub vectors_of_push : (s : InputVectors) (widths : List ℕ) (lines lines' : List (List Assignment)) (line kept : List Assignment) → vectors_of widths lines ≡ s → lines' ≡ lines ++ kept ∷ [] → inputs_by widths kept ≡ inputs_by widths line → vectors_of widths lines' ≡ record { widths = s.widths; cycles = s.cycles ++ inputs_by s.widths line ∷ [] }
vectors_of_push s widths lines lines' line kept is pushed same =
    let more : InputVectors → InputVectors = λ t. record { widths = t.widths; cycles = t.cycles ++ inputs_by t.widths line ∷ [] } in
    let cycles = map_push (inputs_by widths) lines kept ∙ ap (λ inputs. map (inputs_by widths) lines ++ inputs ∷ []) same in
    let whole : List (List BitVector) → InputVectors = λ cs. record { widths = widths; cycles = cs } in
    ap (vectors_of widths) pushed ∙ ap whole cycles ∙ ap more is

-- a line that was sorted is kept
pub KeepsLines_push : (widths : List ℕ) (lines : List (List Assignment)) (line sorted : List Assignment) → KeepsLines widths lines → IsLine widths line → IsPermutation line sorted → IsNonDecreasingBy (λ (a : Assignment). a.0) sorted → KeepsLines widths (lines ++ sorted ∷ [])
KeepsLines_push widths lines line sorted keeps is_line moved rising =
    record {
      each_width = keeps.each_width;
      each_line = All-push (IsKeptLine widths) lines sorted keeps.each_line (record {
        values = All-permutation (Assigns widths) line sorted moved is_line.values;
        order = IsAscending-sorted sorted rising (IsDistinct-sorted line sorted is_line.once moved);
      });
    }

-- stimuli for inputs of the same widths that give the same in each of some first cycles, and have no more lines
pub same_in_every_cycle : (s t : InputVectors) (n : ℕ) → s.widths ≡ t.widths → length s.cycles ≤ n → length t.cycles ≤ n → ((k : ℕ) → k < n → inputs_of s (k + 1) ≡ inputs_of t (k + 1)) → (cycle : ℕ) → inputs_of s cycle ≡ inputs_of t cycle
unfolding inputs_of
same_in_every_cycle s t n widths few few' first zero = ap (λ ws. inputs_by ws []) widths
same_in_every_cycle s t n widths few few' first (suc before) = elim (cases_lt before n) [
  | inl below ↦ rw add-one at (first before below)
  | inr past ↦
      get_or_past s.cycles before (inputs_by s.widths []) (omega arith) ∙ ap (λ ws. inputs_by ws []) widths
      ∙ sym (get_or_past t.cycles before (inputs_by t.widths []) (omega arith))
]
