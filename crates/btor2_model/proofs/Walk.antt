-- The walk over lines: what is left to look at, behind what is declared.
use Rattle.std.proofs.Common.{◌≡◌, ℕ, ◌+◌, ◌<◌, ◌≤◌, Bool, true, false, cond, List, [], ◌∷◌, ◌++◌, length, get_or, take, drop, Option, None, Some, refl, sym, ap, ◌∙◌}
use Rattle.std.proofs.lemmas.List.{drop_more, drop_all, take_more, take-append-drop}
use Rattle.std.proofs.lemmas.List.Folds.{find-append}
use Rattle.std.specs.List.{find}
use Rattle.std.specs.Option.{option_map, option_or}
use Rattle.kw_base.specs.declared.fault.Fault.{Fault}
use Rattle.btor2_text.specs.declared.line.Line.{Line}
use Rattle.btor2_model.specs.Acceptance.{lines_fault, line_fault, fault_in}
use Rattle.btor2_model.specs.inner.Known.{AreNarrow}
use Rattle.btor2_model.specs.Scope.{DeclaredIds, no_lines, behind, behind_all}

-- the lines before this place have no fault and declare this
pub record Reached (lines : List Line) (place : ℕ) (scope : DeclaredIds) : Type 0 where
  pub narrow : AreNarrow scope
  pub fault : lines_fault no_lines lines ≡ lines_fault scope (drop place lines)
  pub declared : behind_all no_lines lines ≡ behind_all scope (drop place lines)

pub Reached-start : (lines : List Line) (scope : DeclaredIds) → scope ≡ no_lines → AreNarrow scope → Reached lines 0 scope
Reached-start lines scope is narrow = record {
  narrow = narrow;
  fault = ap (λ (s : DeclaredIds). lines_fault s lines) (sym is);
  declared = ap (λ (s : DeclaredIds). behind_all s lines) (sym is);
}

no_fault_first : (fault : Option ℕ) (line : Line) (rest : Option Fault) → fault ≡ None → option_or (option_map (fault_in line) fault) rest ≡ rest
no_fault_first fault line rest none = rw none refl

-- one more line without a fault
pub Reached-next : (lines : List Line) (place : ℕ) (scope next : DeclaredIds) (line : Line) → Reached lines place scope → place < length lines → line ≡ get_or lines place line
    → line_fault scope line ≡ None → next ≡ behind scope line → AreNarrow next → Reached lines (place + 1) next
Reached-next lines place scope next line reached within is none declares narrow =
    let here : drop place lines ≡ line ∷ drop (place + 1) lines = drop_more lines place line within ∙ ap (λ l. l ∷ drop (place + 1) lines) (sym is) in
    record {
      narrow = narrow;
      fault = reached.fault ∙ ap (lines_fault scope) here ∙ no_fault_first (line_fault scope line) line (lines_fault (behind scope line) (drop (place + 1) lines)) none
          ∙ ap (λ (s : DeclaredIds). lines_fault s (drop (place + 1) lines)) (sym declares);
      declared = reached.declared ∙ ap (behind_all scope) here ∙ ap (λ (s : DeclaredIds). behind_all s (drop (place + 1) lines)) (sym declares);
    }

fault_first : (found : Option Fault) (fault : Fault) (rest : Option Fault) → found ≡ Some fault → option_or found rest ≡ Some fault
fault_first found fault rest is = rw is refl

-- or the first with one
pub Reached-fault : (lines : List Line) (place : ℕ) (scope : DeclaredIds) (line : Line) (fault : Fault) → Reached lines place scope → place < length lines → line ≡ get_or lines place line
    → option_map (fault_in line) (line_fault scope line) ≡ Some fault → lines_fault no_lines lines ≡ Some fault
Reached-fault lines place scope line fault reached within is found =
    let here : drop place lines ≡ line ∷ drop (place + 1) lines = drop_more lines place line within ∙ ap (λ l. l ∷ drop (place + 1) lines) (sym is) in
    reached.fault ∙ ap (lines_fault scope) here ∙ fault_first (option_map (fault_in line) (line_fault scope line)) fault (lines_fault (behind scope line) (drop (place + 1) lines)) found

-- the end
pub Reached-end : (lines : List Line) (place : ℕ) (scope : DeclaredIds) → Reached lines place scope → length lines ≤ place → (lines_fault no_lines lines ≡ None) × (scope ≡ behind_all no_lines lines)
Reached-end lines place scope reached end =
    let none = drop_all place lines end in
    (reached.fault ∙ ap (lines_fault scope) none, sym (reached.declared ∙ ap (behind_all scope) none))

find-one : (p : Line → Bool) (line : Line) (rest : List Line) (passes : Bool) → p line ≡ passes → find p (line ∷ rest) ≡ cond passes (Some line) (find p rest)
find-one p line rest passes is = ap (λ b. cond b (Some line) (find p rest)) is

-- one more line that doesn't pass
pub find-next : (p : Line → Bool) (lines : List Line) (place : ℕ) (line : Line) → place < length lines → line ≡ get_or lines place line → find p (take place lines) ≡ None → p line ≡ false
    → find p (take (place + 1) lines) ≡ None
find-next p lines place line within is none fails =
    let here : take (place + 1) lines ≡ take place lines ++ line ∷ [] = take_more lines place line within ∙ ap (λ l. take place lines ++ l ∷ []) (sym is) in
    ap (find p) here ∙ find-append p (take place lines) (line ∷ []) ∙ ap (λ f. option_or f (find p (line ∷ []))) none ∙ find-one p line [] false fails

-- or the first that does
pub find-here : (p : Line → Bool) (lines : List Line) (place : ℕ) (line : Line) → place < length lines → line ≡ get_or lines place line → find p (take place lines) ≡ None → p line ≡ true
    → find p lines ≡ Some line
find-here p lines place line within is none passes =
    let here : drop place lines ≡ line ∷ drop (place + 1) lines = drop_more lines place line within ∙ ap (λ l. l ∷ drop (place + 1) lines) (sym is) in
    ap (find p) (sym (take-append-drop place lines)) ∙ find-append p (take place lines) (drop place lines) ∙ ap (λ f. option_or f (find p (drop place lines))) none
    ∙ ap (find p) here ∙ find-one p line (drop (place + 1) lines) true passes

-- nothing is narrow
pub narrow-none : AreNarrow no_lines
narrow-none id meaning is = absurd (cc)
