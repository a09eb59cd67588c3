-- The bad lines behind a circuit's lines: they have the names of the outputs that are marked, and are violated where those are 1.
use Rattle.std.proofs.Common.{◌≡◌, ℕ, zero, suc, ◌+◌, ◌<◌, ◌⊎◌, inl, inr, ⊎_elim, List, [], ◌∷◌, ◌++◌, length, length-append, map, get_or, Option, Some, refl, sym, ap, ap₂, subst, ◌∙◌, arith, add-one}
use Rattle.std.specs.Prelude.{All, slice_get, filter, option_map, ◌==◌}
use Rattle.std.specs.List.{AllByRecursion, filter_map}
use Rattle.std.proofs.lemmas.List.Elements.{filter-append, recursion_from_All}
use Rattle.std.proofs.lemmas.Option.{get_or_from_slice_get, slice_get-map, slice_get_cases}
use Rattle.btor2_text.specs.declared.line.Line.{Line}
use Rattle.btor2_model.specs.Rules.{is_bad, is_output, rule_of}
use Rattle.btor2_model.specs.Run as text
use Rattle.btor2_model.specs.Scope.{id_at}
use Rattle.btor2_net.specs.Translations.{line_name, output_widths}
use Rattle.koika_assert.specs.Bads.{bad_line, bad_lines, flag_lines, marked, with_bads}
use Rattle.one_rule.specs.Run.{InputsByCycle}
use Rattle.one_rule.specs.declared.rows.Row.{Row}
use Rattle.front_end.proofs.Blasted.{all-ones}
use Rattle.koika_top.proofs.CircuitLines.{AreNumbered, HasSymbol, numbered-behind}

-- ---- flags

-- outputs that have one bit each are all flags
pub flags-all : {Y : Type 0} (lines : List Line) (ys : List Y) → output_widths lines ≡ map (λ y. 1) ys → flag_lines lines ≡ text.lines_by_rule is_output lines
flags-all lines ys e = all-ones (λ (line : Line). text.width_in lines (id_at line.arguments 0)) (text.lines_by_rule is_output lines) ys e

-- ---- names

-- bad lines are bad lines
all-bad : (id : ℕ) (outputs : List Line) → text.lines_by_rule is_bad (bad_lines id outputs) ≡ bad_lines id outputs
all-bad id [] = refl
all-bad id (output ∷ outputs) = ap (λ rest. bad_line id output ∷ rest) (all-bad (id + 1) outputs)

-- behind lines without a bad one they are the bad lines
pub bads-behind : (lines : List Line) (marks : List ℕ) → text.lines_by_rule is_bad lines ≡ [] → text.lines_by_rule is_bad (with_bads lines marks) ≡ bad_lines (length lines + 1) (marked lines marks)
bads-behind lines marks none =
    filter-append (λ (line : Line). is_bad (rule_of line.keyword)) lines (bad_lines (length lines + 1) (marked lines marks))
    ∙ ap (λ before. before ++ text.lines_by_rule is_bad (bad_lines (length lines + 1) (marked lines marks))) none
    ∙ all-bad (length lines + 1) (marked lines marks)

-- a bad line has the name of its output
bads-named : (id : ℕ) (outputs : List Line) → AllByRecursion HasSymbol outputs → map line_name (bad_lines id outputs) ≡ map line_name outputs
bads-named id [] all = refl
bads-named id (output ∷ outputs) all = rw all.0.1 (ap (λ rest. all.0.0 ∷ rest) (bads-named (id + 1) outputs all.1))

module _ (outputs : List Line) (names : List (List ℕ)) (named : map line_name outputs ≡ names) (symbols : AllByRecursion HasSymbol outputs) where
  symbol-at : (xs : List Line) (k : ℕ) (line : Line) → AllByRecursion HasSymbol xs → slice_get xs k ≡ Some line → HasSymbol line
  symbol-at [] k line all e = absurd cc
  symbol-at (x ∷ xs) zero line all e = let same : x ≡ line = cc in subst HasSymbol same all.0
  symbol-at (x ∷ xs) (suc k) line all e = symbol-at xs k line all.1 e

  name-at : (mark : ℕ) (line : Line) → slice_get outputs mark ≡ Some line → line_name line ≡ get_or names mark []
  name-at mark line e =
      sym (get_or_from_slice_get (map line_name outputs) mark (line_name line) [] (slice_get-map line_name outputs mark ∙ ap (λ (o : Option Line). option_map line_name o) e))
      ∙ ap (λ all. get_or all mark []) named

  -- the output of a mark
  output-at : (mark : ℕ) → mark < length outputs → (line : Line) × (slice_get outputs mark ≡ Some line)
  output-at mark within = ⊎_elim (λ found. (found.0, found.2)) (λ past. absurd (omega (arith, within, past.0))) (slice_get_cases outputs mark).1

  marked-named : (marks : List ℕ) → AllByRecursion (λ mark. mark < length outputs) marks
      → (map line_name (filter_map (slice_get outputs) marks) ≡ map (λ mark. get_or names mark []) marks) × AllByRecursion HasSymbol (filter_map (slice_get outputs) marks)
  marked-named [] all = (refl, tt)
  marked-named (mark ∷ marks) all =
      let found = output-at mark all.0 in
      let rest = marked-named marks all.1 in
      rw found.1 (ap₂ (λ (name : List ℕ) (names : List (List ℕ)). name ∷ names) (name-at mark found.0 found.1) rest.0, (symbol-at outputs mark found.0 symbols found.1, rest.1))

-- the bad lines of marks have the names of the outputs that have these numbers
pub bads-have-names : (lines : List Line) (marks : List ℕ) (names : List (List ℕ)) → text.lines_by_rule is_bad lines ≡ [] → flag_lines lines ≡ text.lines_by_rule is_output lines
    → map line_name (text.lines_by_rule is_output lines) ≡ names → AllByRecursion HasSymbol (text.lines_by_rule is_output lines) → All (λ mark. mark < length (text.lines_by_rule is_output lines)) marks
    → map line_name (text.lines_by_rule is_bad (with_bads lines marks)) ≡ map (λ mark. get_or names mark []) marks
bads-have-names lines marks names none flags named symbols within =
    let outputs = text.lines_by_rule is_output lines in
    let are = marked-named outputs names named symbols marks (recursion_from_All (λ mark. mark < length outputs) marks within) in
    let same : marked lines marks ≡ filter_map (slice_get outputs) marks = ap (λ (flags : List Line). filter_map (slice_get flags) marks) flags in
    ap (map line_name) (bads-behind lines marks none ∙ ap (bad_lines (length lines + 1)) same)
    ∙ bads-named (length lines + 1) (filter_map (slice_get outputs) marks) are.1
    ∙ are.0

-- ---- numbers

bads-numbered : (id : ℕ) (outputs : List Line) → AreNumbered id (bad_lines id outputs)
bads-numbered id [] = tt
bads-numbered id (output ∷ outputs) = (refl, bads-numbered (id + 1) outputs)

-- each line's number is still that of its place
pub with-bads-numbered : (lines : List Line) (marks : List ℕ) → AreNumbered 1 lines → AreNumbered 1 (with_bads lines marks)
with-bads-numbered lines marks are =
    let same : length lines + 1 ≡ 1 + length lines = omega arith in
    numbered-behind 1 lines _ are (subst (λ k. AreNumbered k (bad_lines (length lines + 1) (marked lines marks))) same (bads-numbered (length lines + 1) (marked lines marks)))

-- ---- rows

-- what stands in a list with one more element
pushed : {X : Type 0} (xs : List X) (x y : X) (k : ℕ) → slice_get (xs ++ x ∷ []) k ≡ Some y → (slice_get xs k ≡ Some y) ⊎ ((k ≡ length xs) × (x ≡ y))
pushed [] x y zero e = inr (refl, cc)
pushed [] x y (suc k) e = absurd cc
pushed (z ∷ xs) x y zero e = inl e
pushed (z ∷ xs) x y (suc k) e = ⊎_elim (λ before. inl before) (λ here. inr (omega (arith, here.0), here.1)) (pushed xs x y k e)

rows-count : (lines : List Line) (inputs : InputsByCycle) (n : ℕ) → length (text.rows_behind lines inputs n) ≡ n
rows-count lines inputs zero = refl
rows-count lines inputs (suc n) = length-append (text.rows_behind lines inputs n) _ ∙ omega (arith, rows-count lines inputs n)

row-behind : (lines : List Line) (inputs : InputsByCycle) (n step : ℕ) (row : Row) → slice_get (text.rows_behind lines inputs n) step ≡ Some row → text.row_behind lines inputs step ≡ row
row-behind lines inputs zero step row e = absurd cc
row-behind lines inputs (suc n) step row e =
    ⊎_elim
    (λ before. row-behind lines inputs n step row before)
    (λ here. ap (text.row_behind lines inputs) (here.0 ∙ rows-count lines inputs n) ∙ here.1)
    (pushed (text.rows_behind lines inputs n) (text.row_behind lines inputs n) row step e)

-- a row of a text's run but the first is the row behind its step
pub row-of-run : (lines : List Line) (inputs : InputsByCycle) (n step : ℕ) (row : Row) → slice_get (text.run_of lines inputs n) (step + 1) ≡ Some row → text.row_behind lines inputs step ≡ row
row-of-run lines inputs n step row e =
    row-behind lines inputs n step row (subst (λ k. slice_get (text.run_of lines inputs n) k ≡ Some row) (add-one step) e)
