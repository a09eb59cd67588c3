-- What is told of the rows of a text that have a flag more for each bad line: what is shown of the text's rows, and the
-- violations of its bad lines.
use Rattle.std.proofs.Common.{◌≡◌, ℕ, zero, suc, ◌+◌, ◌==◌, Bool, false, cond, List, [], ◌∷◌, ◌++◌, length, map, take, get_or, Option, Some, refl, sym, ap, ap₂, ◌∙◌, append_assoc, arith}
use Rattle.std.proofs.lemmas.List.{get_or-append-add, length-map}
use Rattle.std.proofs.lemmas.Simd.{map-map}
use Rattle.std.proofs.Math.Seq.{take-append_seam}
use Rattle.std.specs.List.{flat_map, position_from, range_with_len}
use Rattle.std.specs.Prelude.{slice_index_or}
use Rattle.one_rule.specs.Run.{InputsByCycle}
use Rattle.one_rule.specs.declared.rows.Row.{Row}
use Rattle.btor2_model.specs.Rules.{is_bad}
use Rattle.btor2_model.specs.Run.{first_row, flag_ids, lines_by_rule, row_behind, rows_behind, run_of, values_in}
use Rattle.btor2_text.specs.declared.line.Line.{Line}
use Rattle.btor2_net.specs.Translations.{line_name}
use Rattle.koika_assert.specs.Bads.{is_violated}
use Rattle.koika_assert.specs.Violations as marked
use Rattle.koika_assert.specs.Violations.{first_violated, violated_line, violated_lines, watched}
use Rattle.stim_report.specs.Shapes.{restricted}
use Rattle.stim_report.specs.Summary.{has_fired}
use Rattle.stim_report.specs.declared.shape.Shape.{Shape}
use Rattle.stim_report.proofs.FlagsBeyond.{report-same, summary-same}
use Rattle.koika_top.specs.Btorsim.{violations}
use Rattle.koika_top.specs.Btorsim as text
use Rattle.koika_top.specs.Sim.{rows_text}
use Rattle.koika_top.specs.inner.CircuitRuns.{first_with_bads, row_with_bads, run_with_bads}
use Rattle.koika_top.specs.declared.shown.Shown.{Shown}
use Rattle.koika_top.specs.declared.shown.Shown.TheVariants.{Report, Summary}
use Rattle.koika_top.proofs.BesideRuns.{flags-each, rows-one-by-one, same-images}
use Rattle.koika_top.proofs.MachineRows.{drop-none}

-- the first that passes among images is the first whose image passes
position_from-map : {X Y : Type 0} (f : X → Y) (p : Y → Bool) (q : X → Bool) → ((x : X) → p (f x) ≡ q x) → (from : ℕ) (xs : List X) → position_from p from (map f xs) ≡ position_from q from xs
position_from-map f p q same from [] = refl
position_from-map f p q same from (x ∷ xs) = ap₂ (λ (b : Bool) (rest : Option ℕ). cond b (Some from) rest) (same x) (position_from-map f p q same (from + 1) xs)

at-seam : (v : Line → Bool) (front back : List Line) (bad : Line) → slice_index_or (map v (front ++ bad ∷ back)) (length front) false ≡ v bad
at-seam v [] back bad = refl
at-seam v (line ∷ front) back bad = at-seam v front back bad

module _ (bads : List Line) (is : Line → ℕ → Bool) (row : ℕ → Row) (before : ℕ → List Bool) (count : ℕ) (counts : (step : ℕ) → length (before step) ≡ count)
    (flags : (step : ℕ) → (row step).fired ≡ before step ++ map (λ bad. is bad step) bads) (n : ℕ)
  where
    -- the flag of a bad line with others before it
    flag-of : (front back : List Line) (bad : Line) → front ++ bad ∷ back ≡ bads → (step : ℕ) → has_fired (count + length front) (row step) ≡ is bad step
    flag-of front back bad all step =
        ap (λ (fired : List Bool). slice_index_or fired (count + length front) false) (flags step)
        ∙ ap (λ (k : ℕ). slice_index_or (before step ++ map (λ bad. is bad step) bads) (k + length front) false) (sym (counts step))
        ∙ get_or-append-add (before step) (map (λ bad. is bad step) bads) (length front) false
        ∙ ap (λ (lines : List Line). slice_index_or (map (λ bad. is bad step) lines) (length front) false) (sym all)
        ∙ at-seam (λ bad. is bad step) front back bad

    length-one-more : (front : List Line) (bad : Line) → length (front ++ bad ∷ []) ≡ length front + 1
    length-one-more [] bad = refl
    length-one-more (line ∷ front) bad = omega (arith, length-one-more front bad)

    -- the lines of those behind others
    lines-behind : (front back : List Line) → front ++ back ≡ bads → (from : ℕ) → from ≡ count + length front
        → violated_lines (map line_name back) (map (λ mark. position_from (has_fired mark) 1 (map row (range_with_len 0 n))) (range_with_len from (length back)))
        ≡ flat_map (λ bad. violated_line (line_name bad) (position_from (is bad) 1 (range_with_len 0 n))) back
    lines-behind front [] all from e = refl
    lines-behind front (bad ∷ back) all from e =
        let first =
        ap (λ (mark : ℕ). position_from (has_fired mark) 1 (map row (range_with_len 0 n))) e
        ∙ position_from-map row (has_fired (count + length front)) (is bad) (flag-of front back bad all) 1 (range_with_len 0 n) in
        let next : from + 1 ≡ count + length (front ++ bad ∷ []) = omega (arith, e, length-one-more front bad) in
        let rest = lines-behind (front ++ bad ∷ []) back (append_assoc front (bad ∷ []) back ∙ all) (from + 1) next in
        ap₂ (λ (one : Option ℕ) (others : List ℕ). violated_line (line_name bad) one ++ others) first rest

module _ (lines : List Line) (inputs : InputsByCycle) (n : ℕ) where
  abbrev rules : ℕ
  rules = length (text.shape_of lines).rules

  flags-count : {Y : Type 0} (f : ℕ → Y) → length (map f (flag_ids lines)) ≡ rules
  flags-count f = length-map (flag_ids lines) f ∙ flags-each lines

  -- further flags are beyond the rules
  beyond : (fired more : List Bool) → length fired ≡ rules → take rules (fired ++ more) ≡ take rules fired
  beyond fired more count =
      ap (λ (k : ℕ). take k (fired ++ more)) (sym count) ∙ take-append_seam fired more
      ∙ sym (ap (λ (k : ℕ). take k fired) (sym count) ∙ take-all fired)
    where
      take-all : (xs : List Bool) → take (length xs) xs ≡ xs
      take-all [] = refl
      take-all (x ∷ xs) = ap (λ (l : List Bool). x ∷ l) (take-all xs)

  restricted-row : (row : Row) (more : List Bool) → length row.fired ≡ rules → restricted rules (record row { fired = row.fired ++ more }) ≡ restricted rules row
  restricted-row row more count = ap (λ (fired : List Bool). record row { fired = fired }) (beyond row.fired more count)

  restricted-step : (step : ℕ) → restricted rules (row_with_bads lines inputs step) ≡ restricted rules (row_behind lines inputs step)
  restricted-step step =
      restricted-row (row_behind lines inputs step) (map (is_violated lines inputs step) (lines_by_rule is_bad lines)) (flags-count (λ (id : ℕ). (values_in lines inputs step id).number == 1))

  -- without them the rows are those of the text
  restricted-run : map (restricted rules) (run_with_bads lines inputs n) ≡ map (restricted rules) (run_of lines inputs n)
  restricted-run =
      ap₂ (λ (row : Row) (rows : List Row). row ∷ rows)
      (restricted-row (first_row lines) (map (λ (bad : Line). false) (lines_by_rule is_bad lines)) (flags-count (λ (id : ℕ). false)))
      (map-map (restricted rules) (row_with_bads lines inputs) (range_with_len 0 n)
      ∙ same-images (λ (step : ℕ). restricted rules (row_with_bads lines inputs step)) (λ (step : ℕ). restricted rules (row_behind lines inputs step)) restricted-step (range_with_len 0 n)
      ∙ sym (map-map (restricted rules) (row_behind lines inputs) (range_with_len 0 n))
      ∙ ap (map (restricted rules)) (sym (rows-one-by-one lines inputs n)))

  -- so what is shown of them is what is shown of the text
  rows-told : (shown : Shown) → rows_text shown (text.shape_of lines) (run_with_bads lines inputs n) ≡ rows_text shown (text.shape_of lines) (run_of lines inputs n)
  rows-told Report = report-same (text.shape_of lines) (run_with_bads lines inputs n) (run_of lines inputs n) restricted-run
  rows-told Summary = summary-same (text.shape_of lines) (run_with_bads lines inputs n) (run_of lines inputs n) restricted-run

  -- and the flags beyond the rules are the violations of its bad lines
  violations-told : (names : List (List ℕ)) → names ≡ map line_name (lines_by_rule is_bad lines)
      → marked.violations names (range_with_len rules (length names)) (run_with_bads lines inputs n) ≡ violations lines inputs n
  unfolding watched
  violations-told names named =
      let bads : List Line = lines_by_rule is_bad lines in
      let row : ℕ → Row = row_with_bads lines inputs in
      let count : length (map line_name bads) ≡ length bads = length-map bads line_name in
      let none : rules ≡ rules + 0 = omega arith in
      ap (λ (rows : List Row). violated_lines names (map (λ mark. position_from (has_fired mark) 1 rows) (range_with_len rules (length names)))) (drop-none (map row (range_with_len 0 n)))
      ∙ ap (λ (ns : List (List ℕ)). violated_lines ns (map (λ mark. position_from (has_fired mark) 1 (map row (range_with_len 0 n))) (range_with_len rules (length ns)))) named
      ∙ ap (λ (k : ℕ). violated_lines (map line_name bads) (map (λ mark. position_from (has_fired mark) 1 (map row (range_with_len 0 n))) (range_with_len rules k))) count
      ∙ lines-behind bads (λ bad step. is_violated lines inputs step bad) row (λ step. (row_behind lines inputs step).fired) rules (λ step. flags-count (λ (id : ℕ). (values_in lines inputs step id).number == 1)) (λ step. refl) n
      [] bads refl rules none

  -- both are what is shown of the text's run
  pub all-shown : (shown : Shown) (shape : Shape) (names : List (List ℕ)) (rows : List Row) → shape ≡ text.shape_of lines → names ≡ map line_name (lines_by_rule is_bad lines) → rows ≡ run_with_bads lines inputs n
      → rows_text shown shape rows ++ marked.violations names (range_with_len (length shape.rules) (length names)) rows ≡ text.shown_run shown lines inputs n
  all-shown shown shape names rows is named are =
      (λ i. rows_text shown (is i) (are i) ++ marked.violations names (range_with_len (length (is i).rules) (length names)) (are i))
      ∙ ap₂ (λ (front back : List ℕ). front ++ back) (rows-told shown) (violations-told names named)
