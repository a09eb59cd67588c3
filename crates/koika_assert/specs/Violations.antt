-- Violations of assertions: a rule may be marked, and a cycle in which a marked rule fires violates its assertion. The
-- text of violations is this project's own.
use Rattle.std.specs.Prelude.{ℕ, ◌+◌, Bool, false, if◌then◌else◌, Option, None, Some, List, [], ◌∷◌, ◌++◌, map, length, drop, slice_index_or, codes, decimal}
use Rattle.std.specs.List.{fold, position_from, zip}
use Rattle.std.specs.Option.{option_or}
use Rattle.one_rule.specs.declared.rows.Row.{Row}
use Rattle.stim_report.specs.Batches.{last_cycle}
use Rattle.stim_report.specs.Summary.{has_fired}

-- the first cycle that a marked rule fired in; the first row is of none
abbrev pub first_violated : List Row → ℕ → Option ℕ
first_violated rows mark = position_from (has_fired mark) 1 (drop 1 rows)

-- what is known of marks: their names, their rules, how many cycles there were, and the first that violated each
pub record Watched : Type 0 where
  pub names : List (List ℕ)
  pub marks : List ℕ
  pub cycles : ℕ
  pub firsts : List (Option ℕ)

-- what rows say of marks
unfoldable pub watched : List (List ℕ) → List ℕ → List Row → Watched
watched names marks rows = record { names = names; marks = marks; cycles = last_cycle rows; firsts = map (first_violated rows) marks }

-- the first cycle of a mark, and where there is none yet, the first that its rule fired in, by rows of which the first is
-- that of this cycle
abbrev pub first_from : ℕ → List Row → Option ℕ × ℕ → Option ℕ
first_from cycle rows mark = option_or mark.0 (position_from (has_fired mark.1) cycle rows)

-- what is known after a batch too, whose first row is the one that the rows so far end with
unfoldable pub watched_on : Watched → List Row → Watched
watched_on known batch =
    record {
      names = known.names;
      marks = known.marks;
      cycles = known.cycles + length (drop 1 batch);
      firsts = map (first_from (known.cycles + 1) (drop 1 batch)) (zip known.firsts known.marks);
    }

-- the first cycle of a mark, and where there is none yet, this one if its rule fired in it
abbrev pub first_after : ℕ → List Bool → Option ℕ × ℕ → Option ℕ
first_after cycle fired mark = option_or mark.0 (if slice_index_or fired mark.1 false then Some cycle else None)

-- what is known after a cycle more, in which the rules of these flags fired
unfoldable pub counted : Watched → List Bool → Watched
counted known fired =
    record {
      names = known.names;
      marks = known.marks;
      cycles = known.cycles + 1;
      firsts = map (first_after (known.cycles + 1) fired) (zip known.firsts known.marks);
    }

-- and after the cycles of rows, each counted by its flags
abbrev pub counted_all : Watched → List Row → Watched
counted_all known rows = fold (λ (k : Watched) (row : Row). counted k row.fired) known rows

-- the line of a mark that was violated
abbrev pub violated_line : List ℕ → Option ℕ → List ℕ
violated_line name None = []
violated_line name (Some cycle) = codes "violated " ++ name ++ codes " at " ++ decimal cycle ++ 10 ∷ []

-- the lines of marks, in their order
abbrev pub violated_lines : List (List ℕ) → List (Option ℕ) → List ℕ
violated_lines [] firsts = []
violated_lines (name ∷ names) [] = []
violated_lines (name ∷ names) (first ∷ firsts) = violated_line name first ++ violated_lines names firsts

-- the text of what is known
abbrev pub watched_text : Watched → List ℕ
watched_text known = violated_lines known.names known.firsts

-- what comes after the report, or the summary, of a run with these marks
abbrev pub violations : List (List ℕ) → List ℕ → List Row → List ℕ
violations names marks rows = watched_text (watched names marks rows)
