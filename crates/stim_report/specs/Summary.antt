-- The summary of a run: how many cycles it had, in how many each rule fired, and the last value of each register. This
-- project's own text form.
use Rattle.std.specs.Prelude.{ℕ, Bool, false, List, [], ◌∷◌, ◌++◌, length, map, drop, count_by, slice_index_or, codes, decimal}
use Rattle.std.specs.List.{fold, range_with_len}
use Rattle.kw_bits.specs.BitVector.{BitVector}
use Rattle.one_rule.specs.declared.rows.Row.{Row}
use Rattle.stim_report.specs.Batches.{last_cycle}
use Rattle.stim_report.specs.Report.{value_text}
use Rattle.stim_report.specs.declared.shape.NameWidth.{NameWidth}
use Rattle.stim_report.specs.declared.shape.Shape.{Shape}

-- whether the rule of this number fired
abbrev pub has_fired : ℕ → Row → Bool
has_fired rule row = slice_index_or row.fired rule false

-- in how many cycles it did; the first row is of none
abbrev pub fired_count : List Row → ℕ → ℕ
fired_count rows rule = count_by (has_fired rule) (drop 1 rows)

-- the registers of the last row
abbrev pub last_values : List Row → List BitVector
last_values rows = fold (λ (values : List BitVector) (row : Row). row.regs) [] rows

-- what a summary shows
pub record Totals : Type 0 where
  pub registers : List NameWidth
  pub rules : List (List ℕ)
  pub cycles : ℕ
  pub counts : List ℕ
  pub last : List BitVector

-- the totals of rows
unfoldable pub totals_of : Shape → List Row → Totals
totals_of shape rows = record {
  registers = shape.registers;
  rules = shape.rules;
  cycles = last_cycle rows;
  counts = map (fired_count rows) (range_with_len 0 (length shape.rules));
  last = last_values rows;
}

-- a line for each rule
abbrev pub fired_line : List ℕ → ℕ → List ℕ
fired_line name count = codes "fired " ++ name ++ 32 ∷ decimal count ++ 10 ∷ []

-- a line for each rule, with how often it fired
abbrev pub fired_lines : List (List ℕ) → List ℕ → List ℕ
fired_lines [] counts = []
fired_lines (name ∷ names) [] = []
fired_lines (name ∷ names) (count ∷ counts) = fired_line name count ++ fired_lines names counts

-- a line for each register
abbrev pub value_line : NameWidth → BitVector → List ℕ
value_line register value = value_text register value ++ 10 ∷ []

-- a line for each register, with its last value
abbrev pub value_lines : List NameWidth → List BitVector → List ℕ
value_lines [] values = []
value_lines (register ∷ registers) [] = []
value_lines (register ∷ registers) (value ∷ values) = value_line register value ++ value_lines registers values

-- the text of totals
abbrev pub totals_text : Totals → List ℕ
totals_text totals = codes "cycles " ++ decimal totals.cycles ++ 10 ∷ [] ++ fired_lines totals.rules totals.counts ++ value_lines totals.registers totals.last

-- the summary of a run
abbrev pub summary : Shape → List Row → List ℕ
summary shape rows = totals_text (totals_of shape rows)
