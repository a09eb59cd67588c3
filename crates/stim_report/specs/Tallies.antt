-- How a tally keeps totals: a count for each rule, none above the number of cycles, and a value of its width for each
-- register, or none yet.
use Rattle.std.specs.Prelude.{◌≡◌, ℕ, Bool, false, ◌+◌, ◌-◌, ◌≤◌, ◌<◌, List, [], ◌∷◌, length, map, slice_get, slice_index, slice_index_or, Some}
use Rattle.std.specs.Int.{from_bool}
use Rattle.std.specs.List.{fold, range_with_len}
use Rattle.kw_bits.specs.BitVector.{BitVector}
use Rattle.kw_bits.specs.Laws.{HasWidth}
use Rattle.typed_core.specs.Evaluation.{unit}
use Rattle.one_rule.specs.declared.rows.Row.{Row}
use Rattle.stim_report.specs.Shapes.{widths_of}
use Rattle.stim_report.specs.Summary.{Totals, fired_count, last_values}
use Rattle.stim_report.specs.declared.shape.NameWidth.{NameWidth}

-- the values are of the first registers
abbrev pub AreOf : List NameWidth → List BitVector → Type 0
AreOf registers values = (number width : ℕ) → number < length values → slice_get (widths_of registers) number ≡ Some width → HasWidth (slice_index_or values number unit) width

pub record KeepsTotals (registers : List NameWidth) (rules : List (List ℕ)) (cycles : ℕ) (counts : List ℕ) (last : List BitVector) (room : ℕ) : Type 0 where
  pub count_each : length counts ≡ length rules
  pub no_more : (rule : ℕ) → rule < length counts → slice_index counts rule ≤ cycles
  pub values : AreOf registers last
  pub few : length last ≤ length registers
  pub room_for_all : length registers ≤ room

-- the values that are kept when rows come: those of the last row, unless it is the one that the values are of
abbrev pub kept : List BitVector → List Row → List BitVector
kept [] rows = last_values rows
kept (value ∷ values) [] = value ∷ values
kept (value ∷ values) (row ∷ []) = value ∷ values
kept (value ∷ values) (row ∷ next ∷ rows) = last_values (row ∷ next ∷ rows)

-- the totals after a batch too, whose first row is the one that the rows so far end with
unfoldable pub totals_on : Totals → List Row → Totals
totals_on totals batch = record {
  registers = totals.registers;
  rules = totals.rules;
  cycles = totals.cycles + (length batch - 1);
  counts = map (λ rule. slice_index totals.counts rule + fired_count batch rule) (range_with_len 0 (length totals.counts));
  last = kept totals.last batch;
}

-- the count of a rule after a cycle more, in which the rules of these flags fired
abbrev pub count_after : List ℕ → List Bool → ℕ → ℕ
count_after counts fired rule = slice_index counts rule + from_bool (slice_index_or fired rule false)

-- the totals after a cycle more, in which the rules of these flags fired; the registers stay those of before
unfoldable pub counted : Totals → List Bool → Totals
counted totals fired = record {
  registers = totals.registers;
  rules = totals.rules;
  cycles = totals.cycles + 1;
  counts = map (count_after totals.counts fired) (range_with_len 0 (length totals.counts));
  last = totals.last;
}

-- the totals after the cycles of rows, each counted by its flags
abbrev pub counted_all : Totals → List Row → Totals
counted_all totals rows = fold (λ (t : Totals) (row : Row). counted t row.fired) totals rows

-- the totals with these last registers
unfoldable pub closed : Totals → List BitVector → Totals
closed totals regs = record {
  registers = totals.registers;
  rules = totals.rules;
  cycles = totals.cycles;
  counts = totals.counts;
  last = regs;
}
