-- Cycles that are counted one by one, and then closed, are those of a batch.
use Rattle.std.proofs.Common.{◌≡◌, ℕ, suc, ◌+◌, ◌-◌, ◌<◌, ◌≤◌, ◌^◌, Bool, true, false, cond, List, [], ◌∷◌, ◌++◌, length, length-append, map, drop, get_or, count_by, refl, sym, ap, ap₂, ◌∙◌, subst, append-nil, append_assoc, arith}
use Rattle.std.specs.Int.{from_bool}
use Rattle.std.proofs.lemmas.List.{length-map}
use Rattle.std.specs.List.{fold, range_with_len}
use Rattle.std.proofs.lemmas.List.FromFn.{fill_by_all, get_or-map-range_with_len, length-map-range_with_len}
use Rattle.std.proofs.lemmas.List.Sums.{fold-append, sum_by-append}
use Rattle.kw_bits.specs.BitVector.{BitVector}
use Rattle.typed_core.specs.Widths.{HaveWidths}
use Rattle.one_rule.specs.declared.rows.Row.{Row}
use Rattle.stim_report.specs.Batches.{joined, last_cycle}
use Rattle.stim_report.specs.Shapes.{widths_of}
use Rattle.stim_report.specs.Summary.{Totals, fired_count, has_fired, last_values, totals_of}
use Rattle.stim_report.specs.Tallies.{KeepsTotals, closed, count_after, counted, counted_all, kept, totals_on}
use Rattle.stim_report.specs.inner.Tallies.{AddsFired}
use Rattle.stim_report.specs.declared.shape.NameWidth.{NameWidth}
use Rattle.stim_report.specs.declared.shape.Shape.{Shape}
use Rattle.stim_report.proofs.TotalsOfBatches.{count_joined, cycles_joined}

-- ---- a cycle more

counted_flag : (b : Bool) → from_bool b ≡ cond b 1 0
counted_flag true = refl
counted_flag false = refl

-- a row more
count_more : (rows : List Row) (row : Row) (rule : ℕ) → count_by (has_fired rule) (rows ++ row ∷ []) ≡ count_by (has_fired rule) rows + from_bool (has_fired rule row)
count_more rows row rule = sum_by-append _ rows (row ∷ []) ∙ omega (arith, counted_flag (has_fired rule row))

-- a row before
count_first : (row : Row) (rows : List Row) (rule : ℕ) → count_by (has_fired rule) (row ∷ rows) ≡ from_bool (has_fired rule row) + count_by (has_fired rule) rows
count_first row rows rule = sum_by-append _ (row ∷ []) rows ∙ omega (arith, counted_flag (has_fired rule row))

-- ---- what the calls do

pub counts_more : (t : Totals) (counts : List ℕ) (cycles : ℕ) (fired : List Bool) → AddsFired t.counts counts fired → cycles ≡ t.cycles + 1
    → record { registers = t.registers; rules = t.rules; cycles = cycles; counts = counts; last = t.last } ≡ counted t fired
unfolding counted
counts_more t counts cycles fired adds more =
    let all : counts ≡ map (count_after t.counts fired) (range_with_len 0 (length t.counts)) =
    fill_by_all (count_after t.counts fired) counts (length t.counts) 0 adds.count (λ k below. adds.added k below) in
    ap (λ (c : ℕ). record { registers = t.registers; rules = t.rules; cycles = c; counts = counts; last = t.last }) more
    ∙ ap (λ (cs : List ℕ). record { registers = t.registers; rules = t.rules; cycles = t.cycles + 1; counts = cs; last = t.last }) all

flag_most : (b : Bool) → from_bool b ≤ 1
flag_most true = omega arith
flag_most false = omega arith

pub keeps_counted : (registers : List NameWidth) (rules : List (List ℕ)) (cycles to : ℕ) (counts new : List ℕ) (last : List BitVector) (room : ℕ) (fired : List Bool)
    → KeepsTotals registers rules cycles counts last room → to ≡ cycles + 1 → AddsFired counts new fired → KeepsTotals registers rules to new last room
keeps_counted registers rules cycles to counts new last room fired keeps more adds = record {
  count_each = adds.count ∙ keeps.count_each;
  no_more = λ rule below.
      let within : rule < length counts = omega (arith, below, adds.count) in
      omega (arith, more, adds.added rule within, keeps.no_more rule within, flag_most (get_or fired rule false));
  values = keeps.values;
  few = keeps.few;
  room_for_all = keeps.room_for_all;
}

pub closes : (t : Totals) (last regs : List BitVector) → last ≡ regs
    → record { registers = t.registers; rules = t.rules; cycles = t.cycles; counts = t.counts; last = last } ≡ closed t regs
unfolding closed
closes t last regs is = ap (λ (vs : List BitVector). record { registers = t.registers; rules = t.rules; cycles = t.cycles; counts = t.counts; last = vs }) is

pub keeps_closed : (registers : List NameWidth) (rules : List (List ℕ)) (cycles : ℕ) (counts : List ℕ) (last regs : List BitVector) (room : ℕ)
    → KeepsTotals registers rules cycles counts last room → HaveWidths (widths_of registers) regs → KeepsTotals registers rules cycles counts regs room
keeps_closed registers rules cycles counts last regs room keeps have = record {
  count_each = keeps.count_each;
  no_more = keeps.no_more;
  values = λ number width below found. have.each number width found;
  few = omega (arith, have.count, length-map registers (λ (one : NameWidth). one.width));
  room_for_all = keeps.room_for_all;
}

-- ---- the law, cycle by cycle

-- the counts behind rows, with a row more
counts_next : (first : Row) (rows : List Row) (row : Row) (n : ℕ) (before : List ℕ) → before ≡ map (fired_count (first ∷ rows)) (range_with_len 0 n)
    → map (count_after before row.fired) (range_with_len 0 (length before)) ≡ map (fired_count (first ∷ (rows ++ row ∷ []))) (range_with_len 0 n)
counts_next first rows row n before is =
    let each = count_after before row.fired in
    let long : length before ≡ n = ap length is ∙ length-map-range_with_len (fired_count (first ∷ rows)) 0 n in
    fill_by_all (fired_count (first ∷ (rows ++ row ∷ []))) (map each (range_with_len 0 (length before))) n 0 (length-map-range_with_len each 0 (length before) ∙ long)
    (λ k below.
    let own : get_or before k 0 ≡ fired_count (first ∷ rows) k = ap (λ (cs : List ℕ). get_or cs k 0) is ∙ get_or-map-range_with_len (fired_count (first ∷ rows)) 0 n k k 0 below (omega arith) in
    omega (arith, get_or-map-range_with_len each 0 (length before) k k 0 (omega (arith, below, long)) (omega arith), own, count_more rows row k))

-- after rows, a cycle more is one row more, whatever registers are kept
pub counted_next : (shape : Shape) (rows : List Row) (row : Row) (regs : List BitVector) → 0 < length rows
    → counted (closed (totals_of shape rows) regs) row.fired ≡ closed (totals_of shape (rows ++ row ∷ [])) regs
unfolding totals_of counted closed
counted_next shape [] row regs some = absurd (omega (arith, some))
counted_next shape (first ∷ rows) row regs some =
    let n = length shape.rules in
    ap₂ (λ (c : ℕ) (cs : List ℕ). record { registers = shape.registers; rules = shape.rules; cycles = c; counts = cs; last = regs })
    (omega (arith, length-append rows (row ∷ []))) (counts_next first rows row n (map (fired_count (first ∷ rows)) (range_with_len 0 n)) refl)

-- the registers that were taken last are kept
pub closed_twice : (t : Totals) (first second : List BitVector) → closed (closed t first) second ≡ closed t second
unfolding closed
closed_twice t first second = refl

-- the registers of the last row are those that the totals show
pub closed_last : (shape : Shape) (rows : List Row) → closed (totals_of shape rows) (last_values rows) ≡ totals_of shape rows
unfolding totals_of closed
closed_last shape rows = refl

-- before all cycles the totals are those of no rows, but for the registers
pub opened : (shape : Shape) (row : Row) → closed (totals_of shape []) row.regs ≡ totals_of shape (row ∷ [])
unfolding totals_of closed
opened shape row = refl

-- the same with other registers
pub opened_with : (shape : Shape) (row : Row) (regs : List BitVector) → closed (totals_of shape []) regs ≡ closed (totals_of shape (row ∷ [])) regs
unfolding totals_of closed
opened_with shape row regs = refl

-- the rows behind some, counted one by one
pub counted_rows : (shape : Shape) (rows rest : List Row) (regs : List BitVector) → 0 < length rows
    → counted_all (closed (totals_of shape rows) regs) rest ≡ closed (totals_of shape (rows ++ rest)) regs
counted_rows shape rows [] regs some = ap (λ (rs : List Row). closed (totals_of shape rs) regs) (sym (append-nil rows))
counted_rows shape rows (row ∷ rest) regs some =
    ap (λ (t : Totals). counted_all t rest) (counted_next shape rows row regs some)
    ∙ counted_rows shape (rows ++ row ∷ []) rest regs (omega (arith, length-append rows (row ∷ [])))
    ∙ ap (λ (rs : List Row). closed (totals_of shape rs) regs) (append_assoc rows (row ∷ []) rest)

-- ---- the law, batch by batch

-- the totals after rows that are counted one by one
abbrev after : Totals → List Row → Totals
after t rows = record {
  registers = t.registers;
  rules = t.rules;
  cycles = t.cycles + length rows;
  counts = map (λ rule. get_or t.counts rule 0 + count_by (has_fired rule) rows) (range_with_len 0 (length t.counts));
  last = t.last;
}

all_counted : (t : Totals) (rows : List Row) → counted_all t rows ≡ after t rows
unfolding counted
all_counted t [] =
    let each : ℕ → ℕ = λ rule. get_or t.counts rule 0 + count_by (has_fired rule) [] in
    let cycles : t.cycles ≡ t.cycles + 0 = omega arith in
    let counts : t.counts ≡ map each (range_with_len 0 (length t.counts)) = fill_by_all each t.counts (length t.counts) 0 refl (λ k below. omega arith) in
    ap (λ (c : ℕ). record { registers = t.registers; rules = t.rules; cycles = c; counts = t.counts; last = t.last }) cycles
    ∙ ap (λ (cs : List ℕ). record { registers = t.registers; rules = t.rules; cycles = t.cycles + 0; counts = cs; last = t.last }) counts
all_counted t (row ∷ rows) =
    let n = length t.counts in
    let one = map (count_after t.counts row.fired) (range_with_len 0 n) in
    let long : length one ≡ n = length-map-range_with_len (count_after t.counts row.fired) 0 n in
    let more : ℕ → ℕ = λ rule. get_or one rule 0 + count_by (has_fired rule) rows in
    let each : ℕ → ℕ = λ rule. get_or t.counts rule 0 + count_by (has_fired rule) (row ∷ rows) in
    let counts : map more (range_with_len 0 (length one)) ≡ map each (range_with_len 0 n) =
    fill_by_all each (map more (range_with_len 0 (length one))) n 0 (length-map-range_with_len more 0 (length one) ∙ long)
    (λ k below. get_or-map-range_with_len more 0 (length one) k k 0 (omega (arith, below, long)) (omega arith)
    ∙ omega (arith, get_or-map-range_with_len (count_after t.counts row.fired) 0 n k k 0 below (omega arith), count_first row rows k)) in
    let cycles : t.cycles + 1 + length rows ≡ t.cycles + length (row ∷ rows) = omega arith in
    all_counted (counted t row.fired) rows
    ∙ ap₂ (λ (c : ℕ) (cs : List ℕ). record { registers = t.registers; rules = t.rules; cycles = c; counts = cs; last = t.last }) cycles counts

last_of_more : (values : List BitVector) (row : Row) (rest : List Row) → 0 < length rest → kept values (row ∷ rest) ≡ last_values rest
last_of_more values row [] some = absurd (omega (arith, some))
last_of_more [] row (next ∷ rest) some = refl
last_of_more (value ∷ values) row (next ∷ rest) some = refl

-- the rows behind the first of a batch, counted one by one and closed, are the batch
pub counts_closed : (t : Totals) (row : Row) (rest : List Row) → 0 < length rest → closed (counted_all t rest) (last_values rest) ≡ totals_on t (row ∷ rest)
unfolding closed totals_on
counts_closed t row rest some =
    let counts = map (λ rule. get_or t.counts rule 0 + count_by (has_fired rule) rest) (range_with_len 0 (length t.counts)) in
    let cycles : t.cycles + length rest ≡ t.cycles + (length (row ∷ rest) - 1) = omega arith in
    ap (λ (s : Totals). closed s (last_values rest)) (all_counted t rest)
    ∙ ap (λ (c : ℕ). record { registers = t.registers; rules = t.rules; cycles = c; counts = counts; last = last_values rest }) cycles
    ∙ ap (λ (vs : List BitVector). record { registers = t.registers; rules = t.rules; cycles = t.cycles + (length (row ∷ rest) - 1); counts = counts; last = vs }) (sym (last_of_more t.last row rest some))

closed_none : (shape : Shape) (row : Row) → totals_of shape [] ≡ closed (totals_of shape (row ∷ [])) []
unfolding totals_of closed
closed_none shape row = refl

-- and so the totals of the rows so far become those of these rows and the batch
pub counts_joined : (shape : Shape) (before : List Row) (t : Totals) (row : Row) (rest : List Row) → t ≡ totals_of shape before → 0 < length rest
    → closed (counted_all t rest) (last_values rest) ≡ totals_of shape (joined before (row ∷ rest))
counts_joined shape [] t row (next ∷ rest) is some =
    ap (λ (s : Totals). closed (counted_all s (next ∷ rest)) (last_values (next ∷ rest))) (is ∙ closed_none shape row)
    ∙ ap (λ (s : Totals). closed s (last_values (next ∷ rest))) (counted_rows shape (row ∷ []) (next ∷ rest) [] (omega arith))
    ∙ closed_twice (totals_of shape (row ∷ next ∷ rest)) [] (last_values (next ∷ rest)) ∙ closed_last shape (row ∷ next ∷ rest)
counts_joined shape before t row [] is some = absurd (omega (arith, some))
counts_joined shape (first ∷ before) t row (next ∷ rest) is some =
    let rows = first ∷ before in
    let more = next ∷ rest in
    let last : last_values more ≡ last_values (rows ++ more) = sym (fold-append _ [] rows more) in
    ap (λ (s : Totals). closed (counted_all s more) (last_values more)) (is ∙ sym (closed_last shape rows))
    ∙ ap (λ (s : Totals). closed s (last_values more)) (counted_rows shape rows more (last_values rows) (omega arith))
    ∙ closed_twice (totals_of shape (rows ++ more)) (last_values rows) (last_values more)
    ∙ ap (closed (totals_of shape (rows ++ more))) last ∙ closed_last shape (rows ++ more)
