-- The totals of the rows so far and of a batch that goes on from them.
use Rattle.std.proofs.Common.{◌≡◌, ℕ, zero, suc, ◌+◌, ◌-◌, ◌/◌, ◌<◌, ◌≤◌, List, [], ◌∷◌, length, length-append, map, replicate, drop, get_or, count_by, refl, sym, ap, ◌∙◌, append-nil, subst, arith}
use Rattle.std.specs.List.{AllByRecursion, fold, range_with_len}
use Rattle.std.proofs.lemmas.List.{length-drop, length-map, nil_from_length}
use Rattle.std.proofs.lemmas.List.FromFn.{fill_by_all, get_or-map-range_with_len, length-map-range_with_len}
use Rattle.std.proofs.lemmas.List.Sums.{count_by-le-length, fold-append, sum_by-append}
use Rattle.kw_bits.specs.BitVector.{BitVector}
use Rattle.kw_bits.specs.Reserved.{ReservedList}
use Rattle.one_rule.specs.declared.rows.Row.{Row}
use Rattle.typed_core.specs.Widths.{HaveWidths}
use Rattle.stim_report.specs.Batches.{joined, last_cycle}
use Rattle.stim_report.specs.inner.Pages.{HasRoom}
use Rattle.stim_report.specs.Report.{hex}
use Rattle.stim_report.specs.Shapes.{RowFits, RowsFit, widths_of}
use Rattle.stim_report.specs.Summary.{Totals, fired_count, has_fired, last_values, totals_of}
use Rattle.stim_report.proofs.Hex.{length_hex_digits}
use Rattle.stim_report.specs.Tallies.{AreOf, KeepsTotals, kept, totals_on}
use Rattle.stim_report.specs.inner.Tallies.{AddsCounts}
use Rattle.stim_report.specs.declared.shape.NameWidth.{NameWidth}
use Rattle.stim_report.specs.declared.shape.Shape.{Shape}

zeros_from : (a n : ℕ) → replicate n 0 ≡ map (fired_count []) (range_with_len a n)
zeros_from a zero = refl
zeros_from a (suc n) = ap (λ (counts : List ℕ). 0 ∷ counts) (zeros_from (a + 1) n)

-- no rule fired in no rows
pub zeros : (n : ℕ) → replicate n 0 ≡ map (fired_count []) (range_with_len 0 n)
zeros n = zeros_from 0 n

pub count_joined : (before batch : List Row) (rule : ℕ) → fired_count (joined before batch) rule ≡ fired_count before rule + count_by (has_fired rule) (drop 1 batch)
count_joined [] batch rule = omega arith
count_joined (row ∷ rows) batch rule = sum_by-append _ rows (drop 1 batch)

pub cycles_joined : (before batch : List Row) → 0 < length batch → last_cycle (joined before batch) ≡ last_cycle before + length (drop 1 batch)
cycles_joined before [] some = absurd (omega (arith, some))
cycles_joined [] (first ∷ batch) some = omega arith
cycles_joined (row ∷ rows) (first ∷ batch) some = omega (arith, length-append (row ∷ rows) batch)

values_fit : (registers : List NameWidth) (rules : List (List ℕ)) (values : List BitVector) (rows : List Row) → length values ≡ length registers → AllByRecursion (RowFits registers rules) rows
    → length (fold (λ (vs : List BitVector) (row : Row). row.regs) values rows) ≡ length registers
values_fit registers rules values [] count fit = count
values_fit registers rules values (row ∷ rows) count fit = values_fit registers rules row.regs rows (fit.0.values.count ∙ length-map registers (λ (one : NameWidth). one.width)) fit.1

pub length-last_values : (registers : List NameWidth) (rules : List (List ℕ)) (rows : List Row) → 0 < length rows → AllByRecursion (RowFits registers rules) rows → length (last_values rows) ≡ length registers
length-last_values registers rules [] some fit = absurd (omega (arith, some))
length-last_values registers rules (row ∷ rows) some fit = values_fit registers rules row.regs rows (fit.0.values.count ∙ length-map registers (λ (one : NameWidth). one.width)) fit.1

at_more : (values : List BitVector) (first second : Row) (batch : List Row) → kept values (first ∷ second ∷ batch) ≡ last_values (first ∷ second ∷ batch)
at_more [] first second batch = refl
at_more (value ∷ values) first second batch = refl

at_one : (values : List BitVector) (first : Row) → length values ≡ length (last_values (first ∷ [])) → kept values (first ∷ []) ≡ values
at_one [] first same = nil_from_length (last_values (first ∷ [])) (sym same)
at_one (value ∷ values) first same = refl

have_last : (registers : List NameWidth) (rules : List (List ℕ)) (values : List BitVector) (rows : List Row) → HaveWidths (widths_of registers) values → AllByRecursion (RowFits registers rules) rows
    → HaveWidths (widths_of registers) (fold (λ (vs : List BitVector) (row : Row). row.regs) values rows)
have_last registers rules values [] have fit = have
have_last registers rules values (row ∷ rows) have fit = have_last registers rules row.regs rows fit.0.values fit.1

have_last_values : (registers : List NameWidth) (rules : List (List ℕ)) (rows : List Row) → 0 < length rows → AllByRecursion (RowFits registers rules) rows → HaveWidths (widths_of registers) (last_values rows)
have_last_values registers rules [] some fit = absurd (omega (arith, some))
have_last_values registers rules (row ∷ rows) some fit = have_last registers rules row.regs rows fit.0.values fit.1

kept_are : (registers : List NameWidth) (rules : List (List ℕ)) (last : List BitVector) (rows : List Row) → AreOf registers last → 0 < length rows → AllByRecursion (RowFits registers rules) rows → AreOf registers (kept last rows)
kept_are registers rules last [] are some fit = absurd (omega (arith, some))
kept_are registers rules [] (row ∷ rows) are some fit = λ number width below found. (have_last_values registers rules (row ∷ rows) some fit).each number width found
kept_are registers rules (value ∷ values) (row ∷ []) are some fit = are
kept_are registers rules (value ∷ values) (row ∷ next ∷ rows) are some fit = λ number width below found. (have_last_values registers rules (row ∷ next ∷ rows) some fit).each number width found

kept_few : (registers : List NameWidth) (rules : List (List ℕ)) (last : List BitVector) (rows : List Row) → length last ≤ length registers → 0 < length rows → AllByRecursion (RowFits registers rules) rows → length (kept last rows) ≤ length registers
kept_few registers rules last [] few some fit = absurd (omega (arith, some))
kept_few registers rules [] (row ∷ rows) few some fit = omega (arith, length-last_values registers rules (row ∷ rows) some fit)
kept_few registers rules (value ∷ values) (row ∷ []) few some fit = few
kept_few registers rules (value ∷ values) (row ∷ next ∷ rows) few some fit = omega (arith, length-last_values registers rules (row ∷ next ∷ rows) some fit)

-- the values that are kept are those of the last row of all
pub kept_joined : (registers : List NameWidth) (rules : List (List ℕ)) (before batch : List Row) → 0 < length batch → AllByRecursion (RowFits registers rules) before → AllByRecursion (RowFits registers rules) batch
    → kept (last_values before) batch ≡ last_values (joined before batch)
kept_joined registers rules before [] some fit fits = absurd (omega (arith, some))
kept_joined registers rules [] (first ∷ batch) some fit fits = refl
kept_joined registers rules (row ∷ rows) (first ∷ second ∷ batch) some fit fits =
    at_more (last_values (row ∷ rows)) first second batch ∙ sym (fold-append _ [] (row ∷ rows) (second ∷ batch))
kept_joined registers rules (row ∷ rows) (first ∷ []) some fit fits =
    at_one (last_values (row ∷ rows)) first
    (length-last_values registers rules (row ∷ rows) (omega arith) fit ∙ sym (length-last_values registers rules (first ∷ []) (omega arith) fits))
    ∙ sym (ap last_values (append-nil (row ∷ rows)))

pub keeps_totals : (registers : List NameWidth) (rules : List (List ℕ)) (cycles : ℕ) (counts new : List ℕ) (last : List BitVector) (room : ℕ) (rows : List Row) (from to : ℕ)
    → KeepsTotals registers rules cycles counts last room → from ≡ cycles → to ≡ from + (length rows - 1) → AddsCounts counts new rows → 0 < length rows → AllByRecursion (RowFits registers rules) rows
    → KeepsTotals registers rules to new (kept last rows) room
keeps_totals registers rules cycles counts new last room rows from to keeps goes to_is adds some fit = record {
  count_each = adds.count ∙ keeps.count_each;
  no_more = λ rule below.
      omega (arith, goes, to_is, adds.added rule (omega (arith, adds.count, below)), keeps.no_more rule (omega (arith, adds.count, below)), count_by-le-length (has_fired rule) (drop 1 rows), length-drop 1 rows);
  values = kept_are registers rules last rows keeps.values some fit;
  few = kept_few registers rules last rows keeps.few some fit;
  room_for_all = keeps.room_for_all;
}

totals_more : (shape : Shape) (before batch : List Row) (counts : List ℕ) (cycles : ℕ) → RowsFit shape before → RowsFit shape batch → 0 < length batch
    → AddsCounts (totals_of shape before).counts counts batch → cycles ≡ (totals_of shape before).cycles + (length batch - 1)
    → record { registers = (totals_of shape before).registers; rules = (totals_of shape before).rules; cycles = cycles; counts = counts; last = kept (totals_of shape before).last batch } ≡ totals_of shape (joined before batch)
unfolding totals_of
totals_more shape before batch counts cycles fit fits some adds more =
    let n = length shape.rules in
    let all : counts ≡ map (fired_count (joined before batch)) (range_with_len 0 n) =
    fill_by_all (fired_count (joined before batch)) counts n 0 (adds.count ∙ length-map-range_with_len (fired_count before) 0 n)
    (λ k below. adds.added k (omega (arith, below, length-map-range_with_len (fired_count before) 0 n))
    ∙ ap (λ (c : ℕ). c + fired_count batch k) (get_or-map-range_with_len (fired_count before) 0 n k k 0 below (omega arith)) ∙ sym (count_joined before batch k)) in
    let end : cycles ≡ last_cycle (joined before batch) = omega (arith, more, cycles_joined before batch some, length-drop 1 batch) in
    ap (λ (c : ℕ). record { registers = shape.registers; rules = shape.rules; cycles = c; counts = counts; last = kept (last_values before) batch }) end
    ∙ ap (λ (cs : List ℕ). record { registers = shape.registers; rules = shape.rules; cycles = last_cycle (joined before batch); counts = cs; last = kept (last_values before) batch }) all
    ∙ ap (λ (vs : List BitVector). record { registers = shape.registers; rules = shape.rules; cycles = last_cycle (joined before batch); counts = map (fired_count (joined before batch)) (range_with_len 0 n); last = vs })
    (kept_joined shape.registers shape.rules before batch some fit fits)

-- the totals of all rows
pub totals_joined : (shape : Shape) (before batch : List Row) (t : Totals) (counts : List ℕ) (cycles : ℕ) → t ≡ totals_of shape before → RowsFit shape before → RowsFit shape batch → 0 < length batch
    → AddsCounts t.counts counts batch → cycles ≡ t.cycles + (length batch - 1)
    → record { registers = t.registers; rules = t.rules; cycles = cycles; counts = counts; last = kept t.last batch } ≡ totals_of shape (joined before batch)
unfolding totals_of
totals_joined shape before batch t counts cycles is fit fits some adds more =
    let P : Totals → Type 0 = λ s. AddsCounts s.counts counts batch → cycles ≡ s.cycles + (length batch - 1)
    → record { registers = s.registers; rules = s.rules; cycles = cycles; counts = counts; last = kept s.last batch } ≡ totals_of shape (joined before batch) in
    subst P (sym is) (totals_more shape before batch counts cycles fit fits some) adds more

-- the totals, from those before
pub totals_added : (t : Totals) (batch : List Row) (counts : List ℕ) (cycles : ℕ) → AddsCounts t.counts counts batch → cycles ≡ t.cycles + (length batch - 1)
    → record { registers = t.registers; rules = t.rules; cycles = cycles; counts = counts; last = kept t.last batch } ≡ totals_on t batch
unfolding totals_on
totals_added t batch counts cycles adds more =
    let each : ℕ → ℕ = λ rule. get_or t.counts rule 0 + fired_count batch rule in
    let all : counts ≡ map each (range_with_len 0 (length t.counts)) = fill_by_all each counts (length t.counts) 0 adds.count (λ k below. adds.added k (omega (arith, below))) in
    ap (λ (c : ℕ). record { registers = t.registers; rules = t.rules; cycles = c; counts = counts; last = kept t.last batch }) more
    ∙ ap (λ (cs : List ℕ). record { registers = t.registers; rules = t.rules; cycles = t.cycles + (length batch - 1); counts = cs; last = kept t.last batch }) all

at_end : (values : List BitVector) (rows : List Row) (d : Row) → 0 < length rows → fold (λ (vs : List BitVector) (row : Row). row.regs) values rows ≡ (get_or rows (length rows - 1) d).regs
at_end values [] d some = absurd (omega (arith, some))
at_end values (row ∷ []) d some = refl
at_end values (row ∷ next ∷ rows) d some =
    let e : length (row ∷ next ∷ rows) - 1 ≡ suc (length (next ∷ rows) - 1) = omega arith in
    at_end row.regs (next ∷ rows) d (omega arith) ∙ ap (λ (n : ℕ). (get_or (row ∷ next ∷ rows) n d).regs) (sym e)

-- the values of the last row
pub last_values_at_end : (rows : List Row) (d : Row) → 0 < length rows → last_values rows ≡ (get_or rows (length rows - 1) d).regs
last_values_at_end rows d some = at_end [] rows d some

-- the totals of no rows
pub fits_none : (shape : Shape) (t : Totals) (rows : List Row) → t ≡ totals_of shape [] → RowsFit shape rows → AllByRecursion (RowFits t.registers t.rules) rows
unfolding totals_of
fits_none shape t rows is fit = let P : Totals → Type 0 = λ s. AllByRecursion (RowFits s.registers s.rules) rows in subst P (sym is) fit

pub begins_at_zero : (shape : Shape) (t : Totals) → t ≡ totals_of shape [] → 0 ≡ t.cycles
unfolding totals_of
begins_at_zero shape t is = let P : Totals → Type 0 = λ s. 0 ≡ s.cycles in subst P (sym is) refl

pub fits_before : (shape : Shape) (before : List Row) (t : Totals) (rows : List Row) → t ≡ totals_of shape before → AllByRecursion (RowFits t.registers t.rules) rows → RowsFit shape rows
unfolding totals_of
fits_before shape before t rows is fit = let P : Totals → Type 0 = λ s. AllByRecursion (RowFits s.registers s.rules) rows in subst P is fit

-- a page with a place for each digit
pub hex_has_room : (page : ReservedList ℕ) (value : BitVector) (places : ℕ) → page ≡ record { items = []; capacity = places } → (value.width + 3) / 4 ≤ places → HasRoom page (hex value.width value.number)
hex_has_room page value places is enough =
    let P : ReservedList ℕ → Type 0 = λ p. HasRoom p (hex value.width value.number) in
    subst P (sym is) (record { room = omega (arith, length_hex_digits ((value.width + 3) / 4) value.number, enough) })

pub new_totals : (shape : Shape) (registers : List NameWidth) (rules : List (List ℕ)) (counts : List ℕ) (last : List BitVector) → registers ≡ shape.registers → rules ≡ shape.rules → counts ≡ replicate (length shape.rules) 0 → last ≡ []
    → record { registers = registers; rules = rules; cycles = 0; counts = counts; last = last } ≡ totals_of shape []
unfolding totals_of
new_totals shape registers rules counts last r n c l =
    ap (λ (rs : List NameWidth). record { registers = rs; rules = rules; cycles = 0; counts = counts; last = last }) r
    ∙ ap (λ (ns : List (List ℕ)). record { registers = shape.registers; rules = ns; cycles = 0; counts = counts; last = last }) n
    ∙ ap (λ (cs : List ℕ). record { registers = shape.registers; rules = shape.rules; cycles = 0; counts = cs; last = last }) (c ∙ zeros (length shape.rules))
    ∙ ap (λ (vs : List BitVector). record { registers = shape.registers; rules = shape.rules; cycles = 0; counts = map (fired_count []) (range_with_len 0 (length shape.rules)); last = vs }) l
