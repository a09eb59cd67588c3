-- No report and no summary shows the flags beyond the rules.
use Rattle.std.proofs.Common.{◌≡◌, ℕ, zero, suc, ◌+◌, ◌-◌, ◌<◌, ◌≤◌, Bool, true, false, cond, List, [], ◌∷◌, ◌++◌, length, map, take, drop, get_or, count_by, refl, sym, ap, ap₂, ◌∙◌, arith, decimal}
use Rattle.std.proofs.lemmas.List.{length-map}
use Rattle.std.specs.List.{fold, range_with_len}
use Rattle.kw_bits.specs.BitVector.{BitVector}
use Rattle.one_rule.specs.declared.rows.Row.{Row}
use Rattle.stim_report.specs.Batches.{last_cycle}
use Rattle.stim_report.specs.Report.{fired_names, line_of, lines_from, listed, registers_text, report, report_part}
use Rattle.stim_report.specs.Shapes.{restricted}
use Rattle.stim_report.specs.Summary.{Totals, fired_count, has_fired, last_values, summary, totals_of, totals_text}
use Rattle.stim_report.specs.declared.shape.Shape.{Shape}

-- ---- reports

names_restricted : (names : List (List ℕ)) (flags : List Bool) → fired_names names (take (length names) flags) ≡ fired_names names flags
names_restricted [] flags = refl
names_restricted (name ∷ names) [] = refl
names_restricted (name ∷ names) (true ∷ flags) = ap (λ (ns : List (List ℕ)). name ∷ ns) (names_restricted names flags)
names_restricted (name ∷ names) (false ∷ flags) = names_restricted names flags

line_restricted : (shape : Shape) (cycle : ℕ) (row : Row) → line_of shape cycle (restricted (length shape.rules) row) ≡ line_of shape cycle row
line_restricted shape cycle row =
    ap (λ (names : List (List ℕ)). 64 ∷ decimal cycle ++ 32 ∷ listed names ++ registers_text shape.registers row.regs ++ 10 ∷ []) (names_restricted shape.rules row.fired)

lines_restricted : (shape : Shape) (cycle : ℕ) (rows : List Row) → lines_from shape cycle (map (restricted (length shape.rules)) rows) ≡ lines_from shape cycle rows
lines_restricted shape cycle [] = refl
lines_restricted shape cycle (row ∷ rows) = ap₂ (λ (line lines : List ℕ). line ++ lines) (line_restricted shape cycle row) (lines_restricted shape (cycle + 1) rows)

-- the report of rows is that of the rows without the flags beyond the rules
pub report-restricted : (shape : Shape) (rows : List Row) → report shape (map (restricted (length shape.rules)) rows) ≡ report shape rows
report-restricted shape rows = lines_restricted shape 0 rows

-- the same of a part of a run
pub report_part-restricted : (shape : Shape) (rows : List Row) (before : ℕ) → report_part shape (map (restricted (length shape.rules)) rows) before ≡ report_part shape rows before
report_part-restricted shape rows zero = lines_restricted shape 0 rows
report_part-restricted shape [] (suc before) = refl
report_part-restricted shape (row ∷ rows) (suc before) = lines_restricted shape (suc before + 1) rows

-- rows that are equal but for the flags beyond the rules have the same report
pub report-same : (shape : Shape) (xs ys : List Row) → map (restricted (length shape.rules)) xs ≡ map (restricted (length shape.rules)) ys → report shape xs ≡ report shape ys
report-same shape xs ys same = sym (report-restricted shape xs) ∙ ap (report shape) same ∙ report-restricted shape ys

pub report_part-same : (shape : Shape) (xs ys : List Row) (before : ℕ) → map (restricted (length shape.rules)) xs ≡ map (restricted (length shape.rules)) ys → report_part shape xs before ≡ report_part shape ys before
report_part-same shape xs ys before same =
    sym (report_part-restricted shape xs before) ∙ ap (λ (rows : List Row). report_part shape rows before) same ∙ report_part-restricted shape ys before

-- ---- totals

get_or-take : {X : Type 0} (n i : ℕ) (xs : List X) (d : X) → i < n → get_or (take n xs) i d ≡ get_or xs i d
get_or-take zero i xs d below = absurd (omega (arith, below))
get_or-take (suc n) i [] d below = refl
get_or-take (suc n) zero (x ∷ xs) d below = refl
get_or-take (suc n) (suc i) (x ∷ xs) d below = get_or-take n i xs d (omega (arith, below))

-- whether a rule fired is seen by the flags of the rules alone
pub has_fired-restricted : (rules rule : ℕ) (row : Row) → rule < rules → has_fired rule (restricted rules row) ≡ has_fired rule row
has_fired-restricted rules rule row below = get_or-take rules rule row.fired false below

count_from : (rules rule : ℕ) (rows : List Row) (n : ℕ) → rule < rules
    → fold (λ (a : ℕ) (row : Row). a + cond (has_fired rule row) 1 0) n (map (restricted rules) rows) ≡ fold (λ (a : ℕ) (row : Row). a + cond (has_fired rule row) 1 0) n rows
count_from rules rule [] n below = refl
count_from rules rule (row ∷ rows) n below =
    ap (λ (b : Bool). fold (λ (a : ℕ) (row : Row). a + cond (has_fired rule row) 1 0) (n + cond b 1 0) (map (restricted rules) rows)) (has_fired-restricted rules rule row below)
    ∙ count_from rules rule rows (n + cond (has_fired rule row) 1 0) below

count_restricted : (rules rule : ℕ) (rows : List Row) → rule < rules → fired_count (map (restricted rules) rows) rule ≡ fired_count rows rule
count_restricted rules rule [] below = refl
count_restricted rules rule (row ∷ rows) below = count_from rules rule rows 0 below

counts_restricted : (rules : ℕ) (rows : List Row) (from n : ℕ) → from + n ≤ rules → map (fired_count (map (restricted rules) rows)) (range_with_len from n) ≡ map (fired_count rows) (range_with_len from n)
counts_restricted rules rows from zero few = refl
counts_restricted rules rows from (suc n) few =
    ap₂ (λ (c : ℕ) (cs : List ℕ). c ∷ cs) (count_restricted rules from rows (omega (arith, few))) (counts_restricted rules rows (from + 1) n (omega (arith, few)))

values_restricted : (rules : ℕ) (values : List BitVector) (rows : List Row) → fold (λ (vs : List BitVector) (row : Row). row.regs) values (map (restricted rules) rows) ≡ fold (λ (vs : List BitVector) (row : Row). row.regs) values rows
values_restricted rules values [] = refl
values_restricted rules values (row ∷ rows) = values_restricted rules row.regs rows

-- the totals of rows are those of the rows without the flags beyond the rules
pub totals_of-restricted : (shape : Shape) (rows : List Row) → totals_of shape (map (restricted (length shape.rules)) rows) ≡ totals_of shape rows
unfolding totals_of
totals_of-restricted shape rows =
    let n = length shape.rules in
    let short = map (restricted n) rows in
    ap (λ (k : ℕ). record { registers = shape.registers; rules = shape.rules; cycles = k - 1; counts = map (fired_count short) (range_with_len 0 n); last = last_values short }) (length-map rows (restricted n))
    ∙ ap (λ (cs : List ℕ). record { registers = shape.registers; rules = shape.rules; cycles = last_cycle rows; counts = cs; last = last_values short }) (counts_restricted n rows 0 n (omega arith))
    ∙ ap (λ (vs : List BitVector). record { registers = shape.registers; rules = shape.rules; cycles = last_cycle rows; counts = map (fired_count rows) (range_with_len 0 n); last = vs }) (values_restricted n [] rows)

-- rows that are equal but for the flags beyond the rules have the same totals
pub totals_of-same : (shape : Shape) (xs ys : List Row) → map (restricted (length shape.rules)) xs ≡ map (restricted (length shape.rules)) ys → totals_of shape xs ≡ totals_of shape ys
totals_of-same shape xs ys same = sym (totals_of-restricted shape xs) ∙ ap (totals_of shape) same ∙ totals_of-restricted shape ys

-- and the same summary
pub summary-same : (shape : Shape) (xs ys : List Row) → map (restricted (length shape.rules)) xs ≡ map (restricted (length shape.rules)) ys → summary shape xs ≡ summary shape ys
summary-same shape xs ys same = ap totals_text (totals_of-same shape xs ys same)
