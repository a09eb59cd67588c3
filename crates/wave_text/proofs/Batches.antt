-- A dump that is made in batches.
use Rattle.std.proofs.Common.{◌≡◌, ℕ, suc, ◌+◌, ◌-◌, ◌*◌, ◌≤◌, List, [], ◌∷◌, ◌++◌, length, get_or, append-nil, refl, sym, ap, ap₂, ◌∙◌, append_assoc, arith, add-zero}
use Rattle.std.proofs.lemmas.List.Sums.{fold-append}
use Rattle.kw_bits.specs.BitVector.{BitVector}
use Rattle.one_rule.specs.Run.{InputsByCycle}
use Rattle.one_rule.specs.declared.rows.Row.{Row}
use Rattle.stim_report.specs.Batches.{joined, last_cycle}
use Rattle.stim_report.specs.Summary.{last_values}
use Rattle.stim_report.specs.declared.shape.Shape.{Shape}
use Rattle.stim_report.proofs.TotalsOfBatches.{cycles_joined}
use Rattle.wave_text.specs.Parts.{GoesOn, Progress, TakesRows, ending, last_of, moments_before_last, part, progress}
use Rattle.wave_text.specs.Waves.{body, dump, edge, edges, head, last_levels, levels, moments, no_levels, time, variables}
use Rattle.wave_text.specs.declared.level.Level.{Level}
use Rattle.wave_text.specs.declared.variable.Variable.{Variable}

-- ---- edges of two parts

edges_append : (vs : List Variable) (cycle : ℕ) (before : List Level) (ms ns : List (List Level)) → edges vs cycle before (ms ++ ns) ≡ edges vs cycle before ms ++ edges vs (cycle + length ms) (last_of before ms) ns
edges_append vs cycle before [] ns = ap (λ n. edges vs n before ns) (sym (add-zero cycle))
edges_append vs cycle before (m ∷ ms) ns =
    let e : cycle + 1 + length ms ≡ cycle + suc (length ms) = omega arith in
    ap (λ t. edge vs cycle before m ++ t) (edges_append vs (cycle + 1) m ms ns ∙ ap (λ n. edges vs (cycle + 1) m ms ++ edges vs n (last_of m ms) ns) e)
    ∙ sym (append_assoc (edge vs cycle before m) (edges vs (cycle + 1) m ms) (edges vs (cycle + suc (length ms)) (last_of m ms) ns))

last_of_append : (before : List Level) (ms ns : List (List Level)) → last_of before (ms ++ ns) ≡ last_of (last_of before ms) ns
last_of_append before [] ns = refl
last_of_append before (m ∷ ms) ns = last_of_append m ms ns

-- ---- rows of two parts

length_moments : (inputs : InputsByCycle) (cycle : ℕ) (rows : List Row) → length (moments_before_last inputs cycle rows) ≡ length rows - 1
length_moments inputs cycle [] = refl
length_moments inputs cycle (row ∷ []) = refl
length_moments inputs cycle (row ∷ next ∷ rows) = ap suc (length_moments inputs (cycle + 1) (next ∷ rows)) ∙ omega arith

-- of the first row only the registers are seen
same_first : (inputs : InputsByCycle) (cycle : ℕ) (row first : Row) (batch : List Row) → first.regs ≡ row.regs → moments_before_last inputs cycle (row ∷ batch) ≡ moments_before_last inputs cycle (first ∷ batch)
same_first inputs cycle row first [] same = refl
same_first inputs cycle row first (next ∷ batch) same =
    ap (λ (regs : List BitVector). levels (inputs (cycle + 1)) regs next.fired ∷ moments_before_last inputs (cycle + 1) (next ∷ batch)) (sym same)

moments_append : (inputs : InputsByCycle) (cycle : ℕ) (row : Row) (rows : List Row) (first : Row) (batch : List Row) → first.regs ≡ last_values (row ∷ rows)
    → moments_before_last inputs cycle ((row ∷ rows) ++ batch) ≡ moments_before_last inputs cycle (row ∷ rows) ++ moments_before_last inputs (cycle + length rows) (first ∷ batch)
moments_append inputs cycle row [] first batch same =
    same_first inputs cycle row first batch same ∙ ap (λ n. moments_before_last inputs n (first ∷ batch)) (sym (add-zero cycle))
moments_append inputs cycle row (next ∷ rows) first batch same =
    let e : cycle + 1 + length rows ≡ cycle + suc (length rows) = omega arith in
    ap (λ (ms : List (List Level)). levels (inputs (cycle + 1)) row.regs next.fired ∷ ms)
    (moments_append inputs (cycle + 1) next rows first batch same
    ∙ ap (λ n. moments_before_last inputs (cycle + 1) (next ∷ rows) ++ moments_before_last inputs n (first ∷ batch)) e)

moments_joined : (inputs : InputsByCycle) (before batch : List Row) → 1 ≤ length batch → GoesOn before batch
    → moments_before_last inputs 0 (joined before batch) ≡ moments_before_last inputs 0 before ++ moments_before_last inputs (last_cycle before) batch
moments_joined inputs before [] some goes = absurd (omega (arith, some))
moments_joined inputs [] (first ∷ batch) some goes = refl
moments_joined inputs (row ∷ rows) (first ∷ batch) some goes =
    let e : 0 + length rows ≡ length (row ∷ rows) - 1 = omega arith in
    moments_append inputs 0 row rows first batch goes
    ∙ ap (λ n. moments_before_last inputs 0 (row ∷ rows) ++ moments_before_last inputs n (first ∷ batch)) e

-- the registers that the rows end with are those of the batch
values_joined : (before batch : List Row) → 1 ≤ length batch → GoesOn before batch → last_values (joined before batch) ≡ last_values batch
values_joined before [] some goes = absurd (omega (arith, some))
values_joined [] (first ∷ batch) some goes = refl
values_joined (row ∷ rows) (first ∷ []) some goes = ap last_values (append-nil (row ∷ rows)) ∙ sym goes
values_joined (row ∷ rows) (first ∷ next ∷ batch) some goes = fold-append _ [] (row ∷ rows) (next ∷ batch)

values_at : (row : Row) (rows : List Row) (last : Row) → last ≡ get_or (row ∷ rows) (length rows) last → last.regs ≡ last_values (row ∷ rows)
values_at row [] last is = ap (λ (r : Row). r.regs) is
values_at row (next ∷ rows) last is = values_at next rows last is

-- those of the row with the last index
pub last_row : (rows : List Row) (last : Row) → 1 ≤ length rows → last ≡ get_or rows (length rows - 1) last → last.regs ≡ last_values rows
last_row [] last some is = absurd (omega (arith, some))
last_row (row ∷ rows) last some is =
    let e : length (row ∷ rows) - 1 ≡ length rows = omega arith in
    values_at row rows last (is ∙ ap (λ n. get_or (row ∷ rows) n last) e)

-- ---- what is taken

abbrev fields : ℕ → List Level → List BitVector → Progress
fields cycle levels registers = record { cycle = cycle; levels = levels; registers = registers }

-- what has the same fields is the same
pub same_progress : (a b : Progress) → a.cycle ≡ b.cycle → a.levels ≡ b.levels → a.registers ≡ b.registers → a ≡ b
same_progress a b one two three =
    ap (λ (n : ℕ). fields n a.levels a.registers) one ∙ ap₂ (λ (l : List Level) (r : List BitVector). fields b.cycle l r) two three

later_cycle : (before batch : List Row) → 1 ≤ length batch → last_cycle before + (length batch - 1) ≡ last_cycle (joined before batch)
later_cycle before [] some = absurd (omega (arith, some))
later_cycle before (first ∷ batch) some = omega (arith, cycles_joined before (first ∷ batch) some)

module _ (shape : Shape) (inputs : InputsByCycle) (before batch : List Row) (some : 1 ≤ length batch) (goes : GoesOn before batch) where
  part_joined : part shape inputs (joined before batch)
      ≡ part shape inputs before ++ edges (variables shape) (last_cycle before) (last_of (no_levels shape) (moments_before_last inputs 0 before)) (moments_before_last inputs (last_cycle before) batch)
  part_joined =
      let ms = moments_before_last inputs 0 before in
      let ns = moments_before_last inputs (last_cycle before) batch in
      let count : 0 + length ms ≡ last_cycle before = omega (arith, length_moments inputs 0 before) in
      ap (edges (variables shape) 0 (no_levels shape)) (moments_joined inputs before batch some goes)
      ∙ edges_append (variables shape) 0 (no_levels shape) ms ns
      ∙ ap (λ n. part shape inputs before ++ edges (variables shape) n (last_of (no_levels shape) ms) ns) count

  levels_joined : last_of (no_levels shape) (moments_before_last inputs 0 (joined before batch))
      ≡ last_of (last_of (no_levels shape) (moments_before_last inputs 0 before)) (moments_before_last inputs (last_cycle before) batch)
  levels_joined =
      ap (last_of (no_levels shape)) (moments_joined inputs before batch some goes)
      ∙ last_of_append (no_levels shape) (moments_before_last inputs 0 before) (moments_before_last inputs (last_cycle before) batch)

  -- the fields after a batch are those of the rows so far and the batch
  pub takes_rows : (old now : Progress) (text : List ℕ) → old ≡ progress shape inputs before → now.cycle ≡ old.cycle + (length batch - 1) → now.levels ≡ last_of old.levels (moments_before_last inputs old.cycle batch)
      → now.registers ≡ last_values batch → text ≡ edges (variables shape) old.cycle old.levels (moments_before_last inputs old.cycle batch) → TakesRows shape inputs before batch now text
  unfolding progress
  takes_rows old now text is cycle levels_are registers text_is =
      let at : old.cycle ≡ last_cycle before = ap (λ (p : Progress). p.cycle) is in
      let shown : old.levels ≡ last_of (no_levels shape) (moments_before_last inputs 0 before) = ap (λ (p : Progress). p.levels) is in
      let next_cycle : now.cycle ≡ last_cycle (joined before batch) = cycle ∙ ap (λ n. n + (length batch - 1)) at ∙ later_cycle before batch some in
      let next_levels : now.levels ≡ last_of (no_levels shape) (moments_before_last inputs 0 (joined before batch)) =
      levels_are ∙ ap₂ (λ (l : List Level) (n : ℕ). last_of l (moments_before_last inputs n batch)) shown at ∙ sym levels_joined in
      let next_registers : now.registers ≡ last_values (joined before batch) = registers ∙ sym (values_joined before batch some goes) in
      record {
        rows = same_progress now (progress shape inputs (joined before batch)) next_cycle next_levels next_registers;
        written = part_joined ∙ ap (λ t. part shape inputs before ++ t)
            (sym (text_is ∙ ap₂ (λ (l : List Level) (n : ℕ). edges (variables shape) n l (moments_before_last inputs n batch)) shown at));
      }

-- ---- the whole dump

moments_last : (shape : Shape) (inputs : InputsByCycle) (cycle : ℕ) (row : Row) (rows : List Row)
    → moments shape inputs cycle (row ∷ rows) ≡ moments_before_last inputs cycle (row ∷ rows) ++ last_levels shape (last_values (row ∷ rows)) ∷ []
moments_last shape inputs cycle row [] = refl
moments_last shape inputs cycle row (next ∷ rows) = ap (λ (ms : List (List Level)). levels (inputs (cycle + 1)) row.regs next.fired ∷ ms) (moments_last shape inputs (cycle + 1) next rows)

-- the text of the rows and the ending are the edges of all rows and the last time
pub parts_join : (shape : Shape) (inputs : InputsByCycle) (rows : List Row) → 1 ≤ length rows → head shape ++ part shape inputs rows ++ ending shape (progress shape inputs rows) ≡ dump shape inputs rows
unfolding dump body ending progress
parts_join shape inputs [] some = absurd (omega (arith, some))
parts_join shape inputs (row ∷ rows) some =
    let all = row ∷ rows in
    let vs = variables shape in
    let ms = moments_before_last inputs 0 all in
    let last = last_levels shape (last_values all) in
    let written = part shape inputs all in
    let final : List ℕ = edge vs (last_cycle all) (last_of (no_levels shape) ms) last in
    let at : 0 + length ms ≡ last_cycle all = omega (arith, length_moments inputs 0 all) in
    let after : 10 * (last_cycle all + 1) ≡ 10 * length all = omega arith in
    let both : edges vs 0 (no_levels shape) (moments shape inputs 0 all) ≡ written ++ final =
    ap (edges vs 0 (no_levels shape)) (moments_last shape inputs 0 row rows) ∙ edges_append vs 0 (no_levels shape) ms (last ∷ [])
    ∙ ap (λ n. written ++ (edge vs n (last_of (no_levels shape) ms) last ++ [])) at ∙ ap (λ t. written ++ t) (append-nil final) in
    append_assoc (head shape) written (final ++ time (10 * (last_cycle all + 1)))
    ∙ ap (λ t. head shape ++ t) (sym (append_assoc written final (time (10 * (last_cycle all + 1)))) ∙ ap₂ (λ (t : List ℕ) (n : ℕ). t ++ time n) (sym both) after)
