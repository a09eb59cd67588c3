-- How many rows a run has, which of them fit, and how a run is made in parts.
use Rattle.std.proofs.Common.{◌≡◌, ℕ, zero, suc, ◌+◌, ◌-◌, ◌<◌, ◌≤◌, false, List, ◌∷◌, ◌++◌, length, replicate, refl, ap, ◌∙◌, arith}
use Rattle.std.specs.Prelude.{slice_index_or}
use Rattle.std.specs.List.{AllByRecursion}
use Rattle.std.proofs.lemmas.List.{length-replicate}
use Rattle.kw_bits.specs.BitVector.{BitVector}
use Rattle.typed_core.specs.Widths.{HaveWidths, input_widths, register_widths}
use Rattle.typed_core.specs.Valid.{IsValid}
use Rattle.typed_core.specs.declared.design.Parts.{Parts}
use Rattle.one_rule.specs.Cycle.{System, cycle, system_of}
use Rattle.one_rule.specs.Laws.{FiresOnPathInRuns, IsIdle, IsOnPath, IsScheduled, RowsAreCycles, RunsFit, RunsInParts}
use Rattle.one_rule.specs.Rows.{RowFits}
use Rattle.one_rule.specs.Run.{InputsByCycle, first_values, last_registers, opening, rows_after}
use Rattle.one_rule.specs.declared.rows.Row.{Row}
use Rattle.one_rule.proofs.Fitting.{cycle_fits, first_values_fit}
use Rattle.one_rule.proofs.Walks.{fires_on_path}

-- a row for each cycle
length-rows_after : (system : System) (inputs : InputsByCycle) (count last : ℕ) (regs : List BitVector) → length (rows_after system inputs count last regs) ≡ count
length-rows_after system inputs zero last regs = refl
length-rows_after system inputs (suc count) last regs =
    let rest = length-rows_after system inputs count (last + 1) (cycle system (inputs (last + 1)) regs).regs in
    omega arith

pub rows_are_cycles : RowsAreCycles
rows_are_cycles system inputs regs from to =
    let rest = length-rows_after system inputs (to - from) from regs in
    omega (arith, rest)

-- ---- idle rules

-- no row after the first flags a rule that is on no path
rows_after_idle : (system : System) (inputs : InputsByCycle) (rule : ℕ) → IsScheduled system → (IsOnPath system.nodes rule → ⊥) → (count last : ℕ) (regs : List BitVector) → AllByRecursion (IsIdle rule) (rows_after system inputs count last regs)
rows_after_idle system inputs rule valid off zero last regs = tt
rows_after_idle system inputs rule valid off (suc count) last regs =
    (fires_on_path system (inputs (last + 1)) regs rule valid off, rows_after_idle system inputs rule valid off count (last + 1) (cycle system (inputs (last + 1)) regs).regs)

-- nor does the first
opening_idle : (rules rule : ℕ) → slice_index_or (replicate rules false) rule false ≡ false
opening_idle zero rule = refl
opening_idle (suc rules) zero = refl
opening_idle (suc rules) (suc rule) = opening_idle rules rule

pub fires_on_path_in_runs : FiresOnPathInRuns
fires_on_path_in_runs system inputs regs from to rule valid off =
    (opening_idle system.rules rule, rows_after_idle system inputs rule valid off (to - from) from regs)

-- ---- rows that fit

rows_after_fit : (design : Parts) → IsValid design → (inputs : InputsByCycle) (count last : ℕ) (regs : List BitVector) → ((k : ℕ) → last < k → k ≤ last + count → HaveWidths (input_widths design) (inputs k)) → HaveWidths (register_widths design) regs → AllByRecursion (RowFits design) (rows_after (system_of design) inputs count last regs)
rows_after_fit design valid inputs zero last regs i r = tt
rows_after_fit design valid inputs (suc count) last regs i r =
    let row = cycle_fits design valid (inputs (last + 1)) regs (i (last + 1) (omega arith) (omega arith)) r in
    (row, rows_after_fit design valid inputs count (last + 1) (cycle (system_of design) (inputs (last + 1)) regs).regs (λ k after within. i k (omega (arith, after)) (omega (arith, within))) row.registers)

pub runs_fit : RunsFit
runs_fit design inputs cycles valid i =
    let first = first_values_fit design valid in (
      record { registers = first; flags = length-replicate (length design.rules) false },
      rows_after_fit design valid inputs (cycles - 0) 0 (first_values design) (λ k after within. i k (omega (arith, after)) (omega (arith, within))) first,
    )

-- ---- runs in parts

rows_after-append : (system : System) (inputs : InputsByCycle) (m n last : ℕ) (regs : List BitVector) → rows_after system inputs (m + n) last regs ≡ rows_after system inputs m last regs ++ rows_after system inputs n (last + m) (last_registers regs (rows_after system inputs m last regs))
rows_after-append system inputs zero n last regs =
    let same : zero + n ≡ n = omega arith in
    let place : last ≡ last + zero = omega arith in
    ap (λ k. rows_after system inputs k last regs) same ∙ ap (λ k. rows_after system inputs n k regs) place
rows_after-append system inputs (suc m) n last regs =
    let row : Row = cycle system (inputs (last + 1)) regs in
    let count : suc m + n ≡ suc (m + n) = omega arith in
    let place : last + 1 + m ≡ last + suc m = omega arith in
    let rest = rows_after-append system inputs m n (last + 1) row.regs in
    ap (λ k. rows_after system inputs k last regs) count
    ∙ ap (λ rows. row ∷ rows) (rest ∙ ap (λ k. rows_after system inputs m (last + 1) row.regs ++ rows_after system inputs n k (last_registers row.regs (rows_after system inputs m (last + 1) row.regs))) place)

pub runs_in_parts : RunsInParts
runs_in_parts system inputs regs a b c ab bc =
    let count : c - a ≡ (b - a) + (c - b) = omega (arith, ab, bc) in
    let place : a + (b - a) ≡ b = omega (arith, ab) in
    let first = rows_after system inputs (b - a) a regs in
    ap (λ rows. opening system.rules regs ∷ rows) (
    ap (λ k. rows_after system inputs k a regs) count ∙ rows_after-append system inputs (b - a) (c - b) a regs
    ∙ ap (λ k. first ++ rows_after system inputs (c - b) k (last_registers regs first)) place
    )
