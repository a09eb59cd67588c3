-- The rows of a run, by the values of the inputs in each of its cycles.
use Rattle.std.proofs.Common.{◌≡◌, ℕ, suc, ◌+◌, ◌-◌, List, [], ◌∷◌, ◌++◌, length, length-append, append_assoc, refl, sym, ap, ap₂, ◌∙◌, arith}
use Rattle.std.specs.Prelude.{slice_index_or}
use Rattle.std.proofs.Math.Seq.{get_or-append_seam}
use Rattle.kw_bits.specs.BitVector.{BitVector}
use Rattle.one_rule.specs.Cycle.{System, cycle}
use Rattle.one_rule.specs.Run.{opening, rows_after, run}
use Rattle.one_rule.specs.Stimulus.{InputVectors, inputs_by, inputs_of}
use Rattle.one_rule.specs.declared.rows.Row.{Row}

-- a stimulus of these widths and values
abbrev pub vectors : List ℕ → List (List BitVector) → InputVectors
vectors widths cycles = record { widths = widths; cycles = cycles }

-- the rows of cycles with these inputs, from the registers that were left
abbrev pub rows_by : System → List (List BitVector) → List BitVector → List Row
rows_by system [] regs = []
rows_by system (values ∷ later) regs =
    let row : Row = cycle system values regs in
    row ∷ rows_by system later row.regs

-- the inputs of a cycle are those of its line
inputs-at : (widths : List ℕ) (front : List (List BitVector)) (values : List BitVector) (later : List (List BitVector)) → inputs_of (vectors widths (front ++ values ∷ later)) (length front + 1) ≡ values
unfolding inputs_of
inputs-at widths front values later =
    let next : length front + 1 ≡ suc (length front) = omega arith in
    ap (inputs_of (vectors widths (front ++ values ∷ later))) next ∙ get_or-append_seam front values later (inputs_by widths [])

-- so rows depend on the inputs of their own cycles alone
pub rows-by : (system : System) (widths : List ℕ) (front later : List (List BitVector)) (regs : List BitVector)
    → rows_after system (inputs_of (vectors widths (front ++ later))) (length later) (length front) regs ≡ rows_by system later regs
rows-by system widths front [] regs = refl
rows-by system widths front (values ∷ later) regs =
    let inputs = inputs_of (vectors widths (front ++ values ∷ later)) in
    let count : length (values ∷ later) ≡ suc (length later) = omega arith in
    let place : length front + 1 ≡ length (front ++ values ∷ []) = omega (arith, length-append front (values ∷ [])) in
    let whole : front ++ values ∷ later ≡ (front ++ values ∷ []) ++ later = sym (append_assoc front (values ∷ []) later) in
    let row : Row = cycle system values regs in
    ap (λ n. rows_after system inputs n (length front) regs) count
    ∙ ap (λ (given : List BitVector). let first : Row = cycle system given regs in first ∷ rows_after system inputs (length later) (length front + 1) first.regs) (inputs-at widths front values later)
    ∙ ap₂ (λ (cycles : List (List BitVector)) (last : ℕ). row ∷ rows_after system (inputs_of (vectors widths cycles)) (length later) last row.regs) whole place
    ∙ ap (λ (rows : List Row). row ∷ rows) (rows-by system widths (front ++ values ∷ []) later row.regs)

-- the run of as many cycles as there are lines
pub run-by : (system : System) (widths : List ℕ) (cycles : List (List BitVector)) (regs : List BitVector)
    → run system (inputs_of (vectors widths cycles)) regs 0 (length cycles) ≡ opening system.rules regs ∷ rows_by system cycles regs
run-by system widths cycles regs =
    let count : length cycles - 0 ≡ length cycles = omega arith in
    ap (λ n. opening system.rules regs ∷ rows_after system (inputs_of (vectors widths cycles)) n 0 regs) count
    ∙ ap (λ (rows : List Row). opening system.rules regs ∷ rows) (rows-by system widths [] cycles regs)
