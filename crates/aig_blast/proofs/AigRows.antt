-- The rows of a bit-level circuit's run, one after another.
use Rattle.std.proofs.Common.{◌≡◌, ℕ, zero, suc, ◌+◌, ◌-◌, Bool, true, false, List, [], ◌∷◌, map, refl, ap, ap₂, arith}
use Rattle.kw_bits.specs.BitVector.{BitVector}
use Rattle.one_rule.specs.Run.{InputsByCycle}
use Rattle.one_rule.specs.declared.rows.Row.{Row}
use Rattle.circuit_eval.specs.Machines as machines
use Rattle.circuit_eval.specs.Run.{is_one}
use Rattle.aig_blast.specs.Aigs.{AigParts}
use Rattle.aig_blast.specs.AigRun.{first_words, outputs_in, row_after, rows_after, run_of}
use Rattle.aig_blast.specs.AigSims.{Simulation, after_step, beginning, flag_bits, flags_in, no_flags, row_at, rows_from}
use Rattle.aig_blast.specs.Graphs.{lit_value}
use Rattle.aig_blast.specs.declared.aig.OutputBit.{OutputBit}

pub is_one-flag : (flag : Bool) → is_one (flag_bits flag) ≡ flag
is_one-flag true = refl
is_one-flag false = refl

flags-outputs : (outputs : List OutputBit) (values : List Bool) → map is_one (flags_in outputs values) ≡ outputs_in outputs values
flags-outputs [] values = refl
flags-outputs (output ∷ outputs) values = ap₂ (λ (b : Bool) (bs : List Bool). b ∷ bs) (is_one-flag (lit_value values output.lit)) (flags-outputs outputs values)

-- no output is 1 before the first step
pub flags-none : (outputs : List OutputBit) → map is_one (no_flags outputs) ≡ map (λ (output : OutputBit). false) outputs
flags-none [] = refl
flags-none (output ∷ outputs) = ap (λ (bs : List Bool). false ∷ bs) (flags-none outputs)

-- the row of the moment after a step
pub row_at-after_step : (s : Simulation) (inputs : List BitVector) → row_at (after_step s inputs) ≡ row_after s.aig inputs s.states
row_at-after_step s inputs =
    ap (λ (fired : List Bool). record { regs = (after_step s inputs).states; fired = fired }) (flags-outputs s.aig.outputs _)

-- the rows of a circuit after some steps
pub rows-are : (inputs : InputsByCycle) (count last : ℕ) (s : Simulation)
    → machines.rows_after after_step row_at inputs count last s ≡ rows_after s.aig inputs count last s.states
unfolding rows_after
rows-are inputs zero last s = refl
rows-are inputs (suc count) last s =
    let next : Simulation = after_step s (inputs (last + 1)) in
    ap₂ (λ (row : Row) (rows : List Row). row ∷ rows) (row_at-after_step s (inputs (last + 1))) (rows-are inputs count (last + 1) next)

-- a run begins with the first row
pub run-begins : (a : AigParts) (inputs : InputsByCycle) (n : ℕ) → rows_from (beginning a) inputs 0 n ≡ run_of a inputs n
run-begins a inputs n =
    let all : n - 0 ≡ n = omega arith in
    ap₂ (λ (row : Row) (rows : List Row). row ∷ rows)
    (ap (λ (fired : List Bool). record { regs = first_words a.latches; fired = fired }) (flags-none a.outputs))
    (ap (λ k. rows_after a inputs k 0 (first_words a.latches)) all)
