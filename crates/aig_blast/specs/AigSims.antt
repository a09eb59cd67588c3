-- A bit-level circuit at a moment between two steps, and its rows from there on.
use Rattle.std.specs.Prelude.{ℕ, ◌-◌, List, ◌∷◌, [], Bool, map}
use Rattle.kw_bits.specs.BitVector.{BitVector, zero_at}
use Rattle.circuit_eval.specs.Machines as machines
use Rattle.circuit_eval.specs.Run.{is_one}
use Rattle.aig_blast.specs.AigRun.{first_words, next_words, rows_after, values_in}
use Rattle.aig_blast.specs.Aigs.{AigParts}
use Rattle.aig_blast.specs.BitLists.{as_bits}
use Rattle.aig_blast.specs.Graphs.{lit_value}
use Rattle.aig_blast.specs.declared.aig.OutputBit.{OutputBit}
use Rattle.one_rule.specs.Run.{InputsByCycle}
use Rattle.one_rule.specs.declared.rows.Row.{Row}

-- the circuit, the words of its latches now and its outputs in the last step
pub record Simulation : Type 0 where
  pub aig : AigParts
  pub states : List BitVector
  pub outputs : List BitVector

-- a truth value as a bit vector of one bit, and those of outputs
abbrev pub flag_bits : Bool → BitVector
flag_bits flag = as_bits (flag ∷ [])

abbrev pub flags_in : List OutputBit → List Bool → List BitVector
flags_in outputs values = map (λ (output : OutputBit). flag_bits (lit_value values output.lit)) outputs

abbrev pub no_flags : List OutputBit → List BitVector
no_flags outputs = map (λ (output : OutputBit). zero_at 1) outputs

-- before all steps
abbrev pub beginning : AigParts → Simulation
beginning a = record { aig = a; states = first_words a.latches; outputs = no_flags a.outputs }

-- after one step more
abbrev pub after_step : Simulation → List BitVector → Simulation
after_step s inputs =
    let values : List Bool = values_in s.aig inputs s.states in
    record { aig = s.aig; states = next_words s.aig.latches values; outputs = flags_in s.aig.outputs values }

-- after that many steps more, the last cycle so far being this one
unfoldable pub after_steps : InputsByCycle → (count last : ℕ) → Simulation → Simulation
after_steps inputs count last s = machines.after_steps after_step inputs count last s

-- some of that many steps were made, from the first on
abbrev pub MadeSome : InputsByCycle → (count last : ℕ) → Simulation → Simulation → Type 0
MadeSome inputs count last old new = machines.MadeSome after_step inputs count last old new

-- the row of a moment, and those of the cycles from one to another after it
abbrev pub row_at : Simulation → Row
row_at s = record { regs = s.states; fired = map is_one s.outputs }

abbrev pub rows_from : Simulation → InputsByCycle → (from to : ℕ) → List Row
rows_from s inputs from to = row_at s ∷ rows_after s.aig inputs (to - from) from s.states
