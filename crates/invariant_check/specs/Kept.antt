-- What an obligation is about: an invariant that each step keeps, and outputs that are never 1 under it (inductive
-- invariants: Bradley, VMCAI 2011).
use Rattle.std.specs.Prelude.{◌≡◌, ◌≢◌, ℕ, suc, ◌<◌, ◌||◌, ◌↔◌, Bool, false, nat_eq, not, IsTrue, List, [], ◌++◌, length, All, slice_index_or}
use Rattle.std.specs.List.{list_all, list_any}
use Rattle.kw_bits.specs.BitVector.{BitVector}
use Rattle.circuit_eval.specs.Circuits.{AreBits}
use Rattle.one_rule.specs.Stimulus.{AlwaysFits, InputVectors, inputs_of}
use Rattle.one_rule.specs.declared.rows.Row.{Row}
use Rattle.clause_check.specs.Clauses.{Assignment, Clause, Cnf, Satisfies, clause_value}
use Rattle.aig_blast.specs.Aigs.{AigParts, input_word_widths, latch_widths}
use Rattle.aig_blast.specs.AigRun.{bits_of, row_after, run_of}
use Rattle.invariant_check.specs.Bits.{bit_values}
use Rattle.invariant_check.specs.Obligations.{after_step, claimed_lits, next_lits}

-- each clause of an invariant is true of registers
abbrev pub is_true_of : List Clause → List BitVector → Bool
is_true_of invariant registers = list_all (clause_value (bit_values registers)) invariant

-- a claimed output is 1
abbrev pub fires : List ℕ → List Bool → Bool
fires claimed fired = list_any (λ output. slice_index_or fired output false) claimed

-- a step from registers with inputs makes a claimed output 1, or after it some clause is false
abbrev pub breaks : AigParts → List Clause → List ℕ → (inputs registers : List BitVector) → Bool
breaks a invariant claimed inputs registers =
    let row : Row = row_after a inputs registers in
    fires claimed row.fired || not (is_true_of invariant row.regs)

-- an assignment gives the inputs and the registers these values: a circuit's inputs have the variables from 1 on, its
-- registers those after them
abbrev pub Gives : Assignment → (inputs registers : List BitVector) → Type 0
Gives assignment inputs registers =
    (k : ℕ) → k < length (bits_of inputs ++ bits_of registers) → assignment (suc k)
    ≡ slice_index_or (bits_of inputs ++ bits_of registers) k false

-- the values that satisfying assignments give are exactly those of which the invariant is true and from which a step
-- breaks it or makes a claimed output 1
abbrev pub SaysWhatBreaks : AigParts → List Clause → List ℕ → Cnf → Type 0
SaysWhatBreaks a invariant claimed formula =
    (inputs registers : List BitVector) → AreBits inputs (input_word_widths a.inputs)
    → AreBits registers (latch_widths a.latches)
    → ((assignment : Assignment) × Gives assignment inputs registers × Satisfies assignment formula.clauses)
    ↔ (IsTrue (is_true_of invariant registers) × IsTrue (breaks a invariant claimed inputs registers))

-- a row has registers of which each clause is true, and no claimed output is 1 in it
pub record IsKept (invariant : List Clause) (claimed : List ℕ) (row : Row) : Type 0 where
  pub holds : IsTrue (is_true_of invariant row.regs)
  pub silent : fires claimed row.fired ≡ false

-- on every stimulus, in each row of the run of every number of cycles
abbrev pub IsKeptInEveryRun : AigParts → List Clause → List ℕ → Type 0
IsKeptInEveryRun a invariant claimed = (stimulus : InputVectors) (n : ℕ) → stimulus.widths ≡ input_word_widths a.inputs
    → AlwaysFits stimulus
    → All (IsKept invariant claimed) (run_of a (inputs_of stimulus) n)

-- with constants folded, all claimed outputs are 0, and each clause of an invariant is true after the step
pub record IsIdle (a : AigParts) (invariant : List Clause) (claimed : List ℕ) : Type 0 where
  pub outputs : All (λ lit. lit ≡ 0) (claimed_lits a.outputs claimed)
  pub clauses : All (λ clause. IsTrue
      (list_any (λ literal. nat_eq (after_step (next_lits a.latches) literal) 1) clause)) invariant

-- each clause has a literal
abbrev pub HaveLiterals : List Clause → Type 0
HaveLiterals clauses = All (λ clause. clause ≢ []) clauses
