-- The obligation of an invariant: clauses that an assignment satisfies exactly where a step breaks the invariant or
-- makes a claimed output 1 (inductive invariants: Bradley, "SAT-Based Model Checking without Unrolling", VMCAI 2011).
-- Gates become clauses after Tseitin ("On the complexity of derivation in propositional calculus", 1968). The variables
-- of the circuit keep their numbers; after the greatest that is needed comes one for each clause of the invariant.
use Rattle.std.specs.Prelude.{ℕ, zero, suc, ◌+◌, ◌-◌, ◌*◌, ◌/◌, ◌%◌, nat_eq, not, Bool, if◌then◌else◌, List, [], ◌∷◌, ◌++◌, flat_map, length, map, filter, slice_index_or, sum}
use Rattle.std.specs.List.{list_any}
use Rattle.clause_check.specs.Clauses.{Clause, Cnf}
use Rattle.clause_check.specs.declared.literal.Literal.{Literal}
use Rattle.aig_blast.specs.Aigs.{AigParts, input_word_widths, sources, variables}
use Rattle.aig_blast.specs.Graphs.{negation}
use Rattle.aig_blast.specs.declared.aig.LatchWord.{LatchWord}
use Rattle.aig_blast.specs.declared.aig.OutputBit.{OutputBit}
use Rattle.aig_blast.specs.declared.gate.Gate.{Gate}
use Rattle.invariant_check.specs.Cones.{cone_of, greatest, is_needed}

-- the literals of a variable, and of the other value
abbrev pub plain : ℕ → ℕ
plain variable = 2 * variable

abbrev pub negated : ℕ → ℕ
negated variable = 2 * variable + 1

-- a literal of the graph, or the one of the other value
abbrev pub signed : Bool → ℕ → ℕ
signed is_negated lit = if is_negated then negation lit else lit

-- a literal of the graph in a formula
abbrev pub literal_of : ℕ → Literal
literal_of lit = record { variable = lit / 2; is_negated = nat_eq (lit % 2) 1 }

-- the clause of literals of the graph, without those that are false; none where one is the constant true
abbrev pub folded : List ℕ → List Clause
folded lits =
    if list_any (λ lit. nat_eq lit 1) lits then [] else map literal_of (filter (λ lit. not (nat_eq lit 0)) lits) ∷ []

-- variable and gate have the same value: the variable implies both literals, and both imply it
abbrev pub gate_clauses : ℕ → Gate → List (List ℕ)
gate_clauses variable gate =
    (negated variable ∷ gate.left ∷ [])
    ∷ (negated variable ∷ gate.right ∷ [])
    ∷ (plain variable ∷ negation gate.left ∷ negation gate.right ∷ [])
    ∷ []

-- the same for each gate that is needed; the first is this variable
abbrev pub graph_clauses : List Bool → ℕ → List Gate → List (List ℕ)
graph_clauses needed variable [] = []
graph_clauses needed variable (gate ∷ gates) =
    (if is_needed needed variable then gate_clauses variable gate else []) ++ graph_clauses needed (variable + 1) gates

-- the literal of a register's bit before the step, after this many inputs
abbrev pub before_step : ℕ → Literal → ℕ
before_step inputs literal = signed literal.is_negated (plain (inputs + literal.variable))

-- the literals of the next bits of registers, and the literal of a bit after the step
abbrev pub next_lits : List LatchWord → List ℕ
next_lits latches = flat_map (λ (word : LatchWord). word.nexts) latches

abbrev pub next_lit : List ℕ → Literal → ℕ
next_lit nexts literal = slice_index_or nexts (literal.variable - 1) 0

abbrev pub after_step : List ℕ → Literal → ℕ
after_step nexts literal = signed literal.is_negated (next_lit nexts literal)

-- where this variable is true, all literals of a clause are false after the step
abbrev pub broken_clauses : List ℕ → ℕ → Clause → List (List ℕ)
broken_clauses nexts variable clause =
    map (λ (literal : Literal). negated variable ∷ negation (after_step nexts literal) ∷ []) clause

-- the same for each clause of an invariant, by variables from this one on
abbrev pub all_broken_clauses : List ℕ → ℕ → List Clause → List (List ℕ)
all_broken_clauses nexts variable [] = []
all_broken_clauses nexts variable (clause ∷ clauses) =
    broken_clauses nexts variable clause ++ all_broken_clauses nexts (variable + 1) clauses

-- the literals of variables from this one on, this many
abbrev pub broken_lits : ℕ → ℕ → List ℕ
broken_lits variable zero = []
broken_lits variable (suc count) = plain variable ∷ broken_lits (variable + 1) count

-- the literals of claimed outputs, and those that the obligation is about
abbrev pub claimed_lits : List OutputBit → List ℕ → List ℕ
claimed_lits outputs claimed = map (λ output. slice_index_or (map (λ (bit : OutputBit). bit.lit) outputs) output 0)
    claimed

abbrev pub literals_in : List Clause → List Literal
literals_in clauses = flat_map (λ (clause : Clause). clause) clauses

abbrev pub needed_lits : AigParts → List Clause → List ℕ → List ℕ
needed_lits a invariant claimed =
    claimed_lits a.outputs claimed ++ map (next_lit (next_lits a.latches)) (literals_in invariant)

-- the variables that are needed, and the greatest of them
abbrev pub needed_in : AigParts → List Clause → List ℕ → List Bool
needed_in a invariant claimed = cone_of (sources a) a.gates (needed_lits a invariant claimed)

abbrev pub top_of : AigParts → List Clause → List ℕ → ℕ
top_of a invariant claimed = greatest (needed_in a invariant claimed) (variables a)

-- the clauses over literals of the graph: the invariant before the step, the gates, which clauses are broken, and that
-- one is or a claimed output is 1
abbrev pub graph_obligation : AigParts → List Clause → List ℕ → List (List ℕ)
graph_obligation a invariant claimed =
    map (λ (clause : Clause). map (before_step (sum (input_word_widths a.inputs))) clause) invariant
    ++ graph_clauses (needed_in a invariant claimed) (1 + sources a) a.gates
    ++ all_broken_clauses (next_lits a.latches) (1 + top_of a invariant claimed) invariant
    ++ (claimed_lits a.outputs claimed ++ broken_lits (1 + top_of a invariant claimed) (length invariant)) ∷ []

-- the obligation of a circuit, an invariant and claimed outputs
unfoldable pub obligation_of : AigParts → List Clause → List ℕ → Cnf
obligation_of a invariant claimed =
    record {
      variables = top_of a invariant claimed + length invariant;
      clauses = flat_map folded (graph_obligation a invariant claimed);
    }
