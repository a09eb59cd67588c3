-- The bit-level circuit of an AIGER text, or the text's first fault. The circuit numbers the variables in the order in
-- which lines define them. AIGER ASCII (Biere, Heljanko and Wieringa, 2011), as this project reads it: a gate uses no
-- later gate.
use Rattle.std.specs.Prelude.{ℕ, ◌+◌, ◌*◌, ◌/◌, ◌%◌, if◌then◌else◌, nat_lt, List, [], ◌∷◌, length, Option, None, Some, Result, Ok, Err}
use Rattle.kw_base.specs.Place.{capped}
use Rattle.kw_base.specs.declared.fault.Fault.{Fault}
use Rattle.aig_blast.specs.Aigs.{AigParts}
use Rattle.aig_blast.specs.declared.gate.Gate.{Gate}
use Rattle.stim_report.specs.Stimuli.{after, next_line}
use Rattle.aiger_text.specs.Drafts.{Draft, draft_of, fault_in}
use Rattle.aiger_text.specs.Places.{place_of}
use Rattle.aiger_text.specs.Runs.{latch_words, output_bits, words_of_bits}

-- the literal with a place for its variable, where that is before a bound
abbrev pub literal_at : ℕ → Option ℕ → ℕ → Option ℕ
literal_at bound None sign = None
literal_at bound (Some place) sign = if nat_lt place bound then Some (2 * place + sign) else None

-- a literal over the variables' places, if its variable is defined and below a bound
abbrev pub placed_literal : List ℕ → ℕ → ℕ → Option ℕ
placed_literal variables bound lit = literal_at bound (place_of variables (lit / 2)) (lit % 2)

-- a literal without a place is a fault in its line
abbrev pub known : {X : Type 0} → ℕ → Option X → Result X Fault
known number None = Err (fault_in 74 number)
known number (Some x) = Ok x

-- literals of lines, the first of this number
abbrev pub all_placed : List ℕ → ℕ → ℕ → List ℕ → Result (List ℕ) Fault
all_placed variables bound number [] = Ok []
all_placed variables bound number (lit ∷ lits) =
    after (known number (placed_literal variables bound lit)) (λ first.
    after (all_placed variables bound (next_line number) lits) (λ others. Ok (first ∷ others)))

-- a gate both of whose literals have places, and gates of lines, each with a place more before it than the last
abbrev pub gate_by : Option ℕ → Option ℕ → Option Gate
gate_by (Some left) (Some right) = Some (record { left = left; right = right })
gate_by (Some left) None = None
gate_by None right = None

-- a gate over the variables' places
abbrev pub placed_gate : List ℕ → ℕ → Gate → Option Gate
placed_gate variables bound gate = gate_by (placed_literal variables bound gate.left) (placed_literal variables bound gate.right)

-- gates over the variables' places, each over those before it; the first one that isn't is a fault
abbrev pub gates_placed : List ℕ → ℕ → ℕ → List Gate → Result (List Gate) Fault
gates_placed variables bound number [] = Ok []
gates_placed variables bound number (gate ∷ gates) =
    after (known number (placed_gate variables bound gate)) (λ first.
    after (gates_placed variables (bound + 1) (next_line number) gates) (λ others. Ok (first ∷ others)))

-- the circuit of what lines say: the next literals of latches, the literals of outputs and the gates have places, and
-- inputs and latches come in words
abbrev pub parts_by : Draft → List ℕ → List ℕ → List Gate → AigParts
parts_by d nexts lits gates =
    record {
      inputs = words_of_bits 105 d.inputs;
      latches = latch_words (words_of_bits 108 d.latches) nexts d.resets;
      outputs = output_bits 0 d.outputs lits;
      gates = gates;
    }

-- the next literals of latches, the literals of outputs and the gates, each on lines after the header and those before
abbrev pub nexts_of : Draft → Result (List ℕ) Fault
nexts_of d = all_placed d.variables (1 + length d.variables) (capped (2 + length d.inputs)) d.nexts

-- the literals of outputs over the variables' places
abbrev pub lits_of : Draft → Result (List ℕ) Fault
lits_of d = all_placed d.variables (1 + length d.variables) (capped (2 + (length d.inputs + length d.nexts))) d.lits

-- the gates of a draft over the variables' places
abbrev pub gates_of : Draft → Result (List Gate) Fault
gates_of d =
    let sources : ℕ = length d.inputs + length d.nexts in
    gates_placed d.variables (1 + sources) (capped (2 + sources + length d.lits)) d.gates

-- the graph of a draft, or its first fault
unfoldable pub aig_by : Draft → Result AigParts Fault
aig_by d = after (nexts_of d) (λ nexts. after (lits_of d) (λ lits. after (gates_of d) (λ gates. Ok (parts_by d nexts lits gates))))

-- the circuit of a text, or the text's first fault
unfoldable pub aig_of : List ℕ → Result AigParts Fault
aig_of text = after (draft_of text) aig_by
