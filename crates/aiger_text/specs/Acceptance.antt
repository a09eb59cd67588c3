-- Which AIGER texts are accepted: their lines are of their forms, and each literal that a line uses is a constant or that
-- of a variable that a line defines, for a gate an earlier line. AIGER ASCII (Biere, 2007; Biere, Heljanko and Wieringa,
-- 2011), as this project reads it. It speaks of the text's own variables, and says nothing of how a circuit numbers them.
use Rattle.std.specs.Prelude.{ℕ, ◌+◌, ◌/◌, ◌&&◌, ◌||◌, Bool, if◌then◌else◌, nat_lt, List, [], ◌∷◌, length, take, Option, None, Some, Result, Ok, Err}
use Rattle.kw_base.specs.Place.{capped}
use Rattle.kw_base.specs.declared.fault.Fault.{Fault}
use Rattle.aig_blast.specs.declared.gate.Gate.{Gate}
use Rattle.stim_report.specs.Stimuli.{after, next_line}
use Rattle.aiger_text.specs.Drafts.{Draft, draft_of, fault_in}
use Rattle.aiger_text.specs.Places.{is_defined}

-- a literal may be used where these variables are defined: it is a constant, or its variable is one of them
abbrev pub is_usable : List ℕ → ℕ → Bool
is_usable variables lit = nat_lt lit 2 || is_defined variables (lit / 2)

-- the fault of the first of some lines whose literal may not be used; the lines are numbered from here on
abbrev pub unusable_literal : List ℕ → ℕ → List ℕ → Option Fault
unusable_literal variables number [] = None
unusable_literal variables number (lit ∷ lits) =
    if is_usable variables lit then unusable_literal variables (next_line number) lits else Some (fault_in 74 number)

-- the fault of the first gate with a literal that may not be used: before the first gate's line that many variables are
-- defined, and before each next one's one more
abbrev pub unusable_gate : List ℕ → ℕ → ℕ → List Gate → Option Fault
unusable_gate variables before number [] = None
unusable_gate variables before number (gate ∷ gates) =
    if is_usable (take before variables) gate.left && is_usable (take before variables) gate.right
    then unusable_gate variables (before + 1) (next_line number) gates
    else Some (fault_in 74 number)

-- the first of two faults
abbrev pub first_of_faults : Option Fault → Option Fault → Option Fault
first_of_faults (Some fault) later = Some fault
first_of_faults None later = later

-- the first line with a literal that may not be used: next literals of latches come in lines after those of inputs, then
-- come the lines of outputs and those of gates
abbrev pub first_unusable : Draft → Option Fault
first_unusable d =
    let sources : ℕ = length d.inputs + length d.nexts in
    first_of_faults (unusable_literal d.variables (capped (2 + length d.inputs)) d.nexts)
    (first_of_faults (unusable_literal d.variables (capped (2 + sources)) d.lits)
    (unusable_gate d.variables sources (capped (2 + sources + length d.lits)) d.gates))

-- what lines say, unless there is a fault
abbrev pub unless_fault : Option Fault → Draft → Result Draft Fault
unless_fault None d = Ok d
unless_fault (Some fault) d = Err fault

-- what an accepted text says, or the first fault of another one: a line that uses a literal counts after all other faults
unfoldable pub accepted_text : List ℕ → Result Draft Fault
accepted_text text = after (draft_of text) (λ (d : Draft). unless_fault (first_unusable d) d)
