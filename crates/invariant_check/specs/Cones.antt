-- The variables of a graph of and-gates that some literals depend on (their cone of influence).
use Rattle.std.specs.Prelude.{ℕ, zero, suc, ◌+◌, ◌/◌, Bool, true, false, if◌then◌else◌, List, [], ◌∷◌, ◌++◌, length, replicate, slice_index_or, slice_set}
use Rattle.aig_blast.specs.declared.gate.Gate.{Gate}

-- a variable is needed, by the flags of all variables
abbrev pub is_needed : List Bool → ℕ → Bool
is_needed needed variable = slice_index_or needed variable false

-- the variables of literals are needed too
abbrev pub with_literal : List Bool → ℕ → List Bool
with_literal needed lit = slice_set needed (lit / 2) true

abbrev pub with_literals : List Bool → List ℕ → List Bool
with_literals needed [] = needed
with_literals needed (lit ∷ lits) = with_literals (with_literal needed lit) lits

-- what a gate needs, where it is needed itself; it is this variable
abbrev pub with_gate : List Bool → ℕ → Gate → List Bool
with_gate needed variable gate =
    if is_needed needed variable then with_literal (with_literal needed gate.left) gate.right else needed

-- what gates need, from the last one down; the first is this variable
abbrev pub with_gates : List Bool → ℕ → List Gate → List Bool
with_gates needed first [] = needed
with_gates needed first (gate ∷ gates) = with_gate (with_gates needed (first + 1) gates) first gate

-- variable 0 and the sources are always there
abbrev pub sources_alone : ℕ → List Gate → List Bool
sources_alone sources gates = replicate (1 + sources) true ++ replicate (length gates) false

-- the cone of literals in a graph of gates over this many sources: for each variable whether it is needed
unfoldable pub cone_of : ℕ → List Gate → List ℕ → List Bool
cone_of sources gates lits = with_gates (with_literals (sources_alone sources gates) lits) (1 + sources) gates

-- the greatest of the variables up to this one that is needed
abbrev pub greatest : List Bool → ℕ → ℕ
greatest needed zero = 0
greatest needed (suc k) = if is_needed needed (suc k) then suc k else greatest needed k
