-- The invariant that a text gives, or its first fault: a clause for each line with a literal, over the bits of
-- registers. A literal is the name of a bit, `NAME[I]`, which is true where the bit is 1, or `~` and such a name. This
-- project's own text form.
use Rattle.std.specs.Prelude.{ℕ, ◌+◌, ◌==◌, if◌then◌else◌, Bool, true, false, List, [], ◌∷◌, Option, None, Some, option_map, Result, Ok, Err, position, bytes_eq, map}
use Rattle.kw_base.specs.Fault.{fault_at}
use Rattle.kw_base.specs.Place.{capped}
use Rattle.kw_base.specs.declared.fault.Fault.{Fault}
use Rattle.kw_base.specs.declared.place.Place.{Place}
use Rattle.clause_check.specs.Clauses.{Assignment, Clause, clause_value}
use Rattle.kw_base.specs.Texts.{lines_of}
use Rattle.clause_check.specs.declared.literal.Literal.{Literal}
use Rattle.kw_bits.specs.BitVector.{BitVector}
use Rattle.invariant_check.specs.Bits.{bit_values}
use Rattle.invariant_check.specs.Words.{place_in, words_from}

-- what follows a value; a fault stays
abbrev pub after : {X Y : Type 0} → Result X Fault → (X → Result Y Fault) → Result Y Fault
after (Ok x) f = f x
after (Err fault) f = Err fault

-- the number of the first bit of a name
abbrev pub number_of : List (List ℕ) → List ℕ → Option ℕ
number_of bits name = option_map (λ (before : ℕ). before + 1) (position (bytes_eq name) bits)

abbrev pub literal_by : Bool → Option ℕ → Option Literal
literal_by is_negated None = None
literal_by is_negated (Some number) = Some (record { variable = number; is_negated = is_negated })

-- the literal that a word is, among bits of these names
unfoldable pub literal_of : List (List ℕ) → List ℕ → Option Literal
literal_of bits [] = literal_by false (number_of bits [])
literal_of bits (b ∷ word) = if b == 126 then literal_by true (number_of bits word) else literal_by false
    (number_of bits (b ∷ word))

abbrev pub or_fault : Place → Option Literal → Result Literal Fault
or_fault place None = Err (fault_at 91 place)
or_fault place (Some literal) = Ok literal

-- the literals of words in the line of this number, or the fault of the first word that is none, at its first byte
abbrev pub literals_of : List (List ℕ) → ℕ → List (ℕ × List ℕ) → Result Clause Fault
literals_of bits line [] = Ok []
literals_of bits line (word ∷ words) =
    after (or_fault (place_in line word.0) (literal_of bits word.1)) (λ (literal : Literal).
    after (literals_of bits line words) (λ (literals : Clause). Ok (literal ∷ literals)))

-- the clause of a line, which has no literal where the line has no word
unfoldable pub clause_of : List (List ℕ) → ℕ → List ℕ → Result Clause Fault
clause_of bits line bytes = literals_of bits line (words_from 1 bytes)

-- a clause and the number of its line
pub record Numbered : Type 0 where
  pub line : ℕ
  pub clause : Clause

-- a line without literals is skipped
abbrev pub with_clause : ℕ → Clause → List Numbered → List Numbered
with_clause line [] clauses = clauses
with_clause line (literal ∷ literals) clauses = record { line = line; clause = literal ∷ literals } ∷ clauses

-- the clauses of lines, the first of this number, or the first fault in a line
abbrev pub clauses_from : List (List ℕ) → ℕ → List (List ℕ) → Result (List Numbered) Fault
clauses_from bits number [] = Ok []
clauses_from bits number (line ∷ lines) =
    after (clause_of bits number line) (λ (clause : Clause).
    after (clauses_from bits (capped (number + 1)) lines)
    (λ (clauses : List Numbered). Ok (with_clause number clause clauses)))

-- the line of the first clause that is false
abbrev pub false_line : Assignment → List Numbered → Option ℕ
false_line assignment [] = None
false_line assignment (first ∷ clauses) = if clause_value assignment first.clause then false_line assignment clauses
    else Some first.line

abbrev pub only_clauses : List Numbered → List Clause
only_clauses clauses = map (λ (numbered : Numbered). numbered.clause) clauses

-- the clauses, none of which is false, or the fault of the first that is, at its line's first column
abbrev pub unless_false : Option ℕ → List Clause → Result (List Clause) Fault
unless_false None clauses = Ok clauses
unless_false (Some line) clauses = Err (fault_at 92 (record { line = line; column = 1 }))

-- the invariant of a text over bits of these names, true of these first values of registers; the text's first line has this
-- number
unfoldable pub invariant_of : List (List ℕ) → List BitVector → ℕ → List ℕ → Result (List Clause) Fault
invariant_of bits firsts first_line text =
    after (clauses_from bits first_line (lines_of text)) (λ (clauses : List Numbered).
    unless_false (false_line (bit_values firsts) clauses) (only_clauses clauses))
