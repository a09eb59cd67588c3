-- How notes are written: a line for each, of tokens with one space between them. Accesses have the form of journals,
-- without their register. This project's own text form.
use Rattle.std.specs.Prelude.{ℕ, List, [], ◌∷◌, ◌++◌, codes, decimal, Option, Some, None, slice_get, if◌then◌else◌}
use Rattle.std.specs.List.{flat_map}
use Rattle.kw_base.specs.declared.place.Place.{Place}
use Rattle.typed_core.specs.declared.access.Access.{Access}
use Rattle.koika_check.specs.declared.checked.Checked.{Checked}
use Rattle.koika_check.specs.declared.checked.Host.{Host}
use Rattle.koika_check.specs.declared.checked.Input.{Input}
use Rattle.koika_check.specs.declared.checked.Register.{Register}
use Rattle.koika_check.specs.declared.checked.CheckedRule.{CheckedRule}
use Rattle.koika_check.specs.declared.checked.Table.{Table}
use Rattle.journal_check.specs.Printing.{ended, joined_tokens}
use Rattle.lint_text.specs.declared.note.Note.{Note}
use Rattle.lint_text.specs.declared.note.Note.TheVariants as note
use Rattle.lint_text.specs.declared.note.Use.{Use}
use Rattle.lint_text.specs.declared.note.Use.TheVariants as uses
use Rattle.lint_text.specs.declared.places.Places.{Places}

-- ---- tokens

-- the name of a declaration, if there is one of the number
abbrev pub name_by : {X : Type 0} → (X → List ℕ) → Option X → List ℕ
name_by name None = []
name_by name (Some x) = name x

-- the name of the rule of a number
abbrev pub rule_name : Checked → ℕ → List ℕ
rule_name d number = name_by (λ (r : CheckedRule). r.name) (slice_get d.rules number)

-- that of a register
abbrev pub register_name : Checked → ℕ → List ℕ
register_name d number = name_by (λ (r : Register). r.name) (slice_get d.registers number)

-- that of an input
abbrev pub input_name : Checked → ℕ → List ℕ
input_name d number = name_by (λ (i : Input). i.name) (slice_get d.inputs number)

-- that of a table
abbrev pub table_name : Checked → ℕ → List ℕ
table_name d number = name_by (λ (t : Table). t.name) (slice_get d.tables number)

-- that of a host function
abbrev pub host_name : Checked → ℕ → List ℕ
host_name d number = name_by (λ (h : Host). h.name) (slice_get d.hosts number)

-- the line and the column of a place, if there is one of the number
abbrev pub place_text : List Place → ℕ → List ℕ
place_text places number = name_by (λ (p : Place). decimal p.line ++ 58 ∷ decimal p.column) (slice_get places number)

-- `r` or `w`, and the port
abbrev pub port_text : Access → List ℕ
port_text a = (if a.write then 119 else 114) ∷ decimal a.port

-- an access after a comma
abbrev pub after_comma : Access → List ℕ
after_comma a = 44 ∷ port_text a

-- accesses with commas between them
abbrev pub accesses_text : List Access → List ℕ
accesses_text [] = []
accesses_text (a ∷ accesses) = port_text a ++ flat_map after_comma accesses

-- ---- lines

-- what is said of a name, and where its declaration has it
abbrev pub placed : (word name place : List ℕ) → List (List ℕ)
placed word name place = word ∷ name ∷ codes "at" ∷ place ∷ []

-- the weight and the depth of a rule's body
abbrev pub size_tokens : (name : List ℕ) → (weight depth : ℕ) → List (List ℕ)
size_tokens name weight depth =
    codes "size" ∷ codes "rule" ∷ name ∷ codes "weight" ∷ decimal weight ∷ codes "depth" ∷ decimal depth ∷ []

-- the writes of a register that a rule may refuse itself
abbrev pub own_tokens : (name register : List ℕ) → List Access → List (List ℕ)
own_tokens name register writes = codes "own" ∷ name ∷ register ∷ accesses_text writes ∷ []

-- the accesses of a register by a rule and an earlier one that may clash
abbrev pub may_tokens : (name earlier register : List ℕ) → (accesses others : List Access) → List (List ℕ)
may_tokens name earlier register accesses others =
    codes "may" ∷ name ∷ earlier ∷ register ∷ accesses_text accesses ∷ accesses_text others ∷ []

-- what may be so of an assertion
abbrev pub assert_tokens : (name what : List ℕ) → List (List ℕ)
assert_tokens name what = codes "assert" ∷ name ∷ what ∷ []

-- what is said where there is no such use
abbrev pub use_word : Use → List ℕ
use_word uses.Read = codes "unread"
use_word uses.Write = codes "unwritten"
use_word kind = codes "unused"

-- the name of what is used
abbrev pub used_name : Checked → Use → ℕ → List ℕ
used_name d uses.Read number = register_name d number
used_name d uses.Write number = register_name d number
used_name d uses.Input number = input_name d number
used_name d uses.Table number = table_name d number
used_name d uses.Host number = host_name d number

-- the places of the names of its kind
abbrev pub used_places : Places → Use → List Place
used_places places uses.Read = places.registers
used_places places uses.Write = places.registers
used_places places uses.Input = places.inputs
used_places places uses.Table = places.tables
used_places places uses.Host = places.hosts

-- the tokens of a note
abbrev pub note_tokens : Checked → Places → Note → List (List ℕ)
note_tokens d places (note.Size rule weight depth) = size_tokens (rule_name d rule) weight depth
note_tokens d places (note.Unscheduled rule) =
    placed (codes "unscheduled") (rule_name d rule) (place_text places.rules rule)
note_tokens d places (note.Never rule) = placed (codes "never") (rule_name d rule) (place_text places.rules rule)
note_tokens d places (note.Own rule register writes) = own_tokens (rule_name d rule) (register_name d register) writes
note_tokens d places (note.May rule earlier register accesses others) =
    may_tokens (rule_name d rule) (rule_name d earlier) (register_name d register) accesses others
note_tokens d places (note.MayBeRefused rule) = assert_tokens (rule_name d rule) (codes "may be refused")
note_tokens d places (note.MayBeUntried rule) = assert_tokens (rule_name d rule) (codes "may be untried")
note_tokens d places (note.Unused kind number) =
    placed (use_word kind) (used_name d kind number) (place_text (used_places places kind) number)

-- the line of a note
abbrev pub note_line : Checked → Places → Note → List ℕ
note_line d places n = ended (joined_tokens (note_tokens d places n))

-- the lines of notes
abbrev pub notes_text : Checked → Places → List Note → List ℕ
notes_text d places = flat_map (note_line d places)
