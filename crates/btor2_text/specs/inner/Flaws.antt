-- What the calls that read a part of a line return.
use Rattle.std.specs.Prelude.{◌≡◌, ℕ, List, Option, Result, Ok, Err}
use Rattle.kw_base.specs.Fault.{fault_at}
use Rattle.kw_base.specs.declared.fault.Refusal.{Refusal}
use Rattle.kw_base.specs.declared.fault.Refusal.TheVariants as refusals
use Rattle.btor2_text.specs.Lines.{IsLine, IsOutside, IsMalformed}
use Rattle.btor2_text.specs.Reading.{Gives, line_place}
use Rattle.btor2_text.specs.declared.line.Line.{Line}
use Rattle.kw_bits.specs.declared.failure.Failure.{Failure}
use Rattle.kw_bits.specs.declared.failure.Failure.TheVariants as failures
use Rattle.btor2_text.specs.declared.reader.Unread.{Unread}
use Rattle.btor2_text.specs.declared.reader.Unread.TheVariants as unread

-- what holds of the value, where a part is malformed, and where it is left out; no memory says nothing
abbrev pub MatchRead : {X : Type 0} → Result X (Failure Unread) → (X → Type 0) → Type 0 → Type 0 → Type 0
MatchRead (Ok x) P malformed left_out = P x
MatchRead (Err (failures.Why unread.Malformed)) P malformed left_out = malformed
MatchRead (Err (failures.Why unread.LeftOut)) P malformed left_out = left_out
MatchRead (Err failures.NoMemory) P malformed left_out = Unit {0}

-- the same of a part that nothing is left out of
abbrev pub IfRead : {X : Type 0} → Result X (Failure Unread) → (X → Type 0) → Type 0 → Type 0
IfRead r P malformed = MatchRead r P malformed ⊥

-- the refusal of the line of this number
abbrev pub IsRefusal : Failure Unread → ℕ → Refusal → Type 0
IsRefusal (failures.Why unread.Malformed) number refusal = refusal ≡ refusals.Fault (fault_at 50 (line_place number))
IsRefusal (failures.Why unread.LeftOut) number refusal = refusal ≡ refusals.Fault (fault_at 54 (line_place number))
IsRefusal failures.NoMemory number refusal = refusal ≡ refusals.NoMemory

-- the tokens of a line give this
abbrev pub GivesLine : ℕ → List (List ℕ) → Result (Option Line) (Failure Unread) → Type 0
GivesLine number tokens r = MatchRead r (λ read. Gives number tokens (Ok read)) (IsMalformed tokens) (IsOutside tokens)

-- the tokens after an id and a keyword, with them, are this line
abbrev pub GivesForm : ℕ → List (List ℕ) → Result Line (Failure Unread) → Type 0
GivesForm number tokens r = MatchRead r (IsLine number tokens) (IsMalformed tokens) (IsOutside tokens)
