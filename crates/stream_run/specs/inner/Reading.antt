-- How a source is read line by line, with bytes that were read and not used yet. This serves private functions alone.
use Rattle.std.specs.Prelude.{◌≡◌, ℕ, ◌≤◌, Bool, true, false, All, List, [], ◌∷◌, ◌++◌, length, Option, OnSome, ⊤}
use Rattle.std.specs.Io.KnownBytes.{Consumes, IsAtEnd, prepend_known}
use Rattle.kw_base.specs.declared.fault.Fault.{Fault}
use Rattle.kw_base.specs.Texts.{ends_line}
use Rattle.stim_report.specs.Cuts.{parts_of}
use Rattle.front_end.specs.Sources.{IsTooLong}
use Rattle.stream_run.specs.Lines.{head_of}
use Rattle.stream_run.specs.Sessions.{MayGive}
use Rattle.stream_run.specs.declared.stop.Stop.{Stop}
use Rattle.stream_run.specs.declared.stop.Stop.TheVariants as stops

-- no byte is a line feed
abbrev pub IsOneLine : List ℕ → Type 0
IsOneLine bytes = All (λ b. ends_line b ≡ false) bytes

-- the bytes that are still to come, where they are known: those that were read and not used, and those that the source
-- has left
abbrev pub to_come : List ℕ → Option (List ℕ) → Option (List ℕ)
to_come unread left = prepend_known unread left

-- a line with its line feed, if that came
abbrev pub with_end : List ℕ → (is_whole : Bool) → List ℕ
with_end line true = line ++ 10 ∷ []
with_end line false = line

-- a line was taken with its line feed; or no line feed came, and there are more bytes than the limit, or none is left
pub record TakesLine (old new : Option (List ℕ)) (limit : ℕ) (line : List ℕ) (is_whole : Bool) : Type 0 where
  pub one : IsOneLine line
  pub whole : is_whole ≡ true → Consumes old new (line ++ 10 ∷ [])
  pub broken : is_whole ≡ false → Consumes old new line
  pub end : is_whole ≡ false → length line ≤ limit → OnSome old (IsAtEnd new)

-- these bytes begin with this head, and these come after it
pub record HasHead (bytes front behind : List ℕ) : Type 0 where
  pub head : head_of bytes ≡ front
  pub rest : (parts_of bytes).stimulus ≡ behind
  pub line : (parts_of bytes).first_line ≡ (parts_of front).first_line
  pub alone : (parts_of front).stimulus ≡ []

-- a head was taken: with its line `%%`, or all that there is
pub record TakesHead (old new : Option (List ℕ)) (head : List ℕ) (is_open : Bool) : Type 0 where
  pub taken : Consumes old new head
  pub marked : is_open ≡ true → (rest : List ℕ) → HasHead (head ++ rest) head rest
  pub closed : is_open ≡ false → HasHead head head [] × OnSome old (IsAtEnd new)

-- why no head was read: it is too long, or reading failed or memory ran out
abbrev pub HasNoHead : Option (List ℕ) → Stop → Type 0
HasNoHead left (stops.Fault fault) = (bytes : List ℕ) × MayGive left bytes × IsTooLong (head_of bytes) fault
HasNoHead left stops.ReadFault = ⊤
HasNoHead left stops.WriteFault = ⊥
HasNoHead left stops.NoMemory = ⊤
