-- What is promised of a call of the program: what is promised of each program's calls, and what four commands accept.
use Rattle.std.specs.Prelude.{◌≡◌, ◌≤◌, ◌⊎◌, ℕ, List, Some, IfSome}
use Rattle.koika_check.specs.BitWeights.{bit_weight}
use Rattle.koika_check.specs.declared.checked.Checked.{Checked}
use Rattle.koika_lower.specs.Lowering.{IsLowered}
use Rattle.journal_check.specs.Checking.{IsGood}
use Rattle.journal_check.specs.Reading.{IsJournal}
use Rattle.journal_check.specs.declared.journal.Journal.{Journal as JournalOf}
use Rattle.typed_core.specs.declared.design.Parts.{Parts}
use Rattle.one_rule.specs.Stimulus.{InputVectors}
use Rattle.front_end.specs.Calls as calls
use Rattle.front_end.specs.Calls.{command_in, known_in}
use Rattle.front_end.specs.Program.{IsFailure}
use Rattle.front_end.specs.Sources.{Spells}
use Rattle.front_end.specs.declared.status.Status.{Status}
use Rattle.front_end.specs.declared.status.Status.TheVariants.{Done, Refused as IsRefused}
use Rattle.front_end.specs.Aigs.{most_bits}
use Rattle.front_end.specs.Certified.{parts_of}
use Rattle.koika_top.specs.Answer.{koika}
use Rattle.koika_top.specs.Journal.{HasJournal}
use Rattle.koika_top.specs.Recheck.{MayHaveJournal}
use Rattle.koika_top.specs.declared.words.Command.TheVariants.{Aiger, Compile, Journal, Recheck}

-- a call of the program
abbrev pub Call : Type 0
Call = calls.Call Status

-- `compile` has status 0 for a source that spells a design and a stimulus, unless reading or writing fails or memory runs out.
abbrev pub CompilesSpelled : Call → Type 0
CompilesSpelled c =
    command_in koika c ≡ Some Compile → IfSome (known_in koika c) (λ bytes. (design : Checked) (stimulus : InputVectors) → Spells c.hosts bytes design stimulus → (c.status ≡ Done) ⊎ IsFailure c.status)

-- `aiger` has status 0 for a source that spells a design with few bits and a stimulus, unless reading or writing fails or memory runs out.
abbrev pub ConvertsSpelled : Call → Type 0
ConvertsSpelled c =
    command_in koika c ≡ Some Aiger → IfSome (known_in koika c) (λ bytes. (design : Checked) (stimulus : InputVectors) → Spells c.hosts bytes design stimulus → bit_weight design ≤ most_bits → (c.status ≡ Done) ⊎ IsFailure c.status)

-- `sim --journal` has status 0 for a source that has a journal of that many cycles, unless reading or writing fails or
-- memory runs out.
abbrev pub JournalsSpelled : Call → Type 0
JournalsSpelled c =
    (cycles workers : ℕ) → command_in koika c ≡ Some (Journal cycles workers) → IfSome (known_in koika c) (λ bytes. (design : Checked) (stimulus : InputVectors) → HasJournal c.hosts cycles bytes design stimulus → (c.status ≡ Done) ⊎ IsFailure c.status)

-- What `recheck` makes of the certificate of a source: it has status 0 for a good journal of the design, and status 2 for
-- one that isn't good, and where the part is no journal, unless reading or writing fails or memory runs out.
pub record IsDecided (core : Parts) (stimulus : InputVectors) (cycles line : ℕ) (text : List ℕ) (result : Status) : Type 0 where
  pub good : (journal : JournalOf) → IsJournal core stimulus line text journal → IsGood core stimulus cycles journal → (result ≡ Done) ⊎ IsFailure result
  pub other : (journal : JournalOf) → IsJournal core stimulus line text journal → (IsGood core stimulus cycles journal → ⊥) → (result ≡ IsRefused) ⊎ IsFailure result
  pub none : ((journal : JournalOf) → IsJournal core stimulus line text journal → ⊥) → (result ≡ IsRefused) ⊎ IsFailure result

-- So it does for each source that may have a journal, whatever its design is lowered to.
abbrev pub RechecksSpelled : Call → Type 0
RechecksSpelled c =
    (cycles : ℕ) → command_in koika c ≡ Some (Recheck cycles)
    → IfSome (known_in koika c) (λ bytes. (design : Checked) (stimulus : InputVectors) (core : Parts) → MayHaveJournal c.hosts cycles bytes design stimulus → IsLowered design core
    → let parts = parts_of bytes in IsDecided core stimulus cycles parts.certificate_line parts.certificate c.status)

-- all of it
pub record IsKept (untouched : Type 0) (c : Call) : Type 0 where
  -- the fifteen promises of each program, by their names: agrees, done, whole, usage, usage_only, usage_front, unread, refused,
  -- refused_line, exact, front, some, read_fault, nothing_written, write_fault
  pub any : calls.IsKept koika untouched c
  pub open any use *
  -- what four commands accept
  pub compiles : CompilesSpelled c
  pub converts : ConvertsSpelled c
  pub journals : JournalsSpelled c
  pub rechecks : RechecksSpelled c
