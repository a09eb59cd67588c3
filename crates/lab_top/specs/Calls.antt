-- What is promised of a call of the lab: what is promised of each program's calls, and by which words a call may fail.
use Rattle.std.specs.Prelude.{◌≡◌, ◌⊎◌, ℕ, Bool, false, true, Some, IfSome}
use Rattle.aig_blast.specs.Aigs.{AigParts}
use Rattle.koika_check.specs.declared.checked.Checked.{Checked}
use Rattle.one_rule.specs.Stimulus.{InputVectors}
use Rattle.front_end.specs.Calls as calls
use Rattle.front_end.specs.Calls.{command_in, known_in}
use Rattle.front_end.specs.Program.{IsFailure}
use Rattle.front_end.specs.Sources.{Spells}
use Rattle.lab_top.specs.Answer.{ends, lab}
use Rattle.lab_top.specs.Words.{command_of}
use Rattle.lab_top.specs.declared.status.LabStatus.{LabStatus}
use Rattle.lab_top.specs.declared.status.LabStatus.TheVariants.{Done, Failed}
use Rattle.lab_top.specs.declared.words.Command.{Command}
use Rattle.lab_top.specs.declared.words.Command.TheVariants.{Profile, Verilog, Lint}

-- a call of the lab
abbrev pub Call : Type 0
Call = calls.Call LabStatus

-- Status 8 comes only where the words ask for a strict profile, whether the bytes of the source are known or not.
abbrev pub FailsIfStrict : Call → Type 0
FailsIfStrict c = c.status ≡ Failed → (cycles : ℕ) × (command_of c.words ≡ Some (Profile cycles true))

-- commands that have a text for each source that spells a design and a stimulus
abbrev pub takes_spelled : Command → Bool
takes_spelled (Verilog options) = true
takes_spelled Lint = true
takes_spelled other = false

-- Such a command has status 0 for a source that spells a design and a stimulus, unless reading or writing fails or memory
-- runs out.
abbrev pub TakesSpelled : AigParts → Call → Type 0
TakesSpelled circuit c =
    (command : Command) → command_in (lab circuit) c ≡ Some command → takes_spelled command ≡ true
    → IfSome (known_in (lab circuit) c) (λ bytes.
    (design : Checked) (stimulus : InputVectors) → Spells c.hosts bytes design stimulus
    → (c.status ≡ Done) ⊎ IsFailure (ends c.status))

-- all of it
pub record IsKept (untouched : Type 0) (c : Call) : Type 0 where
  -- the bit-level circuit of which the clauses of a claim were made
  pub circuit : AigParts
  -- the fifteen promises of each program, by their names: agrees, done, whole, usage, usage_only, usage_front,
  -- unread, refused, refused_line, exact, front, some, read_fault, nothing_written, write_fault
  pub any : calls.IsKept (lab circuit) untouched c
  pub open any use *
  -- by which words a call fails
  pub fails : FailsIfStrict c
  -- which commands take each source that spells a design and a stimulus
  pub takes : TakesSpelled circuit c
