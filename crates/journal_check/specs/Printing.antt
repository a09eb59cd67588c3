-- Journals as text, this project's own form: a line for the workers, a line for each batch, and after it a line for
-- each of its entries. The tokens of a line have one space between them, and each line ends with a line feed. Decimal
-- numbers have no leading zeros, and values have the report's hexadecimal digits.
use Rattle.std.specs.Prelude.{ℕ, if◌then◌else◌, List, [], ◌∷◌, ◌++◌, map, codes, decimal, Option, None, Some, slice_get}
use Rattle.std.specs.List.{flat_map}
use Rattle.kw_bits.specs.BitVector.{BitVector}
use Rattle.typed_core.specs.Laws.{read_at}
use Rattle.typed_core.specs.declared.access.Access.{Access}
use Rattle.typed_core.specs.declared.access.Event.{Event}
use Rattle.typed_core.specs.declared.design.Parts.{Parts}
use Rattle.typed_core.specs.declared.design.RegDecl.{RegDecl}
use Rattle.typed_core.specs.declared.design.Rule.{Rule}
use Rattle.typed_core.specs.declared.outcome.Outcome.{Outcome}
use Rattle.typed_core.specs.declared.outcome.Outcome.TheVariants as outcome
use Rattle.attempt_log.specs.declared.cause.Cause.{Cause}
use Rattle.attempt_log.specs.declared.cause.Cause.TheVariants as cause
use Rattle.attempt_log.specs.declared.cause.StaleRead.{StaleRead}
use Rattle.attempt_log.specs.declared.entry.Entry.{Entry}
use Rattle.attempt_log.specs.declared.entry.Entry.TheVariants as entry
use Rattle.attempt_log.specs.declared.entry.Settled.{Settled}
use Rattle.attempt_log.specs.declared.entry.Settled.TheVariants as settled
use Rattle.attempt_log.specs.declared.entry.Taken.{Taken}
use Rattle.attempt_log.specs.declared.entry.Taken.TheVariants as taken
use Rattle.stim_report.specs.Report.{hex}
use Rattle.journal_check.specs.Journals.{lines_in}
use Rattle.journal_check.specs.declared.journal.Journal.{Journal}
use Rattle.journal_check.specs.declared.line.JournalLine.{JournalLine}
use Rattle.journal_check.specs.declared.line.JournalLine.TheVariants as line

-- the name of a declaration, if there is one
abbrev pub name_of_register : Option RegDecl → List ℕ
name_of_register None = []
name_of_register (Some decl) = decl.name

-- a rule's name, if there is one
abbrev pub name_of_rule : Option Rule → List ℕ
name_of_rule None = []
name_of_rule (Some rule) = rule.name

-- the names of registers and rules by their numbers
abbrev pub register_name : Parts → ℕ → List ℕ
register_name design number = name_of_register (slice_get design.regs number)

-- the name of the rule of a number
abbrev pub rule_name : Parts → ℕ → List ℕ
rule_name design number = name_of_rule (slice_get design.rules number)

-- an access: `r` or `w`, the port, `:` and the register
abbrev pub access_text : Parts → Access → List ℕ
access_text design a = (if a.write then 119 else 114) ∷ decimal a.port ++ 58 ∷ register_name design a.register

-- a value as reports show it
abbrev pub value_text : BitVector → List ℕ
value_text value = hex value.width value.number

-- an event: its access, `=` and its value
abbrev pub event_text : Parts → Event → List ℕ
event_text design e = access_text design e.access ++ 61 ∷ value_text e.value

-- how a rule ended
abbrev pub outcome_tokens : Parts → Outcome → List (List ℕ)
outcome_tokens design outcome.Done = codes "done" ∷ []
outcome_tokens design outcome.Abort = codes "abort" ∷ []
outcome_tokens design (outcome.OwnClash a) = codes "own" ∷ access_text design a ∷ []

-- what was answered to an attempt
abbrev pub taken_text : Taken → List ℕ
taken_text taken.Stored = codes "stored"
taken_text taken.Late = codes "late"
taken_text taken.Ahead = codes "ahead"
taken_text taken.Twice = codes "twice"

-- why a rule was skipped
abbrev pub cause_tokens : Parts → Cause → List (List ℕ)
cause_tokens design cause.Abort = codes "abort" ∷ []
cause_tokens design (cause.OwnClash a) = codes "own" ∷ access_text design a ∷ []
cause_tokens design (cause.Clash a rule earlier) = codes "clash" ∷ access_text design a ∷ rule_name design rule ∷ access_text design earlier ∷ []

-- a read whose value differs now
abbrev pub stale_tokens : Parts → StaleRead → List (List ℕ)
stale_tokens design read =
    access_text design (read_at read.port read.register) ∷ (codes "held=" ++ value_text read.held) ∷ (codes "now=" ++ value_text read.now) ∷ []

-- what was answered when the head was to be settled
abbrev pub settled_tokens : Parts → Settled → List (List ℕ)
settled_tokens design (settled.Committed cycle rule) = codes "committed" ∷ decimal cycle ∷ rule_name design rule ∷ []
settled_tokens design (settled.Skipped cycle rule cause) = codes "skipped" ∷ decimal cycle ∷ rule_name design rule ∷ cause_tokens design cause
settled_tokens design (settled.Stale cycle rule read) = codes "stale" ∷ decimal cycle ∷ rule_name design rule ∷ stale_tokens design read
settled_tokens design (settled.CycleClosed cycle) = codes "closed" ∷ decimal cycle ∷ []
settled_tokens design (settled.Waiting cycle rule) = codes "waiting" ∷ decimal cycle ∷ rule_name design rule ∷ []
settled_tokens design settled.Finished = codes "finished" ∷ []

-- an entry: who made which call, and what was answered; an attempt without its inputs
abbrev pub entry_tokens : Parts → Entry → List (List ℕ)
entry_tokens design (entry.Submit worker cycle rule inputs events outcome answer) =
    codes "s" ∷ decimal worker ∷ decimal cycle ∷ rule_name design rule ∷ outcome_tokens design outcome ++ (map (event_text design) events ++ (codes ":" ∷ taken_text answer ∷ []))
entry_tokens design (entry.Settle worker answer) = codes "t" ∷ decimal worker ∷ codes ":" ∷ settled_tokens design answer

-- how many workers there were, and the cycles of a batch
abbrev pub begin_tokens : ℕ → List (List ℕ)
begin_tokens workers = codes "journal" ∷ (codes "workers=" ++ decimal workers) ∷ []

-- the tokens of a batch's first line
abbrev pub batch_tokens : ℕ → ℕ → List (List ℕ)
batch_tokens from to = codes "batch" ∷ decimal from ∷ decimal to ∷ []

-- the tokens of a line
abbrev pub line_tokens : Parts → JournalLine → List (List ℕ)
line_tokens design (line.Begins workers) = begin_tokens workers
line_tokens design (line.Batch from to) = batch_tokens from to
line_tokens design (line.Entry e) = entry_tokens design e

-- a token after a space
abbrev pub spaced : List ℕ → List ℕ
spaced token = 32 ∷ token

-- tokens with one space between them
abbrev pub joined_tokens : List (List ℕ) → List ℕ
joined_tokens [] = []
joined_tokens (token ∷ tokens) = token ++ flat_map spaced tokens

-- a line, without its line feed
abbrev pub line_text : Parts → JournalLine → List ℕ
line_text design l = joined_tokens (line_tokens design l)

-- lines, each with a line feed at its end
abbrev pub ended : List ℕ → List ℕ
ended text = text ++ 10 ∷ []

-- the text of lines
abbrev pub text_of : Parts → List JournalLine → List ℕ
text_of design lines = flat_map (λ (l : JournalLine). ended (line_text design l)) lines

-- the text of a journal
abbrev pub journal_text : Parts → Journal → List ℕ
journal_text design journal = text_of design (lines_in journal)
