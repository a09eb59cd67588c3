-- What private functions alone cite of this crate's `Tokens`.
use Rattle.std.specs.Prelude.{◌≡◌, ℕ, Result, Ok, Err, ◌==◌, ◌%◌, ◌^◌, nat_lt, if◌then◌else◌, Option, None, Some, List, [], ◌∷◌, drop, codes, slice_get}
use Rattle.std.specs.List.{slice_split}
use Rattle.std.specs.Str.{bytes_eq}
use Rattle.kw_base.specs.Texts.{is_space, pieces_after}
use Rattle.kw_base.specs.declared.texts.Separator.TheVariants as at
use Rattle.kw_bits.specs.BitVector.{BitVector}
use Rattle.typed_core.specs.Widths.{register_widths}
use Rattle.typed_core.specs.declared.access.Access.{Access}
use Rattle.typed_core.specs.declared.access.Event.{Event}
use Rattle.typed_core.specs.declared.design.Parts.{Parts}
use Rattle.typed_core.specs.declared.outcome.Outcome.{Outcome}
use Rattle.typed_core.specs.declared.outcome.Outcome.TheVariants as outcome
use Rattle.one_rule.specs.Stimulus.{InputVectors, inputs_of}
use Rattle.attempt_log.specs.declared.cause.Cause.{Cause}
use Rattle.attempt_log.specs.declared.cause.Cause.TheVariants as cause
use Rattle.attempt_log.specs.declared.cause.StaleRead.{StaleRead}
use Rattle.attempt_log.specs.declared.entry.Entry.TheVariants as entry
use Rattle.attempt_log.specs.declared.entry.Settled.{Settled}
use Rattle.attempt_log.specs.declared.entry.Settled.TheVariants as settled
use Rattle.attempt_log.specs.declared.entry.Taken.{Taken}
use Rattle.attempt_log.specs.declared.entry.Taken.TheVariants as taken
use Rattle.stim_report.specs.Assignments.{name_and_value}
use Rattle.journal_check.specs.Numbers.{number_read, value_read}
use Rattle.kw_bits.specs.declared.failure.Failure.{Failure}
use Rattle.journal_check.specs.declared.token.Malformed.{Malformed}
use Rattle.kw_bits.specs.declared.failure.Failure.TheVariants as failures
use Rattle.journal_check.specs.declared.head.Head.{Head}
use Rattle.journal_check.specs.declared.line.JournalLine.{JournalLine}
use Rattle.journal_check.specs.declared.line.JournalLine.TheVariants as line
use denote.Ref.{Bor}
use Rattle.journal_check.specs.Tokens.{register_names, rule_names, number_named}

-- the tokens of a line: what is between its spaces
abbrev pub tokens_of : List ℕ → List (List ℕ)
tokens_of text = slice_split is_space text

-- where a cursor stands on a line, these tokens are left; past the last there is none
abbrev pub tokens_left : Option (Bor (List ℕ)) → List (List ℕ)
tokens_left rest = pieces_after at.Space rest

-- what a part is read as, and then what follows by it
infixl 10 ◌>>=◌
abbrev pub ◌>>=◌ : {X Y : Type 0} → Option X → (X → Option Y) → Option Y
None >>= f = None
(Some x) >>= f = f x

-- a part at the front of tokens, and the tokens after it
abbrev pub Front : Type 0 → Type 0
Front X = Option (X × List (List ℕ))

abbrev pub token_at : List (List ℕ) → Front (List ℕ)
token_at [] = None
token_at (first ∷ tokens) = Some (first, tokens)

unfoldable pub number_at : List (List ℕ) → Front ℕ
number_at tokens = do
  token ← token_at tokens
  Some (number_read token.0, token.1)

-- ---- names

unfoldable pub rule_at : Parts → List (List ℕ) → Front ℕ
rule_at design tokens = do
  token ← token_at tokens
  number ← number_named (rule_names design) token.0
  Some (number, token.1)

-- a cycle and a rule
unfoldable pub head_at : Parts → List (List ℕ) → Front Head
head_at design tokens = do
  cycle ← number_at tokens
  rule ← rule_at design cycle.1
  Some (record { cycle = cycle.0; rule = rule.0 }, rule.1)

-- ---- accesses and events

-- an access by its bytes: the first says whether it is a write, the next the port, and the third is passed
abbrev pub access_read : Parts → List ℕ → Option Access
access_read design [] = None
access_read design (kind ∷ []) = None
access_read design (kind ∷ port ∷ []) = None
access_read design (kind ∷ port ∷ colon ∷ name) =
    number_named (register_names design) name >>= λ (register : ℕ). Some (record { write = kind == 119; port = port % 4; register = register })

unfoldable pub access_at : Parts → List (List ℕ) → Front Access
access_at design tokens = do
  token ← token_at tokens
  access ← access_read design token.0
  Some (access, token.1)

-- a value of a register by its digits, if it is one
abbrev pub bits_of : ℕ → ℕ → Option BitVector
bits_of width number = if nat_lt number (2 ^ width) then Some (record { width = width; number = number }) else None

abbrev pub value_of : Parts → ℕ → List ℕ → Option BitVector
value_of design register digits = slice_get (register_widths design) register >>= λ (width : ℕ). bits_of width (value_read digits)

unfoldable pub event_read : Parts → List ℕ → Option Event
event_read design token = do
  parts ← name_and_value token
  access ← access_read design parts.0
  value ← value_of design access.register parts.1
  Some (record { access = access; value = value })

-- events up to a colon, and the tokens after it
abbrev pub events_at : Parts → List (List ℕ) → Front (List Event)
events_at design [] = None
events_at design (token ∷ tokens) =
    if bytes_eq token (codes ":") then Some ([], tokens)
    else (event_read design token >>= λ (event : Event). events_at design tokens >>= λ (events : List Event × List (List ℕ)). Some (event ∷ events.0, events.1))

-- ---- answers

abbrev pub own_at : Parts → List (List ℕ) → Front Outcome
own_at design tokens = access_at design tokens >>= λ (access : Access × List (List ℕ)). Some (outcome.OwnClash access.0, access.1)

abbrev pub outcome_by : Parts → List ℕ → List (List ℕ) → Front Outcome
outcome_by design word tokens =
    if bytes_eq word (codes "done") then Some (outcome.Done, tokens)
    else if bytes_eq word (codes "abort") then Some (outcome.Abort, tokens)
    else own_at design tokens

unfoldable pub outcome_at : Parts → List (List ℕ) → Front Outcome
outcome_at design tokens = do
  word ← token_at tokens
  outcome_by design word.0 word.1

abbrev pub taken_read : List ℕ → Taken
taken_read word =
    if bytes_eq word (codes "stored") then taken.Stored
    else if bytes_eq word (codes "late") then taken.Late
    else if bytes_eq word (codes "ahead") then taken.Ahead
    else taken.Twice

unfoldable pub own_cause : Parts → List (List ℕ) → Option Cause
own_cause design tokens = do
  access ← access_at design tokens
  Some (cause.OwnClash access.0)

unfoldable pub clash_cause : Parts → List (List ℕ) → Option Cause
clash_cause design tokens = do
  access ← access_at design tokens
  rule ← rule_at design access.1
  earlier ← access_at design rule.1
  Some (cause.Clash access.0 rule.0 earlier.0)

abbrev pub cause_by : Parts → List ℕ → List (List ℕ) → Option Cause
cause_by design word tokens =
    if bytes_eq word (codes "abort") then Some cause.Abort
    else if bytes_eq word (codes "own") then own_cause design tokens
    else clash_cause design tokens

unfoldable pub cause_at : Parts → List (List ℕ) → Option Cause
cause_at design tokens = do
  word ← token_at tokens
  cause_by design word.0 word.1

-- a read, and the values after `held=` and `now=`
unfoldable pub stale_at : Parts → List (List ℕ) → Option StaleRead
stale_at design tokens = do
  access ← access_at design tokens
  held ← token_at access.1
  now ← token_at held.1
  before ← value_of design access.0.register (drop 5 held.0)
  after ← value_of design access.0.register (drop 4 now.0)
  Some (record { register = access.0.register; port = access.0.port; held = before; now = after })

unfoldable pub committed_at : Parts → List (List ℕ) → Option Settled
committed_at design tokens = do
  head ← head_at design tokens
  Some (settled.Committed head.0.cycle head.0.rule)

unfoldable pub skipped_at : Parts → List (List ℕ) → Option Settled
skipped_at design tokens = do
  head ← head_at design tokens
  why ← cause_at design head.1
  Some (settled.Skipped head.0.cycle head.0.rule why)

unfoldable pub outdated_at : Parts → List (List ℕ) → Option Settled
outdated_at design tokens = do
  head ← head_at design tokens
  read ← stale_at design head.1
  Some (settled.Stale head.0.cycle head.0.rule read)

unfoldable pub waiting_at : Parts → List (List ℕ) → Option Settled
waiting_at design tokens = do
  head ← head_at design tokens
  Some (settled.Waiting head.0.cycle head.0.rule)

unfoldable pub closed_at : List (List ℕ) → Option Settled
closed_at tokens = do
  cycle ← number_at tokens
  Some (settled.CycleClosed cycle.0)

abbrev pub settled_by : Parts → List ℕ → List (List ℕ) → Option Settled
settled_by design word tokens =
    if bytes_eq word (codes "committed") then committed_at design tokens
    else if bytes_eq word (codes "skipped") then skipped_at design tokens
    else if bytes_eq word (codes "stale") then outdated_at design tokens
    else if bytes_eq word (codes "closed") then closed_at tokens
    else if bytes_eq word (codes "waiting") then waiting_at design tokens
    else Some settled.Finished

unfoldable pub settled_at : Parts → List (List ℕ) → Option Settled
settled_at design tokens = do
  word ← token_at tokens
  settled_by design word.0 word.1

-- ---- lines

unfoldable pub submit_at : Parts → InputVectors → List (List ℕ) → Option JournalLine
submit_at design stimulus tokens = do
  worker ← number_at tokens
  head ← head_at design worker.1
  ending ← outcome_at design head.1
  events ← events_at design ending.1
  word ← token_at events.1
  Some (line.Entry (entry.Submit worker.0 head.0.cycle head.0.rule (inputs_of stimulus head.0.cycle) events.0 ending.0 (taken_read word.0)))

unfoldable pub settle_at : Parts → List (List ℕ) → Option JournalLine
settle_at design tokens = do
  worker ← number_at tokens
  colon ← token_at worker.1
  answer ← settled_at design colon.1
  Some (line.Entry (entry.Settle worker.0 answer))

unfoldable pub batch_at : List (List ℕ) → Option JournalLine
batch_at tokens = do
  from ← number_at tokens
  to ← number_at from.1
  Some (line.Batch from.0 to.0)

unfoldable pub begin_at : List (List ℕ) → Option JournalLine
begin_at tokens = do
  workers ← token_at tokens
  Some (line.Begins (number_read (drop 8 workers.0)))

abbrev pub line_by : Parts → InputVectors → List ℕ → List (List ℕ) → Option JournalLine
line_by design stimulus word tokens =
    if bytes_eq word (codes "s") then submit_at design stimulus tokens
    else if bytes_eq word (codes "t") then settle_at design tokens
    else if bytes_eq word (codes "batch") then batch_at tokens
    else begin_at tokens

-- what the tokens of a line are read as
unfoldable pub line_at : Parts → InputVectors → List (List ℕ) → Option JournalLine
line_at design stimulus tokens = do
  word ← token_at tokens
  line_by design stimulus word.0 word.1

-- ---- what the readers return

-- a reader gives what is read, seen so; a flaw where nothing is; no memory says nothing
abbrev pub Reads : {X Y : Type 0} → (X → Y) → Result X (Failure Malformed) → Option Y → Type 0
Reads view (Ok x) read = read ≡ Some (view x)
Reads view (Err (failures.Why malformed)) read = read ≡ None
Reads view (Err failures.NoMemory) read = Unit {0}

-- the same of a part with a cursor after it
abbrev pub ReadsFront : {X : Type 0} → Result (X × Option (Bor (List ℕ))) (Failure Malformed) → Front X → Type 0
ReadsFront {X} result read = Reads (λ (x : X × Option (Bor (List ℕ))). (x.0, tokens_left x.1)) result read

-- the same of a token
abbrev pub ReadsToken : Result (Bor (List ℕ) × Option (Bor (List ℕ))) (Failure Malformed) → Front (List ℕ) → Type 0
ReadsToken result read = Reads (λ (x : Bor (List ℕ) × Option (Bor (List ℕ))). (x.0.now, tokens_left x.1)) result read
