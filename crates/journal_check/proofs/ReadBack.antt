-- What is printed of things that fit is read back, part by part.
use Rattle.std.proofs.Common.{◌≡◌, ℕ, zero, suc, ◌+◌, ◌/◌, ◌%◌, ◌^◌, ◌<◌, ◌==◌, ◌&&◌, Bool, true, false, not, List, [], ◌∷◌, ◌++◌, map, Option, Some, None, refl, sym, ap, ap₂, ◌∙◌, arith}
use Rattle.std.specs.Prelude.{codes, decimal, if◌then◌else◌}
use Rattle.std.specs.List.{AllByRecursion}
use Rattle.std.specs.Str.{bytes_eq}
use Rattle.std.proofs.lemmas.Bool.{lt-ltb}
use Rattle.std.proofs.lemmas.Fmt.{decimal_digit}
use Rattle.kw_bits.specs.BitVector.{BitVector}
use Rattle.typed_core.specs.Laws.{read_at}
use Rattle.typed_core.specs.declared.access.Access.{Access}
use Rattle.typed_core.specs.declared.access.Event.{Event}
use Rattle.typed_core.specs.declared.design.Parts.{Parts}
use Rattle.typed_core.specs.declared.outcome.Outcome.{Outcome}
use Rattle.typed_core.specs.declared.outcome.Outcome.TheVariants as outcome
use Rattle.one_rule.specs.Stimulus.{InputVectors, inputs_of}
use Rattle.attempt_log.specs.declared.cause.Cause.{Cause}
use Rattle.attempt_log.specs.declared.cause.Cause.TheVariants as cause
use Rattle.attempt_log.specs.declared.cause.StaleRead.{StaleRead}
use Rattle.attempt_log.specs.declared.entry.Entry.TheVariants as entry
use Rattle.attempt_log.specs.declared.entry.Settled.{Settled}
use Rattle.attempt_log.specs.declared.entry.Settled.TheVariants as settled
use Rattle.attempt_log.specs.declared.entry.Taken.{Taken}
use Rattle.attempt_log.specs.declared.entry.Taken.TheVariants as taken
use Rattle.stim_report.specs.Report.{hex_digit, hex_digits}
use Rattle.journal_check.specs.Fitting.{AccessFits, CauseFits, RegisterEventFits, IsRule, IsSmall, LineFits, OutcomeFits, SettledFits, StaleFits, RegisterValueFits}
use Rattle.journal_check.specs.Printing.{access_text, cause_tokens, event_text, line_tokens, outcome_tokens, register_name, rule_name, settled_tokens, stale_tokens, taken_text, value_text}
use Rattle.journal_check.specs.inner.Tokens.{◌>>=◌, access_at, access_read, batch_at, begin_at, bits_of, cause_at, clash_cause, closed_at, committed_at, event_read, events_at, head_at, line_at, number_at, outcome_at, outdated_at, own_cause, rule_at, settle_at, settled_at, skipped_at, stale_at, submit_at, taken_read, value_of, waiting_at}
use Rattle.journal_check.specs.declared.line.JournalLine.{JournalLine}
use Rattle.journal_check.specs.declared.line.JournalLine.TheVariants as line
use Rattle.journal_check.proofs.Digits.{digit_not, number_read-decimal, value_read-hex}
use Rattle.journal_check.proofs.EventsCut.{cut_event, has_no_equals}

number_back : (n : ℕ) (rest : List (List ℕ)) → IsSmall n → number_at (decimal n ∷ rest) ≡ Some (n, rest)
unfolding number_at
number_back n rest h = ap (λ (k : ℕ). Some (k, rest)) (number_read-decimal n h)

rule_back : (design : Parts) (r : ℕ) (rest : List (List ℕ)) → IsRule design r → rule_at design (rule_name design r ∷ rest) ≡ Some (r, rest)
unfolding rule_at
rule_back design r rest h = ap (λ (found : Option ℕ). found >>= λ (number : ℕ). Some (number, rest)) h

head_back : (design : Parts) (cycle r : ℕ) (rest : List (List ℕ)) → IsSmall cycle → IsRule design r → head_at design (decimal cycle ∷ rule_name design r ∷ rest) ≡ Some (record { cycle = cycle; rule = r }, rest)
unfolding head_at
head_back design cycle r rest small is = rw (number_back cycle (rule_name design r ∷ rest) small, rule_back design r rest is) refl

-- ---- accesses

kind_back : (write : Bool) → ((if write then 119 else 114) == 119) ≡ write
kind_back true = refl
kind_back false = refl

port_back : (p : ℕ) → p < 4 → (48 + p) % 4 ≡ p
port_back p h = omega (arith, h)

access_back : (design : Parts) (a : Access) → AccessFits design a → access_read design (access_text design a) ≡ Some a
access_back design a h =
    let kind = if a.write then 119 else 114 in
    let name = register_name design a.register in
    ap (λ (ds : List ℕ). access_read design (kind ∷ ds ++ 58 ∷ name)) (decimal_digit a.port (omega (arith, h.port)))
    ∙ ap (λ (found : Option ℕ). found >>= λ (register : ℕ). Some (record { write = kind == 119; port = (48 + a.port) % 4; register = register })) h.register
    ∙ ap₂ (λ (w : Bool) (p : ℕ). Some (record { write = w; port = p; register = a.register })) (kind_back a.write) (port_back a.port h.port)

access_at_back : (design : Parts) (a : Access) (rest : List (List ℕ)) → AccessFits design a → access_at design (access_text design a ∷ rest) ≡ Some (a, rest)
unfolding access_at
access_at_back design a rest h = ap (λ (found : Option Access). found >>= λ (access : Access). Some (access, rest)) (access_back design a h)

-- ---- values and events

bits_back : (width : ℕ) (value : BitVector) → value.width ≡ width → value.number < 2 ^ width → bits_of width value.number ≡ Some value
bits_back width value is small =
    ap (λ (b : Bool). if b then Some (record { width = width; number = value.number }) else None) (lt-ltb value.number (2 ^ width) small)
    ∙ ap (λ (w : ℕ). Some (record { width = w; number = value.number })) (sym is)

value_back : (design : Parts) (register : ℕ) (value : BitVector) → RegisterValueFits design register value → value_of design register (value_text value) ≡ Some value
value_back design register value h =
    let width = h.0 in
    let bits = h.2.0 in
    let is = h.2.1 in
    let small : value.number < 2 ^ width = rw (sym is) bits.in_range in
    ap₂ (λ (w : Option ℕ) (n : ℕ). w >>= λ (width : ℕ). bits_of width n) h.1 (value_read-hex value.width value.number bits.in_range bits.no_wider)
    ∙ bits_back width value is small

-- no digit is an `=`
digit_no_equals : (d : ℕ) → not (hex_digit d == 61) ≡ true
digit_no_equals d = ap not (digit_not 61 d (λ h e. absurd (omega (arith, h, e))) (λ e. absurd (omega (arith, e))))

digits_no_equals : (count n : ℕ) → has_no_equals (hex_digits count n) ≡ true
digits_no_equals zero n = refl
digits_no_equals (suc count) n = ap₂ (λ (a b : Bool). a && b) (digit_no_equals _) (digits_no_equals count n)

event_back : (design : Parts) (e : Event) → RegisterEventFits design e → event_read design (event_text design e) ≡ Some e
unfolding event_read
event_back design e h =
    rw (cut_event (access_text design e.access) (value_text e.value) (omega arith) (digits_no_equals ((e.value.width + 3) / 4) e.value.number), access_back design e.access h.access, value_back design e.access.register e.value h.value) refl

not_colon : (write : Bool) (rest : List ℕ) → bytes_eq ((if write then 119 else 114) ∷ rest) (codes ":") ≡ false
not_colon true rest = refl
not_colon false rest = refl

events_back : (design : Parts) (events : List Event) (rest : List (List ℕ)) → AllByRecursion (RegisterEventFits design) events → events_at design (map (event_text design) events ++ codes ":" ∷ rest) ≡ Some (events, rest)
events_back design [] rest all = refl
events_back design (e ∷ events) rest all =
    rw (not_colon e.access.write (decimal e.access.port ++ 58 ∷ register_name design e.access.register ++ 61 ∷ value_text e.value), event_back design e all.0, events_back design events rest all.1) refl

-- ---- answers

outcome_back : (design : Parts) (o : Outcome) (rest : List (List ℕ)) → OutcomeFits design o → outcome_at design (outcome_tokens design o ++ rest) ≡ Some (o, rest)
unfolding outcome_at
outcome_back design outcome.Done rest h = refl
outcome_back design outcome.Abort rest h = refl
outcome_back design (outcome.OwnClash a) rest h = rw (access_at_back design a rest h) refl

pub taken_back : (t : Taken) → taken_read (taken_text t) ≡ t
taken_back taken.Stored = refl
taken_back taken.Late = refl
taken_back taken.Ahead = refl
taken_back taken.Twice = refl

cause_back : (design : Parts) (why : Cause) → CauseFits design why → cause_at design (cause_tokens design why) ≡ Some why
unfolding cause_at own_cause clash_cause
cause_back design cause.Abort h = refl
cause_back design (cause.OwnClash a) h = rw (access_at_back design a [] h) refl
cause_back design (cause.Clash a r earlier) h =
    rw (access_at_back design a (rule_name design r ∷ access_text design earlier ∷ []) h.0, rule_back design r (access_text design earlier ∷ []) h.1, access_at_back design earlier [] h.2) refl

stale_back : (design : Parts) (read : StaleRead) → StaleFits design read → stale_at design (stale_tokens design read) ≡ Some read
unfolding stale_at
stale_back design read h =
    rw (access_at_back design (read_at read.port read.register) ((codes "held=" ++ value_text read.held) ∷ (codes "now=" ++ value_text read.now) ∷ []) h.access, value_back design read.register read.held h.held, value_back design read.register read.now h.now_value) refl

settled_back : (design : Parts) (s : Settled) → SettledFits design s → settled_at design (settled_tokens design s) ≡ Some s
unfolding settled_at committed_at skipped_at outdated_at waiting_at closed_at
settled_back design (settled.Committed cycle r) h = rw (head_back design cycle r [] h.0 h.1) refl
settled_back design (settled.Skipped cycle r why) h = rw (head_back design cycle r (cause_tokens design why) h.0 h.1, cause_back design why h.2) refl
settled_back design (settled.Stale cycle r read) h = rw (head_back design cycle r (stale_tokens design read) h.0 h.1, stale_back design read h.2) refl
settled_back design (settled.CycleClosed cycle) h = rw (number_back cycle [] h) refl
settled_back design (settled.Waiting cycle r) h = rw (head_back design cycle r [] h.0 h.1) refl
settled_back design settled.Finished h = refl

-- ---- lines

submit_back : (design : Parts) (stimulus : InputVectors) (worker cycle r : ℕ) (events : List Event) (ending : Outcome) (answer : Taken)
    → IsSmall worker → IsSmall cycle → IsRule design r → AllByRecursion (RegisterEventFits design) events → OutcomeFits design ending
    → submit_at design stimulus (decimal worker ∷ decimal cycle ∷ rule_name design r ∷ (outcome_tokens design ending ++ (map (event_text design) events ++ (codes ":" ∷ taken_text answer ∷ []))))
    ≡ Some (line.Entry (entry.Submit worker cycle r (inputs_of stimulus cycle) events ending answer))
unfolding submit_at
submit_back design stimulus worker cycle r events ending answer few small is all fits =
    let last = taken_text answer ∷ [] in
    let back = map (event_text design) events ++ (codes ":" ∷ last) in
    rw (
      number_back worker (decimal cycle ∷ rule_name design r ∷ (outcome_tokens design ending ++ back)) few,
      head_back design cycle r (outcome_tokens design ending ++ back) small is,
      outcome_back design ending back fits,
      events_back design events last all,
      taken_back answer,
    ) refl

settle_back : (design : Parts) (worker : ℕ) (answer : Settled) → IsSmall worker → SettledFits design answer
    → settle_at design (decimal worker ∷ codes ":" ∷ settled_tokens design answer) ≡ Some (line.Entry (entry.Settle worker answer))
unfolding settle_at
settle_back design worker answer few fits =
    rw (number_back worker (codes ":" ∷ settled_tokens design answer) few, settled_back design answer fits) refl

batch_back : (from to : ℕ) → IsSmall from → IsSmall to → batch_at (decimal from ∷ decimal to ∷ []) ≡ Some (line.Batch from to)
unfolding batch_at
batch_back from to a b = rw (number_back from (decimal to ∷ []) a, number_back to [] b) refl

begin_back : (workers : ℕ) → IsSmall workers → begin_at ((codes "workers=" ++ decimal workers) ∷ []) ≡ Some (line.Begins workers)
unfolding begin_at
begin_back workers small = ap (λ (k : ℕ). Some (line.Begins k)) (number_read-decimal workers small)

-- a line that fits is read back
pub line_back : (design : Parts) (stimulus : InputVectors) (workers : ℕ) (l : JournalLine) → IsSmall workers → LineFits design stimulus workers l → line_at design stimulus (line_tokens design l) ≡ Some l
unfolding line_at
line_back design stimulus workers (line.Begins count) small h = begin_back count (omega (arith, h.1))
line_back design stimulus workers (line.Batch from to) small h = batch_back from to h.0 h.1
line_back design stimulus workers (line.Entry (entry.Submit worker cycle r inputs events ending answer)) small h =
    submit_back design stimulus worker cycle r events ending answer (omega (arith, small, h.0)) (omega (arith, h.2)) h.3 h.5 h.6
    ∙ ap (λ (given : List BitVector). Some (line.Entry (entry.Submit worker cycle r given events ending answer))) (sym h.4)
line_back design stimulus workers (line.Entry (entry.Settle worker answer)) small h = settle_back design worker answer (omega (arith, small, h.0)) h.1
