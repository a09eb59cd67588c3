-- A line that is printed has the tokens that it was printed from, and no other bytes than those of its names, spaces
-- and bytes above them.
use Rattle.std.proofs.Common.{◌≡◌, ℕ, zero, suc, ◌+◌, ◌/◌, ◌%◌, ◌^◌, ◌<◌, ◌≤◌, ◌&&◌, Bool, true, false, not, List, [], ◌∷◌, ◌++◌, length, map, get_or, refl, sym, ap, ap₂, ◌∙◌, append-nil, true≢false, arith}
use Rattle.std.specs.Prelude.{codes, decimal, if◌then◌else◌, nat_lt, slice_get}
use Rattle.std.specs.List.{AllByRecursion, flat_map, list_all}
use Rattle.std.proofs.lemmas.Bool.{ltb-true, ne_eqb}
use Rattle.std.proofs.lemmas.Fmt.{decimal_by_steps}
use Rattle.std.proofs.lemmas.List.Folds.{list_all-append}
use Rattle.std.proofs.lemmas.List.Splits.{slice_split_none, slice_split_at}
use Rattle.kw_bits.specs.BitVector.{BitVector}
use Rattle.typed_core.specs.Laws.{read_at}
use Rattle.typed_core.specs.declared.access.Access.{Access}
use Rattle.typed_core.specs.declared.access.Event.{Event}
use Rattle.typed_core.specs.declared.design.Parts.{Parts}
use Rattle.typed_core.specs.declared.design.RegDecl.{RegDecl}
use Rattle.typed_core.specs.declared.design.Rule.{Rule}
use Rattle.typed_core.specs.declared.outcome.Outcome.{Outcome}
use Rattle.typed_core.specs.declared.outcome.Outcome.TheVariants as outcome
use Rattle.attempt_log.specs.declared.cause.Cause.{Cause}
use Rattle.attempt_log.specs.declared.cause.Cause.TheVariants as cause
use Rattle.attempt_log.specs.declared.cause.StaleRead.{StaleRead}
use Rattle.attempt_log.specs.declared.entry.Entry.TheVariants as entry
use Rattle.attempt_log.specs.declared.entry.Settled.{Settled}
use Rattle.attempt_log.specs.declared.entry.Settled.TheVariants as settled
use Rattle.attempt_log.specs.declared.entry.Taken.{Taken}
use Rattle.attempt_log.specs.declared.entry.Taken.TheVariants as taken
use Rattle.stim_report.specs.Report.{hex_digit, hex_digits}
use Rattle.one_rule.specs.Stimulus.{InputVectors}
use Rattle.journal_check.specs.Fitting.{CauseFits, RegisterEventFits, IsSmall, LineFits, OutcomeFits, SettledFits, StaleFits}
use Rattle.journal_check.specs.Printing.{access_text, cause_tokens, event_text, joined_tokens, line_text, line_tokens, name_of_register, name_of_rule, outcome_tokens, register_name, settled_tokens, spaced, stale_tokens, taken_text, value_text}
use Rattle.journal_check.specs.Reading.{HasPlainNames}
use Rattle.journal_check.specs.Tokens.{register_names, rule_names}
use Rattle.kw_base.specs.Texts.{is_space}
use Rattle.journal_check.specs.inner.Tokens.{tokens_of}
use Rattle.journal_check.specs.declared.line.JournalLine.{JournalLine}
use Rattle.journal_check.specs.declared.line.JournalLine.TheVariants as line

-- ---- classes of bytes

-- all bytes above the space are of the class
abbrev pub HasVisible : (ℕ → Bool) → Type 0
HasVisible p = (b : ℕ) → 33 ≤ b → p b ≡ true

-- all bytes of the tokens are of the class
abbrev pub AreIn : (ℕ → Bool) → List (List ℕ) → Type 0
AreIn p tokens = AllByRecursion (λ (token : List ℕ). list_all p token ≡ true) tokens

-- all bytes of the names are
pub record HasNamesIn (p : ℕ → Bool) (design : Parts) : Type 0 where
  pub registers : AreIn p (register_names design)
  pub rules : AreIn p (rule_names design)

and_left : (a b : Bool) → (a && b) ≡ true → a ≡ true
and_left true b h = refl
and_left false b h = absurd (true≢false (sym h))

and_right : (a b : Bool) → (a && b) ≡ true → b ≡ true
and_right true b h = h
and_right false b h = absurd (true≢false (sym h))

pub append_in : (p : ℕ → Bool) (xs ys : List ℕ) → list_all p xs ≡ true → list_all p ys ≡ true → list_all p (xs ++ ys) ≡ true
append_in p xs ys h k = list_all-append p xs ys ∙ ap₂ (λ (a b : Bool). a && b) h k

all_append : (p : ℕ → Bool) (xs ys : List (List ℕ)) → AreIn p xs → AreIn p ys → AreIn p (xs ++ ys)
all_append p [] ys h k = k
all_append p (x ∷ xs) ys h k = (h.0, all_append p xs ys h.1 k)

-- ---- what tokens consist of

word_in : (p : ℕ → Bool) → HasVisible p → (word : List ℕ) → list_all (λ b. nat_lt 32 b) word ≡ true → list_all p word ≡ true
word_in p all [] h = refl
word_in p all (b ∷ word) h =
    let visible : 33 ≤ b = omega (arith, ltb-true 32 b (and_left (nat_lt 32 b) (list_all (λ x. nat_lt 32 x) word) h)) in
    ap₂ (λ (a c : Bool). a && c) (all b visible) (word_in p all word (and_right (nat_lt 32 b) (list_all (λ x. nat_lt 32 x) word) h))

digit_in : (p : ℕ → Bool) → HasVisible p → (d : ℕ) → list_all p ((48 + d) ∷ []) ≡ true
digit_in p all d = ap (λ (a : Bool). a && true) (all (48 + d) (omega arith))

decimal_in : (p : ℕ → Bool) → HasVisible p → (n : ℕ) → n < 2 ^ 64 → list_all p (decimal n) ≡ true
decimal_in p all n small =
    decimal_by_steps (λ (m : ℕ) (ds : List ℕ). list_all p ds ≡ true) (λ m few. digit_in p all m) (λ m ds many known. append_in p ds ((48 + m % 10) ∷ []) known (digit_in p all (m % 10))) n small

number_in : (p : ℕ → Bool) → HasVisible p → (n : ℕ) → IsSmall n → list_all p (decimal n) ≡ true
number_in p all n h = decimal_in p all n (omega (arith, h))

hex_digit_in : (p : ℕ → Bool) → HasVisible p → (d : ℕ) → p (hex_digit d) ≡ true
hex_digit_in p all d = choose (nat_lt d 10)
  where
    choose : (b : Bool) → p (if b then 48 + d else 87 + d) ≡ true
    choose true = all (48 + d) (omega arith)
    choose false = all (87 + d) (omega arith)

hex_in : (p : ℕ → Bool) → HasVisible p → (count n : ℕ) → list_all p (hex_digits count n) ≡ true
hex_in p all zero n = refl
hex_in p all (suc count) n = ap₂ (λ (a b : Bool). a && b) (hex_digit_in p all (n / 16 ^ count % 16)) (hex_in p all count n)

value_in : (p : ℕ → Bool) → HasVisible p → (value : BitVector) → list_all p (value_text value) ≡ true
value_in p all value = hex_in p all ((value.width + 3) / 4) value.number

register_in : (p : ℕ → Bool) (regs : List RegDecl) (number : ℕ) → AreIn p (map (λ (decl : RegDecl). decl.name) regs) → list_all p (name_of_register (slice_get regs number)) ≡ true
register_in p [] number all = refl
register_in p (decl ∷ regs) zero all = all.0
register_in p (decl ∷ regs) (suc number) all = register_in p regs number all.1

rule_in : (p : ℕ → Bool) (rules : List Rule) (number : ℕ) → AreIn p (map (λ (rule : Rule). rule.name) rules) → list_all p (name_of_rule (slice_get rules number)) ≡ true
rule_in p [] number all = refl
rule_in p (rule ∷ rules) zero all = all.0
rule_in p (rule ∷ rules) (suc number) all = rule_in p rules number all.1

-- ---- tokens

kind_in : (p : ℕ → Bool) → HasVisible p → (write : Bool) (rest : List ℕ) → list_all p rest ≡ true → list_all p ((if write then 119 else 114) ∷ rest) ≡ true
kind_in p all true rest h = ap₂ (λ (a b : Bool). a && b) (all 119 (omega arith)) h
kind_in p all false rest h = ap₂ (λ (a b : Bool). a && b) (all 114 (omega arith)) h

access_in : (p : ℕ → Bool) → HasVisible p → (design : Parts) → HasNamesIn p design → (a : Access) → a.port < 4 → list_all p (access_text design a) ≡ true
access_in p all design names a port =
    kind_in p all a.write (decimal a.port ++ 58 ∷ register_name design a.register)
    (append_in p (decimal a.port) (58 ∷ register_name design a.register) (decimal_in p all a.port (omega (arith, port)))
    (ap₂ (λ (b c : Bool). b && c) (all 58 (omega arith)) (register_in p design.regs a.register names.registers)))

event_in : (p : ℕ → Bool) → HasVisible p → (design : Parts) → HasNamesIn p design → (e : Event) → RegisterEventFits design e → list_all p (event_text design e) ≡ true
event_in p all design names e h =
    append_in p (access_text design e.access) (61 ∷ value_text e.value) (access_in p all design names e.access h.access.port)
    (ap₂ (λ (b c : Bool). b && c) (all 61 (omega arith)) (value_in p all e.value))

events_in : (p : ℕ → Bool) → HasVisible p → (design : Parts) → HasNamesIn p design → (events : List Event) → AllByRecursion (RegisterEventFits design) events → AreIn p (map (event_text design) events)
events_in p all design names [] fit = tt
events_in p all design names (e ∷ events) fit = (event_in p all design names e fit.0, events_in p all design names events fit.1)

outcome_in : (p : ℕ → Bool) → HasVisible p → (design : Parts) → HasNamesIn p design → (o : Outcome) → OutcomeFits design o → AreIn p (outcome_tokens design o)
outcome_in p all design names outcome.Done h = (word_in p all (codes "done") refl, tt)
outcome_in p all design names outcome.Abort h = (word_in p all (codes "abort") refl, tt)
outcome_in p all design names (outcome.OwnClash a) h = (word_in p all (codes "own") refl, (access_in p all design names a h.port, tt))

taken_in : (p : ℕ → Bool) → HasVisible p → (t : Taken) → list_all p (taken_text t) ≡ true
taken_in p all taken.Stored = word_in p all (codes "stored") refl
taken_in p all taken.Late = word_in p all (codes "late") refl
taken_in p all taken.Ahead = word_in p all (codes "ahead") refl
taken_in p all taken.Twice = word_in p all (codes "twice") refl

cause_in : (p : ℕ → Bool) → HasVisible p → (design : Parts) → HasNamesIn p design → (why : Cause) → CauseFits design why → AreIn p (cause_tokens design why)
cause_in p all design names cause.Abort h = (word_in p all (codes "abort") refl, tt)
cause_in p all design names (cause.OwnClash a) h = (word_in p all (codes "own") refl, (access_in p all design names a h.port, tt))
cause_in p all design names (cause.Clash a r earlier) h = (
  word_in p all (codes "clash") refl,
  (access_in p all design names a h.0.port, (rule_in p design.rules r names.rules, (access_in p all design names earlier h.2.port, tt))),
)

stale_in : (p : ℕ → Bool) → HasVisible p → (design : Parts) → HasNamesIn p design → (read : StaleRead) → StaleFits design read → AreIn p (stale_tokens design read)
stale_in p all design names read h = (
  access_in p all design names (read_at read.port read.register) h.access.port,
  (
    append_in p (codes "held=") (value_text read.held) (word_in p all (codes "held=") refl) (value_in p all read.held),
    (append_in p (codes "now=") (value_text read.now) (word_in p all (codes "now=") refl) (value_in p all read.now), tt),
  ),
)

settled_in : (p : ℕ → Bool) → HasVisible p → (design : Parts) → HasNamesIn p design → (s : Settled) → SettledFits design s → AreIn p (settled_tokens design s)
settled_in p all design names (settled.Committed cycle r) h = (word_in p all (codes "committed") refl, (number_in p all cycle h.0, (rule_in p design.rules r names.rules, tt)))
settled_in p all design names (settled.Skipped cycle r why) h =
    (word_in p all (codes "skipped") refl, (number_in p all cycle h.0, (rule_in p design.rules r names.rules, cause_in p all design names why h.2)))
settled_in p all design names (settled.Stale cycle r read) h = (word_in p all (codes "stale") refl, (number_in p all cycle h.0, (rule_in p design.rules r names.rules, stale_in p all design names read h.2)))
settled_in p all design names (settled.CycleClosed cycle) h = (word_in p all (codes "closed") refl, (number_in p all cycle h, tt))
settled_in p all design names (settled.Waiting cycle r) h = (word_in p all (codes "waiting") refl, (number_in p all cycle h.0, (rule_in p design.rules r names.rules, tt)))
settled_in p all design names settled.Finished h = (word_in p all (codes "finished") refl, tt)

-- the tokens of a line that fits
pub tokens_in : (p : ℕ → Bool) → HasVisible p → (design : Parts) → HasNamesIn p design → (stimulus : InputVectors) (workers : ℕ) (l : JournalLine) → IsSmall workers → LineFits design stimulus workers l → AreIn p (line_tokens design l)
tokens_in p all design names stimulus workers (line.Begins count) small h = (
  word_in p all (codes "journal") refl,
  (append_in p (codes "workers=") (decimal count) (word_in p all (codes "workers=") refl) (decimal_in p all count (omega (arith, h.1))), tt),
)
tokens_in p all design names stimulus workers (line.Batch from to) small h = (word_in p all (codes "batch") refl, (number_in p all from h.0, (number_in p all to h.1, tt)))
tokens_in p all design names stimulus workers (line.Entry (entry.Submit worker cycle r inputs events ending answer)) small h = (
  word_in p all (codes "s") refl,
  (
    decimal_in p all worker (omega (arith, small, h.0)),
    (
      decimal_in p all cycle (omega (arith, h.2)),
      (
        rule_in p design.rules r names.rules,
        all_append p (outcome_tokens design ending) (map (event_text design) events ++ codes ":" ∷ taken_text answer ∷ []) (outcome_in p all design names ending h.6)
            (all_append p (map (event_text design) events) (codes ":" ∷ taken_text answer ∷ []) (events_in p all design names events h.5) (word_in p all (codes ":") refl, (taken_in p all answer, tt))),
      ),
    ),
  ),
)
tokens_in p all design names stimulus workers (line.Entry (entry.Settle worker answer)) small h =
    (word_in p all (codes "t") refl, (decimal_in p all worker (omega (arith, small, h.0)), (word_in p all (codes ":") refl, settled_in p all design names answer h.1)))

-- ---- lines are cut into their tokens

not_space : HasVisible (λ (b : ℕ). not (is_space b))
not_space b h = ap not (ne_eqb b 32 (λ e. absurd (omega (arith, e, h))))

not-true : (b : Bool) → not b ≡ true → b ≡ false
not-true true h = absurd (true≢false (sym h))
not-true false h = refl

passes : (bytes : List ℕ) → list_all (λ b. not (is_space b)) bytes ≡ true → (k d : ℕ) → k < length bytes → is_space (get_or bytes k d) ≡ false
passes [] h k d within = absurd (omega (arith, within))
passes (b ∷ bytes) h zero d within = not-true (is_space b) (and_left (not (is_space b)) (list_all (λ x. not (is_space x)) bytes) h)
passes (b ∷ bytes) h (suc k) d within = passes bytes (and_right (not (is_space b)) (list_all (λ x. not (is_space x)) bytes) h) k d (omega (arith, within))

-- tokens are cut where they were joined
cut_joined : (token : List ℕ) (tokens : List (List ℕ)) → list_all (λ b. not (is_space b)) token ≡ true → AreIn (λ b. not (is_space b)) tokens → tokens_of (joined_tokens (token ∷ tokens)) ≡ token ∷ tokens
cut_joined token [] plain all = ap tokens_of (append-nil token) ∙ slice_split_none is_space token (passes token plain)
cut_joined token (next ∷ tokens) plain all =
    slice_split_at is_space token 32 (joined_tokens (next ∷ tokens)) (passes token plain) refl ∙ ap (λ (ts : List (List ℕ)). token ∷ ts) (cut_joined next tokens all.0 all.1)

cut_tokens : (tokens : List (List ℕ)) → 0 < length tokens → AreIn (λ b. not (is_space b)) tokens → tokens_of (joined_tokens tokens) ≡ tokens
cut_tokens [] some all = absurd (omega (arith, some))
cut_tokens (token ∷ tokens) some all = cut_joined token tokens all.0 all.1

some_tokens : (design : Parts) (l : JournalLine) → 0 < length (line_tokens design l)
some_tokens design (line.Begins count) = omega arith
some_tokens design (line.Batch from to) = omega arith
some_tokens design (line.Entry (entry.Submit worker cycle r inputs events ending answer)) = omega arith
some_tokens design (line.Entry (entry.Settle worker answer)) = omega arith

-- the text of a line that fits is cut into its tokens
pub cut_line : (design : Parts) (stimulus : InputVectors) (workers : ℕ) (l : JournalLine) → HasPlainNames design → IsSmall workers → LineFits design stimulus workers l → tokens_of (line_text design l) ≡ line_tokens design l
cut_line design stimulus workers l names small h =
    cut_tokens (line_tokens design l) (some_tokens design l)
    (tokens_in (λ b. not (is_space b)) not_space design (record { registers = names.registers; rules = names.rules }) stimulus workers l small h)

-- the bytes of a text of tokens
pub joined_in : (p : ℕ → Bool) → p 32 ≡ true → (tokens : List (List ℕ)) → AreIn p tokens → list_all p (joined_tokens tokens) ≡ true
joined_in p space [] all = refl
joined_in p space (token ∷ tokens) all = append_in p token (flat_map spaced tokens) all.0 (spaced_in tokens all.1)
  where
    spaced_in : (ts : List (List ℕ)) → AreIn p ts → list_all p (flat_map spaced ts) ≡ true
    spaced_in [] h = refl
    spaced_in (t ∷ ts) h = append_in p (spaced t) (flat_map spaced ts) (ap₂ (λ (a b : Bool). a && b) space h.0) (spaced_in ts h.1)
