-- What a line is read as fits the design, where its numbers are in their ranges.
use Rattle.std.proofs.Common.{◌≡◌, ℕ, zero, suc, ◌+◌, ◌*◌, ◌%◌, ◌^◌, ◌<◌, Bool, true, false, List, [], ◌∷◌, length, map, drop, get_or, Option, Some, None, refl, sym, ap, subst, ◌∙◌, arith}
use Rattle.std.specs.Prelude.{codes, slice_get, nat_lt, if◌then◌else◌}
use Rattle.std.specs.List.{All, AllByRecursion, fold}
use Rattle.std.specs.Str.{bytes_eq}
use Rattle.std.proofs.Math.Nat.{mod-lt}
use Rattle.std.proofs.lemmas.Bool.{ltb-true}
use Rattle.std.proofs.lemmas.List.{length-map}
use Rattle.std.proofs.lemmas.List.Quantifiers.{position-Some}
use Rattle.std.proofs.lemmas.Slice.Eq.{bytes_eq-Decides}
use Rattle.kw_bits.specs.BitVector.{BitVector}
use Rattle.kw_bits.specs.Laws.{HasWidth}
use Rattle.typed_core.specs.Laws.{read_at}
use Rattle.typed_core.specs.Valid.{IsValid, IsWidth}
use Rattle.typed_core.specs.Valid as valid
use Rattle.typed_core.specs.declared.access.Access.{Access}
use Rattle.typed_core.specs.declared.access.Event.{Event}
use Rattle.typed_core.specs.declared.design.Parts.{Parts}
use Rattle.typed_core.specs.declared.design.RegDecl.{RegDecl}
use Rattle.typed_core.specs.declared.design.Rule.{Rule}
use Rattle.typed_core.specs.declared.outcome.Outcome.{Outcome}
use Rattle.typed_core.specs.declared.outcome.Outcome.TheVariants as outcome
use Rattle.one_rule.specs.Stimulus.{InputVectors}
use Rattle.attempt_log.specs.declared.cause.Cause.{Cause}
use Rattle.attempt_log.specs.declared.cause.Cause.TheVariants as cause
use Rattle.attempt_log.specs.declared.cause.StaleRead.{StaleRead}
use Rattle.attempt_log.specs.declared.entry.Settled.{Settled}
use Rattle.attempt_log.specs.declared.entry.Settled.TheVariants as settled
use Rattle.stim_report.specs.Assignments.{name_and_value}
use Rattle.journal_check.specs.inner.Allowed.{Differs, IsAllowed}
use Rattle.journal_check.specs.Fitting.{AccessFits, CauseFits, RegisterEventFits, IsRegister, IsRule, IsSmall, LineFits, OutcomeFits, SettledFits, RegisterValueFits}
use Rattle.journal_check.specs.Numbers.{number_read, value_read, with_decimal}
use Rattle.journal_check.specs.Printing.{name_of_register, name_of_rule, register_name}
use Rattle.journal_check.specs.Tokens.{number_named, register_names, rule_names}
use Rattle.journal_check.specs.inner.Tokens.{◌>>=◌, access_at, access_read, batch_at, begin_at, bits_of, cause_at, clash_cause, closed_at, committed_at, event_read, events_at, head_at, line_at, number_at, outcome_at, outdated_at, own_at, own_cause, rule_at, settle_at, settled_at, skipped_at, stale_at, submit_at, token_at, value_of, waiting_at}
use Rattle.journal_check.specs.declared.head.Head.{Head}
use Rattle.journal_check.specs.declared.line.JournalLine.{JournalLine}
use Rattle.journal_check.proofs.LinesRead.{value_or}

-- ---- options and tests

first_of : {X Y : Type 0} (o : Option X) (f : X → Option Y) (y : Y) → (o >>= f) ≡ Some y → (x : X) × (o ≡ Some x) × (f x ≡ Some y)
first_of None f y h = absurd (cc)
first_of (Some x) f y h = (x, refl, h)

same_value : {X : Type 0} (a b : X) → Some a ≡ Some b → a ≡ b
same_value a b h = ap (value_or a) h

-- ---- numbers and names

stays_small : (ds : List ℕ) (v : ℕ) → IsSmall v → IsSmall (fold with_decimal v ds)
stays_small [] v h = h
stays_small (d ∷ ds) v h = stays_small ds (with_decimal v d) (mod-lt (v * 10 % 2 ^ 32 + d % 16) (omega arith))

number_small : (token : List ℕ) → IsSmall (number_read token)
number_small token = stays_small token 0 (omega arith)

name_at_rule : (rules : List Rule) (number : ℕ) → name_of_rule (slice_get rules number) ≡ get_or (map (λ (rule : Rule). rule.name) rules) number []
name_at_rule [] number = refl
name_at_rule (rule ∷ rules) zero = refl
name_at_rule (rule ∷ rules) (suc number) = name_at_rule rules number

name_at_register : (regs : List RegDecl) (number : ℕ) → name_of_register (slice_get regs number) ≡ get_or (map (λ (decl : RegDecl). decl.name) regs) number []
name_at_register [] number = refl
name_at_register (decl ∷ regs) zero = refl
name_at_register (decl ∷ regs) (suc number) = name_at_register regs number

found_name : (names : List (List ℕ)) (name : List ℕ) (number : ℕ) → number_named names name ≡ Some number → name ≡ get_or names number []
found_name names name number h = (bytes_eq-Decides name (get_or names number [])).0 (position-Some (bytes_eq name) names number [] h).1

rule_named : (design : Parts) (name : List ℕ) (number : ℕ) → number_named (rule_names design) name ≡ Some number → IsRule design number
rule_named design name number h =
    ap (number_named (rule_names design)) (name_at_rule design.rules number ∙ sym (found_name (rule_names design) name number h)) ∙ h

register_named : (design : Parts) (name : List ℕ) (number : ℕ) → number_named (register_names design) name ≡ Some number → IsRegister design number
register_named design name number h =
    ap (number_named (register_names design)) (name_at_register design.regs number ∙ sym (found_name (register_names design) name number h)) ∙ h

-- ---- parts of lines

number_front : (tokens : List (List ℕ)) (read : ℕ × List (List ℕ)) → number_at tokens ≡ Some read → IsSmall read.0
unfolding number_at
number_front tokens read h =
    let token = first_of (token_at tokens) _ read h in
    subst (λ (r : ℕ × List (List ℕ)). IsSmall r.0) (same_value _ _ token.2) (number_small token.0.0)

rule_front : (design : Parts) (tokens : List (List ℕ)) (read : ℕ × List (List ℕ)) → rule_at design tokens ≡ Some read → IsRule design read.0
unfolding rule_at
rule_front design tokens read h =
    let token = first_of (token_at tokens) _ read h in
    let number = first_of (number_named (rule_names design) token.0.0) _ read token.2 in
    subst (λ (r : ℕ × List (List ℕ)). IsRule design r.0) (same_value _ _ number.2) (rule_named design token.0.0 number.0 number.1)

head_front : (design : Parts) (tokens : List (List ℕ)) (read : Head × List (List ℕ)) → head_at design tokens ≡ Some read → IsSmall read.0.cycle × IsRule design read.0.rule
unfolding head_at
head_front design tokens read h =
    let cycle = first_of (number_at tokens) _ read h in
    let rule = first_of (rule_at design cycle.0.1) _ read cycle.2 in
    subst (λ (r : Head × List (List ℕ)). IsSmall r.0.cycle × IsRule design r.0.rule) (same_value _ _ rule.2) (number_front tokens cycle.0 cycle.1, rule_front design cycle.0.1 rule.0 rule.1)

access_fits : (design : Parts) (token : List ℕ) (a : Access) → access_read design token ≡ Some a → AccessFits design a
access_fits design [] a h = absurd (cc)
access_fits design (kind ∷ []) a h = absurd (cc)
access_fits design (kind ∷ port ∷ []) a h = absurd (cc)
access_fits design (kind ∷ port ∷ colon ∷ name) a h =
    let register = first_of (number_named (register_names design) name) _ a h in
    subst (AccessFits design) (same_value _ _ register.2) (record { port = mod-lt port (omega arith); register = register_named design name register.0 register.1 })

access_front : (design : Parts) (tokens : List (List ℕ)) (read : Access × List (List ℕ)) → access_at design tokens ≡ Some read → AccessFits design read.0
unfolding access_at
access_front design tokens read h =
    let token = first_of (token_at tokens) _ read h in
    let access = first_of (access_read design token.0.0) _ read token.2 in
    subst (λ (r : Access × List (List ℕ)). AccessFits design r.0) (same_value _ _ access.2) (access_fits design token.0.0 access.0 access.1)

-- ---- values and events

-- a register has a width
width_fits : (regs : List RegDecl) → All valid.IsRegister regs → (k : ℕ) → k < length regs → (w : ℕ) × (slice_get (map (λ (decl : RegDecl). decl.width) regs) k ≡ Some w) × IsWidth w
width_fits [] all k within = absurd (omega (arith, within))
width_fits (decl ∷ regs) all zero within =
    let h : valid.IsRegister decl = all 0 decl (omega (arith, within)) in
    (decl.width, refl, (omega (arith, h.0.some_bit, h.1), omega (arith, h.0.no_wider, h.1)))
width_fits (decl ∷ regs) all (suc k) within = width_fits regs (λ j d inside. all (suc j) d (omega (arith, inside))) k (omega (arith, within))

made : (w n : ℕ) (v : BitVector) → IsWidth w → (b : Bool) → nat_lt n (2 ^ w) ≡ b → (if b then Some (record { width = w; number = n }) else None) ≡ Some v → HasWidth v w
made w n v wide true t h = subst (λ (x : BitVector). HasWidth x w) (same_value _ _ h) (record { some_bit = wide.0; no_wider = wide.1; in_range = ltb-true n (2 ^ w) t }, refl)
made w n v wide false t h = absurd (cc)

value_fits : (design : Parts) → IsValid design → (register : ℕ) (digits : List ℕ) (v : BitVector) → IsRegister design register → value_of design register digits ≡ Some v → RegisterValueFits design register v
value_fits design sound register digits v named h =
    let count : length (register_names design) ≡ length design.regs = length-map design.regs (λ (decl : RegDecl). decl.name) in
    let within : register < length design.regs = omega (arith, count, (position-Some (bytes_eq (register_name design register)) (register_names design) register [] named).0) in
    let w = width_fits design.regs sound.registers register within in
    let h' : bits_of w.0 (value_read digits) ≡ Some v = ap (λ (o : Option ℕ). o >>= λ (width : ℕ). bits_of width (value_read digits)) (sym w.1) ∙ h in
    (w.0, w.1, made w.0 (value_read digits) v w.2 (nat_lt (value_read digits) (2 ^ w.0)) refl h')

event_fits : (design : Parts) → IsValid design → (token : List ℕ) (e : Event) → event_read design token ≡ Some e → RegisterEventFits design e
unfolding event_read
event_fits design sound token e h =
    let parts = first_of (name_and_value token) _ e h in
    let access = first_of (access_read design parts.0.0) _ e parts.2 in
    let value = first_of (value_of design access.0.register parts.0.1) _ e access.2 in
    let fits = access_fits design parts.0.0 access.0 access.1 in
    subst (RegisterEventFits design) (same_value _ _ value.2) (record { access = fits; value = value_fits design sound access.0.register parts.0.1 value.0 fits.register value.1 })

events_by : (design : Parts) (token : List ℕ) (tokens : List (List ℕ)) (read : List Event × List (List ℕ)) (b : Bool) → IsValid design
    → ((more : List Event × List (List ℕ)) → events_at design tokens ≡ Some more → AllByRecursion (RegisterEventFits design) more.0)
    → (if b then Some ([], tokens) else (event_read design token >>= λ (event : Event). events_at design tokens >>= λ (events : List Event × List (List ℕ)). Some (event ∷ events.0, events.1))) ≡ Some read → AllByRecursion (RegisterEventFits design) read.0
events_by design token tokens read true sound again k = subst (λ (r : List Event × List (List ℕ)). AllByRecursion (RegisterEventFits design) r.0) (same_value _ _ k) tt
events_by design token tokens read false sound again k =
    let event = first_of (event_read design token) _ read k in
    let events = first_of (events_at design tokens) _ read event.2 in
    subst (λ (r : List Event × List (List ℕ)). AllByRecursion (RegisterEventFits design) r.0) (same_value _ _ events.2) (event_fits design sound token event.0 event.1, again events.0 events.1)

events_fit : (design : Parts) → IsValid design → (tokens : List (List ℕ)) (read : List Event × List (List ℕ)) → events_at design tokens ≡ Some read → AllByRecursion (RegisterEventFits design) read.0
events_fit design sound [] read h = absurd (cc)
events_fit design sound (token ∷ tokens) read h = events_by design token tokens read (bytes_eq token (codes ":")) sound (λ more k. events_fit design sound tokens more k) h

-- ---- answers

outcome_made : (design : Parts) (tokens : List (List ℕ)) (read : Outcome × List (List ℕ)) (a b : Bool)
    → (if a then Some (outcome.Done, tokens) else if b then Some (outcome.Abort, tokens) else own_at design tokens) ≡ Some read → OutcomeFits design read.0
outcome_made design tokens read true b h = subst (λ (r : Outcome × List (List ℕ)). OutcomeFits design r.0) (same_value _ _ h) tt
outcome_made design tokens read false true h = subst (λ (r : Outcome × List (List ℕ)). OutcomeFits design r.0) (same_value _ _ h) tt
outcome_made design tokens read false false h =
    let access = first_of (access_at design tokens) _ read h in
    subst (λ (r : Outcome × List (List ℕ)). OutcomeFits design r.0) (same_value _ _ access.2) (access_front design tokens access.0 access.1)

outcome_front : (design : Parts) (tokens : List (List ℕ)) (read : Outcome × List (List ℕ)) → outcome_at design tokens ≡ Some read → OutcomeFits design read.0
unfolding outcome_at
outcome_front design tokens read h =
    let word = first_of (token_at tokens) _ read h in
    outcome_made design word.0.1 read (bytes_eq word.0.0 (codes "done")) (bytes_eq word.0.0 (codes "abort")) word.2

own_fits : (design : Parts) (tokens : List (List ℕ)) (why : Cause) → own_cause design tokens ≡ Some why → CauseFits design why
unfolding own_cause
own_fits design tokens why h =
    let access = first_of (access_at design tokens) _ why h in
    subst (CauseFits design) (same_value _ _ access.2) (access_front design tokens access.0 access.1)

clash_fits : (design : Parts) (tokens : List (List ℕ)) (why : Cause) → clash_cause design tokens ≡ Some why → CauseFits design why
unfolding clash_cause
clash_fits design tokens why h =
    let access = first_of (access_at design tokens) _ why h in
    let rule = first_of (rule_at design access.0.1) _ why access.2 in
    let earlier = first_of (access_at design rule.0.1) _ why rule.2 in
    subst (CauseFits design) (same_value _ _ earlier.2) (access_front design tokens access.0 access.1, rule_front design access.0.1 rule.0 rule.1, access_front design rule.0.1 earlier.0 earlier.1)

cause_made : (design : Parts) (tokens : List (List ℕ)) (why : Cause) (a b : Bool) → (if a then Some cause.Abort else if b then own_cause design tokens else clash_cause design tokens) ≡ Some why → CauseFits design why
cause_made design tokens why true b h = subst (CauseFits design) (same_value _ _ h) tt
cause_made design tokens why false true h = own_fits design tokens why h
cause_made design tokens why false false h = clash_fits design tokens why h

cause_fits : (design : Parts) (tokens : List (List ℕ)) (why : Cause) → cause_at design tokens ≡ Some why → CauseFits design why
unfolding cause_at
cause_fits design tokens why h =
    let word = first_of (token_at tokens) _ why h in
    cause_made design word.0.1 why (bytes_eq word.0.0 (codes "abort")) (bytes_eq word.0.0 (codes "own")) word.2

-- a stale read but for the test of its values
pub record AlmostFits (design : Parts) (read : StaleRead) : Type 0 where
  pub access : AccessFits design (read_at read.port read.register)
  pub held : RegisterValueFits design read.register read.held
  pub now_value : RegisterValueFits design read.register read.now

stale_almost : (design : Parts) → IsValid design → (tokens : List (List ℕ)) (read : StaleRead) → stale_at design tokens ≡ Some read → AlmostFits design read
unfolding stale_at
stale_almost design sound tokens read h =
    let access = first_of (access_at design tokens) _ read h in
    let held = first_of (token_at access.0.1) _ read access.2 in
    let now = first_of (token_at held.0.1) _ read held.2 in
    let before = first_of (value_of design access.0.0.register (drop 5 held.0.0)) _ read now.2 in
    let after = first_of (value_of design access.0.0.register (drop 4 now.0.0)) _ read before.2 in
    let fits = access_front design tokens access.0 access.1 in
    subst (AlmostFits design) (same_value _ _ after.2) (record {
      access = record { port = fits.port; register = fits.register };
      held = value_fits design sound access.0.0.register (drop 5 held.0.0) before.0 fits.register before.1;
      now_value = value_fits design sound access.0.0.register (drop 4 now.0.0) after.0 fits.register after.1;
    })

committed_fits : (design : Parts) (tokens : List (List ℕ)) (s : Settled) → committed_at design tokens ≡ Some s → Differs s → SettledFits design s
unfolding committed_at
committed_fits design tokens s h =
    let head = first_of (head_at design tokens) _ s h in
    subst (λ (t : Settled). Differs t → SettledFits design t) (same_value _ _ head.2) (λ d. head_front design tokens head.0 head.1)

waiting_fits : (design : Parts) (tokens : List (List ℕ)) (s : Settled) → waiting_at design tokens ≡ Some s → Differs s → SettledFits design s
unfolding waiting_at
waiting_fits design tokens s h =
    let head = first_of (head_at design tokens) _ s h in
    subst (λ (t : Settled). Differs t → SettledFits design t) (same_value _ _ head.2) (λ d. head_front design tokens head.0 head.1)

closed_fits : (design : Parts) (tokens : List (List ℕ)) (s : Settled) → closed_at tokens ≡ Some s → Differs s → SettledFits design s
unfolding closed_at
closed_fits design tokens s h =
    let cycle = first_of (number_at tokens) _ s h in
    subst (λ (t : Settled). Differs t → SettledFits design t) (same_value _ _ cycle.2) (λ d. number_front tokens cycle.0 cycle.1)

skipped_fits : (design : Parts) (tokens : List (List ℕ)) (s : Settled) → skipped_at design tokens ≡ Some s → Differs s → SettledFits design s
unfolding skipped_at
skipped_fits design tokens s h =
    let head = first_of (head_at design tokens) _ s h in
    let why = first_of (cause_at design head.0.1) _ s head.2 in
    let front = head_front design tokens head.0 head.1 in
    subst (λ (t : Settled). Differs t → SettledFits design t) (same_value _ _ why.2) (λ d. (front.0, front.1, cause_fits design head.0.1 why.0 why.1))

outdated_fits : (design : Parts) → IsValid design → (tokens : List (List ℕ)) (s : Settled) → outdated_at design tokens ≡ Some s → Differs s → SettledFits design s
unfolding outdated_at
outdated_fits design sound tokens s h =
    let head = first_of (head_at design tokens) _ s h in
    let read = first_of (stale_at design head.0.1) _ s head.2 in
    let front = head_front design tokens head.0 head.1 in
    let almost = stale_almost design sound head.0.1 read.0 read.1 in
    subst (λ (t : Settled). Differs t → SettledFits design t) (same_value _ _ read.2) (λ d. (front.0, front.1, record { access = almost.access; held = almost.held; now_value = almost.now_value; differ = d }))

settled_made : (design : Parts) → IsValid design → (tokens : List (List ℕ)) (s : Settled) (a b c d e : Bool)
    → (if a then committed_at design tokens else if b then skipped_at design tokens else if c then outdated_at design tokens else if d then closed_at tokens else if e then waiting_at design tokens else Some settled.Finished) ≡ Some s
    → Differs s → SettledFits design s
settled_made design sound tokens s true b c d e h = committed_fits design tokens s h
settled_made design sound tokens s false true c d e h = skipped_fits design tokens s h
settled_made design sound tokens s false false true d e h = outdated_fits design sound tokens s h
settled_made design sound tokens s false false false true e h = closed_fits design tokens s h
settled_made design sound tokens s false false false false true h = waiting_fits design tokens s h
settled_made design sound tokens s false false false false false h = subst (λ (t : Settled). Differs t → SettledFits design t) (same_value _ _ h) (λ d. tt)

settled_fits : (design : Parts) → IsValid design → (tokens : List (List ℕ)) (s : Settled) → settled_at design tokens ≡ Some s → Differs s → SettledFits design s
unfolding settled_at
settled_fits design sound tokens s h =
    let word = first_of (token_at tokens) _ s h in
    settled_made design sound word.0.1 s (bytes_eq word.0.0 (codes "committed")) (bytes_eq word.0.0 (codes "skipped")) (bytes_eq word.0.0 (codes "stale")) (bytes_eq word.0.0 (codes "closed")) (bytes_eq word.0.0 (codes "waiting")) word.2

-- ---- lines

submit_fits : (design : Parts) (stimulus : InputVectors) (workers : ℕ) → IsValid design → (tokens : List (List ℕ)) (l : JournalLine) → submit_at design stimulus tokens ≡ Some l → IsAllowed workers l → LineFits design stimulus workers l
unfolding submit_at
submit_fits design stimulus workers sound tokens l h =
    let worker = first_of (number_at tokens) _ l h in
    let head = first_of (head_at design worker.0.1) _ l worker.2 in
    let ending = first_of (outcome_at design head.0.1) _ l head.2 in
    let events = first_of (events_at design ending.0.1) _ l ending.2 in
    let word = first_of (token_at events.0.1) _ l events.2 in
    subst (λ (m : JournalLine). IsAllowed workers m → LineFits design stimulus workers m) (same_value _ _ word.2)
    (λ allowed. (allowed.0, allowed.1, allowed.2, (head_front design worker.0.1 head.0 head.1).1, refl, events_fit design sound ending.0.1 events.0 events.1, outcome_front design head.0.1 ending.0 ending.1))

settle_fits : (design : Parts) (stimulus : InputVectors) (workers : ℕ) → IsValid design → (tokens : List (List ℕ)) (l : JournalLine) → settle_at design tokens ≡ Some l → IsAllowed workers l → LineFits design stimulus workers l
unfolding settle_at
settle_fits design stimulus workers sound tokens l h =
    let worker = first_of (number_at tokens) _ l h in
    let colon = first_of (token_at worker.0.1) _ l worker.2 in
    let answer = first_of (settled_at design colon.0.1) _ l colon.2 in
    subst (λ (m : JournalLine). IsAllowed workers m → LineFits design stimulus workers m) (same_value _ _ answer.2)
    (λ allowed. (allowed.0, settled_fits design sound colon.0.1 answer.0 answer.1 allowed.1))

batch_fits : (design : Parts) (stimulus : InputVectors) (workers : ℕ) (tokens : List (List ℕ)) (l : JournalLine) → batch_at tokens ≡ Some l → IsAllowed workers l → LineFits design stimulus workers l
unfolding batch_at
batch_fits design stimulus workers tokens l h =
    let from = first_of (number_at tokens) _ l h in
    let to = first_of (number_at from.0.1) _ l from.2 in
    subst (λ (m : JournalLine). IsAllowed workers m → LineFits design stimulus workers m) (same_value _ _ to.2)
    (λ allowed. (number_front tokens from.0 from.1, number_front from.0.1 to.0 to.1))

begin_fits : (design : Parts) (stimulus : InputVectors) (workers : ℕ) (tokens : List (List ℕ)) (l : JournalLine) → begin_at tokens ≡ Some l → IsAllowed workers l → LineFits design stimulus workers l
unfolding begin_at
begin_fits design stimulus workers tokens l h =
    let word = first_of (token_at tokens) _ l h in
    subst (λ (m : JournalLine). IsAllowed workers m → LineFits design stimulus workers m) (same_value _ _ word.2) (λ allowed. allowed)

line_made : (design : Parts) (stimulus : InputVectors) (workers : ℕ) → IsValid design → (tokens : List (List ℕ)) (l : JournalLine) (a b c : Bool)
    → (if a then submit_at design stimulus tokens else if b then settle_at design tokens else if c then batch_at tokens else begin_at tokens) ≡ Some l → IsAllowed workers l → LineFits design stimulus workers l
line_made design stimulus workers sound tokens l true b c h = submit_fits design stimulus workers sound tokens l h
line_made design stimulus workers sound tokens l false true c h = settle_fits design stimulus workers sound tokens l h
line_made design stimulus workers sound tokens l false false true h = batch_fits design stimulus workers tokens l h
line_made design stimulus workers sound tokens l false false false h = begin_fits design stimulus workers tokens l h

pub line_fits : (design : Parts) (stimulus : InputVectors) (workers : ℕ) → IsValid design → (tokens : List (List ℕ)) (l : JournalLine) → line_at design stimulus tokens ≡ Some l → IsAllowed workers l → LineFits design stimulus workers l
unfolding line_at
line_fits design stimulus workers sound tokens l h =
    let word = first_of (token_at tokens) _ l h in
    line_made design stimulus workers sound word.0.1 l (bytes_eq word.0.0 (codes "s")) (bytes_eq word.0.0 (codes "t")) (bytes_eq word.0.0 (codes "batch")) word.2
