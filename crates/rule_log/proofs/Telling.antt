-- What flags and values tell of a list of events: what is refused behind it, what is seen, and what it leaves.
use Rattle.std.proofs.Common.{◌≡◌, ◌⊎◌, ◌↔◌, ℕ, suc, ◌<◌, ◌≤◌, Bool, true, false, List, [], ◌∷◌, ◌++◌, length, refl, sym, ap, ap₂, ◌∙◌, subst, inl, inr, eqb-true, eq-eqb, arith}
use Rattle.std.specs.Prelude.{◌==◌, ◌&&◌, ◌||◌, not, nat_lt, nat_le, slice_index_or, slice_set, if◌then◌else◌}
use Rattle.std.specs.List.{AllByRecursion, list_any}
use Rattle.std.proofs.lemmas.Bool.{and_parts, and_from, and_left, and_right, or_parts, or_from, or_left, or_right, cases_Bool, cases_eq, cases_lt, false_from_ne_true, not-true, not_from_false, both_ways, le-leb, leb-true, lt-ltb, ltb-true, le-ltb, ne_eqb}
use Rattle.std.proofs.lemmas.List.{get_or-set_same, get_or-set_other, length-set}
use Rattle.std.proofs.lemmas.List.Folds.{list_any-append}
use Rattle.std.proofs.lemmas.Option.{slice_get_within}
use Rattle.kw_bits.specs.BitVector.{BitVector}
use Rattle.typed_core.specs.Alone.{after, after_one, is_refused, is_write_below, seen}
use Rattle.typed_core.specs.Clash.{clashes, ports_clash}
use Rattle.typed_core.specs.Fits.{EventFits, EventsFit}
use Rattle.typed_core.specs.Valid.{IsPort}
use Rattle.typed_core.specs.declared.access.Access.{Access}
use Rattle.typed_core.specs.declared.access.Event.{Event}
use Rattle.typed_core.specs.declared.limits.TheConstants.{PORTS}
use Rattle.typed_core.proofs.Events.{EventsFit-append}
use Rattle.rule_log.specs.StandsFor.{IsBelow, IsWrittenIn, Tells, WritesAscend, WritesFollow, is_access}

-- ---- lists in general

pub all_map : {X : Type 0} (P Q : X → Type 0) → ((x : X) → P x → Q x) → (xs : List X) → AllByRecursion P xs → AllByRecursion Q xs
all_map P Q f [] h = tt
all_map P Q f (x ∷ xs) h = (f x h.0, all_map P Q f xs h.1)

all_zip : {X : Type 0} (P Q R : X → Type 0) → ((x : X) → P x → Q x → R x) → (xs : List X) → AllByRecursion P xs → AllByRecursion Q xs → AllByRecursion R xs
all_zip P Q R f [] h k = tt
all_zip P Q R f (x ∷ xs) h k = (f x h.0 k.0, all_zip P Q R f xs h.1 k.1)

pub all_append : {X : Type 0} (P : X → Type 0) (xs ys : List X) → AllByRecursion P xs → AllByRecursion P ys → AllByRecursion P (xs ++ ys)
all_append P [] ys h k = k
all_append P (x ∷ xs) ys h k = (h.0, all_append P xs ys h.1 k)

all_from : {X : Type 0} (P : X → Type 0) → ((x : X) → P x) → (xs : List X) → AllByRecursion P xs
all_from P f [] = tt
all_from P f (x ∷ xs) = (f x, all_from P f xs)

-- ---- one access

-- an event is the access that it makes
pub own_access : (b : Bool) (e : Event) (port register : ℕ) → e.access.write ≡ b → e.access.port ≡ port → e.access.register ≡ register → is_access b port register e ≡ true
own_access true e port register w p r =
    and_from (e.access.write && (e.access.register == register)) (e.access.port == port) (and_from e.access.write (e.access.register == register) w (eq-eqb e.access.register register r)) (eq-eqb e.access.port port p)
own_access false e port register w p r =
    and_from (not e.access.write && (e.access.register == register)) (e.access.port == port) (and_from (not e.access.write) (e.access.register == register) (not_from_false e.access.write w) (eq-eqb e.access.register register r)) (eq-eqb e.access.port port p)

abbrev pub Parts : Bool → Event → ℕ → ℕ → Type 0
Parts b e port register = (e.access.write ≡ b) × (e.access.port ≡ port) × (e.access.register ≡ register)

pub access_parts : (b : Bool) (e : Event) (port register : ℕ) → is_access b port register e ≡ true → Parts b e port register
access_parts true e port register h =
    let both = and_parts (e.access.write && (e.access.register == register)) (e.access.port == port) h in
    let first = and_parts e.access.write (e.access.register == register) both.0 in
    (first.0, eqb-true e.access.port port both.1, eqb-true e.access.register register first.1)
access_parts false e port register h =
    let both = and_parts (not e.access.write && (e.access.register == register)) (e.access.port == port) h in
    let first = and_parts (not e.access.write) (e.access.register == register) both.0 in
    (not-true e.access.write first.0, eqb-true e.access.port port both.1, eqb-true e.access.register register first.1)

-- each event of a list is among its accesses
own_listed : (events : List Event) → AllByRecursion (λ (e : Event). list_any (is_access e.access.write e.access.port e.access.register) events ≡ true) events
own_listed [] = tt
own_listed (e ∷ events) = (
  or_left (is_access e.access.write e.access.port e.access.register e) _ (own_access e.access.write e e.access.port e.access.register refl refl refl),
  all_map (λ (f : Event). list_any (is_access f.access.write f.access.port f.access.register) events ≡ true)
      (λ (f : Event). list_any (is_access f.access.write f.access.port f.access.register) (e ∷ events) ≡ true)
      (λ f h. or_right (is_access f.access.write f.access.port f.access.register e) _ h) events (own_listed events),
)

-- ---- clashes by ports

above_write : (a b : Bool) (i j : ℕ) → b ≡ true → i ≤ j → ports_clash a i b j ≡ true
above_write true true i j h le = le-leb i j le
above_write false true i j h le = le-leb i j le
above_write a false i j h le = absurd cc

above_read : (a b : Bool) (i j : ℕ) → a ≡ true → b ≡ false → i < j → ports_clash a i b j ≡ true
above_read true false i j h k lt = lt-ltb i j lt
above_read true true i j h k lt = absurd cc
above_read false b i j h k lt = absurd cc

same_register : (later earlier : Access) → later.register ≡ earlier.register → ports_clash later.write later.port earlier.write earlier.port ≡ true → clashes later earlier ≡ true
same_register later earlier r h = and_from (later.register == earlier.register) _ (eq-eqb later.register earlier.register r) h

-- a write that an earlier one doesn't refuse is at a port above
port_above : (later earlier : Access) → earlier.write ≡ true → earlier.register ≡ later.register → clashes later earlier ≡ false → earlier.port < later.port
port_above later earlier w r h = chosen (cases_lt earlier.port later.port)
  where
    chosen : (earlier.port < later.port) ⊎ (later.port ≤ earlier.port) → earlier.port < later.port
    chosen (inl lt) = lt
    chosen (inr ge) =
        absurd (both_ways (clashes later earlier) h (same_register later earlier (sym r) (above_write later.write earlier.write later.port earlier.port w ge)))

-- ---- what is refused

-- no write from the access's port on, and for a write no read above it
abbrev pub NoWrites : List Event → ℕ → ℕ → Type 0
NoWrites events port register = (at : ℕ) → port ≤ at → IsPort at → list_any (is_access true at register) events ≡ false

abbrev pub NoReads : List Event → ℕ → ℕ → Type 0
NoReads events port register = (at : ℕ) → port < at → IsPort at → list_any (is_access false at register) events ≡ false

-- the access is not refused by an event that is none of these
passes : (a : Access) (e : Event) → IsPort e.access.port
    → ((at : ℕ) → a.port ≤ at → IsPort at → is_access true at a.register e ≡ false)
    → (a.write ≡ true → (at : ℕ) → a.port < at → IsPort at → is_access false at a.register e ≡ false)
    → clashes a e.access ≡ false
passes a e p writes reads = chosen (cases_eq a.register e.access.register)
  where
    by_ports : (r : a.register ≡ e.access.register) (v w : Bool) → a.write ≡ v → e.access.write ≡ w → ports_clash v a.port w e.access.port ≡ false
    by_ports r false false av ew = refl
    by_ports r false true av ew =
        false_from_ne_true (nat_le a.port e.access.port) (λ h. both_ways _ (writes e.access.port (leb-true a.port e.access.port h) p) (own_access true e e.access.port a.register ew refl (sym r)))
    by_ports r true true av ew =
        false_from_ne_true (nat_le a.port e.access.port) (λ h. both_ways _ (writes e.access.port (leb-true a.port e.access.port h) p) (own_access true e e.access.port a.register ew refl (sym r)))
    by_ports r true false av ew =
        false_from_ne_true (nat_lt a.port e.access.port) (λ h. both_ways _ (reads av e.access.port (ltb-true a.port e.access.port h) p) (own_access false e e.access.port a.register ew refl (sym r)))

    chosen : (a.register ≡ e.access.register) ⊎ (a.register ≡ e.access.register → ⊥) → clashes a e.access ≡ false
    chosen (inl r) = and_right (a.register == e.access.register) _ (by_ports r a.write e.access.write refl refl)
    chosen (inr ne) = and_left (a.register == e.access.register) _ (ne_eqb a.register e.access.register ne)

pub unrefused : (widths : List ℕ) (a : Access) (events : List Event) → EventsFit widths events → NoWrites events a.port a.register → (a.write ≡ true → NoReads events a.port a.register) → is_refused events a ≡ false
unrefused widths a [] fit writes reads = refl
unrefused widths a (e ∷ events) fit writes reads =
    or_from (clashes a e.access) (is_refused events a)
    (passes a e fit.0.port (λ at h p. (or_parts (is_access true at a.register e) _ (writes at h p)).0) (λ w at h p. (or_parts (is_access false at a.register e) _ (reads w at h p)).0))
    (unrefused widths a events fit.1 (λ at h p. (or_parts (is_access true at a.register e) _ (writes at h p)).1) (λ w at h p. (or_parts (is_access false at a.register e) _ (reads w at h p)).1))

pub no_writes : (a : Access) (events : List Event) → is_refused events a ≡ false → NoWrites events a.port a.register
no_writes a [] h at above p = refl
no_writes a (e ∷ events) h at above p =
    let parts = or_parts (clashes a e.access) (is_refused events a) h in
    or_from (is_access true at a.register e) _
    (false_from_ne_true (is_access true at a.register e) (λ is. clash parts.0 (access_parts true e at a.register is)))
    (no_writes a events parts.1 at above p)
  where
    clash : clashes a e.access ≡ false → Parts true e at a.register → ⊥
    clash none q =
        let below : a.port ≤ e.access.port = omega (arith, q.1) in
        both_ways (clashes a e.access) none (same_register a e.access (sym q.2) (above_write a.write e.access.write a.port e.access.port q.0 below))

pub no_reads : (a : Access) (events : List Event) → a.write ≡ true → is_refused events a ≡ false → NoReads events a.port a.register
no_reads a [] w h at above p = refl
no_reads a (e ∷ events) w h at above p =
    let parts = or_parts (clashes a e.access) (is_refused events a) h in
    or_from (is_access false at a.register e) _
    (false_from_ne_true (is_access false at a.register e) (λ is. clash parts.0 (access_parts false e at a.register is)))
    (no_reads a events w parts.1 at above p)
  where
    clash : clashes a e.access ≡ false → Parts false e at a.register → ⊥
    clash none q =
        let below : a.port < e.access.port = omega (arith, q.1) in
        both_ways (clashes a e.access) none (same_register a e.access (sym q.2) (above_read a.write e.access.write a.port e.access.port w q.0 below))

-- two tests that fail where nothing refuses
pub refused_by_tests : (writes is_write reads refused : Bool) (W R : Type 0) → ((writes ≡ false) ↔ W) → (is_write ≡ true → ((reads ≡ false) ↔ R))
    → (W → (is_write ≡ true → R) → refused ≡ false) → (refused ≡ false → W) → (refused ≡ false → is_write ≡ true → R)
    → (writes || (is_write && reads)) ≡ refused
refused_by_tests false false reads true W R w r none from_w from_r = absurd (both_ways true (none (w.0 refl) (λ h. absurd cc)) refl)
refused_by_tests false true false true W R w r none from_w from_r = absurd (both_ways true (none (w.0 refl) (λ h. (r refl).0 refl)) refl)
refused_by_tests false true true true W R w r none from_w from_r = refl
refused_by_tests true is_write reads true W R w r none from_w from_r = refl
refused_by_tests true is_write reads false W R w r none from_w from_r = absurd (both_ways true (w.1 (from_w refl)) refl)
refused_by_tests false false reads false W R w r none from_w from_r = refl
refused_by_tests false true false false W R w r none from_w from_r = refl
refused_by_tests false true true false W R w r none from_w from_r = absurd (both_ways true ((r refl).1 (from_r refl refl)) refl)

-- no flag of this kind is set at such a port
abbrev pub NoneSet : (Bool → ℕ → Bool) → Bool → (ℕ → Type 0) → Type 0
NoneSet flags write At = (at : ℕ) → At at → IsPort at → flags write at ≡ false

-- an access is refused where its register's flags have a write from its port on, and a write also where they have a read above it
pub refused_by_flags : (widths : List ℕ) (is_set : Bool → ℕ → ℕ → Bool) (written : ℕ → ℕ → BitVector) (events : List Event) → Tells widths is_set written events → (a : Access) → a.register < length widths
    → (flags : Bool → ℕ → Bool) → ((write : Bool) (at : ℕ) → flags write at ≡ is_set write at a.register)
    → (writes reads : Bool) → ((writes ≡ false) ↔ NoneSet flags true (λ at. a.port ≤ at)) → (a.write ≡ true → ((reads ≡ false) ↔ NoneSet flags false (λ at. a.port < at)))
    → (writes || (a.write && reads)) ≡ is_refused events a
refused_by_flags widths is_set written events tells a within flags is writes reads w r =
    refused_by_tests writes a.write reads (is_refused events a) (NoneSet flags true (λ at. a.port ≤ at)) (NoneSet flags false (λ at. a.port < at)) w r
    (λ none more. unrefused widths a events tells.fit
    (λ at above p. sym (told true at p) ∙ none at above p)
    (λ h at above p. sym (told false at p) ∙ more h at above p))
    (λ h at above p. told true at p ∙ no_writes a events h at above p)
    (λ h is_write at above p. told false at p ∙ no_reads a events is_write h at above p)
  where
    told : (write : Bool) (at : ℕ) → IsPort at → flags write at ≡ list_any (is_access write at a.register) events
    told write at p = is write at ∙ tells.flags write at a.register p within

-- the same of a read, which looks at the writes alone
pub read_refused : (widths : List ℕ) (is_set : Bool → ℕ → ℕ → Bool) (written : ℕ → ℕ → BitVector) (events : List Event) → Tells widths is_set written events → (port register : ℕ) → register < length widths
    → (flags : Bool → ℕ → Bool) → ((write : Bool) (at : ℕ) → flags write at ≡ is_set write at register)
    → (writes : Bool) → ((writes ≡ false) ↔ NoneSet flags true (λ at. port ≤ at)) → writes ≡ is_refused events (record { write = false; port = port; register = register })
read_refused widths is_set written events tells port register within flags is writes w =
    or_none writes ∙ refused_by_flags widths is_set written events tells (record { write = false; port = port; register = register }) within flags is writes false w (λ h. absurd cc)
  where
    or_none : (a : Bool) → a ≡ (a || false)
    or_none true = refl
    or_none false = refl

-- ---- what is seen

-- where no event is a write below the port, the start value is seen
quiet : (port register : ℕ) (events : List Event) (start : BitVector) → AllByRecursion (λ (e : Event). is_write_below port register e.access ≡ false) events → seen port register events start ≡ start
quiet port register [] start h = refl
quiet port register (e ∷ events) start h =
    ap (λ (b : Bool). seen port register events (if b then e.value else start)) h.0 ∙ quiet port register events start h.1

pub seen_at_none : (register : ℕ) (events : List Event) (start : BitVector) → seen 0 register events start ≡ start
seen_at_none register events start =
    quiet 0 register events start (all_from _ (λ (e : Event). and_right (e.access.write && (e.access.register == register)) (nat_lt e.access.port 0) (le-ltb e.access.port 0 (omega arith))) events)

abbrev is_write_of : ℕ → Event → Bool
is_write_of register e = e.access.write && (e.access.register == register)

-- behind a write, the writes of its register that follow are above it
not_below : (register : ℕ) (e f : Event) → is_write_of register e ≡ true → IsBelow e f → is_write_below e.access.port register f.access ≡ false
not_below register e f h below = false_from_ne_true (is_write_below e.access.port register f.access) wrong
  where
    wrong : is_write_below e.access.port register f.access ≡ true → ⊥
    wrong k =
        let mine = and_parts e.access.write (e.access.register == register) h in
        let both = and_parts (is_write_of register f) (nat_lt f.access.port e.access.port) k in
        let its = and_parts f.access.write (f.access.register == register) both.0 in
        let lower : f.access.port < e.access.port = ltb-true f.access.port e.access.port both.1 in
        let same : e.access.register ≡ f.access.register = eqb-true e.access.register register mine.1 ∙ sym (eqb-true f.access.register register its.1) in
        let higher : e.access.port < f.access.port = below mine.0 its.0 same in
        omega arith

module _ (written : ℕ → ℕ → BitVector) (port register : ℕ) where
  abbrev More : List Event → BitVector → Type 0
  More events start = seen (suc port) register events start ≡ (if list_any (is_access true port register) events then written port register else seen port register events start)

  -- an event that both ports see alike, and that isn't the write at the port
  alike : (e : Event) (events : List Event) (start : BitVector) (b1 b2 a : Bool) → b1 ≡ b2 → a ≡ false
      → ((s : BitVector) → More events s)
      → seen (suc port) register events (if b1 then e.value else start) ≡ (if a || list_any (is_access true port register) events then written port register else seen port register events (if b2 then e.value else start))
  alike e events start b1 b2 true same h more = absurd cc
  alike e events start true true false same h more = more e.value
  alike e events start false false false same h more = more start
  alike e events start true false false same h more = absurd cc
  alike e events start false true false same h more = absurd cc

  -- the write at the port itself
  the_write : (e : Event) (events : List Event) (start : BitVector) (b1 b2 a : Bool) → b1 ≡ true → b2 ≡ false → a ≡ true
      → written port register ≡ e.value → seen port register events e.value ≡ e.value
      → ((s : BitVector) → More events s)
      → seen (suc port) register events (if b1 then e.value else start) ≡ (if a || list_any (is_access true port register) events then written port register else seen port register events (if b2 then e.value else start))
  the_write e events start true false true h1 h2 h3 value still more = more e.value ∙ chosen (list_any (is_access true port register) events)
    where
      chosen : (b : Bool) → (if b then written port register else seen port register events e.value) ≡ written port register
      chosen true = refl
      chosen false = still ∙ sym value
  the_write e events start true false false h1 h2 h3 value still more = absurd cc
  the_write e events start true true a h1 h2 h3 value still more = absurd cc
  the_write e events start false b2 a h1 h2 h3 value still more = absurd cc

  -- a read at the next port sees the write at the port, if there is one
  pub seen_more : (events : List Event) (start : BitVector) → AllByRecursion (IsWrittenIn written) events → WritesAscend events → More events start
  seen_more [] start values ascend = refl
  seen_more (e ∷ events) start values ascend = chosen (cases_Bool (is_write_of register e)) (cases_eq e.access.port port) (λ s. seen_more events s values.1 ascend.1)
    where
      w : Bool
      w = is_write_of register e

      later : (e.access.port ≡ port → ⊥) → is_write_below (suc port) register e.access ≡ is_write_below port register e.access
      later ne = ap (λ (b : Bool). w && b) (by_order (cases_lt e.access.port port))
        where
          by_order : (e.access.port < port) ⊎ (port ≤ e.access.port) → nat_lt e.access.port (suc port) ≡ nat_lt e.access.port port
          by_order (inl lt) = lt-ltb e.access.port (suc port) (omega arith) ∙ sym (lt-ltb e.access.port port lt)
          by_order (inr ge) = le-ltb e.access.port (suc port) (omega arith) ∙ sym (le-ltb e.access.port port ge)

      chosen : ((w ≡ true) ⊎ (w ≡ false)) → ((e.access.port ≡ port) ⊎ (e.access.port ≡ port → ⊥)) → ((s : BitVector) → More events s) → More (e ∷ events) start
      chosen (inr h) d rest =
          alike e events start (is_write_below (suc port) register e.access) (is_write_below port register e.access) (is_access true port register e)
          (and_left w (nat_lt e.access.port (suc port)) h ∙ sym (and_left w (nat_lt e.access.port port) h)) (and_left w (e.access.port == port) h) rest
      chosen (inl h) (inr ne) rest =
          alike e events start (is_write_below (suc port) register e.access) (is_write_below port register e.access) (is_access true port register e)
          (later ne) (and_right w (e.access.port == port) (ne_eqb e.access.port port ne)) rest
      chosen (inl h) (inl at) rest =
          let mine = and_parts e.access.write (e.access.register == register) h in
          let here : e.access.register ≡ register = eqb-true e.access.register register mine.1 in
          let value : written port register ≡ e.value = ap₂ written (sym at) (sym here) ∙ values.0 mine.0 in
          let none : AllByRecursion (λ (f : Event). is_write_below port register f.access ≡ false) events =
          all_map (IsBelow e) (λ (f : Event). is_write_below port register f.access ≡ false)
          (λ f below. subst (λ (n : ℕ). is_write_below n register f.access ≡ false) at (not_below register e f h below)) events ascend.0 in
          the_write e events start (is_write_below (suc port) register e.access) (is_write_below port register e.access) (is_access true port register e)
          (and_from w (nat_lt e.access.port (suc port)) h (lt-ltb e.access.port (suc port) (omega arith)))
          (and_right w (nat_lt e.access.port port) (le-ltb e.access.port port (omega arith)))
          (and_from w (e.access.port == port) h (eq-eqb e.access.port port at))
          value (quiet port register events e.value none) rest

-- ---- what is left

-- the registers after an event
after_one_at : (register : ℕ) (e : Event) (regs : List BitVector) (d : BitVector) → IsPort e.access.port → register < length regs
    → slice_index_or (after_one regs e) register d ≡ (if is_write_below PORTS register e.access then e.value else slice_index_or regs register d)
after_one_at register e regs d p within = chosen e.access.write (cases_eq e.access.register register)
  where
    low : nat_lt e.access.port PORTS ≡ true
    low = lt-ltb e.access.port PORTS p

    chosen : (b : Bool) → ((e.access.register ≡ register) ⊎ (e.access.register ≡ register → ⊥))
        → slice_index_or (if b then slice_set regs e.access.register e.value else regs) register d ≡ (if b && (e.access.register == register) && nat_lt e.access.port PORTS then e.value else slice_index_or regs register d)
    chosen false c = refl
    chosen true (inl r) =
        let test : (true && (e.access.register == register) && nat_lt e.access.port PORTS) ≡ true = and_from (true && (e.access.register == register)) (nat_lt e.access.port PORTS) (eq-eqb e.access.register register r) low in
        let set : slice_index_or (slice_set regs e.access.register e.value) register d ≡ e.value =
        ap (λ (n : ℕ). slice_index_or (slice_set regs n e.value) register d) r ∙ get_or-set_same regs register e.value d within in
        set ∙ ap (λ (b : Bool). if b then e.value else slice_index_or regs register d) (sym test)
    chosen true (inr ne) =
        let test : (true && (e.access.register == register) && nat_lt e.access.port PORTS) ≡ false = and_left (true && (e.access.register == register)) (nat_lt e.access.port PORTS) (ne_eqb e.access.register register ne) in
        let other : register ≡ e.access.register → ⊥ = λ q. ne (sym q) in
        get_or-set_other regs e.access.register register e.value d other ∙ ap (λ (b : Bool). if b then e.value else slice_index_or regs register d) (sym test)

length-after_one : (e : Event) (regs : List BitVector) → length (after_one regs e) ≡ length regs
length-after_one e regs = chosen e.access.write
  where
    chosen : (b : Bool) → length (if b then slice_set regs e.access.register e.value else regs) ≡ length regs
    chosen true = length-set regs e.access.register e.value
    chosen false = refl

pub length-after : (events : List Event) (regs : List BitVector) → length (after events regs) ≡ length regs
length-after [] regs = refl
length-after (e ∷ events) regs = length-after events (after_one regs e) ∙ length-after_one e regs

-- each register has what a read above all ports sees
pub after_at : (widths : List ℕ) (register : ℕ) (events : List Event) (regs : List BitVector) (d : BitVector) → EventsFit widths events → register < length regs
    → slice_index_or (after events regs) register d ≡ seen PORTS register events (slice_index_or regs register d)
after_at widths register [] regs d fit within = refl
after_at widths register (e ∷ events) regs d fit within =
    let still : register < length (after_one regs e) = omega (arith, length-after_one e regs) in
    after_at widths register events (after_one regs e) d fit.1 still
    ∙ ap (λ (v : BitVector). seen PORTS register events v) (after_one_at register e regs d fit.0.port within)

-- ---- no event, one event, and two lists

pub tells_none : (widths : List ℕ) (is_set : Bool → ℕ → ℕ → Bool) (written : ℕ → ℕ → BitVector) → ((write : Bool) (port register : ℕ) → IsPort port → register < length widths → is_set write port register ≡ false) → Tells widths is_set written []
tells_none widths is_set written none = record { flags = none; values = tt; ascending = tt; fit = tt }

pub or_none : (a : Bool) → a ≡ (a || false)
or_none true = refl
or_none false = refl

pub tells_one : (widths : List ℕ) (e : Event) → EventFits widths e → Tells widths (λ write port register. is_access write port register e) (λ port register. e.value) (e ∷ [])
tells_one widths e f = record {
  flags = λ write port register p r. or_none (is_access write port register e);
  values = (λ w. refl, tt);
  ascending = (tt, tt);
  fit = (f, tt);
}

-- a write that earlier events don't refuse is at the port of none of them
clear_ahead : (e : Event) (events later : List Event) → WritesFollow (e ∷ events) later → e.access.write ≡ true → list_any (is_access true e.access.port e.access.register) later ≡ false
clear_ahead e events [] follow w = refl
clear_ahead e events (f ∷ later) follow w =
    or_from (is_access true e.access.port e.access.register f) _
    (false_from_ne_true (is_access true e.access.port e.access.register f) (λ h. wrong (access_parts true f e.access.port e.access.register h)))
    (clear_ahead e events later follow.1 w)
  where
    wrong : Parts true f e.access.port e.access.register → ⊥
    wrong q =
        let none = (or_parts (clashes f.access e.access) (is_refused events f.access) (follow.0 q.0)).0 in
        let above : e.access.port < f.access.port = port_above f.access e.access w (sym q.2) none in
        omega (arith, q.1)

follow_tail : (e : Event) (events later : List Event) → WritesFollow (e ∷ events) later → WritesFollow events later
follow_tail e events later follow =
    all_map (λ (f : Event). f.access.write ≡ true → is_refused (e ∷ events) f.access ≡ false) (λ (f : Event). f.access.write ≡ true → is_refused events f.access ≡ false)
    (λ f h w. (or_parts (clashes f.access e.access) (is_refused events f.access) (h w)).1) later follow

ascend_append : (events later : List Event) → WritesAscend events → WritesAscend later → WritesFollow events later → WritesAscend (events ++ later)
ascend_append [] later h k follow = k
ascend_append (e ∷ events) later h k follow = (
  all_append (IsBelow e) events later h.0
      (all_map (λ (f : Event). f.access.write ≡ true → is_refused (e ∷ events) f.access ≡ false) (IsBelow e)
      (λ f none w v r. port_above f.access e.access w r (or_parts (clashes f.access e.access) (is_refused events f.access) (none v)).0) later follow),
  ascend_append events later h.1 k (follow_tail e events later follow),
)

module _ (widths : List ℕ) (first second both : Bool → ℕ → ℕ → Bool) (written one other : ℕ → ℕ → BitVector) where
  -- `one` and `other` are the values of the first and the second log
  abbrev pub Flagged : Type 0
  Flagged = (write : Bool) (port register : ℕ) → IsPort port → register < length widths → both write port register ≡ (first write port register || second write port register)

  abbrev pub Valued : Type 0
  Valued = (port register : ℕ) → IsPort port → register < length widths → written port register ≡ (if second true port register then other port register else one port register)

  first_values : (events later : List Event) → Tells widths second other later → Valued → AllByRecursion (IsWrittenIn one) events → EventsFit widths events → WritesFollow events later → AllByRecursion (IsWrittenIn written) events
  first_values [] later tells valued values fit follow = tt
  first_values (e ∷ events) later tells valued values fit follow = (
    λ w.
        let within : e.access.register < length widths = slice_get_within widths e.access.register fit.0.value.0 fit.0.value.1 in
        let p = fit.0.port in
        valued e.access.port e.access.register p within
        ∙ ap (λ (b : Bool). if b then other e.access.port e.access.register else one e.access.port e.access.register)
        (tells.flags true e.access.port e.access.register p within ∙ clear_ahead e events later follow w)
        ∙ values.0 w,
    first_values events later tells valued values.1 fit.1 (follow_tail e events later follow),
  )

  second_value : (later : List Event) → Tells widths second other later → Valued → (f : Event) → IsWrittenIn other f × EventFits widths f → list_any (is_access f.access.write f.access.port f.access.register) later ≡ true → IsWrittenIn written f
  second_value later tells valued f h listed w =
      let within : f.access.register < length widths = slice_get_within widths f.access.register h.1.value.0 h.1.value.1 in
      let p = h.1.port in
      let mine : list_any (is_access true f.access.port f.access.register) later ≡ true =
      subst (λ (b : Bool). list_any (is_access b f.access.port f.access.register) later ≡ true) w listed in
      valued f.access.port f.access.register p within
      ∙ ap (λ (b : Bool). if b then other f.access.port f.access.register else one f.access.port f.access.register)
      (tells.flags true f.access.port f.access.register p within ∙ mine)
      ∙ h.0 w

  second_values : (later : List Event) → Tells widths second other later → Valued → AllByRecursion (IsWrittenIn written) later
  second_values later tells valued =
      all_zip (λ (f : Event). IsWrittenIn other f × EventFits widths f) (λ (f : Event). list_any (is_access f.access.write f.access.port f.access.register) later ≡ true) (IsWrittenIn written) (second_value later tells valued) later
      (all_zip (IsWrittenIn other) (EventFits widths) (λ (f : Event). IsWrittenIn other f × EventFits widths f) (λ f v fit. (v, fit)) later tells.values tells.fit)
      (own_listed later)

  pub tells_both : (events later : List Event) → Tells widths first one events → Tells widths second other later → WritesFollow events later → Flagged → Valued → Tells widths both written (events ++ later)
  tells_both events later t1 t2 follow flagged valued = record {
    flags = λ write port register p r.
        flagged write port register p r ∙ ap₂ (λ a b. a || b) (t1.flags write port register p r) (t2.flags write port register p r)
        ∙ sym (list_any-append (is_access write port register) events later);
    values = all_append (IsWrittenIn written) events later (first_values events later t2 valued t1.values t1.fit follow) (second_values later t2 valued);
    ascending = ascend_append events later t1.ascending t2.ascending follow;
    fit = EventsFit-append widths events later t1.fit t2.fit;
  }
