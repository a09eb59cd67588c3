-- What a log's flags and values say of the lists that it stands for.
use Rattle.std.proofs.Common.{◌≡◌, ◌≢◌, ◌⊎◌, ◌↔◌, ℕ, zero, suc, ◌+◌, ◌*◌, ◌<◌, ◌≤◌, Bool, true, false, List, [], ◌∷◌, ◌++◌, length, replicate, refl, sym, ap, ap₂, ◌∙◌, inl, inr, eqb-true, eq-eqb, arith}
use Rattle.std.specs.Prelude.{◌==◌, ◌||◌, slice_index_or, if◌then◌else◌}
use Rattle.std.specs.List.{list_any}
use Rattle.std.proofs.lemmas.Bool.{and_parts, or_parts, or_from, cases_Bool, cases_eq, cases_lt, false_from_ne_true, both_ways}
use Rattle.std.proofs.lemmas.List.{same_lists, get_or-replicate, get_or_past, length-replicate}
use Rattle.kw_bits.specs.BitVector.{BitVector}
use Rattle.typed_core.specs.Alone.{after, is_refused, seen}
use Rattle.typed_core.specs.Fits.{EventFits}
use Rattle.typed_core.specs.Valid.{IsPort}
use Rattle.typed_core.specs.declared.access.Access.{Access}
use Rattle.typed_core.specs.declared.access.Event.{Event}
use Rattle.typed_core.specs.declared.limits.TheConstants.{PORTS}
use Rattle.typed_core.specs.Evaluation.{unit}
use Rattle.rule_log.specs.Flags.{has, place}
use Rattle.rule_log.specs.declared.flags.PortFlags.{PortFlags}
use Rattle.rule_log.proofs.Bits.{clear_of_bit}
use Rattle.std.proofs.lemmas.Nat.Bits.{bit_at-zero}
use Rattle.rule_log.specs.inner.OneRegister.{JoinedAt, is_same_place, written_below}
use Rattle.rule_log.specs.StandsFor.{RegisterLog, StandsFor, WritesFollow, is_access, is_set, registers, written}
use Rattle.rule_log.proofs.Telling.{NoneSet, access_parts, after_at, length-after, no_reads, no_writes, or_none, own_access, refused_by_tests, seen_at_none, seen_more, tells_both, tells_none, tells_one, unrefused}

-- ---- the value of the highest write

pub below_none : (log : RegisterLog) (port register : ℕ) (start : BitVector) → ((at : ℕ) → at < port → is_set log true at register ≡ false) → written_below log port register start ≡ start
below_none log zero register start h = refl
below_none log (suc port) register start h =
    ap (λ (b : Bool). if b then written log port register else written_below log port register start) (h port (omega arith))
    ∙ below_none log port register start (λ at lt. h at (omega arith))

pub below_top : (log : RegisterLog) (top port register : ℕ) (start : BitVector) → top < port → is_set log true top register ≡ true → ((at : ℕ) → top < at → at < port → is_set log true at register ≡ false) → written_below log port register start ≡ written log top register
below_top log top zero register start below set h = absurd (omega arith)
below_top log top (suc port) register start below set h = chosen (cases_eq port top) (λ lt. below_top log top port register start lt set (λ at above less. h at above (omega arith)))
  where
    chosen : (port ≡ top) ⊎ (port ≡ top → ⊥) → (top < port → written_below log port register start ≡ written log top register) → written_below log (suc port) register start ≡ written log top register
    chosen (inl e) lower =
        let here : is_set log true port register ≡ true = ap (λ (n : ℕ). is_set log true n register) e ∙ set in
        ap (λ (b : Bool). if b then written log port register else written_below log port register start) here ∙ ap (λ (n : ℕ). written log n register) e
    chosen (inr ne) lower =
        ap (λ (b : Bool). if b then written log port register else written_below log port register start) (h port (omega arith) (omega arith))
        ∙ lower (omega arith)

-- the value that it gives a register isn't changed by it
pub below_twice : (log : RegisterLog) (port register : ℕ) (start : BitVector) → written_below log port register (written_below log port register start) ≡ written_below log port register start
below_twice log zero register start = refl
below_twice log (suc port) register start = chosen (is_set log true port register) (below_twice log port register start)
  where
    chosen : (b : Bool) → written_below log port register (written_below log port register start) ≡ written_below log port register start → (if b then written log port register else written_below log port register (if b then written log port register else written_below log port register start)) ≡ (if b then written log port register else written_below log port register start)
    chosen true h = refl
    chosen false h = h

-- it is what a read at the port sees
pub below_is_seen : (widths : List ℕ) (log : RegisterLog) (events : List Event) → StandsFor widths log events → (port register : ℕ) (start : BitVector) → port ≤ PORTS → register < length widths → written_below log port register start ≡ seen port register events start
below_is_seen widths log events s zero register start most within = sym (seen_at_none register events start)
below_is_seen widths log events s (suc port) register start most within =
    ap (λ (b : Bool). if b then written log port register else written_below log port register start) (s.tells.flags true port register (omega arith) within)
    ∙ ap (λ (v : BitVector). if list_any (is_access true port register) events then written log port register else v) (below_is_seen widths log events s port register start (omega arith) within)
    ∙ sym (seen_more (written log) port register events start s.tells.values s.tells.ascending)

-- ---- what is refused

-- a write is refused by two logs where the flags of both, taken together, have a write from its port on or a read above it
pub write_refused : (widths : List ℕ) (sched rule : RegisterLog) (sched_events rule_events : List Event) → StandsFor widths sched sched_events → StandsFor widths rule rule_events
    → (port register : ℕ) → register < registers sched → (flags : PortFlags)
    → ((write : Bool) (at : ℕ) → has flags write at ≡ (is_set sched write at register || is_set rule write at register))
    → (writes reads : Bool) → ((writes ≡ false) ↔ NoneSet (has flags) true (λ at. port ≤ at)) → ((reads ≡ false) ↔ NoneSet (has flags) false (λ at. port < at))
    → let access : Access = record { write = true; port = port; register = register } in
    (writes || reads) ≡ (is_refused sched_events access || is_refused rule_events access)
write_refused widths sched rule sched_events rule_events s r port register within flags is writes reads w v =
    refused_by_tests writes true reads (is_refused sched_events access || is_refused rule_events access) (NoneSet (has flags) true (λ at. port ≤ at)) (NoneSet (has flags) false (λ at. port < at)) w (λ h. v)
    (λ none more.
    or_from (is_refused sched_events access) (is_refused rule_events access)
    (unrefused widths access sched_events s.tells.fit
    (λ at above p. sym (s.tells.flags true at register p declared) ∙ (parts true at (none at above p)).0)
    (λ h at above p. sym (s.tells.flags false at register p declared) ∙ (parts false at (more refl at above p)).0))
    (unrefused widths access rule_events r.tells.fit
    (λ at above p. sym (r.tells.flags true at register p declared) ∙ (parts true at (none at above p)).1)
    (λ h at above p. sym (r.tells.flags false at register p declared) ∙ (parts false at (more refl at above p)).1)))
    (λ h at above p.
    let both = or_parts (is_refused sched_events access) (is_refused rule_events access) h in
    is true at ∙ or_from (is_set sched true at register) (is_set rule true at register)
    (s.tells.flags true at register p declared ∙ no_writes access sched_events both.0 at above p)
    (r.tells.flags true at register p declared ∙ no_writes access rule_events both.1 at above p))
    (λ h k at above p.
    let both = or_parts (is_refused sched_events access) (is_refused rule_events access) h in
    is false at ∙ or_from (is_set sched false at register) (is_set rule false at register)
    (s.tells.flags false at register p declared ∙ no_reads access sched_events refl both.0 at above p)
    (r.tells.flags false at register p declared ∙ no_reads access rule_events refl both.1 at above p))
  where
    access : Access
    access = record { write = true; port = port; register = register }

    declared : register < length widths
    declared = omega (arith, s.count, within)

    parts : (write : Bool) (at : ℕ) → has flags write at ≡ false → (is_set sched write at register ≡ false) × (is_set rule write at register ≡ false)
    parts write at none = or_parts (is_set sched write at register) (is_set rule write at register) (sym (is write at) ∙ none)

-- ---- logs that are joined

pub stands_both : (widths : List ℕ) (old rule new : RegisterLog) → registers new ≡ registers old → ((register : ℕ) → register < registers old → JoinedAt old rule new register)
    → (events rule_events : List Event) → StandsFor widths old events → StandsFor widths rule rule_events → WritesFollow events rule_events → StandsFor widths new (events ++ rule_events)
stands_both widths old rule new count joined events rule_events s t follow = record {
  count = count ∙ s.count;
  tells = tells_both widths (is_set old) (is_set rule) (is_set new) (written new) (written old) (written rule) events rule_events s.tells t.tells follow
      (λ write port register p within. (joined register (omega (arith, s.count))).flags write port p)
      (λ port register p within. (joined register (omega (arith, s.count))).values port p);
}

-- ---- an event that is noted

same_test : (a b : Bool) → (a ≡ true → b ≡ true) → (b ≡ true → a ≡ true) → a ≡ b
same_test true true f g = refl
same_test false false f g = refl
same_test true false f g = absurd (both_ways false refl (f refl))
same_test false true f g = absurd (both_ways false refl (g refl))

one_place : (v w : Bool) (i j : ℕ) → IsPort i → IsPort j → place v i ≡ place w j → (w ≡ v) × (j ≡ i)
one_place true true i j p q e = (refl, omega arith)
one_place false false i j p q e = (refl, omega arith)
one_place true false i j p q e = absurd (omega arith)
one_place false true i j p q e = absurd (omega arith)

place_of_access : (e : Event) (write : Bool) (port register : ℕ) → IsPort port → IsPort e.access.port → register ≡ e.access.register
    → (place write port == place e.access.write e.access.port) ≡ is_access write port register e
place_of_access e write port register p q r =
    same_test (place write port == place e.access.write e.access.port) (is_access write port register e)
    (λ h.
    let one = one_place write e.access.write port e.access.port p q (eqb-true (place write port) (place e.access.write e.access.port) h) in
    own_access write e port register one.0 one.1 (sym r))
    (λ h.
    let parts = access_parts write e port register h in
    eq-eqb (place write port) (place e.access.write e.access.port) (ap₂ place (sym parts.0) (sym parts.1)))

-- the log has what it had, and the event
pub record Noted (old new : RegisterLog) (e : Event) : Type 0 where
  pub here : (write : Bool) (port : ℕ) → IsPort port → is_set new write port e.access.register ≡ (is_set old write port e.access.register || (place write port == place e.access.write e.access.port))
  pub elsewhere : (write : Bool) (port register : ℕ) → register ≢ e.access.register → is_set new write port register ≡ is_set old write port register
  pub value : e.access.write ≡ true → written new e.access.port e.access.register ≡ e.value
  pub other_values : (port register : ℕ) → IsPort port → is_same_place port register e.access.port e.access.register ≡ false → written new port register ≡ written old port register
  pub no_value : e.access.write ≡ false → (port register : ℕ) → written new port register ≡ written old port register

pub stands_noted : (widths : List ℕ) (old new : RegisterLog) (e : Event) → registers new ≡ registers old → Noted old new e → (events : List Event) → StandsFor widths old events → EventFits widths e → (e.access.write ≡ true → is_refused events e.access ≡ false) → StandsFor widths new (events ++ e ∷ [])
stands_noted widths old new e count noted events s fit follow = record {
  count = count ∙ s.count;
  tells = tells_both widths (is_set old) (λ write port register. is_access write port register e) (is_set new) (written new) (written old) (λ port register. e.value) events (e ∷ []) s.tells (tells_one widths e fit) (follow, tt) flagged valued;
}
  where
    flagged : (write : Bool) (port register : ℕ) → IsPort port → register < length widths → is_set new write port register ≡ (is_set old write port register || is_access write port register e)
    flagged write port register p within = chosen (cases_eq register e.access.register)
      where
        chosen : (register ≡ e.access.register) ⊎ (register ≡ e.access.register → ⊥) → is_set new write port register ≡ (is_set old write port register || is_access write port register e)
        chosen (inl r) =
            ap (λ (n : ℕ). is_set new write port n) r ∙ noted.here write port p
            ∙ ap₂ (λ a b. a || b) (ap (λ (n : ℕ). is_set old write port n) (sym r)) (place_of_access e write port register p fit.port r)
        chosen (inr ne) =
            let none : is_access write port register e ≡ false =
            false_from_ne_true (is_access write port register e) (λ h. ne (sym (access_parts write e port register h).2)) in
            noted.elsewhere write port register ne ∙ or_none (is_set old write port register) ∙ ap (λ (b : Bool). is_set old write port register || b) (sym none)

    valued : (port register : ℕ) → IsPort port → register < length widths → written new port register ≡ (if is_access true port register e then e.value else written old port register)
    valued port register p within = chosen (cases_Bool (is_access true port register e))
      where
        elsewhere : is_access true port register e ≡ false → (b : Bool) → e.access.write ≡ b → written new port register ≡ written old port register
        elsewhere h false w = noted.no_value w port register
        elsewhere h true w =
            noted.other_values port register p (false_from_ne_true (is_same_place port register e.access.port e.access.register) (λ k.
            let both = and_parts (port == e.access.port) (register == e.access.register) k in
            both_ways (is_access true port register e) h (own_access true e port register w (sym (eqb-true port e.access.port both.0)) (sym (eqb-true register e.access.register both.1)))))

        chosen : (is_access true port register e ≡ true) ⊎ (is_access true port register e ≡ false) → written new port register ≡ (if is_access true port register e then e.value else written old port register)
        chosen (inl h) =
            let parts = access_parts true e port register h in
            ap₂ (written new) (sym parts.1) (sym parts.2) ∙ noted.value parts.0 ∙ ap (λ (b : Bool). if b then e.value else written old port register) (sym h)
        chosen (inr h) = elsewhere h e.access.write refl ∙ ap (λ (b : Bool). if b then e.value else written old port register) (sym h)

-- ---- registers that a log is applied to

pub applied : (widths : List ℕ) (log : RegisterLog) (regs new : List BitVector) → length regs ≡ registers log → length new ≡ length regs
    → ((register : ℕ) (d : BitVector) → register < length regs → slice_index_or new register d ≡ written_below log PORTS register (slice_index_or regs register d))
    → (events : List Event) → StandsFor widths log events → new ≡ after events regs
applied widths log regs new count same each events s =
    same_lists new (after events regs) (same ∙ sym (length-after events regs)) (λ register d within.
    let inside : register < length regs = omega (arith, same) in
    let declared : register < length widths = omega (arith, count, s.count) in
    each register d inside ∙ below_is_seen widths log events s PORTS register (slice_index_or regs register d) (omega arith) declared
    ∙ sym (after_at widths register events regs d s.tells.fit inside))

-- the log that a value was kept in first, and then the flag
pub record Kept (old mid : RegisterLog) (e : Event) : Type 0 where
  pub flags : mid.flags ≡ old.flags
  pub value : e.access.write ≡ true → written mid e.access.port e.access.register ≡ e.value
  pub other_values : (port register : ℕ) → IsPort port → is_same_place port register e.access.port e.access.register ≡ false → written mid port register ≡ written old port register
  pub no_value : e.access.write ≡ false → (port register : ℕ) → written mid port register ≡ written old port register

pub noted_from : (old mid new : RegisterLog) (e : Event) (f : PortFlags) → Kept old mid e
    → ((write : Bool) (port : ℕ) → is_set new write port e.access.register ≡ (is_set mid write port e.access.register || has f write port))
    → ((write : Bool) (port other : ℕ) → other ≢ e.access.register → is_set new write port other ≡ is_set mid write port other)
    → new.values ≡ mid.values
    → ((kind : Bool) (at : ℕ) → IsPort at → has f kind at ≡ (place kind at == place e.access.write e.access.port))
    → Noted old new e
noted_from old mid new e f kept here elsewhere values flag = record {
  here = λ write port p. here write port ∙ ap₂ (λ a b. a || b) (same_flags write port e.access.register) (flag write port p);
  elsewhere = λ write port register ne. elsewhere write port register ne ∙ same_flags write port register;
  value = λ w. same_values e.access.port e.access.register ∙ kept.value w;
  other_values = λ port register p h. same_values port register ∙ kept.other_values port register p h;
  no_value = λ w port register. same_values port register ∙ kept.no_value w port register;
}
  where
    same_flags : (write : Bool) (port register : ℕ) → is_set mid write port register ≡ is_set old write port register
    same_flags write port register = ap (λ (fs : List PortFlags). has (slice_index_or fs register (record { 0 = 0 })) write port) kept.flags

    same_values : (port register : ℕ) → written new port register ≡ written mid port register
    same_values port register = ap (λ (vs : List BitVector). slice_index_or vs (PORTS * register + port) unit) values

-- ---- the log of no access

abbrev pub no_flag : PortFlags
no_flag = record { 0 = 0 }

pub nothing_set : (log : RegisterLog) (register : ℕ) → slice_index_or log.flags register no_flag ≡ no_flag → (write : Bool) (port : ℕ) → is_set log write port register ≡ false
nothing_set log register e write port =
    ap (λ (f : PortFlags). has f write port) e ∙ clear_of_bit 0 (place write port) (bit_at-zero (place write port))

pub stands_none : (widths : List ℕ) (log : RegisterLog) → registers log ≡ length widths → ((register : ℕ) → slice_index_or log.flags register no_flag ≡ no_flag) → StandsFor widths log []
stands_none widths log count none = record {
  count = count;
  tells = tells_none widths (is_set log) (written log) (λ write port register p within. nothing_set log register (none register) write port);
}

pub all_none : (n register : ℕ) → slice_index_or (replicate n no_flag) register no_flag ≡ no_flag
all_none n register = chosen (cases_lt register n)
  where
    chosen : (register < n) ⊎ (n ≤ register) → slice_index_or (replicate n no_flag) register no_flag ≡ no_flag
    chosen (inl lt) = get_or-replicate n register no_flag no_flag lt
    chosen (inr ge) = get_or_past (replicate n no_flag) register no_flag (omega (arith, length-replicate n no_flag))
