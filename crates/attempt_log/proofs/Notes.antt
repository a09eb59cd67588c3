-- What accesses that are noted in a table leave at its places, and what a past stands for then.
use Rattle.std.proofs.Common.{◌≡◌, ◌⊎◌, ℕ, ◌+◌, ◌*◌, ◌<◌, Bool, true, false, List, [], ◌∷◌, ◌++◌, length, Option, Some, None, is_some, All, refl, sym, ap, ap₂, ◌∙◌, subst, inl, inr, eq-eqb, eqb-true, arith}
use Rattle.std.specs.Prelude.{◌==◌, ◌&&◌, ◌||◌, not, slice_index_or, slice_set, if◌then◌else◌}
use Rattle.std.specs.List.{AllByRecursion, list_any}
use Rattle.std.proofs.lemmas.Bool.{both_ways, cases_eq, ne_eqb}
use Rattle.std.proofs.lemmas.List.{get_or-set_same, get_or-set_other, length-set, length_push}
use Rattle.std.proofs.lemmas.List.Elements.{All-from_recursion, recursion_from_All}
use Rattle.std.proofs.lemmas.Option.{slice_get_within}
use Rattle.typed_core.specs.Fits.{EventFits, EventsFit}
use Rattle.typed_core.specs.Valid.{IsPort}
use Rattle.typed_core.specs.declared.access.Access.{Access}
use Rattle.typed_core.specs.declared.access.Event.{Event}
use Rattle.attempt_log.specs.inner.Firsts.{noted, noted_all, place_of}
use Rattle.attempt_log.specs.Past.{Commits, StandsFor, first_from, has_access, is_access, kinds, place}
use Rattle.one_rule.specs.declared.cycle.Fired.{Fired}
use Rattle.attempt_log.specs.declared.first.Commit.{Commit}
use Rattle.attempt_log.proofs.Tables.{HoldsNothing, Table, none_from}

-- ---- places

pub same_test : (a b : Bool) → (a ≡ true → b ≡ true) → (b ≡ true → a ≡ true) → a ≡ b
same_test true true f g = refl
same_test false false f g = refl
same_test true false f g = absurd (both_ways false refl (f refl))
same_test false true f g = absurd (both_ways false refl (g refl))

-- kinds of access of registers have places of their own
place_one : (v w : Bool) (i j r s : ℕ) → IsPort i → IsPort j → place v i r ≡ place w j s → (v ≡ w) × (i ≡ j) × (r ≡ s)
place_one true true i j r s p q e = (refl, omega arith, omega arith)
place_one false false i j r s p q e = (refl, omega arith, omega arith)
place_one true false i j r s p q e = absurd (omega arith)
place_one false true i j r s p q e = absurd (omega arith)

and_three : (a b c : Bool) → (a && b && c) ≡ true → (a ≡ true) × (b ≡ true) × (c ≡ true)
and_three true true true h = (refl, refl, refl)
and_three true true false h = absurd cc
and_three true false true h = absurd cc
and_three true false false h = absurd cc
and_three false b c h = absurd cc

three_and : (a b c : Bool) → a ≡ true → b ≡ true → c ≡ true → (a && b && c) ≡ true
three_and true true true e f g = refl
three_and true true false e f g = absurd cc
three_and true false c e f g = absurd cc
three_and false b c e f g = absurd cc

not_true : (b : Bool) → not b ≡ true → b ≡ false
not_true true h = absurd cc
not_true false h = refl

not_false : (b : Bool) → b ≡ false → not b ≡ true
not_false true h = absurd cc
not_false false h = refl

pub access_parts : (write : Bool) (port register : ℕ) (e : Event) → is_access write port register e ≡ true → (e.access.write ≡ write) × (e.access.port ≡ port) × (e.access.register ≡ register)
access_parts true port register e h =
    let parts = and_three e.access.write (e.access.port == port) (e.access.register == register) h in
    (parts.0, eqb-true e.access.port port parts.1, eqb-true e.access.register register parts.2)
access_parts false port register e h =
    let parts = and_three (not e.access.write) (e.access.port == port) (e.access.register == register) h in
    (not_true e.access.write parts.0, eqb-true e.access.port port parts.1, eqb-true e.access.register register parts.2)

pub own_access : (write : Bool) (port register : ℕ) (e : Event) → e.access.write ≡ write → e.access.port ≡ port → e.access.register ≡ register → is_access write port register e ≡ true
own_access true port register e w p r = three_and e.access.write (e.access.port == port) (e.access.register == register) w (eq-eqb e.access.port port p) (eq-eqb e.access.register register r)
own_access false port register e w p r = three_and (not e.access.write) (e.access.port == port) (e.access.register == register) (not_false e.access.write w) (eq-eqb e.access.port port p) (eq-eqb e.access.register register r)

same_place : (e : Event) (write : Bool) (port register : ℕ) → IsPort e.access.port → IsPort port → (place_of e.access == place write port register) ≡ is_access write port register e
same_place e write port register p q =
    same_test (place_of e.access == place write port register) (is_access write port register e)
    (λ h.
    let one = place_one e.access.write write e.access.port port e.access.register register p q (eqb-true (place_of e.access) (place write port register) h) in
    own_access write port register e one.0 one.1 one.2)
    (λ h.
    let parts = access_parts write port register e h in
    eq-eqb (place_of e.access) (place write port register) (ap₂ (λ (w : Bool) (i : ℕ). place w i e.access.register) parts.0 parts.1 ∙ ap (place write port) parts.2))

-- the accesses of events that fit have places in the table
pub places_within : (widths : List ℕ) (events : List Event) (size : ℕ) → size ≡ kinds * length widths → EventsFit widths events → All (λ (e : Event). place_of e.access < size) events
places_within widths events size e fit k d inside =
    let f = All-from_recursion (EventFits widths) events fit k d inside in
    within (slice_index_or events k d) f
  where
    below : (write : Bool) (port register : ℕ) → IsPort port → register < length widths → place write port register < kinds * length widths
    below true port register p lt = omega arith
    below false port register p lt = omega arith

    within : (event : Event) → EventFits widths event → place_of event.access < size
    within event f =
        let lt : event.access.register < length widths = slice_get_within widths event.access.register f.value.0 f.value.1 in
        let b = below event.access.write event.access.port event.access.register f.port lt in
        omega (arith, e, b)

-- ---- what is noted

-- the first of two
abbrev pub first_or : Option Commit → Option Commit → Option Commit
first_or (Some a) b = Some a
first_or None b = b

pub length-noted : (commit : Commit) (firsts : Table) (a : Access) → length (noted commit firsts a) ≡ length firsts
length-noted commit firsts a = chosen (is_some (slice_index_or firsts (place_of a) None))
  where
    chosen : (b : Bool) → length (if b then firsts else slice_set firsts (place_of a) (Some commit)) ≡ length firsts
    chosen true = refl
    chosen false = length-set firsts (place_of a) (Some commit)

pub length-noted_all : (commit : Commit) (firsts : Table) (events : List Event) → length (noted_all commit firsts events) ≡ length firsts
length-noted_all commit firsts [] = refl
length-noted_all commit firsts (e ∷ events) = length-noted_all commit (noted commit firsts e.access) events ∙ length-noted commit firsts e.access

or_nothing : (a : Option Commit) → first_or a None ≡ a
or_nothing None = refl
or_nothing (Some c) = refl

first_or_assoc : (a b c : Option Commit) → first_or (first_or a b) c ≡ first_or a (first_or b c)
first_or_assoc None b c = refl
first_or_assoc (Some x) b c = refl

-- the commit where the test holds
abbrev pub when : Bool → Commit → Option Commit
when test commit = if test then Some commit else None

when_or : (p q : Bool) (commit : Commit) → first_or (when p commit) (when q commit) ≡ when (p || q) commit
when_or true q commit = refl
when_or false q commit = refl

-- a place holds what it held, or else the access if that is its own
noted_at : (commit : Commit) (firsts : Table) (a : Access) (number : ℕ) → place_of a < length firsts
    → slice_index_or (noted commit firsts a) number None ≡ first_or (slice_index_or firsts number None) (when (place_of a == number) commit)
noted_at commit firsts a number within = chosen (is_some (slice_index_or firsts here None)) refl (cases_eq here number)
  where
    here : ℕ
    here = place_of a

    held : (o : Option Commit) → is_some o ≡ true → (b : Option Commit) → o ≡ first_or o b
    held (Some c) h b = refl
    held None h b = absurd cc

    elsewhere : (here ≡ number → ⊥) → slice_index_or firsts number None ≡ first_or (slice_index_or firsts number None) (when (here == number) commit)
    elsewhere ne =
        sym (ap (λ (b : Bool). first_or (slice_index_or firsts number None) (when b commit)) (ne_eqb here number ne) ∙ or_nothing (slice_index_or firsts number None))

    chosen : (b : Bool) → is_some (slice_index_or firsts here None) ≡ b → (here ≡ number) ⊎ (here ≡ number → ⊥)
        → slice_index_or (if b then firsts else slice_set firsts here (Some commit)) number None ≡ first_or (slice_index_or firsts number None) (when (here == number) commit)
    chosen true h (inl e) = held (slice_index_or firsts number None) (ap (λ (n : ℕ). is_some (slice_index_or firsts n None)) (sym e) ∙ h) (when (here == number) commit)
    chosen true h (inr ne) = elsewhere ne
    chosen false h (inl e) =
        let none : slice_index_or firsts number None ≡ None = ap (λ (n : ℕ). slice_index_or firsts n None) (sym e) ∙ none_from (slice_index_or firsts here None) h in
        ap (λ (n : ℕ). slice_index_or (slice_set firsts here (Some commit)) n None) (sym e) ∙ get_or-set_same firsts here (Some commit) None within
        ∙ sym (ap₂ (λ (o : Option Commit) (b : Bool). first_or o (when b commit)) none (eq-eqb here number e))
    chosen false h (inr ne) = get_or-set_other firsts here number (Some commit) None (λ e. ne (sym e)) ∙ elsewhere ne

-- the same after many
noted_all_at : (commit : Commit) (firsts : Table) (events : List Event) (number : ℕ) → AllByRecursion (λ (e : Event). place_of e.access < length firsts) events
    → slice_index_or (noted_all commit firsts events) number None ≡ first_or (slice_index_or firsts number None) (when (list_any (λ (e : Event). place_of e.access == number) events) commit)
noted_all_at commit firsts [] number within = sym (or_nothing (slice_index_or firsts number None))
noted_all_at commit firsts (e ∷ events) number within =
    let next = noted commit firsts e.access in
    let rest : AllByRecursion (λ (e : Event). place_of e.access < length next) events =
    subst (λ (n : ℕ). AllByRecursion (λ (e : Event). place_of e.access < n) events) (sym (length-noted commit firsts e.access)) within.1 in
    let more = when (list_any (λ (e : Event). place_of e.access == number) events) commit in
    noted_all_at commit next events number rest
    ∙ ap (λ (o : Option Commit). first_or o more) (noted_at commit firsts e.access number within.0)
    ∙ first_or_assoc (slice_index_or firsts number None) (when (place_of e.access == number) commit) more
    ∙ ap (first_or (slice_index_or firsts number None)) (when_or (place_of e.access == number) (list_any (λ (e : Event). place_of e.access == number) events) commit)

-- ---- what a past stands for

same_accesses : (widths : List ℕ) (events : List Event) (write : Bool) (port register : ℕ) → EventsFit widths events → IsPort port → list_any (λ (e : Event). place_of e.access == place write port register) events ≡ has_access write port register events
same_accesses widths [] write port register fit p = refl
same_accesses widths (e ∷ events) write port register fit p =
    ap₂ (λ a b. a || b) (same_place e write port register fit.0.port p) (same_accesses widths events write port register fit.1 p)

-- one more rule is committed
first_push : (position : ℕ) (write : Bool) (port register : ℕ) (fired : List Fired) (f : Fired)
    → first_from position write port register (fired ++ f ∷ []) ≡ first_or (first_from position write port register fired) (when (has_access write port register f.events) (record { position = position + length fired; rule = f.rule }))
first_push position write port register [] f =
    let at : position ≡ position + 0 = omega arith in
    ap (λ (n : ℕ). when (has_access write port register f.events) (record { position = n; rule = f.rule })) at
first_push position write port register (g ∷ fired) f = chosen (has_access write port register g.events) (first_push (position + 1) write port register fired f)
  where
    at : position + 1 + length fired ≡ position + length (g ∷ fired)
    at = omega arith

    rest : Option Commit
    rest = first_or (first_from (position + 1) write port register fired) (when (has_access write port register f.events) (record { position = position + 1 + length fired; rule = f.rule }))

    chosen : (b : Bool) → first_from (position + 1) write port register (fired ++ f ∷ []) ≡ rest
        → (if b then Some (record { position = position; rule = g.rule }) else first_from (position + 1) write port register (fired ++ f ∷ []))
        ≡ first_or (if b then Some (record { position = position; rule = g.rule }) else first_from (position + 1) write port register fired) (when (has_access write port register f.events) (record { position = position + length (g ∷ fired); rule = f.rule }))
    chosen true h = refl
    chosen false h =
        h
        ∙ ap (λ (n : ℕ). first_or (first_from (position + 1) write port register fired) (when (has_access write port register f.events) (record { position = n; rule = f.rule }))) at

all_push : {X : Type 0} (P : X → Type 0) (xs : List X) (x : X) → AllByRecursion P xs → P x → AllByRecursion P (xs ++ x ∷ [])
all_push P [] x h p = (p, tt)
all_push P (y ∷ xs) x h p = (h.0, all_push P xs x h.1 p)

-- a past into which a rule's accesses are noted stands for that rule too
pub stands_taken : (widths : List ℕ) (old new : Commits) (fired : List Fired) (rule : ℕ) (events : List Event) → StandsFor widths old fired → EventsFit widths events
    → new.firsts ≡ noted_all (record { position = old.count; rule = rule }) old.firsts events → new.count ≡ old.count + 1
    → StandsFor widths new (fired ++ record { rule = rule; events = events } ∷ [])
stands_taken widths old new fired rule events s fit firsts count = record {
  places = ap length firsts ∙ length-noted_all commit old.firsts events ∙ s.places;
  firsts = at;
  count = omega (arith, count, s.count, length_push fired taken);
  fit = all_push (λ (f : Fired). EventsFit widths f.events) fired taken s.fit fit;
}
  where
    commit : Commit
    commit = record { position = old.count; rule = rule }

    taken : Fired
    taken = record { rule = rule; events = events }

    within : AllByRecursion (λ (e : Event). place_of e.access < length old.firsts) events
    within = recursion_from_All (λ (e : Event). place_of e.access < length old.firsts) events (places_within widths events (length old.firsts) s.places fit)

    at : (write : Bool) (port register : ℕ) → IsPort port → register < length widths → slice_index_or new.firsts (place write port register) None ≡ first_from 0 write port register (fired ++ taken ∷ [])
    at write port register p lt =
        let number : ℕ = place write port register in
        let position : old.count ≡ 0 + length fired = omega (arith, s.count) in
        ap (λ (t : Table). slice_index_or t number None) firsts
        ∙ noted_all_at commit old.firsts events number within
        ∙ ap₂ (λ (o : Option Commit) (b : Bool). first_or o (when b commit)) (s.firsts write port register p lt) (same_accesses widths events write port register fit p)
        ∙ ap (λ (n : ℕ). first_or (first_from 0 write port register fired) (when (has_access write port register events) (record { position = n; rule = rule }))) position
        ∙ sym (first_push 0 write port register fired taken)

-- a past that holds nothing stands for no rule
pub stands_none : (widths : List ℕ) (past : Commits) → length past.firsts ≡ kinds * length widths → HoldsNothing past.firsts → past.count ≡ 0 → StandsFor widths past []
stands_none widths past places none count = record {
  places = places;
  firsts = λ write port register p lt. none (place write port register);
  count = count;
  fit = tt;
}
