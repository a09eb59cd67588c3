-- The table of a rule's refusals: what a refusal more leaves in it.
use Rattle.std.proofs.Common.{◌≡◌, ℕ, ◌+◌, ◌<◌, Bool, true, false, cond, List, [], ◌∷◌, map, Option, Some, None, All, Decides, refl, sym, ap, ◌∙◌, rules, arith}
use Rattle.std.specs.Prelude.{IfSome, if◌then◌else◌}
use Rattle.std.specs.List.{AllByRecursion}
use Rattle.std.specs.Map.{lookup}
use Rattle.std.proofs.lemmas.Bool.{both_ways}
use Rattle.std.proofs.lemmas.List.Elements.{All-from_recursion, recursion_from_All}
use Rattle.indexmap.specs.IndexMap.{insert_entry}
use Rattle.attempt_log.specs.declared.cause.Cause.{Cause}
use Rattle.lab_core.specs.Numbers.{Counted, same_cause}
use Rattle.lab_core.specs.contracts.refusal.RefusalPartialEq.TheImpl as like
use Rattle.lab_core.specs.declared.refusal.Refusal.{Refusal}
use Rattle.lab_core.specs.declared.refusal.Refusal.TheVariants as refusal
use Rattle.lab_core.specs.declared.refusal.Seen.{Seen}
use Rattle.lab_core.specs.inner.Counting.{cause_at, counted_of, refusal_if, seen_next, with_refusal}
use Rattle.lab_core.proofs.Refusals.{cause_same, cause_self}

abbrev pub equal : Refusal → Refusal → Bool
equal = (like.ghosts).eq

equal-Decides : (x y : Refusal) → Decides (equal x y) (x ≡ y)
equal-Decides x y = search rules

-- a cause is that of one refusal
back : (r : Refusal) → refusal_if (cause_at r) ≡ Some r
back (refusal.Own p) = refl
back (refusal.Clash p q e) = refl

abbrev inside : Refusal → Option Refusal → Refusal
inside d None = d
inside d (Some r) = r

one_cause : (a b : Refusal) → cause_at a ≡ cause_at b → a ≡ b
one_cause a b e = ap (inside a) (sym (back a) ∙ ap refusal_if e ∙ back b)

-- one cycle more
pub insert_counts : (cycle : ℕ) (entries : List (Refusal × Seen)) (k : Refusal) (v : Seen) → v ≡ seen_next cycle (lookup (equal k) entries)
    → map counted_of (insert_entry equal entries k v) ≡ with_refusal cycle (cause_at k) (map counted_of entries)
insert_counts cycle [] k v is = ap (λ (s : Seen). counted_of (k, s) ∷ []) is
insert_counts cycle (e ∷ entries) k v is = chosen (equal k e.0) refl is (insert_counts cycle entries k v)
  where
    apart : equal k e.0 ≡ false → (b : Bool) → same_cause (cause_at k) (cause_at e.0) ≡ b → b ≡ false
    apart h true same = absurd (both_ways (equal k e.0) h ((equal-Decides k e.0).1 (one_cause k e.0 (cause_same (cause_at k) (cause_at e.0) same))))
    apart h false same = refl

    chosen : (b : Bool) → equal k e.0 ≡ b → v ≡ seen_next cycle (cond b (Some e.1) (lookup (equal k) entries))
        → (v ≡ seen_next cycle (lookup (equal k) entries) → map counted_of (insert_entry equal entries k v) ≡ with_refusal cycle (cause_at k) (map counted_of entries))
        → map counted_of (if b then (e.0, v) ∷ entries else e ∷ insert_entry equal entries k v) ≡ with_refusal cycle (cause_at k) (map counted_of (e ∷ entries))
    chosen true h now more =
        let same : same_cause (cause_at k) (cause_at e.0) ≡ true = ap (λ (r : Refusal). same_cause (cause_at r) (cause_at e.0)) ((equal-Decides k e.0).0 h) ∙ cause_self (cause_at e.0) in
        ap (λ (s : Seen). counted_of (e.0, s) ∷ map counted_of entries) now
        ∙ sym (ap (λ (b : Bool). if b then record { cause = cause_at e.0; count = e.1.count + 1; first = e.1.first } ∷ map counted_of entries else counted_of e ∷ with_refusal cycle (cause_at k) (map counted_of entries)) same)
    chosen false h now more =
        ap (λ (cs : List Counted). counted_of e ∷ cs) (more now)
        ∙ sym (ap (λ (b : Bool). if b then record { cause = cause_at e.0; count = e.1.count + 1; first = e.1.first } ∷ map counted_of entries else counted_of e ∷ with_refusal cycle (cause_at k) (map counted_of entries)) (apart h (same_cause (cause_at k) (cause_at e.0)) refl))

-- ---- counts below a number

abbrev pub Below : ℕ → List Counted → Type 0
Below bound counted = All (λ (c : Counted). c.count < bound) counted

higher : (bound : ℕ) (counted : List Counted) → AllByRecursion (λ (c : Counted). c.count < bound) counted → AllByRecursion (λ (c : Counted). c.count < bound + 1) counted
higher bound [] h = tt
higher bound (c ∷ counted) h = (omega (arith, h.0), higher bound counted h.1)

with_below : (cycle : ℕ) (d : Cause) (counted : List Counted) → 0 < cycle → AllByRecursion (λ (c : Counted). c.count < cycle) counted → AllByRecursion (λ (c : Counted). c.count < cycle + 1) (with_refusal cycle d counted)
with_below cycle d [] some h = (omega (arith, some), tt)
with_below cycle d (c ∷ counted) some h = chosen (same_cause d c.cause) (with_below cycle d counted some h.1)
  where
    chosen : (b : Bool) → AllByRecursion (λ (c : Counted). c.count < cycle + 1) (with_refusal cycle d counted)
        → AllByRecursion (λ (c : Counted). c.count < cycle + 1) (if b then record { cause = c.cause; count = c.count + 1; first = c.first } ∷ counted else c ∷ with_refusal cycle d counted)
    chosen true more = (omega (arith, h.0), higher cycle counted h.1)
    chosen false more = (omega (arith, h.0), more)

pub below_higher : (bound : ℕ) (counted : List Counted) → Below bound counted → Below (bound + 1) counted
below_higher bound counted h =
    All-from_recursion (λ (c : Counted). c.count < bound + 1) counted (higher bound counted (recursion_from_All (λ (c : Counted). c.count < bound) counted h))

pub below_with : (cycle : ℕ) (d : Cause) (counted : List Counted) → 0 < cycle → Below cycle counted → Below (cycle + 1) (with_refusal cycle d counted)
below_with cycle d counted some h =
    All-from_recursion (λ (c : Counted). c.count < cycle + 1) (with_refusal cycle d counted) (with_below cycle d counted some (recursion_from_All (λ (c : Counted). c.count < cycle) counted h))

-- the count that a look-up finds is below
found_below : (bound : ℕ) (entries : List (Refusal × Seen)) (k : Refusal) (s : Seen) → AllByRecursion (λ (c : Counted). c.count < bound) (map counted_of entries) → lookup (equal k) entries ≡ Some s → s.count < bound
found_below bound [] k s h is = absurd cc
found_below bound (e ∷ entries) k s h is = chosen (equal k e.0) is (found_below bound entries k s h.1)
  where
    count : Option Seen → ℕ
    count None = s.count
    count (Some x) = x.count

    chosen : (b : Bool) → cond b (Some e.1) (lookup (equal k) entries) ≡ Some s → (lookup (equal k) entries ≡ Some s → s.count < bound) → s.count < bound
    chosen true found more = omega (arith, h.0, ap count found)
    chosen false found more = more found

pub count_below : (bound : ℕ) (entries : List (Refusal × Seen)) (k : Refusal) (s : Seen) → Below bound (map counted_of entries) → lookup (equal k) entries ≡ Some s → s.count < bound
count_below bound entries k s h = found_below bound entries k s (recursion_from_All (λ (c : Counted). c.count < bound) (map counted_of entries) h)

pub if_below : (bound : ℕ) (entries : List (Refusal × Seen)) (k : Refusal) (o : Option Seen) → Below bound (map counted_of entries) → o ≡ lookup (equal k) entries → IfSome o (λ s. s.count < bound)
if_below bound entries k None h is = tt
if_below bound entries k (Some s) h is = count_below bound entries k s h (sym is)
