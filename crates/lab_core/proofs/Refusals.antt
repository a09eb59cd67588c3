-- Refusals: which are the same, and how their counts grow by one cycle more.
use Rattle.std.proofs.Common.{◌≡◌, ℕ, ◌+◌, Bool, true, false, cond, List, [], ◌∷◌, ◌++◌, length, Option, Some, None, refl, sym, ap, ap₂, ◌∙◌, eqb-true, eq-eqb, arith}
use Rattle.std.specs.Prelude.{◌==◌, ◌&&◌, ◌||◌, if◌then◌else◌}
use Rattle.std.specs.List.{count_by, list_any, sum_by}
use Rattle.std.proofs.lemmas.Bool.{and_from, and_parts, both_ways, or_from, or_left, or_parts, or_right}
use Rattle.std.proofs.lemmas.List.Sums.{sum_by-append}
use Rattle.typed_core.specs.declared.access.Access.{Access}
use Rattle.attempt_log.specs.declared.cause.Cause.{Cause}
use Rattle.attempt_log.specs.declared.cause.Cause.TheVariants as cause
use Rattle.attempt_log.proofs.Notes.{same_test}
use Rattle.lab_core.specs.Numbers.{Counted, is_abort, passes, refusals_from, same_access, same_cause, same_kind, times}
use Rattle.lab_core.specs.inner.Counting.{with_refusal}

-- ---- the same refusal

kind_same : (a b : Bool) → same_kind a b ≡ true → a ≡ b
kind_same true true h = refl
kind_same true false h = absurd cc
kind_same false true h = absurd cc
kind_same false false h = refl

kind_self : (a : Bool) → same_kind a a ≡ true
kind_self true = refl
kind_self false = refl

access_same : (a b : Access) → same_access a b ≡ true → a ≡ b
access_same a b h =
    let last = and_parts (same_kind a.write b.write && (a.port == b.port)) (a.register == b.register) h in
    let first = and_parts (same_kind a.write b.write) (a.port == b.port) last.0 in
    ap₂ (λ (w : Bool) (p : ℕ). let x : Access = record { write = w; port = p; register = a.register } in x) (kind_same a.write b.write first.0) (eqb-true a.port b.port first.1)
    ∙ ap (λ (r : ℕ). let x : Access = record { write = b.write; port = b.port; register = r } in x) (eqb-true a.register b.register last.1)

access_self : (a : Access) → same_access a a ≡ true
access_self a =
    and_from (same_kind a.write a.write && (a.port == a.port)) (a.register == a.register)
    (and_from (same_kind a.write a.write) (a.port == a.port) (kind_self a.write) (eq-eqb a.port a.port refl)) (eq-eqb a.register a.register refl)

pub cause_same : (a b : Cause) → same_cause a b ≡ true → a ≡ b
cause_same cause.Abort cause.Abort h = refl
cause_same cause.Abort (cause.OwnClash b) h = absurd cc
cause_same cause.Abort (cause.Clash b r f) h = absurd cc
cause_same (cause.OwnClash a) cause.Abort h = absurd cc
cause_same (cause.OwnClash a) (cause.OwnClash b) h = ap cause.OwnClash (access_same a b h)
cause_same (cause.OwnClash a) (cause.Clash b r f) h = absurd cc
cause_same (cause.Clash a q e) cause.Abort h = absurd cc
cause_same (cause.Clash a q e) (cause.OwnClash b) h = absurd cc
cause_same (cause.Clash a q e) (cause.Clash b r f) h =
    let last = and_parts (same_access a b && (q == r)) (same_access e f) h in
    let first = and_parts (same_access a b) (q == r) last.0 in
    ap₂ (λ (x : Access) (n : ℕ). cause.Clash x n e) (access_same a b first.0) (eqb-true q r first.1) ∙ ap (cause.Clash b r) (access_same e f last.1)

pub cause_self : (a : Cause) → same_cause a a ≡ true
cause_self cause.Abort = refl
cause_self (cause.OwnClash a) = access_self a
cause_self (cause.Clash a q e) =
    and_from (same_access a a && (q == q)) (same_access e e) (and_from (same_access a a) (q == q) (access_self a) (eq-eqb q q refl)) (access_self e)

turned : (a b : Cause) → same_cause a b ≡ true → same_cause b a ≡ true
turned a b h = let e = cause_same a b h in ap₂ same_cause (sym e) e ∙ h

cause_sym : (a b : Cause) → same_cause a b ≡ same_cause b a
cause_sym a b = same_test (same_cause a b) (same_cause b a) (turned a b) (turned b a)

-- ---- counts

-- one more where it passes
abbrev pub more : Bool → ℕ → ℕ
more b n = n + cond b 1 0

pub count_push : {X : Type 0} (p : X → Bool) (xs : List X) (x : X) → count_by p (xs ++ x ∷ []) ≡ more (p x) (count_by p xs)
count_push p xs x =
    let one : sum_by (λ x. cond (p x) 1 0) (x ∷ []) ≡ cond (p x) 1 0 = omega arith in
    sum_by-append (λ x. cond (p x) 1 0) xs (x ∷ []) ∙ ap (λ (n : ℕ). count_by p xs + n) one

-- ---- refusals

abbrev is_old : List Cause → Cause → Bool
is_old known c = is_abort c || list_any (same_cause c) known

abbrev entry : Cause → ℕ → ℕ → Counted
entry c count first = record { cause = c; count = count; first = first }

abbrev next : Bool → ℕ → List Cause → Cause → List (Option Cause) → List Counted
next old cycle known c later = if old then refusals_from (cycle + 1) known later else entry c (times c later + 1) cycle ∷ refusals_from (cycle + 1) (c ∷ known) later

same_entry : (c : Cause) (cycle m n : ℕ) (xs ys : List Counted) → m ≡ n → xs ≡ ys → entry c m cycle ∷ xs ≡ entry c n cycle ∷ ys
same_entry c cycle m n xs ys e f = ap₂ (λ (k : ℕ) (zs : List Counted). entry c k cycle ∷ zs) e f

-- what is no refusal changes nothing
pub refusals_skip : (o : Option Cause) → ((c : Cause) → is_abort c ≡ false → passes (same_cause c) o ≡ false) → ((cycle : ℕ) (known : List Cause) → refusals_from cycle known (o ∷ []) ≡ [])
    → (cycle : ℕ) (known : List Cause) (causes : List (Option Cause)) → refusals_from cycle known (causes ++ o ∷ []) ≡ refusals_from cycle known causes
refusals_skip o other none cycle known [] = none cycle known
refusals_skip o other none cycle known (None ∷ later) = refusals_skip o other none (cycle + 1) known later
refusals_skip o other none cycle known (Some c ∷ later) =
    chosen (is_old known c) refl (refusals_skip o other none (cycle + 1) known later) (refusals_skip o other none (cycle + 1) (c ∷ known) later)
  where
    chosen : (b : Bool) → is_old known c ≡ b → refusals_from (cycle + 1) known (later ++ o ∷ []) ≡ refusals_from (cycle + 1) known later
        → refusals_from (cycle + 1) (c ∷ known) (later ++ o ∷ []) ≡ refusals_from (cycle + 1) (c ∷ known) later
        → next b cycle known c (later ++ o ∷ []) ≡ next b cycle known c later
    chosen true is same deeper = same
    chosen false is same deeper =
        let no = other c (or_parts (is_abort c) (list_any (same_cause c) known) is).0 in
        let count : times c (later ++ o ∷ []) + 1 ≡ times c later + 1 =
        ap (λ (n : ℕ). n + 1) (count_push (passes (same_cause c)) later o ∙ ap (λ (b : Bool). more b (times c later)) no) ∙ omega arith in
        same_entry c cycle _ _ _ _ count deeper

-- nor does one that is known from before
refusals_known : (d : Cause) → (cycle : ℕ) (known : List Cause) (causes : List (Option Cause)) → list_any (same_cause d) known ≡ true
    → refusals_from cycle known (causes ++ Some d ∷ []) ≡ refusals_from cycle known causes
refusals_known d cycle known [] here = ap (λ (b : Bool). next b cycle known d []) (or_right (is_abort d) (list_any (same_cause d) known) here)
refusals_known d cycle known (None ∷ later) here = refusals_known d (cycle + 1) known later here
refusals_known d cycle known (Some c ∷ later) here =
    chosen (is_old known c) refl (refusals_known d (cycle + 1) known later here)
    (refusals_known d (cycle + 1) (c ∷ known) later (or_right (same_cause d c) (list_any (same_cause d) known) here))
  where
    differ : is_old known c ≡ false → same_cause c d ≡ true → ⊥
    differ is h =
        both_ways (list_any (same_cause c) known) (or_parts (is_abort c) (list_any (same_cause c) known) is).1
        (ap (λ (x : Cause). list_any (same_cause x) known) (cause_same c d h) ∙ here)

    apart : (b : Bool) → same_cause c d ≡ b → is_old known c ≡ false → b ≡ false
    apart true h is = absurd (differ is h)
    apart false h is = refl

    chosen : (b : Bool) → is_old known c ≡ b → refusals_from (cycle + 1) known (later ++ Some d ∷ []) ≡ refusals_from (cycle + 1) known later
        → refusals_from (cycle + 1) (c ∷ known) (later ++ Some d ∷ []) ≡ refusals_from (cycle + 1) (c ∷ known) later
        → next b cycle known c (later ++ Some d ∷ []) ≡ next b cycle known c later
    chosen true is same deeper = same
    chosen false is same deeper =
        let no = apart (same_cause c d) refl is in
        let count : times c (later ++ Some d ∷ []) + 1 ≡ times c later + 1 =
        ap (λ (n : ℕ). n + 1) (count_push (passes (same_cause c)) later (Some d) ∙ ap (λ (b : Bool). more b (times c later)) no) ∙ omega arith in
        same_entry c cycle _ _ _ _ count deeper

-- a refusal that isn't known from before is counted once more, or goes last
pub refusals_new : (d : Cause) → is_abort d ≡ false → (cycle at : ℕ) (known : List Cause) (causes : List (Option Cause)) → at ≡ cycle + length causes → list_any (same_cause d) known ≡ false
    → refusals_from cycle known (causes ++ Some d ∷ []) ≡ with_refusal at d (refusals_from cycle known causes)
refusals_new d fine cycle at known [] place new =
    let here : cycle ≡ at = omega (arith, place) in
    ap (λ (b : Bool). next b cycle known d []) (or_from (is_abort d) (list_any (same_cause d) known) fine new)
    ∙ ap (λ (n : ℕ). entry d 1 n ∷ []) here
refusals_new d fine cycle at known (None ∷ later) place new = refusals_new d fine (cycle + 1) at known later (omega (arith, place)) new
refusals_new d fine cycle at known (Some c ∷ later) place new =
    chosen (is_old known c) refl (refusals_new d fine (cycle + 1) at known later (omega (arith, place)) new)
    (refusals_known d (cycle + 1) (c ∷ known) later)
    (refusals_new d fine (cycle + 1) at (c ∷ known) later (omega (arith, place)))
  where
    count : (b : Bool) → same_cause d c ≡ b → times c (later ++ Some d ∷ []) ≡ more b (times c later)
    count b h = count_push (passes (same_cause c)) later (Some d) ∙ ap (λ (x : Bool). more x (times c later)) (cause_sym c d ∙ h)

    added : (b : Bool) → same_cause d c ≡ b
        → (list_any (same_cause d) (c ∷ known) ≡ true → refusals_from (cycle + 1) (c ∷ known) (later ++ Some d ∷ []) ≡ refusals_from (cycle + 1) (c ∷ known) later)
        → (list_any (same_cause d) (c ∷ known) ≡ false → refusals_from (cycle + 1) (c ∷ known) (later ++ Some d ∷ []) ≡ with_refusal at d (refusals_from (cycle + 1) (c ∷ known) later))
        → entry c (times c (later ++ Some d ∷ []) + 1) cycle ∷ refusals_from (cycle + 1) (c ∷ known) (later ++ Some d ∷ [])
        ≡ (if b then entry c (times c later + 1 + 1) cycle ∷ refusals_from (cycle + 1) (c ∷ known) later else entry c (times c later + 1) cycle ∷ with_refusal at d (refusals_from (cycle + 1) (c ∷ known) later))
    added true h known_too new_too =
        same_entry c cycle _ _ _ _ (ap (λ (n : ℕ). n + 1) (count true h)) (known_too (or_left (same_cause d c) (list_any (same_cause d) known) h))
    added false h known_too new_too =
        let same : more false (times c later) + 1 ≡ times c later + 1 = omega arith in
        same_entry c cycle _ _ _ _ (ap (λ (n : ℕ). n + 1) (count false h) ∙ same) (new_too (or_from (same_cause d c) (list_any (same_cause d) known) h new))

    chosen : (b : Bool) → is_old known c ≡ b → refusals_from (cycle + 1) known (later ++ Some d ∷ []) ≡ with_refusal at d (refusals_from (cycle + 1) known later)
        → (list_any (same_cause d) (c ∷ known) ≡ true → refusals_from (cycle + 1) (c ∷ known) (later ++ Some d ∷ []) ≡ refusals_from (cycle + 1) (c ∷ known) later)
        → (list_any (same_cause d) (c ∷ known) ≡ false → refusals_from (cycle + 1) (c ∷ known) (later ++ Some d ∷ []) ≡ with_refusal at d (refusals_from (cycle + 1) (c ∷ known) later))
        → next b cycle known c (later ++ Some d ∷ []) ≡ with_refusal at d (next b cycle known c later)
    chosen true is same known_too new_too = same
    chosen false is same known_too new_too = added (same_cause d c) refl known_too new_too
