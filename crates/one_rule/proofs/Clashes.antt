-- Clashes of events with a scheduler log, and with the rules that fired before.
use Rattle.std.proofs.Common.{◌≡◌, Bool, true, false, List, [], ◌∷◌, ◌++◌, refl, sym, ap, ap₂, ◌∙◌}
use Rattle.std.specs.Prelude.{◌||◌}
use Rattle.std.specs.List.{list_any}
use Rattle.std.proofs.lemmas.List.Folds.{list_any-append}
use Rattle.typed_core.specs.Alone.{is_refused}
use Rattle.typed_core.specs.Clash.{clashes}
use Rattle.typed_core.specs.Fits.{Continues}
use Rattle.typed_core.specs.declared.access.Event.{Event}
use Rattle.one_rule.specs.Cycle.{clash_with, clash_with_events}
use Rattle.one_rule.specs.declared.cycle.Fired.{Fired}

-- ---- lists in general

or_swap : (a b c d : Bool) → ((a || b) || (c || d)) ≡ ((a || c) || (b || d))
or_swap true b c d = refl
or_swap false true true d = refl
or_swap false true false d = refl
or_swap false false c d = refl

or_none : (a : Bool) → (a || false) ≡ a
or_none true = refl
or_none false = refl

any_same : {X : Type 0} (p q : X → Bool) → ((x : X) → p x ≡ q x) → (xs : List X) → list_any p xs ≡ list_any q xs
any_same p q h [] = refl
any_same p q h (x ∷ xs) = ap₂ (λ a b. a || b) (h x) (any_same p q h xs)

-- one of two tests
any_or : {X : Type 0} (p q : X → Bool) (xs : List X) → list_any (λ x. p x || q x) xs ≡ (list_any p xs || list_any q xs)
any_or p q [] = refl
any_or p q (x ∷ xs) = ap (λ b. (p x || q x) || b) (any_or p q xs) ∙ or_swap (p x) (q x) (list_any p xs) (list_any q xs)

any_never : {X : Type 0} (xs : List X) → list_any (λ _. false) xs ≡ false
any_never [] = refl
any_never (x ∷ xs) = any_never xs

-- pairs are found in either order
any_swap : {X Y : Type 0} (r : X → Y → Bool) (xs : List X) (ys : List Y) → list_any (λ x. list_any (r x) ys) xs ≡ list_any (λ y. list_any (λ x. r x y) xs) ys
any_swap r [] ys = sym (any_never ys)
any_swap r (x ∷ xs) ys =
    ap (λ b. list_any (r x) ys || b) (any_swap r xs ys) ∙ sym (any_or (r x) (λ y. list_any (λ z. r z y) xs) ys)

-- ---- events and a log

-- the log refuses one of the events
abbrev pub meets : List Event → List Event → Bool
meets log events = list_any (λ (e : Event). is_refused log e.access) events

-- one more event
pub meets-push : (log events : List Event) (e : Event) (b : Bool) → meets log events ≡ false → is_refused log e.access ≡ b → meets log (events ++ e ∷ []) ≡ b
meets-push log events e b clear h =
    list_any-append (λ (e : Event). is_refused log e.access) events (e ∷ []) ∙ ap₂ (λ x y. x || (y || false)) clear h ∙ or_none b

-- a refused event stays
pub meets-more : (log before after : List Event) → Continues before after → meets log before ≡ true → meets log after ≡ true
meets-more log before after (more, e) h =
    ap (meets log) e ∙ list_any-append (λ (e : Event). is_refused log e.access) before more ∙ ap (λ b. b || meets log more) h

-- two logs, one behind the other
pub meets-append : (log more events : List Event) → meets (log ++ more) events ≡ (meets log events || meets more events)
meets-append log more events =
    any_same (λ (e : Event). is_refused (log ++ more) e.access) (λ (e : Event). is_refused log e.access || is_refused more e.access)
    (λ e. list_any-append (λ (f : Event). clashes e.access f.access) log more) events
    ∙ any_or (λ (e : Event). is_refused log e.access) (λ (e : Event). is_refused more e.access) events

-- the events of one rule as a log
meets-events : (log events : List Event) → meets log events ≡ clash_with_events events log
meets-events log events = any_swap (λ (e f : Event). clashes e.access f.access) events log

-- no rule fired
pub clash_with-none : (events : List Event) → clash_with events [] ≡ meets [] events
clash_with-none events = sym (any_never events)

-- one more rule that fired
pub clash_with-push : (log events : List Event) (past : List Fired) (f : Fired) → clash_with events past ≡ meets log events → clash_with events (past ++ f ∷ []) ≡ meets (log ++ f.events) events
clash_with-push log events past f h =
    list_any-append (λ (f : Fired). clash_with_events events f.events) past (f ∷ [])
    ∙ ap₂ (λ a b. a || b) h (or_none (clash_with_events events f.events) ∙ sym (meets-events f.events events))
    ∙ sym (meets-append log f.events events)
