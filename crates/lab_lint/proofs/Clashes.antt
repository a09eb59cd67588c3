-- What a clash with an earlier rule is: of an event with an access of a rule that fired.
use Rattle.std.proofs.Common.{◌≡◌, inl, inr, ℕ, Bool, true, false, List, [], ◌∷◌, Option, Some, None, refl, ap, sym, ◌∙◌, subst}
use Rattle.std.specs.Prelude.{if◌then◌else◌}
use Rattle.std.specs.Option.{option_or}
use Rattle.typed_core.specs.Clash.{clashes}
use Rattle.typed_core.specs.declared.access.Access.{Access}
use Rattle.typed_core.specs.declared.access.Event.{Event}
use Rattle.one_rule.specs.declared.cycle.Fired.{Fired}
use Rattle.attempt_log.specs.Verdict.{clash, clash_or, first_clash, named_first, kind_before}
use Rattle.attempt_log.specs.declared.cause.Cause.{Cause}
use Rattle.attempt_log.specs.declared.cause.Cause.TheVariants as cause
use Rattle.lab_core.specs.Trials.{clash_among}
use Rattle.lab_lint.proofs.Among.{Among}
use Rattle.lab_lint.proofs.Does.{accesses}

-- an access in the way of another
abbrev InTheWay : Access → List Event → Access → Type 0
InTheWay a events e = Among e (accesses events) × (clashes a e ≡ true)

abbrev AreInTheWay : Access → List Event → Type 0
AreInTheWay a events = (y : Access) → first_clash a events ≡ Some y → InTheWay a events y

first-is : (a : Access) (events : List Event) (e : Access) → first_clash a events ≡ Some e → InTheWay a events e
first-is a [] e h = absurd cc
first-is a (x ∷ events) e h = chosen (λ y k. first-is a events y k) (clashes a x.access) refl h
  where
    later : AreInTheWay a events → (y : Access) → first_clash a events ≡ Some y → InTheWay a (x ∷ events) y
    later rest y k = let found = rest y k in (inr found.0, found.1)

    sooner : clashes a x.access ≡ true → (b : Bool) (y : Access) → InTheWay a (x ∷ events) y → InTheWay a (x ∷ events) (if b then y else x.access)
    sooner is true y way = way
    sooner is false y way = (inl refl, is)

    least : AreInTheWay a events → clashes a x.access ≡ true → (o : Option Access) → first_clash a events ≡ o → InTheWay a (x ∷ events) (named_first x.access o)
    least rest is None k = (inl refl, is)
    least rest is (Some y) k = sooner is (kind_before y.write y.port x.access.write x.access.port) y (later rest y k)

    chosen : AreInTheWay a events → (b : Bool) → clashes a x.access ≡ b → (if b then Some (named_first x.access (first_clash a events)) else first_clash a events) ≡ Some e → InTheWay a (x ∷ events) e
    chosen rest true is k =
        let same : named_first x.access (first_clash a events) ≡ e = cc in
        subst (InTheWay a (x ∷ events)) same (least rest is (first_clash a events) refl)
    chosen rest false is k = later rest e k

-- the clash names the access itself, and a rule that fired with an access in its way
record IsFound (access : Access) (past : List Fired) (a : Access) (rule : ℕ) (e : Access) : Type 0 where
  fired : Fired
  among : Among fired past
  is_access : access ≡ a
  is_rule : fired.rule ≡ rule
  way : InTheWay a fired.events e

clash-is : (access : Access) (past : List Fired) (a : Access) (rule : ℕ) (e : Access) → clash access past ≡ Some (cause.Clash a rule e) → IsFound access past a rule e
clash-is access [] a rule e h = absurd cc
clash-is access (f ∷ past) a rule e h = chosen (first_clash access f.events) refl (clash-is access past a rule e) h
  where
    chosen : (o : Option Access) → first_clash access f.events ≡ o → (clash access past ≡ Some (cause.Clash a rule e) → IsFound access past a rule e)
        → clash_or access f.rule o (clash access past) ≡ Some (cause.Clash a rule e) → IsFound access (f ∷ past) a rule e
    chosen (Some y) is rest k =
        let one : access ≡ a = cc in
        let two : f.rule ≡ rule = cc in
        let three : y ≡ e = cc in
        record {
          fired = f;
          among = inl refl;
          is_access = one;
          is_rule = two;
          way = subst (λ (z : Access). InTheWay z f.events e) one (subst (InTheWay access f.events) three (first-is access f.events y is));
        }
    chosen None is rest k = let found = rest k in record { fired = found.fired; among = inr found.among; is_access = found.is_access; is_rule = found.is_rule; way = found.way }

-- and so does that of a rule's events, whose access is one of them
pub record IsClash (past : List Fired) (events : List Event) (a : Access) (rule : ℕ) (e : Access) : Type 0 where
  pub fired : Fired
  pub among : Among fired past
  pub access : Among a (accesses events)
  pub is_rule : fired.rule ≡ rule
  pub earlier : Among e (accesses fired.events)
  pub clash : clashes a e ≡ true

pub clash_among-is : (past : List Fired) (events : List Event) (a : Access) (rule : ℕ) (e : Access) → clash_among past events ≡ Some (cause.Clash a rule e) → IsClash past events a rule e
clash_among-is past [] a rule e h = absurd cc
clash_among-is past (x ∷ events) a rule e h = chosen (clash x.access past) refl (clash_among-is past events a rule e) h
  where
    chosen : (o : Option Cause) → clash x.access past ≡ o → (clash_among past events ≡ Some (cause.Clash a rule e) → IsClash past events a rule e)
        → option_or o (clash_among past events) ≡ Some (cause.Clash a rule e) → IsClash past (x ∷ events) a rule e
    chosen (Some c) is rest k =
        let found = clash-is x.access past a rule e (is ∙ k) in
        record { fired = found.fired; among = found.among; access = inl (sym found.is_access); is_rule = found.is_rule; earlier = found.way.0; clash = found.way.1 }
    chosen None is rest k = let found = rest k in
        record { fired = found.fired; among = found.among; access = inr found.access; is_rule = found.is_rule; earlier = found.earlier; clash = found.clash }

-- a clash is never another cause
abbrev pub IsOwn : Cause → Type 0
IsOwn cause.Abort = Unit {0}
IsOwn (cause.OwnClash a) = Unit {0}
IsOwn (cause.Clash a rule e) = ⊥

clash-other : (access : Access) (past : List Fired) (c : Cause) → IsOwn c → clash access past ≡ Some c → ⊥
clash-other access [] c own h = cc
clash-other access (f ∷ past) c own h = chosen (first_clash access f.events) (clash-other access past c own) h
  where
    chosen : (o : Option Access) → (clash access past ≡ Some c → ⊥) → clash_or access f.rule o (clash access past) ≡ Some c → ⊥
    chosen (Some y) rest k = let same : cause.Clash access f.rule y ≡ c = cc in subst IsOwn (sym same) own
    chosen None rest k = rest k

pub clash_among-other : (past : List Fired) (events : List Event) (c : Cause) → IsOwn c → clash_among past events ≡ Some c → ⊥
clash_among-other past [] c own h = cc
clash_among-other past (x ∷ events) c own h = chosen (clash x.access past) refl (clash_among-other past events c own) h
  where
    chosen : (o : Option Cause) → clash x.access past ≡ o → (clash_among past events ≡ Some c → ⊥) → option_or o (clash_among past events) ≡ Some c → ⊥
    chosen (Some found) is rest k = clash-other x.access past c own (is ∙ k)
    chosen None is rest k = rest k
