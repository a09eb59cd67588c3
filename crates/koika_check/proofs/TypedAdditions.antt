-- A design so far stays one as one more is declared.
use Rattle.std.proofs.Common.{◌≡◌, ℕ, zero, suc, ◌<◌, ◌≤◌, ◌⊎◌, inl, inr, ◌-◌, get_or, min, List, [], ◌∷◌, ◌++◌, length, reverse, slice_get, Option, Some, None, IfSome, arith, refl, ap, sym, subst, ◌∙◌}
use Rattle.std.specs.List.{All}
use Rattle.std.proofs.lemmas.List.{get_or-reverse, length-reverse}
use Rattle.std.proofs.lemmas.List.Elements.{All-nil}
use Rattle.std.proofs.lemmas.Option.{same_Some}
use Rattle.koika_check.specs.Typing.{HasType, IsFunction, IsInput, IsRegister, IsStruct, IsType}
use Rattle.koika_check.specs.declared.checked.Checked.{Checked}
use Rattle.koika_check.specs.declared.checked.CheckedFunction.{CheckedFunction}
use Rattle.koika_check.specs.declared.checked.Input.{Input}
use Rattle.koika_check.specs.declared.checked.Register.{Register}
use Rattle.koika_check.specs.declared.checked.CheckedRule.{CheckedRule}
use Rattle.koika_check.specs.declared.checked.Struct.{Struct}
use Rattle.koika_check.specs.declared.typed.ValueType.{ValueType}
use Rattle.koika_check.proofs.TypedGrowth.{Extends, sum-stays, type-stays, typed-stays, types-stay, value-stays, width-stays}
use Rattle.koika_check.proofs.TypedSoFar.{IsTypedSoFar, declares-so-far}

-- what is found in a list with one more element
pub found-in-push : {X : Type 0} (xs : List X) (y : X) (n : ℕ) (x : X) → slice_get (xs ++ y ∷ []) n ≡ Some x → (slice_get xs n ≡ Some x) ⊎ ((n ≡ length xs) × (y ≡ x))
found-in-push [] y zero x e = inr (refl, same_Some y x e)
found-in-push [] y (suc n) x e = absurd cc
found-in-push (z ∷ xs) y zero x e = inl e
found-in-push (z ∷ xs) y (suc n) x e = further (found-in-push xs y n x e)
  where
    further : (slice_get xs n ≡ Some x) ⊎ ((n ≡ length xs) × (y ≡ x)) → (slice_get (z ∷ xs) (suc n) ≡ Some x) ⊎ ((suc n ≡ length (z ∷ xs)) × (y ≡ x))
    further (inl old) = inl old
    further (inr new) = inr (ap suc new.0, new.1)

-- a list of which each element is so for its place, and one more
pub each-at-push : {X : Type 0} (P : ℕ → X → Type 0) (xs : List X) (y : X) → ((n : ℕ) (x : X) → slice_get xs n ≡ Some x → P n x) → P (length xs) y → (n : ℕ) (x : X) → slice_get (xs ++ y ∷ []) n ≡ Some x → P n x
each-at-push {X} P xs y old new n x e = by_place (found-in-push xs y n x e)
  where
    by_place : (slice_get xs n ≡ Some x) ⊎ ((n ≡ length xs) × (y ≡ x)) → P n x
    by_place (inl e) = old n x e
    by_place (inr e) = subst (λ k. P k x) (sym e.0) (subst (P (length xs)) e.1 new)

-- what holds of all holds of all in reverse
pub all-reverse : {X : Type 0} (P : X → Type 0) (xs : List X) → All P xs → All P (reverse xs)
all-reverse P xs h k d lt =
    let within : k < length xs = omega (arith, lt, length-reverse xs) in
    subst P (sym (get_or-reverse xs k d within)) (h (length xs - 1 - k) d (omega (arith, within)))

-- ---- what is declared, in a design with more

module _ (d e : Checked) (g : Extends d e) (h : IsTypedSoFar d) where
  -- a struct, a register, an input, a function and a rule that were declared
  pub struct-stays : (number : ℕ) (s : Struct) → IsStruct d number s → IsStruct e number s
  struct-stays number s is = record {
    fields = λ k f lt. (type-stays d e g (get_or s.fields k f).of (is.fields k f lt).0, (is.fields k f lt).1);
    width = is.width ∙ ap (λ w. min w 129) (sym (sum-stays d e g s.fields (λ k f lt. (is.fields k f lt).0)));
  }

  pub register-stays : (r : Register) → IsRegister d r → IsRegister e r
  register-stays r is = record { of = type-stays d e g r.of is.of; width = is.width ∙ sym (width-stays d e g r.of is.of); first = value-stays d e g (declares-so-far d h) r.first r.of is.of is.first }

  pub input-stays : (i : Input) → IsInput d i → IsInput e i
  input-stays i is = record { of = type-stays d e g i.of is.of; width = is.width ∙ sym (width-stays d e g i.of is.of) }

  result_stays : (of : Option ValueType) → IfSome of (IsType d) → IfSome of (IsType e)
  result_stays None is = tt
  result_stays (Some t) is = type-stays d e g t is

  pub function-stays : (number : ℕ) (f : CheckedFunction) → IsFunction d number f → IsFunction e number f
  function-stays number f is = record {
    parameters = types-stay d e g f.parameters is.parameters;
    result = result_stays f.result is.result;
    body = (typed-stays d e g (declares-so-far d h) number number (omega arith) f.body (reverse f.parameters) f.result (all-reverse (IsType d) f.parameters is.parameters) is.body).1;
  }

  pub rule-stays : (n m : ℕ) → n ≤ m → (r : CheckedRule) → HasType d n r.body [] None → HasType e m r.body [] None
  rule-stays n m le r is = (typed-stays d e g (declares-so-far d h) n m le r.body [] None (All-nil (IsType d)) is).1
