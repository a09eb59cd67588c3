-- What a construct comes to behind its parts, where its conditions hold and where they don't.
use Rattle.std.proofs.Common.{◌≡◌, ℕ, [], ◌∷◌, Option, Some, None, is_some, Result, Ok, Err, refl, ap, sym, subst, arith}
use Rattle.std.specs.List.{slice_get}
use Rattle.std.specs.Option.{option_map}
use Rattle.koika_syntax.specs.declared.tree.Name.{Name}
use Rattle.kw_base.specs.declared.fault_number.TheConstants.{UNKNOWN_NAME}
use Rattle.koika_check.specs.inner.Checking.{IsType, IsTypeOrUnit, IsWidth, TypedAs, arrays_of}
use Rattle.koika_check.specs.Constructs.{typing}
use Rattle.koika_check.specs.Constructs as constructs
use Rattle.koika_check.specs.Outcomes.{Fails, Gives, CheckResult, found, holds, where_all, wrong}
use Rattle.koika_check.specs.inner.Outcomes.{Ends, Stop, Tells}
use Rattle.koika_check.specs.Scopes.{Scope, local_named}
use Rattle.koika_check.specs.inner.Shapes.{Denotes, type_if}
use Rattle.koika_check.specs.Types.{TypedPart as TypedPart, as_bits, bits, is_bits, width_of, wrong_type}
use Rattle.koika_check.specs.declared.checked.Checked.{Checked}
use Rattle.koika_check.specs.declared.checked.Input.{Input}
use Rattle.koika_check.specs.declared.checker.Checker.{Checker}
use Rattle.koika_check.specs.declared.checker.Typing.{Typing}
use Rattle.koika_check.specs.declared.shapes.Shape.{Shape}
use Rattle.kw_bits.specs.declared.failure.Failure.TheVariants as failures
use Rattle.koika_check.specs.declared.typed.Typed.{Typed}
use Rattle.koika_check.specs.declared.typed.Typed.TheVariants as made
use Rattle.koika_check.specs.declared.typed.ValueType.{ValueType}
use Rattle.koika_check.specs.Kinds.{number_named}
use Rattle.koika_check.specs.declared.things.Kind.TheVariants as kind
use Rattle.koika_check.proofs.PartTypes.{named_item}

-- a value that is made, or no memory
tells-made : {X Y : Type 0} (is : Y → X → Type 0) (t : Y) (x : X) (r : Result Y Stop) → is t x → Tells (λ y z. y ≡ z) (Gives t) r → Tells is (Gives x) r
tells-made is t x (Ok y) h e = subst (λ z. is z x) (sym e) h
tells-made is t x (Err failures.NoMemory) h e = tt
tells-made is t x (Err (failures.Why w)) h e = absurd e

-- where the conditions hold
pub leaf-gives : (c : Checker) (o : CheckResult constructs.Typing) (of : Option Shape) (of' : Option ValueType) (place : ℕ) (t : Typed) (r : Result Typing Stop) → o ≡ Gives (typing of' place t) → of' ≡ type_if (arrays_of c) of → IsTypeOrUnit c of →
    Tells (λ y x. y ≡ x) (Gives (record { part = record { of = of; place = place }; typed = t })) r → Tells (TypedAs c) o r
leaf-gives c o of of' place t r gives e h made =
    subst (λ p. Tells (TypedAs c) p r) (sym gives)
    (tells-made (TypedAs c) (record { part = record { of = of; place = place }; typed = t }) (typing of' place t) r (ap (λ u. typing u place t) e, h) made)

pub leaf-ok : (c : Checker) (o : CheckResult constructs.Typing) (of : Option Shape) (of' : Option ValueType) (place : ℕ) (t : Typed) (y : Typing) → o ≡ Gives (typing of' place t) → of' ≡ type_if (arrays_of c) of → IsTypeOrUnit c of →
    y ≡ record { part = record { of = of; place = place }; typed = t } → Tells (TypedAs c) o (Ok y)
leaf-ok c o of of' place t y gives e h is =
    subst (λ p. Tells (TypedAs c) p (Ok y)) (sym gives) (subst (λ z. TypedAs c z (typing of' place t)) (sym is) (ap (λ u. typing u place t) e, h))

-- ---- bits

pub bits-known : {X : Type 0} (p : TypedPart) (w : ℕ) (y : X) → as_bits p.of ≡ Some w → where_all (is_bits p ∷ []) y ≡ Gives y
bits-known p w y e = ap (λ o. where_all (holds (is_some o) (wrong_type p) ∷ []) y) e

pub bits-stop : {X Y : Type 0} (is : Y → X → Type 0) (p : TypedPart) (y : X) (e : Stop) → Tells (λ (w of : ℕ). w ≡ of) (found (as_bits p.of) (wrong_type p)) (Err e) → Tells is (where_all (is_bits p ∷ []) y) (Err e)
bits-stop {X = X} {Y = Y} is p y e h = by_bits (as_bits p.of) e h
  where
    by_bits : (o : Option ℕ) (e : Stop) → Tells (λ (w of : ℕ). w ≡ of) (found o (wrong_type p)) (Err e) → Tells is (where_all (holds (is_some o) (wrong_type p) ∷ []) y) (Err e)
    by_bits o failures.NoMemory h = tt
    by_bits None (failures.Why w) h = h
    by_bits (Some n) (failures.Why w) h = absurd h

-- a shape that stands for bits of values
pub denoted-type : (c : Checker) (s : Shape) (t : ValueType) → Denotes (arrays_of c) s (Some t) → IsWidth (width_of c.design t) → IsType c s
denoted-type c s t d fits =
    let e = inner d.0 in
    let fit = subst (λ u. IsWidth (width_of c.design u)) e fits in
    record { known = d.1; named = named_item c.design (arrays_of c) s fit.some; width = fit }
  where
    inner : {a b : ValueType} → Some a ≡ Some b → a ≡ b
    inner e = cc

pub bit-width : (d : Checked) (w : ℕ) → IsWidth w → IsWidth (width_of d (bits w))
bit-width d w h = record { some = omega (arith, h.some); most = omega (arith, h.most) }

-- ---- names

pub named-input : (s : Scope) (n : Name) (number : ℕ) (t : ValueType) → local_named s.locals n.text ≡ None → number_named kind.Input s.design n.text ≡ Some number → option_map (λ (i : Input). i.of) (slice_get s.design.inputs number) ≡ Some t →
    constructs.named s n ≡ Gives (typing (Some t) n.place (made.Input number))
named-input s n number t l i e = by_input (slice_get s.design.inputs number) refl e
  where
    by_input : (o : Option Input) → slice_get s.design.inputs number ≡ o → option_map (λ (i : Input). i.of) o ≡ Some t → constructs.named s n ≡ Gives (typing (Some t) n.place (made.Input number))
    by_input None g e = absurd cc
    by_input (Some one) g e = rw (l, i, g) (ap (λ o. Gives (typing o n.place (made.Input number))) e)

pub named-unknown : (s : Scope) (n : Name) → local_named s.locals n.text ≡ None → number_named kind.Input s.design n.text ≡ None → constructs.named s n ≡ Fails (wrong UNKNOWN_NAME n.place)
named-unknown s n l i = rw (l, i) refl

-- why checking ends, as a call tells it
pub tells-ends : {X Y : Type 0} (is : Y → X → Type 0) (o : CheckResult X) (e : Stop) → Ends o e → Tells is o (Err e)
tells-ends is o failures.NoMemory h = tt
tells-ends is o (failures.Why w) h = subst (λ p. Tells is p (Err (failures.Why w))) (sym h) refl
