-- What operators make of operands has the width of a value.
use Rattle.std.proofs.Common.{◌≡◌, ℕ, ◌+◌, ◌*◌, ◌≤◌, nat_le, List, [], ◌∷◌, Option, Some, None, Ok, is_some, true, refl, ap, ◌∙◌, subst, arith}
use Rattle.std.specs.Option.{IfSome}
use Rattle.koika_syntax.specs.declared.operator.BinaryOperator.{BinaryOperator}
use Rattle.koika_syntax.specs.declared.operator.BinaryOperator.TheVariants as binary
use Rattle.koika_check.specs.inner.Checking.{IsPart, IsType, IsTypeOrUnit, IsWidth, arrays_of}
use Rattle.koika_check.specs.Operators.{bits_in, calculated, concatenated, operated, width_or_none}
use Rattle.koika_check.specs.Outcomes.{Condition, Gives, earlier, unless}
use Rattle.koika_check.specs.inner.Outcomes.{Tells}
use Rattle.koika_check.specs.inner.Shapes.{Denotes, part_of, type_if}
use Rattle.koika_check.specs.Types.{TypedPart as TypedPart, all_lengths, as_bits, base_width, bits, bits_by, is_bits, width_of, wrong_type}
use Rattle.koika_check.specs.declared.agreement.Part.{Part}
use Rattle.koika_check.specs.declared.checked.Checked.{Checked}
use Rattle.koika_check.specs.declared.checker.Checker.{Checker}
use Rattle.koika_check.specs.declared.shapes.Shape.{Shape}
use Rattle.koika_check.specs.declared.typed.BaseType.{BaseType}
use Rattle.koika_check.specs.declared.typed.BaseType.TheVariants as base
use Rattle.koika_check.specs.declared.typed.ValueType.{ValueType}
use Rattle.koika_check.proofs.Leaves.{bit-width, denoted-type}
use Rattle.koika_check.proofs.Telling.{holds-true, smaller-both, tells-ok}

-- a type has the width of a value, if it isn't unit
abbrev Fits : Checked → Option ValueType → Type 0
Fits d of = IfSome of (λ t. IsWidth (width_of d t))

gives-value : {X : Type 0} (c : Condition) (x y : X) → unless c x ≡ Gives y → (c ≡ None) × (x ≡ y)
gives-value None x y e = (refl, inner e)
  where
    inner : {X : Type 0} {a b : X} → Gives a ≡ Gives b → a ≡ b
    inner e = cc
gives-value (Some w) x y e = absurd cc

first-none : (a b : Condition) → earlier a b ≡ None → a ≡ None
first-none None b e = refl
first-none (Some w) b e = absurd cc

some-bits : (d : Checked) (b : BaseType) (ls : List ℕ) → IsWidth (base_width d b * all_lengths ls) → is_some (bits_by b ls) ≡ true → 1 ≤ width_or_none (bits_by b ls)
some-bits d (base.Bits w) [] h e = omega (arith, h.some)
some-bits d (base.Bits w) (l ∷ ls) h e = absurd cc
some-bits d (base.Enum n) ls h e = absurd cc
some-bits d (base.Struct n) ls h e = absurd cc

bits-fit : (d : Checked) (of : Option ValueType) → Fits d of → is_some (as_bits of) ≡ true → 1 ≤ width_or_none (as_bits of)
bits-fit d None h e = absurd cc
bits-fit d (Some t) h e = some-bits d t.base t.lengths h e

sum-fits : (a b : ℕ) → 1 ≤ a → nat_le (a + b) 128 ≡ true → IsWidth (a + b)
sum-fits a b some e = record { some = omega (arith, some); most = grind arith }

calculated-fits : (d : Checked) (l r : TypedPart) (of : Option ValueType) → calculated l r ≡ Gives of → Fits d l.of → Fits d of
calculated-fits d l r of e h = subst (Fits d) (gives-value _ l.of of e).1 h

one-fits : (d : Checked) (c : Condition) (of : Option ValueType) → unless c (Some (bits 1)) ≡ Gives of → Fits d of
one-fits d c of e = subst (Fits d) (gives-value c (Some (bits 1)) of e).1 (bit-width d 1 (record { some = omega arith; most = omega arith }))

joined-fits : (d : Checked) (l r : TypedPart) (of : Option ValueType) → concatenated l r ≡ Gives of → Fits d l.of → Fits d of
joined-fits d l r of e h =
    let g = gives-value _ (Some (bits (bits_in l + bits_in r))) of e in
    let both = smaller-both _ _ g.0 in
    let some = bits-fit d l.of h (holds-true (is_some (as_bits l.of)) (wrong_type l) (first-none (is_bits l) _ both.0)) in
    let few = holds-true (nat_le (bits_in l + bits_in r) 128) _ (smaller-both _ None both.1).0 in
    subst (Fits d) g.1 (bit-width d (bits_in l + bits_in r) (sum-fits (bits_in l) (bits_in r) some few))

operated-fits : (d : Checked) (o : BinaryOperator) (l r : TypedPart) (of : Option ValueType) → operated o l r ≡ Gives of → Fits d l.of → Fits d of
operated-fits d binary.Or l r of e h = calculated-fits d l r of e h
operated-fits d binary.Xor l r of e h = calculated-fits d l r of e h
operated-fits d binary.And l r of e h = calculated-fits d l r of e h
operated-fits d binary.Equal l r of e h = one-fits d _ of e
operated-fits d binary.NotEqual l r of e h = one-fits d _ of e
operated-fits d binary.Less l r of e h = one-fits d _ of e
operated-fits d binary.LessOrEqual l r of e h = one-fits d _ of e
operated-fits d binary.Greater l r of e h = one-fits d _ of e
operated-fits d binary.GreaterOrEqual l r of e h = one-fits d _ of e
operated-fits d binary.Concat l r of e h = joined-fits d l r of e h
operated-fits d binary.ShiftLeft l r of e h = calculated-fits d l r of e h
operated-fits d binary.ShiftRight l r of e h = calculated-fits d l r of e h
operated-fits d binary.ShiftRightSigned l r of e h = calculated-fits d l r of e h
operated-fits d binary.Add l r of e h = calculated-fits d l r of e h
operated-fits d binary.Subtract l r of e h = calculated-fits d l r of e h
operated-fits d binary.Multiply l r of e h = calculated-fits d l r of e h

part-fits : (c : Checker) (s : Option Shape) → IsTypeOrUnit c s → Fits c.design (type_if (arrays_of c) s)
part-fits c None h = tt
part-fits c (Some s) h = h.width

-- the type of an operator between two parts
pub operated-type : (c : Checker) (o : BinaryOperator) (l r : Part) (s : Shape) → IsPart c l → Tells (Denotes (arrays_of c)) (operated o (part_of (arrays_of c) l) (part_of (arrays_of c) r)) (Ok s) →
    (operated o (part_of (arrays_of c) l) (part_of (arrays_of c) r) ≡ Gives (type_if (arrays_of c) (Some s))) × IsType c s
operated-type c o l r s h t =
    let found = tells-ok (Denotes (arrays_of c)) (operated o (part_of (arrays_of c) l) (part_of (arrays_of c) r)) s t in
    let is = found.2.0 in
    let gives = found.1 ∙ ap Gives is in
    (gives, denoted-type c s _ (refl, found.2.1) (operated-fits c.design o (part_of (arrays_of c) l) (part_of (arrays_of c) r) (type_if (arrays_of c) (Some s)) gives (part-fits c l.of h)))
