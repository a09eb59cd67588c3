-- A checker with more declared: what it knows of types stays.
use Rattle.std.proofs.Common.{◌≡◌, ℕ, zero, suc, ◌*◌, ◌≤◌, List, [], ◌∷◌, ◌++◌, length, map, Option, Some, None, refl, ap, sym, ◌∙◌, subst, arith, append-nil, length-append}
use Rattle.std.specs.Prelude.{slice_index}
use Rattle.std.proofs.lemmas.List.{map-append}
use Rattle.std.proofs.lemmas.List.Elements.{All-weaker}
use Rattle.koika_types.specs.declared.declarations.EnumDecl.{EnumDecl}
use Rattle.koika_check.specs.inner.Checking.{AreTypes, IsNamed, IsSignature, IsType, IsTypeOrUnit, IsWidth, arrays_of}
use Rattle.koika_check.specs.inner.Shapes.{IsShape, array_types, type_if, type_of_shape}
use Rattle.koika_check.specs.Types.{all_lengths, base_width, width_of}
use Rattle.koika_check.specs.declared.checked.Checked.{Checked}
use Rattle.koika_check.specs.declared.checked.CheckedFunction.{CheckedFunction}
use Rattle.koika_check.specs.declared.checked.Struct.{Struct}
use Rattle.koika_check.specs.declared.checker.Checker.{Checker}
use Rattle.koika_check.specs.declared.checker.Signature.{Signature}
use Rattle.koika_check.specs.declared.shapes.Shape.{Shape}
use Rattle.koika_check.specs.declared.shapes.Shape.TheVariants as shape
use Rattle.koika_check.specs.declared.typed.BaseType.{BaseType}
use Rattle.koika_check.specs.declared.typed.BaseType.TheVariants as base
use Rattle.koika_check.specs.declared.typed.ValueType.{ValueType}

-- enums and structs were declared, and nothing else that types speak of
pub record More (old new : Checked) : Type 0 where
  pub enums : (more : List EnumDecl) × (new.enums ≡ old.enums ++ more)
  pub structs : (more : List Struct) × (new.structs ≡ old.structs ++ more)

pub more-same : (d : Checked) → More d d
more-same d = record { enums = ([], sym (append-nil d.enums)); structs = ([], sym (append-nil d.structs)) }

-- a width that is there stays
index-more : {X : Type 0} (f : X → ℕ) (xs more : List X) (n : ℕ) → 1 ≤ slice_index (map f xs) n → slice_index (map f (xs ++ more)) n ≡ slice_index (map f xs) n
index-more f xs more n le = ap (λ (l : List ℕ). slice_index l n) (map-append f xs more) ∙ front (map f xs) (map f more) n le
  where
    front : (xs more : List ℕ) (n : ℕ) → 1 ≤ slice_index xs n → slice_index (xs ++ more) n ≡ slice_index xs n
    front [] more n le = absurd (omega (arith, le))
    front (x ∷ xs) more zero le = refl
    front (x ∷ xs) more (suc n) le = front xs more n le

pub base-more : (a b : Checked) → More a b → (t : BaseType) → 1 ≤ base_width a t → base_width b t ≡ base_width a t
base-more a b m (base.Bits w) le = refl
base-more a b m (base.Enum n) le = ap (λ (es : List EnumDecl). slice_index (map (λ (e : EnumDecl). e.width) es) n) m.enums.1 ∙ index-more (λ (e : EnumDecl). e.width) a.enums m.enums.0 n le
base-more a b m (base.Struct n) le = ap (λ (ss : List Struct). slice_index (map (λ (s : Struct). s.width) ss) n) m.structs.1 ∙ index-more (λ (s : Struct). s.width) a.structs m.structs.0 n le

some_base : (w l : ℕ) → 1 ≤ w * l → 1 ≤ w
some_base zero l h = absurd (omega (arith, h))
some_base (suc w) l h = omega arith

pub width-more : (a b : Checked) → More a b → (t : ValueType) → 1 ≤ width_of a t → width_of b t ≡ width_of a t
width-more a b m t le = ap (λ w. w * all_lengths t.lengths) (base-more a b m t.base (some_base (base_width a t.base) (all_lengths t.lengths) le))

named-more : (a b : Checked) → More a b → (s : Shape) → IsNamed a s → IsNamed b s
named-more a b m (shape.Bits w) h = tt
named-more a b m (shape.Enum n) h = omega (arith, h, ap length m.enums.1, length-append a.enums m.enums.0)
named-more a b m (shape.Struct n) h = omega (arith, h, ap length m.structs.1, length-append a.structs m.structs.0)
named-more a b m (shape.Array n) h = tt

-- more is declared, and the array types are the same
pub record Extends (a b : Checker) : Type 0 where
  pub design : More a.design b.design
  pub shapes : b.shapes ≡ a.shapes

same-arrays : (a b : Checker) → Extends a b → arrays_of b ≡ arrays_of a
same-arrays a b e = ap (λ s. array_types [] s.arrays) e.shapes

pub type-extends : (a b : Checker) → Extends a b → (s : Shape) → IsType a s → IsType b s
type-extends a b e s h = record {
  known = subst (λ (ts : List ValueType). IsShape (length ts) s) (sym (same-arrays a b e)) h.known;
  named = named-more a.design b.design e.design s h.named;
  width = subst IsWidth (sym (ap (λ (ts : List ValueType). width_of b.design (type_of_shape ts s)) (same-arrays a b e) ∙ width-more a.design b.design e.design (type_of_shape (arrays_of a) s) h.width.some)) h.width;
}

pub types-extend : (a b : Checker) → Extends a b → (shapes : List Shape) (of : List ValueType) → AreTypes a shapes of → AreTypes b shapes of
types-extend a b e shapes of h = record {
  are = h.are ∙ ap (λ (ts : List ValueType). map (type_of_shape ts) shapes) (sym (same-arrays a b e));
  each = All-weaker (IsType a) (IsType b) (type-extends a b e) shapes h.each;
}

unit-extends : (a b : Checker) → Extends a b → (s : Option Shape) → IsTypeOrUnit a s → IsTypeOrUnit b s
unit-extends a b e None h = tt
unit-extends a b e (Some s) h = type-extends a b e s h

pub signature-extends : (a b : Checker) → Extends a b → (s : Signature) (f : CheckedFunction) → IsSignature a s f → IsSignature b s f
signature-extends a b e s f h = record {
  parameters = types-extend a b e s.parameters f.parameters h.parameters;
  result = record {
    is = h.result.is ∙ ap (λ (ts : List ValueType). type_if ts s.result) (sym (same-arrays a b e));
    known = unit-extends a b e s.result h.result.known;
  };
}
