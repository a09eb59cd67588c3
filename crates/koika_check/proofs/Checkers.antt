-- A checker with one more array type, and what its names say of the design.
use Rattle.std.proofs.Common.{◌≡◌, inl, inr, ℕ, ◌*◌, ◌<◌, Bool, true, false, nat_eq, List, [], ◌∷◌, ◌++◌, length, map, get_or, Option, Some, None, Result, Ok, Err, refl, ap, ap₂, sym, ◌∙◌, subst, arith, append-nil, length-append}
use Rattle.std.specs.List.{All, list_any}
use Rattle.kw_bits.specs.Host.{TakesWidth}
use Rattle.kw_base.specs.declared.fault_number.TheConstants.{UNKNOWN_NAME, WRONG_WIDTH}
use Rattle.koika_syntax.specs.declared.tree.Name.{Name}
use Rattle.koika_syntax.specs.declared.tree.TypeExpression.{TypeExpression}
use Rattle.kw_bits.specs.declared.host.HostSpec.{HostSpec}
use Rattle.koika_check.specs.inner.Checking.{AreTypes, AreWidths, Grows, IsChecker, IsDeclared, IsNamed, IsWidth, arrays_of, count_of, shape_of, type_by_kind, type_by_thing}
use Rattle.koika_check.specs.inner.Locals.{AreLocals}
use Rattle.koika_check.specs.Outcomes.{Fails, Gives, wrong, ◌>>=◌}
use Rattle.koika_check.specs.inner.Outcomes.{Stop, Tells}
use Rattle.koika_check.specs.inner.Shapes.{AreShapes, IsShape, array_types, type_of_shape}
use Rattle.koika_check.specs.inner.Shapes as shapes
use Rattle.koika_check.specs.inner.Things.{AreParts, AreThings, number_if, thing, thing_named}
use Rattle.koika_check.specs.Types.{array, array_type, base_width, bits, is_width, named_type, of_base, type_by, type_named, type_of, width_of}
use Rattle.koika_check.specs.declared.checked.Checked.{Checked}
use Rattle.koika_check.specs.declared.checked.Input.{Input}
use Rattle.koika_check.specs.declared.checked.Register.{Register}
use Rattle.koika_check.specs.declared.checker.Checker.{Checker}
use Rattle.koika_check.specs.declared.locals.Bound.{Bound}
use Rattle.koika_check.specs.declared.shapes.ArrayShape.{ArrayShape}
use Rattle.koika_check.specs.declared.shapes.Shape.{Shape}
use Rattle.koika_check.specs.declared.shapes.Shapes.{Shapes}
use Rattle.koika_check.specs.declared.things.Thing.{Thing}
use Rattle.koika_check.specs.declared.typed.BaseType.{BaseType}
use Rattle.koika_check.specs.declared.typed.BaseType.TheVariants as base
use Rattle.koika_check.specs.declared.typed.ValueType.{ValueType}
use Rattle.koika_check.specs.Kinds.{names_of, number_named}
use Rattle.koika_check.specs.declared.things.Kind.{Kind}
use Rattle.koika_check.specs.declared.things.Kind.TheVariants as kind
use Rattle.koika_check.proofs.ArrayTypes.{array_types-push, get-last, get-push, le_split, length_types}
use Rattle.koika_check.proofs.Declared.{count-names, each-kind}
use Rattle.koika_check.proofs.Growth.{shapes-kept}
use Rattle.koika_check.proofs.Positions.{number_of-within}
use Rattle.koika_check.proofs.Telling.{unless-err, unless-with}

-- nothing is declared
abbrev pub empty : Checked
empty = record { enums = []; structs = []; registers = []; inputs = []; tables = []; hosts = []; functions = []; rules = []; asserts = []; nodes = []; weight = 0 }

-- the type of a base
pub type_of-base : (types : List ValueType) (b : BaseType) → type_of_shape types (shape_of b) ≡ of_base b
type_of-base types (base.Bits w) = refl
type_of-base types (base.Enum n) = refl
type_of-base types (base.Struct n) = refl

pub shape-base : (arrays : ℕ) (b : BaseType) → IsShape arrays (shape_of b)
shape-base arrays (base.Bits w) = tt
shape-base arrays (base.Enum n) = tt
shape-base arrays (base.Struct n) = tt

pub width-base : (d : Checked) (b : BaseType) → width_of d (of_base b) ≡ base_width d b
width-base d b = omega arith

-- what a name has is declared
pub named-within : (k : Kind) (d : Checked) (name : List ℕ) (n : ℕ) → number_named k d name ≡ Some n → n < count_of k d
named-within k d name n e = omega (arith, (number_of-within (names_of k d) name n e).0, count-names d k)

-- a type that a name has is declared
pub named-base : (d : Checked) (name : List ℕ) (b : BaseType) → type_named d name ≡ Some b → IsNamed d (shape_of b)
named-base d name b e = by_kind (number_named kind.Enum d name) (number_named kind.Struct d name) b refl refl e
  where
    by_kind : (o s : Option ℕ) (b : BaseType) → number_named kind.Enum d name ≡ o → number_named kind.Struct d name ≡ s → type_by o s ≡ Some b → IsNamed d (shape_of b)
    by_kind o s (base.Bits w) f g e = tt
    by_kind (Some n) s (base.Enum m) f g e =
        let same : n ≡ m = enum_number n m e in
        omega (arith, same, named-within kind.Enum d name n f)
      where
        enum_number : (n m : ℕ) → ◌≡◌ {A = Option BaseType} (Some (base.Enum n)) (Some (base.Enum m)) → n ≡ m
        enum_number n m e = cc
    by_kind None (Some n) (base.Enum m) f g e = absurd cc
    by_kind None None (base.Enum m) f g e = absurd cc
    by_kind (Some n) s (base.Struct m) f g e = absurd cc
    by_kind None (Some n) (base.Struct m) f g e =
        let same : n ≡ m = struct_number n m e in
        omega (arith, same, named-within kind.Struct d name n g)
      where
        struct_number : (n m : ℕ) → ◌≡◌ {A = Option BaseType} (Some (base.Struct n)) (Some (base.Struct m)) → n ≡ m
        struct_number n m e = cc
    by_kind None None (base.Struct m) f g e = absurd cc

-- the type that a name is declared as
pub type-named : (d : Checked) (name : List ℕ) (t : Option Thing) → IsDeclared d name t → type_by_thing t ≡ type_named d name
type-named d name t h = by_thing t ∙ ap₂ type_by (h kind.Enum) (h kind.Struct)
  where
    by_thing : (t : Option Thing) → type_by_thing t ≡ type_by (number_if kind.Enum t) (number_if kind.Struct t)
    by_thing None = refl
    by_thing (Some t) = each-kind (λ k. type_by_kind k t.number ≡ type_by (number_if kind.Enum (Some (thing k t.number))) (number_if kind.Struct (Some (thing k t.number)))) refl refl refl refl refl refl refl refl t.kind

-- a name that is no type, and a type that is too wide
pub named-none : (d : Checked) (n : Name) → type_named d n.text ≡ None → named_type d n ≡ Fails (wrong UNKNOWN_NAME n.place)
named-none d n e = rw e refl

pub named-wide : (d : Checked) (n : Name) (b : BaseType) → type_named d n.text ≡ Some b → is_width (base_width d b) ≡ false → named_type d n ≡ Fails (wrong WRONG_WIDTH n.place)
named-wide d n b e w = rw (e, w) refl

-- a base whose values are too wide
pub base-wide : (d : Checked) (b : BaseType) (arrays : List ValueType) (s : Shape) (w : ℕ) (fits : Bool) → s ≡ shape_of b → w ≡ width_of d (type_of_shape arrays s) → fits ≡ is_width w → fits ≡ false → is_width (base_width d b) ≡ false
base-wide d b arrays s w fits se we fe wide =
    sym (ap is_width (we ∙ ap (λ (x : Shape). width_of d (type_of_shape arrays x)) se ∙ ap (width_of d) (type_of-base arrays b) ∙ width-base d b)) ∙ sym fe ∙ wide

pub is-width : (w : ℕ) → is_width w ≡ true → IsWidth w
is-width w e = record { some = grind arith; most = grind arith }

-- the width of so many items
pub array-width : (d : Checked) (l w : ℕ) (t : ValueType) → w ≡ width_of d t → w * l ≡ width_of d (array l t)
array-width d l w t e = ap (λ n. n * l) e ∙ omega arith

-- the widths of array types are those of the design
abbrev HaveWidths : Checked → List ArrayShape → Type 0
HaveWidths design arrays = (i : ℕ) (d : ArrayShape) → i < length arrays → (get_or arrays i d).width ≡ width_of design (get_or (array_types [] arrays) i (bits 0))

widths-push : (design : Checked) (arrays : List ArrayShape) (a : ArrayShape) → a.width ≡ width_of design (array a.length (type_of_shape (array_types [] arrays) a.element)) → HaveWidths design arrays → HaveWidths design (arrays ++ a ∷ [])
widths-push design arrays a width h i d lt =
    let types = array_types [] arrays in
    let t = array a.length (type_of_shape types a.element) in
    let grown = ap (λ (ts : List ValueType). width_of design (get_or ts i (bits 0))) (array_types-push [] arrays a) in
    elim (le_split i (length arrays) (omega (arith, lt, length-append arrays (a ∷ [])))) [
      | inl below ↦ ap (λ (x : ArrayShape). x.width) (get-push arrays a d i below) ∙ h i d below
          ∙ sym (grown ∙ ap (width_of design) (get-push types t (bits 0) i (omega (arith, below, length_types arrays))))
      | inr last ↦ ap (λ (x : ArrayShape). x.width) (get-last arrays a d i last) ∙ width
          ∙ sym (grown ∙ ap (width_of design) (get-last types t (bits 0) i (omega (arith, last, length_types arrays))))
    ]

fit-push : (arrays : List ArrayShape) (a : ArrayShape) → IsWidth a.width → ((i : ℕ) (d : ArrayShape) → i < length arrays → IsWidth (get_or arrays i d).width) →
    (i : ℕ) (d : ArrayShape) → i < length (arrays ++ a ∷ []) → IsWidth (get_or (arrays ++ a ∷ []) i d).width
fit-push arrays a fits h i d lt =
    elim (le_split i (length arrays) (omega (arith, lt, length-append arrays (a ∷ [])))) [
      | inl below ↦ subst (λ (x : ArrayShape). IsWidth x.width) (sym (get-push arrays a d i below)) (h i d below)
      | inr last ↦ subst (λ (x : ArrayShape). IsWidth x.width) (sym (get-last arrays a d i last)) fits
    ]

-- one more array type of this width
pub more-kept : (c : Checker) → IsChecker c → (s : Shapes) → AreShapes s → (a : ArrayShape) → shapes.Grows c.shapes.arrays a s.arrays → a.width ≡ width_of c.design (array a.length (type_of_shape (arrays_of c) a.element)) → IsWidth a.width →
    IsChecker (record c { shapes = s })
more-kept c h s kept a grows width fits = elim grows [
  | inl e ↦ shapes-kept c h s kept [] (e ∙ sym (append-nil c.shapes.arrays)) (subst (HaveWidths c.design) (sym e) h.arrays)
      (subst (λ (arrays : List ArrayShape). (i : ℕ) (d : ArrayShape) → i < length arrays → IsWidth (get_or arrays i d).width) (sym e) h.array_widths)
  | inr e ↦ shapes-kept c h s kept (a ∷ []) e (subst (HaveWidths c.design) (sym e) (widths-push c.design c.shapes.arrays a width h.arrays))
      (subst (λ (arrays : List ArrayShape). (i : ℕ) (d : ArrayShape) → i < length arrays → IsWidth (get_or arrays i d).width) (sym e) (fit-push c.shapes.arrays a fits h.array_widths))
]

pub more-grows : (c : Checker) (s : Shapes) (a : ArrayShape) → shapes.Grows c.shapes.arrays a s.arrays → Grows c (record c { shapes = s })
more-grows c s a grows = record {
  design = refl;
  things = refl;
  parts = refl;
  registers = refl;
  inputs = refl;
  fields = refl;
  functions = refl;
  hosts = refl;
  asserted = refl;
  arrays = elim grows [ inl e ↦ ([], e ∙ sym (append-nil c.shapes.arrays)) | inr e ↦ (a ∷ [], e) ];
}

-- nothing is declared
pub empty-checker : (c : Checker) → c.design ≡ empty → c.registers ≡ [] → c.inputs ≡ [] → c.fields ≡ [] → c.functions ≡ [] → c.asserted ≡ [] → c.shapes.arrays ≡ [] → c.locals.bound ≡ [] →
    AreThings c.things → ((name : List ℕ) → thing_named c.things name ≡ None) → AreParts c.parts → AreShapes c.shapes → AreLocals c.locals → All (λ (h : HostSpec). TakesWidth h.kind h.in_width) c.hosts → IsChecker c
empty-checker c d registers inputs fields functions asserted arrays bound things none parts shapes locals hosts = record {
  things = things;
  names = λ name. subst (λ x. IsDeclared x name (thing_named c.things name)) (sym d) (subst (IsDeclared empty name) (sym (none name)) (each-kind (λ k. None ≡ number_named k empty name) refl refl refl refl refl refl refl refl));
  parts = parts;
  members = λ n lt. absurd (omega (arith, lt, ap (λ (x : Checked). length x.enums) d));
  named_fields = λ n lt. absurd (omega (arith, lt, ap (λ (x : Checked). length x.structs) d));
  widths = subst AreWidths (sym d) (record { enums = λ n lt. absurd (omega (arith, lt)); structs = λ n lt. absurd (omega (arith, lt)); tables = λ n t lt. absurd (omega (arith, lt)); hosts = λ n t lt. absurd (omega (arith, lt)) });
  shapes = shapes;
  arrays = λ i x lt. absurd (omega (arith, lt, ap length arrays));
  array_widths = λ i x lt. absurd (omega (arith, lt, ap length arrays));
  registers = none_of c.registers _ registers (ap (λ (x : Checked). map (λ (r : Register). r.of) x.registers) d);
  inputs = none_of c.inputs _ inputs (ap (λ (x : Checked). map (λ (i : Input). i.of) x.inputs) d);
  each_fields = ap length fields ∙ sym (ap (λ (x : Checked). length x.structs) d);
  fields = λ i x lt. absurd (omega (arith, lt, ap length fields));
  each_function = ap length functions ∙ sym (ap (λ (x : Checked). length x.functions) d);
  functions = λ i s f lt. absurd (omega (arith, lt, ap length functions));
  locals = locals;
  bound = λ k x lt. absurd (omega (arith, lt, ap (λ (b : List Bound). length (map (λ (x : Bound). x.shape) b)) bound));
  hosts = hosts;
  each_rule = ap length asserted ∙ sym (ap (λ (x : Checked). length x.rules) d);
  marks = λ i. ap (λ (m : List Bool). get_or m i false) asserted ∙ sym (ap (λ (x : Checked). list_any (nat_eq i) x.asserts) d);
}
  where
    none_of : (shapes : List Shape) (types : List ValueType) → shapes ≡ [] → types ≡ [] → AreTypes c shapes types
    none_of shapes types e f = record { are = f ∙ sym (ap (map (type_of_shape (arrays_of c))) e); each = λ k x lt. absurd (omega (arith, lt, ap length e)) }

-- ---- the type of an array by that of its items

pub array-err : {Y Z : Type 0} (is : Y → ValueType → Type 0) (is' : Z → ValueType → Type 0) (d d' : Checked) (whole element : TypeExpression) (l place : ℕ) (item t : ValueType) (stop : Stop) (r : Result Z Stop) →
    type_of d whole ≡ (type_of d element >>= array_type d l place) → r ≡ Err stop → d' ≡ d → type_of d element ≡ Gives item → item ≡ t → Tells is (array_type d' l place t) (Err stop) → Tells is' (type_of d whole) r
array-err is is' d d' whole element l place item t stop r e re de ie te h =
    let at_item = subst (λ u. Tells is (array_type d l place u) (Err stop)) (sym te) (subst (λ x. Tells is (array_type x l place t) (Err stop)) de h) in
    subst (λ x. Tells is' (type_of d whole) x) (sym re)
    (subst (λ o. Tells is' o (Err stop)) (sym (e ∙ ap (λ o. o >>= array_type d l place) ie)) (unless-err is is' _ (array l item) (array l item) stop at_item))

pub array-ok : {Y Z : Type 0} (is : Y → ValueType → Type 0) (is' : Z → ValueType → Type 0) (d d' : Checked) (whole element : TypeExpression) (l place : ℕ) (item t : ValueType) (y : Y) (z : Z) →
    type_of d whole ≡ (type_of d element >>= array_type d l place) → d' ≡ d → type_of d element ≡ Gives item → item ≡ t → (is y (array l item) → is' z (array l item)) → Tells is (array_type d' l place t) (Ok y) → Tells is' (type_of d whole) (Ok z)
array-ok is is' d d' whole element l place item t y z e de ie te f h =
    let at_item = subst (λ u. Tells is (array_type d l place u) (Ok y)) (sym te) (subst (λ x. Tells is (array_type x l place t) (Ok y)) de h) in
    subst (λ o. Tells is' o (Ok z)) (sym (e ∙ ap (λ o. o >>= array_type d l place) ie)) (unless-with is is' _ (array l item) y z f at_item)
