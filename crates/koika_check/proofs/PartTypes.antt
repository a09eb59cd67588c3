-- What is known of a part's type, and of the items of an array.
use Rattle.std.proofs.Common.{◌≡◌, ℕ, zero, suc, ◌+◌, ◌*◌, ◌<◌, ◌≤◌, List, [], ◌∷◌, length, map, drop, get_or, min, Option, Some, None, refl, ap, sym, ◌∙◌, subst, arith}
use Rattle.std.specs.List.{All, slice_get, sum_by}
use Rattle.std.specs.Option.{option_map}
use Rattle.std.proofs.lemmas.List.{drop-map, length-map}
use Rattle.std.proofs.lemmas.List.Sums.{sum_by-cons, sum_by-take-drop}
use Rattle.std.proofs.lemmas.Option.{slice_get-map, slice_get_read}
use Rattle.koika_types.specs.declared.declarations.EnumDecl.{EnumDecl}
use Rattle.koika_check.specs.inner.Checking.{AreTypes, IsChecker, IsNamed, IsPart, IsType, IsTypeOrUnit, IsWidth, arrays_of, of_first}
use Rattle.koika_check.specs.Composites.{fields_of, type_at}
use Rattle.koika_check.specs.Scopes.{register_type, type_of_register}
use Rattle.koika_check.specs.Selections.{as_array}
use Rattle.koika_check.specs.inner.Shapes.{IsShape, IsShapeIf, type_if, type_of_shape}
use Rattle.koika_check.specs.Types.{array, base_width, width_of}
use Rattle.koika_check.specs.declared.agreement.Part.{Part}
use Rattle.koika_check.specs.declared.checked.Checked.{Checked}
use Rattle.koika_check.specs.declared.checked.CheckedField.{CheckedField}
use Rattle.koika_check.specs.declared.checked.Register.{Register}
use Rattle.koika_check.specs.declared.checked.Struct.{Struct}
use Rattle.koika_check.specs.declared.checker.Checker.{Checker}
use Rattle.koika_check.specs.declared.shapes.ArrayShape.{ArrayShape}
use Rattle.koika_check.specs.declared.shapes.Shape.{Shape}
use Rattle.koika_check.specs.declared.shapes.Shape.TheVariants as shape
use Rattle.koika_check.specs.declared.typed.BaseType.TheVariants as base
use Rattle.koika_check.specs.declared.typed.ValueType.{ValueType}
use Rattle.koika_check.proofs.ArrayTypes.{length_types}

-- bits of a width are a type of values
pub bits-type : (c : Checker) (w : ℕ) → 1 ≤ w → w ≤ 128 → IsType c (shape.Bits w)
bits-type c w some most = record { known = tt; named = tt; width = record { some = omega (arith, some); most = omega (arith, most) } }

-- what a part that has this shape is known of
pub known-type : (c : Checker) (p : Part) (s : Shape) → p.of ≡ Some s → IsPart c p → IsType c s
known-type c p s e h = subst (IsTypeOrUnit c) e h

pub bits-width : (c : Checker) (w : ℕ) → IsType c (shape.Bits w) → IsWidth w
bits-width c w h = record { some = omega (arith, h.width.some); most = omega (arith, h.width.most) }

-- ---- the items of an array

item_least : (w l : ℕ) → 1 ≤ w * l → 1 ≤ w
item_least zero l h = absurd (omega (arith, h))
item_least (suc w) l h = omega arith

item_most : (w l : ℕ) → 1 ≤ w * l → w * l ≤ 128 → w ≤ 128
item_most w l some most = grind arith

-- an array's type by that of its items
pub array-at : (c : Checker) → IsChecker c → (n : ℕ) (a : ArrayShape) → n < length c.shapes.arrays → a ≡ get_or c.shapes.arrays n a → type_of_shape (arrays_of c) (shape.Array n) ≡ array a.length (type_of_shape (arrays_of c) a.element)
array-at c h n a lt is =
    (h.shapes.each n a lt).is ∙ sym (ap (λ (b : ArrayShape). array b.length (type_of_shape (arrays_of c) b.element)) is)

past : (xs : List ℕ) (i n : ℕ) → 1 ≤ get_or xs i 0 * n → i < length xs
past [] i n h = absurd (omega (arith, h))
past (x ∷ xs) zero n h = omega arith
past (x ∷ xs) (suc i) n h = omega (arith, past xs i n h)

-- what has values is declared
pub named_item : (d : Checked) (arrays : List ValueType) (s : Shape) → 1 ≤ width_of d (type_of_shape arrays s) → IsNamed d s
named_item d arrays (shape.Bits w) h = tt
named_item d arrays (shape.Enum n) h = omega (arith, past (map (λ (e : EnumDecl). e.width) d.enums) n 1 h, length-map d.enums (λ (e : EnumDecl). e.width))
named_item d arrays (shape.Struct n) h = omega (arith, past (map (λ (s : Struct). s.width) d.structs) n 1 h, length-map d.structs (λ (s : Struct). s.width))
named_item d arrays (shape.Array n) h = tt

-- the items of an array are values
pub item-type : (c : Checker) → IsChecker c → (n : ℕ) (a : ArrayShape) → IsType c (shape.Array n) → a ≡ get_or c.shapes.arrays n a → IsType c a.element
item-type c h n a t is =
    let lt : n < length c.shapes.arrays = omega (arith, t.known, length_types c.shapes.arrays) in
    let whole = subst (λ (u : ValueType). IsWidth (width_of c.design u)) (array-at c h n a lt is) t.width in
    let w = width_of c.design (type_of_shape (arrays_of c) a.element) in
    let product : width_of c.design (array a.length (type_of_shape (arrays_of c) a.element)) ≡ w * a.length = omega arith in
    let some : 1 ≤ w * a.length = omega (arith, whole.some, product) in
    let most : w * a.length ≤ 128 = omega (arith, whole.most, product) in
    record {
      known = subst (λ (b : ArrayShape). IsShape (length (arrays_of c)) b.element) (sym is) (h.shapes.each n a lt).known;
      named = named_item c.design (arrays_of c) a.element (item_least w a.length some);
      width = record { some = item_least w a.length some; most = item_most w a.length some most };
    }

pub array-within : (c : Checker) (p : Part) (n : ℕ) → p.of ≡ Some (shape.Array n) → IsPart c p → n < length c.shapes.arrays
array-within c p n e h = omega (arith, (known-type c p (shape.Array n) e h).known, length_types c.shapes.arrays)

-- what a part that is an array is made of
pub part-items : (c : Checker) → IsChecker c → (p : Part) (n : ℕ) (a : ArrayShape) → p.of ≡ Some (shape.Array n) → IsPart c p → a ≡ get_or c.shapes.arrays n a →
    as_array (type_if (arrays_of c) p.of) ≡ Some (record { length = a.length; of = type_of_shape (arrays_of c) a.element })
part-items c h p n a e part is =
    ap (λ (o : Option Shape). as_array (type_if (arrays_of c) o)) e ∙ ap (λ (t : ValueType). as_array (Some t)) (array-at c h n a (array-within c p n e part) is)

pub part-item : (c : Checker) → IsChecker c → (p : Part) (n : ℕ) (a : ArrayShape) → p.of ≡ Some (shape.Array n) → IsPart c p → a ≡ get_or c.shapes.arrays n a → IsType c a.element
part-item c h p n a e part is = item-type c h n a (known-type c p (shape.Array n) e part) is

-- the shape of a part is known
pub part-shape : (c : Checker) (s : Option Shape) → IsTypeOrUnit c s → IsShapeIf (arrays_of c) s
part-shape c None h = tt
part-shape c (Some s) h = h.known

-- ---- the fields of a struct

map_sum : {X Y : Type 0} (g : X → Y) (w : Y → ℕ) (xs : List X) → sum_by (λ x. w (g x)) xs ≡ sum_by w (map g xs)
map_sum g w [] = refl
map_sum g w (x ∷ xs) = sum_by-cons (λ y. w (g y)) x xs ∙ ap (λ n. w (g x) + n) (map_sum g w xs) ∙ sym (sum_by-cons w (g x) (map g xs))

-- the widths of shapes are those of the fields that they stand for
pub field-widths : (c : Checker) (shapes : List Shape) (fields : List CheckedField) (k : ℕ) → AreTypes c shapes (map (λ (f : CheckedField). f.of) fields) →
    sum_by (λ (s : Shape). width_of c.design (type_of_shape (arrays_of c) s)) (drop k shapes) ≡ sum_by (λ (f : CheckedField). width_of c.design f.of) (drop k fields)
field-widths c shapes fields k h =
    map_sum (type_of_shape (arrays_of c)) (width_of c.design) (drop k shapes)
    ∙ ap (sum_by (width_of c.design)) (sym (drop-map (type_of_shape (arrays_of c)) k shapes) ∙ sym (ap (drop k) h.are) ∙ drop-map (λ (f : CheckedField). f.of) k fields)
    ∙ sym (map_sum (λ (f : CheckedField). f.of) (width_of c.design) (drop k fields))

-- they have few bits together, where the struct is a type of values
pub fields-few : (c : Checker) → IsChecker c → (n k : ℕ) (shapes : List Shape) → IsType c (shape.Struct n) → AreTypes c shapes (map (λ (f : CheckedField). f.of) (fields_of c.design n)) →
    sum_by (λ (s : Shape). width_of c.design (type_of_shape (arrays_of c) s)) (drop k shapes) ≤ 128
fields-few c h n k shapes t are =
    let all = sum_by (λ (f : CheckedField). width_of c.design f.of) (fields_of c.design n) in
    let least : all ≤ 128 = few all (base_width c.design (base.Struct n)) (h.widths.structs n t.named) (omega (arith, t.width.most)) in
    omega (arith, least, field-widths c shapes (fields_of c.design n) k are, sum_by-take-drop (λ (f : CheckedField). width_of c.design f.of) (fields_of c.design n) k)
  where
    few : (all w : ℕ) → w ≡ min all 129 → w ≤ 128 → all ≤ 128
    few all w e most = grind arith

-- the types of a struct's fields
pub fields-at : (c : Checker) → IsChecker c → (n : ℕ) (shapes : List Shape) → n < length c.design.structs → shapes ≡ get_or c.fields n shapes → AreTypes c shapes (map (λ (f : CheckedField). f.of) (fields_of c.design n))
fields-at c h n shapes lt is =
    subst (λ (s : List Shape). AreTypes c s (map (λ (f : CheckedField). f.of) (fields_of c.design n))) (sym is) (h.fields n shapes (omega (arith, lt, h.each_fields)))

pub fields-long : (c : Checker) (shapes : List Shape) (fields : List CheckedField) → AreTypes c shapes (map (λ (f : CheckedField). f.of) fields) → length shapes ≡ length fields
fields-long c shapes fields h =
    sym (length-map shapes (type_of_shape (arrays_of c))) ∙ ap length (sym h.are) ∙ length-map fields (λ (f : CheckedField). f.of)

-- the field of this number, and its type
pub field-is : (c : Checker) (shapes : List Shape) (fields : List CheckedField) (n : ℕ) (s : Shape) → AreTypes c shapes (map (λ (f : CheckedField). f.of) fields) → n < length fields → s ≡ get_or shapes n s →
    type_at fields (Some n) ≡ Some (type_of_shape (arrays_of c) s)
field-is c shapes fields n s h lt is =
    at-field fields n ∙ sym (slice_get-map (λ (f : CheckedField). f.of) fields n) ∙ ap (λ (ts : List ValueType). slice_get ts n) h.are
    ∙ slice_get-map (type_of_shape (arrays_of c)) shapes n ∙ ap (option_map (type_of_shape (arrays_of c))) (slice_get_read shapes (length shapes) n s refl (omega (arith, lt, fields-long c shapes fields h)) is)
  where
    by-field : (o : Option CheckedField) (fields : List CheckedField) (n : ℕ) → slice_get fields n ≡ o → type_at fields (Some n) ≡ option_map (λ (f : CheckedField). f.of) o
    by-field None fields n e = rw e refl
    by-field (Some f) fields n e = rw e refl

    at-field : (fields : List CheckedField) (n : ℕ) → type_at fields (Some n) ≡ option_map (λ (f : CheckedField). f.of) (slice_get fields n)
    at-field fields n = by-field (slice_get fields n) fields n refl

-- ---- the first of parts

pub first-type : (c : Checker) (ps : List Part) (s : Shape) → of_first ps ≡ Some s → All (IsPart c) ps → IsType c s × (1 ≤ length ps)
first-type c [] s e h = absurd cc
first-type c (p ∷ ps) s e h = (known-type c p s e (h 0 p (omega arith)), omega arith)

-- ---- what is declared with a type

pub declared-type : {X : Type 0} (of : X → ValueType) (c : Checker) (shapes : List Shape) (xs : List X) (n : ℕ) (s : Shape) → AreTypes c shapes (map of xs) → n < length xs → s ≡ get_or shapes n s →
    (option_map of (slice_get xs n) ≡ Some (type_of_shape (arrays_of c) s)) × IsType c s
declared-type of c shapes xs n s h lt is =
    let long : n < length shapes = omega (arith, lt, sym (length-map shapes (type_of_shape (arrays_of c))) ∙ ap length (sym h.are) ∙ length-map xs of) in (
      sym (slice_get-map of xs n) ∙ ap (λ (ts : List ValueType). slice_get ts n) h.are ∙ slice_get-map (type_of_shape (arrays_of c)) shapes n
          ∙ ap (option_map (type_of_shape (arrays_of c))) (slice_get_read shapes (length shapes) n s refl long is),
      subst (IsType c) (sym is) (h.each n s long),
    )

by_register : (o : Option Register) → type_of_register o ≡ option_map (λ (r : Register). r.of) o
by_register None = refl
by_register (Some r) = refl

-- a register's type
pub register-type : (c : Checker) → IsChecker c → (n : ℕ) (s : Shape) → n < length c.design.registers → s ≡ get_or c.registers n s → (register_type c.design n ≡ Some (type_of_shape (arrays_of c) s)) × IsType c s
register-type c h n s lt is =
    let t = declared-type (λ (r : Register). r.of) c c.registers c.design.registers n s h.registers lt is in
    (by_register (slice_get c.design.registers n) ∙ t.0, t.1)
