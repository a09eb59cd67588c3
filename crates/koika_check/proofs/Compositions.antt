-- Structs of given fields, and arrays of items.
use Rattle.std.proofs.Common.{◌≡◌, ℕ, suc, ◌+◌, ◌*◌, ◌<◌, ◌≤◌, Bool, true, false, cond, nat_le, get_or, min, List, [], ◌∷◌, ◌++◌, length, drop, Some, None, refl, ap, ap₂, sym, ◌∙◌, subst, arith}
use Rattle.std.specs.List.{All}
use Rattle.std.specs.Str.{bytes_eq}
use Rattle.std.proofs.lemmas.List.{drop-drop}
use Rattle.std.proofs.lemmas.List.Elements.{All-cons, All-nil}
use Rattle.std.proofs.lemmas.Option.{slice_get_read}
use Rattle.kw_base.specs.declared.fault_number.TheConstants.{WRONG_FIELD, WRONG_WIDTH}
use Rattle.koika_check.specs.inner.Checking.{AreGiven, Grows, IsChecker, IsGiven, IsPartIn, IsWidth, Yields, arrays_of, scope_of}
use Rattle.koika_check.specs.Composites.{agrees_if, fields_by, fields_of, fits_field, names_are}
use Rattle.koika_check.specs.Composites as composites
use Rattle.koika_check.specs.Outcomes.{Condition, Gives, CheckResult, earlier, holds, wrong}
use Rattle.koika_check.specs.inner.Shapes.{AreShapes, Denotes, IsShapeIf, array_types, part_of, type_if, type_of_shape}
use Rattle.koika_check.specs.inner.Shapes as shapes
use Rattle.koika_check.specs.Types.{TypedPart as TypedPart, array, each, is_width, part, width_of}
use Rattle.koika_check.specs.declared.checked.Checked.{Checked}
use Rattle.koika_check.specs.declared.checked.CheckedField.{CheckedField}
use Rattle.koika_check.specs.declared.checked.Struct.{Struct}
use Rattle.koika_check.specs.declared.checker.Checker.{Checker}
use Rattle.koika_check.specs.declared.composites.Given.{Given}
use Rattle.koika_check.specs.declared.shapes.ArrayShape.{ArrayShape}
use Rattle.koika_check.specs.declared.shapes.Shape.{Shape}
use Rattle.koika_check.specs.declared.shapes.Shapes.{Shapes}
use Rattle.koika_check.specs.declared.typed.ValueType.{ValueType}
use Rattle.koika_check.proofs.Checkers.{array-width, more-grows, more-kept}
use Rattle.koika_check.proofs.Growth.{part-grows, same-part, same-scope, same-type-if, type-if-grows}
use Rattle.koika_check.proofs.PartTypes.{named_item, part-shape}

-- ---- structs

le_none : (n : ℕ) → nat_le (suc n) 0 ≡ false
le_none n = grind arith

le_more : (m n : ℕ) → nat_le (suc m) (suc n) ≡ nat_le m n
le_more m n = grind arith

-- the names of given fields are the declared ones
pub names-are : (c : Checker) (fields next : List CheckedField) (given : List Given) (xs : List composites.Given) (close : ℕ) → AreGiven c fields next given xs →
    names_are next xs close ≡ earlier (each (λ (g : Given). holds g.is_in_order (wrong WRONG_FIELD g.place)) given) (holds (nat_le (length next) (length given)) (wrong WRONG_FIELD close))
names-are c fields [] [] [] close h = refl
names-are c fields [] [] (x ∷ xs) close h = absurd h
names-are c fields [] (g ∷ given) [] close h = absurd h
names-are c fields [] (g ∷ given) (x ∷ xs) close h =
    let wrong_here : holds g.is_in_order (wrong WRONG_FIELD g.place) ≡ Some (wrong WRONG_FIELD x.name.place) = ap (λ b. holds b (wrong WRONG_FIELD g.place)) h.0.in_order ∙ ap (λ p. Some (wrong WRONG_FIELD p)) (sym h.0.place) in
    sym (ap (λ (o : Condition). earlier (earlier o (each (λ (g : Given). holds g.is_in_order (wrong WRONG_FIELD g.place)) given)) (holds (nat_le 0 (length (g ∷ given))) (wrong WRONG_FIELD close))) wrong_here)
names-are c fields (f ∷ next) [] [] close h = ap (λ b. earlier None (holds b (wrong WRONG_FIELD close))) (sym (le_none (length next)))
names-are c fields (f ∷ next) [] (x ∷ xs) close h = absurd h
names-are c fields (f ∷ next) (g ∷ given) [] close h = absurd h
names-are c fields (f ∷ next) (g ∷ given) (x ∷ xs) close h =
    by_name (bytes_eq f.name x.name.text) refl (names-are c fields next given xs close h.1)
  where
    by_name : (b : Bool) → bytes_eq f.name x.name.text ≡ b →
        names_are next xs close ≡ earlier (each (λ (g : Given). holds g.is_in_order (wrong WRONG_FIELD g.place)) given) (holds (nat_le (length next) (length given)) (wrong WRONG_FIELD close)) →
        names_are (f ∷ next) (x ∷ xs) close ≡ earlier (each (λ (g : Given). holds g.is_in_order (wrong WRONG_FIELD g.place)) (g ∷ given)) (holds (nat_le (length (f ∷ next)) (length (g ∷ given))) (wrong WRONG_FIELD close))
    by_name true e rest =
        let here : holds g.is_in_order (wrong WRONG_FIELD g.place) ≡ None = ap (λ b. holds b (wrong WRONG_FIELD g.place)) (h.0.in_order ∙ e) in
        ap (λ b. cond b (names_are next xs close) (Some (wrong WRONG_FIELD x.name.place))) e ∙ rest ∙ ap (λ b. earlier (each (λ (g : Given). holds g.is_in_order (wrong WRONG_FIELD g.place)) given) (holds b (wrong WRONG_FIELD close))) (sym (le_more (length next) (length given)))
        ∙ sym (ap (λ (o : Condition). earlier (earlier o (each (λ (g : Given). holds g.is_in_order (wrong WRONG_FIELD g.place)) given)) (holds (nat_le (length (f ∷ next)) (length (g ∷ given))) (wrong WRONG_FIELD close))) here)
    by_name false e rest =
        let here : holds g.is_in_order (wrong WRONG_FIELD g.place) ≡ Some (wrong WRONG_FIELD x.name.place) = ap (λ b. holds b (wrong WRONG_FIELD g.place)) (h.0.in_order ∙ e) ∙ ap (λ p. Some (wrong WRONG_FIELD p)) (sym h.0.place) in
        ap (λ b. cond b (names_are next xs close) (Some (wrong WRONG_FIELD x.name.place))) e
        ∙ sym (ap (λ (o : Condition). earlier (earlier o (each (λ (g : Given). holds g.is_in_order (wrong WRONG_FIELD g.place)) given)) (holds (nat_le (length (f ∷ next)) (length (g ∷ given))) (wrong WRONG_FIELD close))) here)

-- their values are of the types of the fields of their names
pub values-fit : (c : Checker) (fields next : List CheckedField) (given : List Given) (xs : List composites.Given) → AreGiven c fields next given xs →
    each (λ (g : Given). agrees_if (type_if (arrays_of c) g.wanted) (part_of (arrays_of c) g.part)) given ≡ each (fits_field fields) xs
values-fit c fields next [] [] h = refl
values-fit c fields next [] (x ∷ xs) h = absurd h
values-fit c fields next (g ∷ given) [] h = absurd h
values-fit c fields next (g ∷ given) (x ∷ xs) h =
    ap₂ earlier (ap₂ agrees_if h.0.wanted (sym h.0.part)) (values-fit c fields (drop 1 next) given xs h.1)

pub given-shapes : (c : Checker) (fields next : List CheckedField) (given : List Given) (xs : List composites.Given) → AreGiven c fields next given xs →
    All (λ (g : Given). IsShapeIf (arrays_of c) g.wanted × IsShapeIf (arrays_of c) g.part.of) given
given-shapes c fields next [] [] h = All-nil (λ (g : Given). IsShapeIf (arrays_of c) g.wanted × IsShapeIf (arrays_of c) g.part.of)
given-shapes c fields next [] (x ∷ xs) h = absurd h
given-shapes c fields next (g ∷ given) [] h = absurd h
given-shapes c fields next (g ∷ given) (x ∷ xs) h =
    All-cons (λ (g : Given). IsShapeIf (arrays_of c) g.wanted × IsShapeIf (arrays_of c) g.part.of) g given
    (part-shape c g.wanted h.0.known, part-shape c g.part.of h.0.type) (given-shapes c fields (drop 1 next) given xs h.1)

-- ---- arrays

-- so many items have a width of values or not, as far as one more than the greatest width of them
pub items-width : (w n : ℕ) → 1 ≤ w → is_width (w * min n 129) ≡ is_width (n * w)
items-width w n some = grind arith

pub items-few : (w n : ℕ) → 1 ≤ w → is_width (w * min n 129) ≡ true → min n 129 ≡ n
items-few w n some fits = grind arith

product_of : (n w : ℕ) → n * w ≡ w * n
product_of n w = omega arith

-- the width that so many items have together is one of values or not
pub items-condition : (d : Checked) (t : ValueType) (place : ℕ) (ps : List TypedPart) (n w l : ℕ) (fits : Bool) (o : Condition) → length ps ≡ n → w ≡ width_of d t → l ≡ min n 129 → 1 ≤ w →
    fits ≡ is_width (w * l) → o ≡ holds fits (wrong WRONG_WIDTH place) → o ≡ holds (is_width (width_of d (array (length ps) t))) (wrong WRONG_WIDTH place)
items-condition d t place ps n w l fits o long we le some fe oe =
    oe ∙ ap (λ b. holds b (wrong WRONG_WIDTH place))
    (fe ∙ ap (λ k. is_width (w * k)) le ∙ items-width w n some ∙ ap is_width (product_of n w ∙ array-width d n w t we ∙ ap (λ k. width_of d (array k t)) (sym long)))

-- an array type that was met or added
pub array-made : (c : Checker) → IsChecker c → (s : Shapes) → AreShapes s → (a : ArrayShape) → shapes.Grows c.shapes.arrays a s.arrays → a.width ≡ width_of c.design (array a.length (type_of_shape (arrays_of c) a.element)) → IsWidth a.width →
    (of : Shape) → Denotes (array_types [] s.arrays) of (Some (array a.length (type_of_shape (arrays_of c) a.element))) → (place : ℕ) (o : CheckResult TypedPart) → o ≡ Gives (part (Some (array a.length (type_of_shape (arrays_of c) a.element))) place) →
    Yields (IsPartIn (scope_of c)) c o (record c { shapes = s }) (record { of = Some of; place = place })
array-made c h s kept a grows width fits of denotes place o gives =
    let new : Checker = record c { shapes = s } in
    let g = more-grows c s a grows in
    let e = inner denotes.0 in
    let fit = subst IsWidth (width ∙ ap (width_of c.design) e) fits in
    record {
      kept = more-kept c h s kept a grows width fits;
      grows = g;
      value = part (Some (array a.length (type_of_shape (arrays_of c) a.element))) place;
      gives = gives;
      means = record {
        scope_is = same-scope c new g refl h.bound;
        part = ap (λ t. part (Some t) place) e;
        type = record { known = denotes.1; named = named_item c.design (array_types [] s.arrays) of fit.some; width = fit };
      };
    }
  where
    inner : {a b : ValueType} → Some a ≡ Some b → a ≡ b
    inner e = cc

-- ---- the names of a struct's fields

-- the fields of a declared struct
pub declared-fields : (d : Checked) (n : ℕ) (s : Struct) → n < length d.structs → s ≡ get_or d.structs n s → fields_of d n ≡ s.fields
declared-fields d n s lt is = ap fields_by (slice_get_read d.structs (length d.structs) n s refl lt is)

pub names-condition : (c : Checker) (n : ℕ) (s : Struct) (given : List Given) (xs : List composites.Given) (close : ℕ) → n < length c.design.structs → s ≡ get_or c.design.structs n s →
    AreGiven c (fields_of c.design n) (fields_of c.design n) given xs → (declared : ℕ) (o : Condition) → declared ≡ length s.fields →
    o ≡ earlier (each (λ (g : Given). holds g.is_in_order (wrong WRONG_FIELD g.place)) given) (holds (nat_le declared (length given)) (wrong WRONG_FIELD close)) → o ≡ names_are (fields_of c.design n) xs close
names-condition c n s given xs close lt is h declared o de oe =
    oe ∙ ap (λ k. earlier (each (λ (g : Given). holds g.is_in_order (wrong WRONG_FIELD g.place)) given) (holds (nat_le k (length given)) (wrong WRONG_FIELD close))) (de ∙ ap length (sym (declared-fields c.design n s lt is)))
    ∙ sym (names-are c (fields_of c.design n) (fields_of c.design n) given xs close h)

-- ---- fields that are given, as more are

given_grows : (a b : Checker) → Grows a b → (fields next : List CheckedField) (g : Given) (x : composites.Given) → IsGiven a fields next g x → IsGiven b fields next g x
given_grows a b grows fields next g x h = record {
  place = h.place;
  in_order = h.in_order;
  wanted = same-type-if a b grows g.wanted h.known ∙ h.wanted;
  known = type-if-grows a b grows g.wanted h.known;
  part = h.part ∙ sym (same-part a b grows g.part h.type);
  type = part-grows a b grows g.part h.type;
}

pub given-grow : (a b : Checker) → Grows a b → (fields next : List CheckedField) (given : List Given) (xs : List composites.Given) → AreGiven a fields next given xs → AreGiven b fields next given xs
given-grow a b grows fields next [] [] h = tt
given-grow a b grows fields next [] (x ∷ xs) h = absurd h
given-grow a b grows fields next (g ∷ given) [] h = absurd h
given-grow a b grows fields next (g ∷ given) (x ∷ xs) h = (given_grows a b grows fields next g x h.0, given-grow a b grows fields (drop 1 next) given xs h.1)

pub given-push : (c : Checker) (fields next : List CheckedField) (given : List Given) (xs : List composites.Given) (g : Given) (x : composites.Given) → AreGiven c fields next given xs → IsGiven c fields (drop (length given) next) g x →
    AreGiven c fields next (given ++ g ∷ []) (xs ++ x ∷ [])
given-push c fields next [] [] g x h one = (one, tt)
given-push c fields next [] (y ∷ xs) g x h one = absurd h
given-push c fields next (f ∷ given) [] g x h one = absurd h
given-push c fields next (f ∷ given) (y ∷ xs) g x h one =
    (h.0, given-push c fields (drop 1 next) given xs g x h.1 (subst (λ (n : List CheckedField). IsGiven c fields n g x) (behind given next) one))
  where
    behind : (given : List Given) (next : List CheckedField) → drop (length (f ∷ given)) next ≡ drop (length given) (drop 1 next)
    behind given next = let e : 1 + length given ≡ suc (length given) = omega arith in sym (drop-drop (length given) 1 next ∙ ap (λ n. drop n next) e)
