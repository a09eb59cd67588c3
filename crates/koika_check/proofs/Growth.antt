-- What stays as array types are added to a checker.
use Rattle.std.proofs.Common.{◌≡◌, ℕ, zero, suc, ◌<◌, List, [], ◌∷◌, ◌++◌, length, map, get_or, Option, Some, None, refl, ap, ap₂, sym, ◌∙◌, subst, arith, append_assoc, append-nil, length-append}
use Rattle.std.specs.List.{All}
use Rattle.std.proofs.lemmas.List.Elements.{All-cons, All-nil, All-tail, All-weaker}
use Rattle.koika_check.specs.inner.Checking.{AreTypes, Grows, IsChecker, IsNamed, IsPart, IsReady, ready, IsSignature, IsType, IsTypeOrUnit, IsWidth, Stands, arrays_of, scope_of}
use Rattle.koika_check.specs.inner.Locals.{AreLocals, inside_of, local_of, locals_of, shapes_of}
use Rattle.koika_check.specs.Scopes.{Local, Scope}
use Rattle.koika_check.specs.inner.Shapes.{AreShapes, IsShape, array_types, part_of, type_if, type_of_shape}
use Rattle.koika_check.specs.Types.{array, bits, width_of}
use Rattle.koika_check.specs.Types as types
use Rattle.koika_check.specs.declared.agreement.Part.{Part}
use Rattle.koika_check.specs.declared.checked.Checked.{Checked}
use Rattle.koika_check.specs.declared.checked.CheckedFunction.{CheckedFunction}
use Rattle.koika_check.specs.declared.checker.Checker.{Checker}
use Rattle.koika_check.specs.declared.checker.Signature.{Signature}
use Rattle.koika_check.specs.declared.locals.Bound.{Bound}
use Rattle.koika_check.specs.declared.locals.Locals.{Locals}
use Rattle.koika_check.specs.declared.shapes.ArrayShape.{ArrayShape}
use Rattle.koika_check.specs.declared.shapes.Shape.{Shape}
use Rattle.koika_check.specs.declared.shapes.Shape.TheVariants as shape
use Rattle.koika_check.specs.declared.shapes.Shapes.{Shapes}
use Rattle.koika_check.specs.declared.typed.ValueType.{ValueType}
use Rattle.koika_check.proofs.ArrayTypes.{IsShape-push}

-- ---- types of arrays

array_types-append : (before : List ValueType) (arrays more : List ArrayShape) → array_types before (arrays ++ more) ≡ array_types (array_types before arrays) more
array_types-append before [] more = refl
array_types-append before (a ∷ arrays) more = array_types-append (before ++ array a.length (type_of_shape before a.element) ∷ []) arrays more

array_types-front : (before : List ValueType) (more : List ArrayShape) → (ts : List ValueType) × (array_types before more ≡ before ++ ts)
array_types-front before [] = ([], sym (append-nil before))
array_types-front before (a ∷ more) =
    let t = array a.length (type_of_shape before a.element) in
    let r = array_types-front (before ++ t ∷ []) more in
    (t ∷ r.0, r.1 ∙ append_assoc before (t ∷ []) r.0)

-- the earlier ones stay in front
pub types-more : (old more : List ArrayShape) → (ts : List ValueType) × (array_types [] (old ++ more) ≡ array_types [] old ++ ts)
types-more old more =
    let r = array_types-front (array_types [] old) more in
    (r.0, array_types-append [] old more ∙ r.1)

pub get-front : {X : Type 0} (xs ys : List X) (d : X) (i : ℕ) → i < length xs → get_or (xs ++ ys) i d ≡ get_or xs i d
get-front [] ys d i lt = absurd (omega (arith, lt))
get-front (x ∷ xs) ys d zero lt = refl
get-front (x ∷ xs) ys d (suc i) lt = get-front xs ys d i (omega (arith, lt))

pub type-front : (before ts : List ValueType) (s : Shape) → IsShape (length before) s → type_of_shape (before ++ ts) s ≡ type_of_shape before s
type-front before ts (shape.Bits w) h = refl
type-front before ts (shape.Enum k) h = refl
type-front before ts (shape.Struct k) h = refl
type-front before ts (shape.Array k) h = get-front before ts (bits 0) k h

shape-front : (before ts : List ValueType) (s : Shape) → IsShape (length before) s → IsShape (length (before ++ ts)) s
shape-front before ts s h = IsShape-push (length before) (length (before ++ ts)) s (omega (arith, length-append before ts)) h

-- ---- checkers

pub same-type : (a b : Checker) → Grows a b → (s : Shape) → IsShape (length (arrays_of a)) s → type_of_shape (arrays_of b) s ≡ type_of_shape (arrays_of a) s
same-type a b g s h =
    let ts = types-more a.shapes.arrays g.arrays.0 in
    ap (λ (arrays : List ArrayShape). type_of_shape (array_types [] arrays) s) g.arrays.1 ∙ ap (λ (t : List ValueType). type_of_shape t s) ts.1 ∙ type-front (arrays_of a) ts.0 s h

pub same-shape : (a b : Checker) → Grows a b → (s : Shape) → IsShape (length (arrays_of a)) s → IsShape (length (arrays_of b)) s
same-shape a b g s h =
    let ts = types-more a.shapes.arrays g.arrays.0 in
    subst (λ (arrays : List ArrayShape). IsShape (length (array_types [] arrays)) s) (sym g.arrays.1)
    (subst (λ (t : List ValueType). IsShape (length t) s) (sym ts.1) (shape-front (arrays_of a) ts.0 s h))

-- a shape of values stays one
pub type-grows : (a b : Checker) → Grows a b → (s : Shape) → IsType a s → IsType b s
type-grows a b g s h = record {
  known = same-shape a b g s h.known;
  named = subst (λ (d : Checked). IsNamed d s) (sym g.design) h.named;
  width = subst IsWidth (ap₂ width_of (sym g.design) (sym (same-type a b g s h.known))) h.width;
}

pub stands-grows : (a b : Checker) → Grows a b → (s : Shape) (of : ValueType) → Stands a s of → Stands b s of
stands-grows a b g s of h = (h.0 ∙ sym (same-type a b g s h.1.known), type-grows a b g s h.1)

map-same : (a b : Checker) → Grows a b → (shapes : List Shape) → All (IsType a) shapes → map (type_of_shape (arrays_of b)) shapes ≡ map (type_of_shape (arrays_of a)) shapes
map-same a b g [] h = refl
map-same a b g (s ∷ shapes) h =
    ap₂ (λ (t : ValueType) (ts : List ValueType). t ∷ ts) (same-type a b g s (h 0 s (omega arith)).known) (map-same a b g shapes (λ k d lt. h (suc k) d (omega (arith, lt))))

pub types-grow : (a b : Checker) → Grows a b → (shapes : List Shape) (of : List ValueType) → AreTypes a shapes of → AreTypes b shapes of
types-grow a b g shapes of h = record {
  are = h.are ∙ sym (map-same a b g shapes h.each);
  each = All-weaker (IsType a) (IsType b) (type-grows a b g) shapes h.each;
}

pub same-type-if : (a b : Checker) → Grows a b → (s : Option Shape) → IsTypeOrUnit a s → type_if (arrays_of b) s ≡ type_if (arrays_of a) s
same-type-if a b g None h = refl
same-type-if a b g (Some s) h = ap Some (same-type a b g s h.known)

pub type-if-grows : (a b : Checker) → Grows a b → (s : Option Shape) → IsTypeOrUnit a s → IsTypeOrUnit b s
type-if-grows a b g None h = tt
type-if-grows a b g (Some s) h = type-grows a b g s h

pub part-grows : (a b : Checker) → Grows a b → (p : Part) → IsPart a p → IsPart b p
part-grows a b g p h = type-if-grows a b g p.of h

pub same-part : (a b : Checker) → Grows a b → (p : Part) → IsPart a p → part_of (arrays_of b) p ≡ part_of (arrays_of a) p
same-part a b g p h = ap (λ (of : Option ValueType). types.part of p.place) (same-type-if a b g p.of h)

pub parts-grow : (a b : Checker) → Grows a b → (ps : List Part) → All (IsPart a) ps → map (part_of (arrays_of b)) ps ≡ map (part_of (arrays_of a)) ps
parts-grow a b g [] h = refl
parts-grow a b g (p ∷ ps) h =
    ap₂ (λ (q : types.TypedPart) (qs : List types.TypedPart). q ∷ qs) (same-part a b g p (h 0 p (omega arith))) (parts-grow a b g ps (All-tail (IsPart a) p ps h))

signature-grows : (a b : Checker) → Grows a b → (s : Signature) (f : CheckedFunction) → IsSignature a s f → IsSignature b s f
signature-grows a b g s f h = record {
  parameters = types-grow a b g s.parameters f.parameters h.parameters;
  result = record {
    is = h.result.is ∙ sym (same-type-if a b g s.result h.result.known);
    known = type-if-grows a b g s.result h.result.known;
  };
}

-- ---- locals

shapes-inside : (P : Shape → Type 0) (inner bs : List Bound) → All (λ (b : Bound). P b.shape) inner → All P (map (λ (b : Bound). b.shape) bs) → All (λ (b : Bound). P b.shape) (inside_of inner bs)
shapes-inside P inner [] h k = h
shapes-inside P inner (b ∷ bs) h k =
    shapes-inside P (b ∷ inner) bs (All-cons (λ (c : Bound). P c.shape) b inner (k 0 b.shape (omega arith)) h) (All-tail P b.shape (map (λ (c : Bound). c.shape) bs) k)

locals-map : (old new : List ValueType) (names : List (List ℕ)) (bs : List Bound) → All (λ (b : Bound). type_of_shape new b.shape ≡ type_of_shape old b.shape) bs →
    map (local_of new names) bs ≡ map (local_of old names) bs
locals-map old new names [] h = refl
locals-map old new names (b ∷ bs) h =
    ap₂ (λ (of : ValueType) (ls : List Local). record { name = get_or names b.name []; of = of } ∷ ls)
    (h 0 b (omega arith)) (locals-map old new names bs (All-tail (λ (c : Bound). type_of_shape new c.shape ≡ type_of_shape old c.shape) b bs h))

pub same-locals : (a b : Checker) → Grows a b → (l : Locals) → All (IsType a) (shapes_of l) → locals_of (arrays_of b) l ≡ locals_of (arrays_of a) l
same-locals a b g l h =
    locals-map (arrays_of a) (arrays_of b) l.names (inside_of [] l.bound)
    (All-weaker (λ (c : Bound). IsType a c.shape) (λ (c : Bound). type_of_shape (arrays_of b) c.shape ≡ type_of_shape (arrays_of a) c.shape)
    (λ c t. same-type a b g c.shape t.known) (inside_of [] l.bound)
    (shapes-inside (IsType a) [] l.bound (All-nil (λ (c : Bound). IsType a c.shape)) h))

-- the same names are bound, so names stand for the same
pub same-scope : (a b : Checker) → Grows a b → b.locals ≡ a.locals → All (IsType a) (shapes_of a.locals) → scope_of b ≡ scope_of a
same-scope a b g e h =
    ap₂ (λ (d : Checked) (ls : List Local). scoped d ls) g.design (ap (λ (l : Locals). locals_of (arrays_of b) l) e ∙ same-locals a b g a.locals h)
  where
    scoped : Checked → List Local → Scope
    scoped d ls = record { design = d; locals = ls }

-- ---- growth

pub grows-refl : (a : Checker) → Grows a a
grows-refl a = record {
  design = refl;
  things = refl;
  parts = refl;
  registers = refl;
  inputs = refl;
  fields = refl;
  functions = refl;
  hosts = refl;
  asserted = refl;
  arrays = ([], sym (append-nil a.shapes.arrays));
}

pub grows-trans : (a b c : Checker) → Grows a b → Grows b c → Grows a c
grows-trans a b c g h = record {
  design = h.design ∙ g.design;
  things = h.things ∙ g.things;
  parts = h.parts ∙ g.parts;
  registers = h.registers ∙ g.registers;
  inputs = h.inputs ∙ g.inputs;
  fields = h.fields ∙ g.fields;
  functions = h.functions ∙ g.functions;
  hosts = h.hosts ∙ g.hosts;
  asserted = h.asserted ∙ g.asserted;
  arrays = (g.arrays.0 ++ h.arrays.0, h.arrays.1 ∙ ap (λ (arrays : List ArrayShape). arrays ++ h.arrays.0) g.arrays.1 ∙ append_assoc a.shapes.arrays g.arrays.0 h.arrays.0);
}

-- ---- a checker with more array types, and with other locals

pub shapes-kept : (c : Checker) → IsChecker c → (s : Shapes) → AreShapes s → (more : List ArrayShape) → s.arrays ≡ c.shapes.arrays ++ more →
    ((i : ℕ) (d : ArrayShape) → i < length s.arrays → (get_or s.arrays i d).width ≡ width_of c.design (get_or (array_types [] s.arrays) i (bits 0))) →
    ((i : ℕ) (d : ArrayShape) → i < length s.arrays → IsWidth (get_or s.arrays i d).width) → IsChecker (record c { shapes = s })
shapes-kept c h s kept more grown widths fit =
    let c' : Checker = record c { shapes = s } in
    let g : Grows c c' = record {
      design = refl;
      things = refl;
      parts = refl;
      registers = refl;
      inputs = refl;
      fields = refl;
      functions = refl;
      hosts = refl;
      asserted = refl;
      arrays = (more, grown);
    } in
    record {
      things = h.things;
      names = h.names;
      parts = h.parts;
      members = h.members;
      named_fields = h.named_fields;
      widths = h.widths;
      shapes = kept;
      arrays = widths;
      array_widths = fit;
      registers = types-grow c c' g c.registers _ h.registers;
      inputs = types-grow c c' g c.inputs _ h.inputs;
      each_fields = h.each_fields;
      fields = λ i d lt. types-grow c c' g (get_or c.fields i d) _ (h.fields i d lt);
      each_function = h.each_function;
      functions = λ i s f lt. signature-grows c c' g (get_or c.functions i s) (get_or c.design.functions i f) (h.functions i s f lt);
      locals = h.locals;
      bound = All-weaker (IsType c) (IsType c') (type-grows c c' g) (shapes_of c.locals) h.bound;
      hosts = h.hosts;
      each_rule = h.each_rule;
      marks = h.marks;
    }

pub unbound : (c : Checker) (l : Locals) → Grows c (record c { locals = l })
unbound c l = record {
  design = refl;
  things = refl;
  parts = refl;
  registers = refl;
  inputs = refl;
  fields = refl;
  functions = refl;
  hosts = refl;
  asserted = refl;
  arrays = ([], sym (append-nil c.shapes.arrays));
}

relocated : (c : Checker) (l : Locals) (s : Shape) → IsType c s → IsType (record c { locals = l }) s
relocated c l s t = type-grows c (record c { locals = l }) (unbound c l) s t

pub locals-kept : (c : Checker) → IsChecker c → (l : Locals) → AreLocals l → All (IsType c) (shapes_of l) → IsChecker (record c { locals = l })
locals-kept c h l kept bound = record {
  things = h.things;
  names = h.names;
  parts = h.parts;
  members = h.members;
  named_fields = h.named_fields;
  widths = h.widths;
  shapes = h.shapes;
  arrays = h.arrays;
  array_widths = h.array_widths;
  registers = record { are = h.registers.are; each = All-weaker (IsType c) (IsType (record c { locals = l })) (λ s t. relocated c l s t) c.registers h.registers.each };
  inputs = record { are = h.inputs.are; each = All-weaker (IsType c) (IsType (record c { locals = l })) (λ s t. relocated c l s t) c.inputs h.inputs.each };
  each_fields = h.each_fields;
  fields = λ i d lt. let t = h.fields i d lt in record { are = t.are; each = All-weaker (IsType c) (IsType (record c { locals = l })) (λ s t. relocated c l s t) (get_or c.fields i d) t.each };
  each_function = h.each_function;
  functions = λ i s f lt. let t = h.functions i s f lt in signature-grows c (record c { locals = l }) (unbound c l) (get_or c.functions i s) (get_or c.design.functions i f) t;
  locals = kept;
  bound = All-weaker (IsType c) (IsType (record c { locals = l })) (λ s t. relocated c l s t) (shapes_of l) bound;
  hosts = h.hosts;
  each_rule = h.each_rule;
  marks = h.marks;
}

pub checker-of : (c : Checker) → IsReady c → IsChecker c
checker-of c (ready h) = h
