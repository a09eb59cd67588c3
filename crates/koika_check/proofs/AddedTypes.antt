-- A checker with one more enum or struct.
use Rattle.std.proofs.Common.{◌≡◌, ℕ, suc, ◌+◌, ◌<◌, ◌≤◌, ◌^◌, min, inl, inr, List, [], ◌∷◌, ◌++◌, length, map, sum_by, get_or, None, refl, ap, ap₂, sym, ◌∙◌, subst, arith, append-nil, length-append}
use Rattle.std.specs.Prelude.{slice_index}
use Rattle.std.specs.List.{All}
use Rattle.std.proofs.lemmas.List.{length-map, map-append}
use Rattle.std.proofs.lemmas.List.Sums.{sum_by-cons}
use Rattle.kw_base.specs.Names.{number_of}
use Rattle.koika_types.specs.declared.declarations.EnumDecl.{EnumDecl}
use Rattle.koika_check.specs.inner.Checking.{AreTypes, IsType, IsWidth, arrays_of}
use Rattle.koika_check.specs.Composites.{fields_by, fields_of, members_by}
use Rattle.koika_check.specs.Declarations.{names_of_fields, names_of_members}
use Rattle.koika_check.specs.inner.Listed.{Keeps, Lists}
use Rattle.koika_check.specs.inner.Settled.{IsSettled}
use Rattle.koika_check.specs.inner.Shapes.{type_of_shape}
use Rattle.koika_check.specs.inner.Things.{AreParts, position_of, thing, thing_named}
use Rattle.koika_check.specs.Types.{width_of}
use Rattle.koika_check.specs.declared.checked.Checked.{Checked}
use Rattle.koika_check.specs.declared.checked.CheckedField.{CheckedField}
use Rattle.koika_check.specs.declared.checked.Struct.{Struct}
use Rattle.koika_check.specs.declared.checker.Checker.{Checker}
use Rattle.koika_check.specs.declared.parts.Parts.{Parts}
use Rattle.koika_check.specs.declared.shapes.Shape.{Shape}
use Rattle.koika_check.specs.declared.things.Things.{Things}
use Rattle.koika_check.specs.declared.typed.ValueType.{ValueType}
use Rattle.koika_check.specs.declared.things.Kind.TheVariants as kind
use Rattle.koika_check.proofs.Added.{Declares, kept}
use Rattle.koika_check.proofs.ArrayTypes.{get-last, get-push, le_split}
use Rattle.koika_check.proofs.Declared.{Adds_name, declared-push, each-kind, name-push}
use Rattle.koika_check.proofs.Extensions.{More, width-more}
use Rattle.koika_check.proofs.Listing.{enum-struct, other-number, struct-enum}
use Rattle.koika_check.proofs.Positions.{slice_get-last, slice_get-push}

-- the width of a type that was declared before, and that of the new one
index-before : {X : Type 0} (f : X → ℕ) (xs : List X) (x : X) (n : ℕ) → n < length xs → slice_index (map f (xs ++ x ∷ [])) n ≡ slice_index (map f xs) n
index-before f xs x n lt = ap (λ (l : List ℕ). get_or l n 0) (map-append f xs (x ∷ [])) ∙ get-push (map f xs) (f x) 0 n (omega (arith, lt, length-map xs f))

index-last : {X : Type 0} (f : X → ℕ) (xs : List X) (x : X) (n : ℕ) → n ≡ length xs → slice_index (map f (xs ++ x ∷ [])) n ≡ f x
index-last f xs x n e = ap (λ (l : List ℕ). get_or l n 0) (map-append f xs (x ∷ [])) ∙ get-last (map f xs) (f x) 0 n (omega (arith, e, length-map xs f))

-- fields of known types together have the same width where more is declared
sum-more : (a : Checker) (e : Checked) → More a.design e → (shapes : List Shape) (fs : List CheckedField) → map (λ (f : CheckedField). f.of) fs ≡ map (type_of_shape (arrays_of a)) shapes → All (IsType a) shapes →
    sum_by (λ (f : CheckedField). width_of e f.of) fs ≡ sum_by (λ (f : CheckedField). width_of a.design f.of) fs
sum-more a e m [] [] q h = refl
sum-more a e m [] (f ∷ fs) q h = absurd cc
sum-more a e m (s ∷ shapes) [] q h = absurd cc
sum-more a e m (s ∷ shapes) (f ∷ fs) q h =
    let here : f.of ≡ type_of_shape (arrays_of a) s = heads f.of (type_of_shape (arrays_of a) s) (map (λ (g : CheckedField). g.of) fs) (map (type_of_shape (arrays_of a)) shapes) q in
    let rest = sum-more a e m shapes fs (tails f.of (type_of_shape (arrays_of a) s) (map (λ (g : CheckedField). g.of) fs) (map (type_of_shape (arrays_of a)) shapes) q) (λ k d lt. h (suc k) d (omega (arith, lt))) in
    sum_by-cons (λ (g : CheckedField). width_of e g.of) f fs
    ∙ ap₂ (λ (x y : ℕ). x + y) (width-more a.design e m f.of (subst (λ (t : ValueType). 1 ≤ width_of a.design t) (sym here) (h 0 s (omega arith)).width.some)) rest
    ∙ sym (sum_by-cons (λ (g : CheckedField). width_of a.design g.of) f fs)
  where
    heads : (t u : ValueType) (ts us : List ValueType) → t ∷ ts ≡ u ∷ us → t ≡ u
    heads t u ts us e = cc

    tails : (t u : ValueType) (ts us : List ValueType) → t ∷ ts ≡ u ∷ us → ts ≡ us
    tails t u ts us e = cc

-- the fields of a struct that was declared before
same-sum : (a : Checker) (h : IsSettled a) (e : Checked) → More a.design e → (n : ℕ) → n < length a.design.structs →
    sum_by (λ (f : CheckedField). width_of e f.of) (fields_of a.design n) ≡ sum_by (λ (f : CheckedField). width_of a.design f.of) (fields_of a.design n)
same-sum a h e m n lt =
    let fields = h.checker.fields n [] (omega (arith, lt, h.checker.each_fields)) in
    sum-more a e m (get_or a.fields n []) (fields_of a.design n) fields.are fields.each

abbrev with_enum : Checked → EnumDecl → Checked
with_enum d x = record d { enums = d.enums ++ x ∷ [] }

abbrev with_struct : Checked → Struct → Checked
with_struct d x = record d { structs = d.structs ++ x ∷ [] }

more_enum : (d : Checked) (x : EnumDecl) → More d (with_enum d x)
more_enum d x = record { enums = (x ∷ [], refl); structs = ([], sym (append-nil d.structs)) }

more_struct : (d : Checked) (x : Struct) → More d (with_struct d x)
more_struct d x = record { enums = ([], sym (append-nil d.enums)); structs = (x ∷ [], refl) }

pub added-enum : (a : Checker) → IsSettled a → (x : EnumDecl) (name : List ℕ) (t : Things) (p : Parts) → x.name ≡ name → thing_named a.things name ≡ None → Declares a.things name (thing kind.Enum (length a.design.enums)) t →
    length a.design.enums < 2 ^ 32 → AreParts p → Keeps a.parts p (thing kind.Enum (length a.design.enums)) → Lists p (thing kind.Enum (length a.design.enums)) (names_of_members x.members) →
    IsWidth x.width →
    IsSettled (record a { design = record a.design { enums = a.design.enums ++ x ∷ [] }; things = t; parts = p })
added-enum a h x name t p is new declares few are keeps lists width = record {
  checker = kept a _ (record { design = more_enum a.design x; shapes = refl }) h.checker (record {
    things = declares.0;
    names = declared-push a.design (with_enum a.design x) kind.Enum name (thing_named a.things) (thing_named t)
        (each-kind (Adds_name a.design kind.Enum name (with_enum a.design x)) (name-push (λ (y : EnumDecl). y.name) a.design.enums x name is) refl refl refl refl refl refl refl) new h.checker.names declares.1;
    parts = are;
    members = λ number lt name'.
        elim (le_split number (length a.design.enums) (omega (arith, lt, length-append a.design.enums (x ∷ [])))) [
          | inl below ↦ keeps (thing kind.Enum number) name' (other-number kind.Enum number (length a.design.enums) (omega (arith, below, few)) few (λ q. omega (arith, q, below))) ∙ h.checker.members number below name'
              ∙ ap (λ o. number_of (names_of_members (members_by o)) name') (sym (slice_get-push a.design.enums x number below))
          | inr last ↦ ap (λ k. position_of p (thing kind.Enum k) name') last ∙ lists name'
              ∙ ap (λ o. number_of (names_of_members (members_by o)) name') (sym (slice_get-last a.design.enums x number last))
        ];
    named_fields = λ number lt name'. keeps (thing kind.Struct number) name' (struct-enum number (length a.design.enums)) ∙ h.checker.named_fields number lt name';
    widths = record {
      enums = λ number lt.
          elim (le_split number (length a.design.enums) (omega (arith, lt, length-append a.design.enums (x ∷ [])))) [
            | inl below ↦ subst IsWidth (sym (index-before (λ (e : EnumDecl). e.width) a.design.enums x number below)) (h.checker.widths.enums number below)
            | inr last ↦ subst IsWidth (sym (index-last (λ (e : EnumDecl). e.width) a.design.enums x number last)) width
          ];
      structs = λ number lt. h.checker.widths.structs number lt ∙ ap (λ s. min s 129) (sym (same-sum a h (with_enum a.design x) (more_enum a.design x) number lt));
      tables = h.checker.widths.tables;
      hosts = h.checker.widths.hosts;
    };
    registers = h.checker.registers;
    inputs = h.checker.inputs;
    each_fields = h.checker.each_fields;
    fields = h.checker.fields;
    each_function = h.checker.each_function;
    functions = h.checker.functions;
    locals = h.checker.locals;
    bound = h.checker.bound;
    hosts = h.checker.hosts;
    each_rule = h.checker.each_rule;
    marks = h.checker.marks;
  });
  unbound = h.unbound;
  no_members = λ number name' small le.
      let past : length a.design.enums < number = omega (arith, le, length-append a.design.enums (x ∷ [])) in
      keeps (thing kind.Enum number) name' (other-number kind.Enum number (length a.design.enums) small few (λ q. omega (arith, q, past))) ∙ h.no_members number name' small (omega (arith, past));
  no_fields = λ number name' small le. keeps (thing kind.Struct number) name' (struct-enum number (length a.design.enums)) ∙ h.no_fields number name' small le;
}

pub added-struct : (a : Checker) → IsSettled a → (x : Struct) (shapes : List Shape) (name : List ℕ) (t : Things) (p : Parts) → x.name ≡ name → thing_named a.things name ≡ None → Declares a.things name (thing kind.Struct (length a.design.structs)) t →
    length a.design.structs < 2 ^ 32 → AreParts p → Keeps a.parts p (thing kind.Struct (length a.design.structs)) → Lists p (thing kind.Struct (length a.design.structs)) (names_of_fields x.fields) →
    AreTypes a shapes (map (λ (f : CheckedField). f.of) x.fields) → x.width ≡ min (sum_by (λ (f : CheckedField). width_of a.design f.of) x.fields) 129 →
    IsSettled (record a { design = record a.design { structs = a.design.structs ++ x ∷ [] }; things = t; parts = p; fields = a.fields ++ shapes ∷ [] })
added-struct a h x shapes name t p is new declares few are keeps lists types width = record {
  checker = kept a _ (record { design = more_struct a.design x; shapes = refl }) h.checker (record {
    things = declares.0;
    names = declared-push a.design (with_struct a.design x) kind.Struct name (thing_named a.things) (thing_named t)
        (each-kind (Adds_name a.design kind.Struct name (with_struct a.design x)) refl (name-push (λ (y : Struct). y.name) a.design.structs x name is) refl refl refl refl refl refl) new h.checker.names declares.1;
    parts = are;
    members = λ number lt name'. keeps (thing kind.Enum number) name' (enum-struct number (length a.design.structs)) ∙ h.checker.members number lt name';
    named_fields = λ number lt name'.
        elim (le_split number (length a.design.structs) (omega (arith, lt, length-append a.design.structs (x ∷ [])))) [
          | inl below ↦ keeps (thing kind.Struct number) name' (other-number kind.Struct number (length a.design.structs) (omega (arith, below, few)) few (λ q. omega (arith, q, below))) ∙ h.checker.named_fields number below name'
              ∙ ap (λ o. number_of (names_of_fields (fields_by o)) name') (sym (slice_get-push a.design.structs x number below))
          | inr last ↦ ap (λ k. position_of p (thing kind.Struct k) name') last ∙ lists name'
              ∙ ap (λ o. number_of (names_of_fields (fields_by o)) name') (sym (slice_get-last a.design.structs x number last))
        ];
    widths = record {
      enums = h.checker.widths.enums;
      structs = λ number lt.
          elim (le_split number (length a.design.structs) (omega (arith, lt, length-append a.design.structs (x ∷ [])))) [
            | inl below ↦ index-before (λ (s : Struct). s.width) a.design.structs x number below ∙ h.checker.widths.structs number below ∙ ap (λ s. min s 129) (sym (same-sum a h (with_struct a.design x) (more_struct a.design x) number below))
                ∙ ap (λ o. min (sum_by (λ (f : CheckedField). width_of (with_struct a.design x) f.of) (fields_by o)) 129) (sym (slice_get-push a.design.structs x number below))
            | inr last ↦ index-last (λ (s : Struct). s.width) a.design.structs x number last ∙ width
                ∙ ap (λ s. min s 129) (sym (sum-more a (with_struct a.design x) (more_struct a.design x) shapes x.fields types.are types.each))
                ∙ ap (λ o. min (sum_by (λ (f : CheckedField). width_of (with_struct a.design x) f.of) (fields_by o)) 129) (sym (slice_get-last a.design.structs x number last))
          ];
      tables = h.checker.widths.tables;
      hosts = h.checker.widths.hosts;
    };
    registers = h.checker.registers;
    inputs = h.checker.inputs;
    each_fields = omega (arith, length-append a.fields (shapes ∷ []), length-append a.design.structs (x ∷ []), h.checker.each_fields);
    fields = λ number d lt.
        elim (le_split number (length a.fields) (omega (arith, lt, length-append a.fields (shapes ∷ [])))) [
          | inl below ↦ subst (λ (ss : List Shape). AreTypes a ss (map (λ (f : CheckedField). f.of) (fields_of (with_struct a.design x) number))) (sym (get-push a.fields shapes d number below))
              (subst (λ o. AreTypes a (get_or a.fields number d) (map (λ (f : CheckedField). f.of) (fields_by o))) (sym (slice_get-push a.design.structs x number (omega (arith, below, h.checker.each_fields)))) (h.checker.fields number d below))
          | inr last ↦ subst (λ (ss : List Shape). AreTypes a ss (map (λ (f : CheckedField). f.of) (fields_of (with_struct a.design x) number))) (sym (get-last a.fields shapes d number last))
              (subst (λ o. AreTypes a shapes (map (λ (f : CheckedField). f.of) (fields_by o))) (sym (slice_get-last a.design.structs x number (omega (arith, last, h.checker.each_fields)))) types)
        ];
    each_function = h.checker.each_function;
    functions = h.checker.functions;
    locals = h.checker.locals;
    bound = h.checker.bound;
    hosts = h.checker.hosts;
    each_rule = h.checker.each_rule;
    marks = h.checker.marks;
  });
  unbound = h.unbound;
  no_members = λ number name' small le. keeps (thing kind.Enum number) name' (enum-struct number (length a.design.structs)) ∙ h.no_members number name' small le;
  no_fields = λ number name' small le.
      let past : length a.design.structs < number = omega (arith, le, length-append a.design.structs (x ∷ [])) in
      keeps (thing kind.Struct number) name' (other-number kind.Struct number (length a.design.structs) small few (λ q. omega (arith, q, past))) ∙ h.no_fields number name' small (omega (arith, past));
}
