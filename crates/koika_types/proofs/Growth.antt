-- A table that grows keeps the widths and the types that it had.
use Rattle.std.proofs.Common.{◌≡◌, ℕ, ◌+◌, ◌*◌, ◌<◌, ◌≤◌, ◌⊎◌, min, List, [], ◌∷◌, ◌++◌, All, Some, Result, Ok, Err, OnOk, OnErr, length, map, slice_get, slice_index, get_or, ap, ap₂, subst, sym, ◌∙◌, refl, inl, inr, arith, length-append, le_refl}
use Rattle.std.proofs.lemmas.List.Sums.{sum_by-cons}
use Rattle.std.proofs.Math.ListN.{get_or-append}
use Rattle.std.proofs.Math.Seq.{get_or-append_seam}
use Rattle.std.proofs.lemmas.Bool.{cases_lt}
use Rattle.std.proofs.lemmas.List.{map-append, length-map}
use Rattle.std.proofs.lemmas.List.Elements.{All-push, All-head, All-tail}
use Rattle.std.proofs.lemmas.Option.{slice_get_within, get_or_from_slice_get, slice_get-get_or}
use Rattle.koika_types.specs.Types.{AreTypes, IsEnum, IsStruct, IsTable, IsTypeAmong, IsWidth, struct_of, total_width, width}
use Rattle.koika_types.specs.declared.ty.Ty.{Ty}
use Rattle.koika_types.specs.declared.ty.Ty.TheVariants as ty
use Rattle.koika_types.specs.declared.declarations.EnumDecl.{EnumDecl}
use Rattle.koika_types.specs.declared.declarations.Field.{Field}
use Rattle.koika_types.specs.declared.declarations.StructDecl.{StructDecl}
use Rattle.koika_types.specs.declared.declarations.Declarations.{Declarations}

-- the second table has what the first has, with the same widths
record Grows (d e : Declarations) : Type 0 where
  enums : length d.enums ≤ length e.enums
  enum_widths : (n : ℕ) → n < length d.enums → width e (ty.Enum n) ≡ width d (ty.Enum n)
  struct_widths : (n : ℕ) → n < length d.structs → width e (ty.Struct n) ≡ width d (ty.Struct n)

width-Grows : (d e : Declarations) (k : ℕ) → Grows d e → k ≤ length d.structs → (t : Ty) → IsTypeAmong d k t → width e t ≡ width d t
width-Grows d e k g within (ty.Bits w) h = refl
width-Grows d e k g within (ty.Enum n) h = g.enum_widths n h
width-Grows d e k g within (ty.Struct n) h = let lt = h.0 in g.struct_widths n (omega arith)
width-Grows d e k g within (ty.Array' p item n) h = ap (λ w. w * n) (width-Grows d e k g within item h.0)

IsTypeAmong-Grows : (d e : Declarations) (k : ℕ) → Grows d e → k ≤ length d.structs → (t : Ty) → IsTypeAmong d k t → IsTypeAmong e k t
IsTypeAmong-Grows d e k g within (ty.Bits w) h = h
IsTypeAmong-Grows d e k g within (ty.Enum n) h = let more = g.enums in omega arith
IsTypeAmong-Grows d e k g within (ty.Struct n) h = let lt = h.0 in (lt, subst IsWidth (sym (g.struct_widths n (omega arith))) h.1)
IsTypeAmong-Grows d e k g within (ty.Array' p item n) h =
    (IsTypeAmong-Grows d e k g within item h.0, h.1, h.2, subst (λ w. w * n ≤ 128) (sym (width-Grows d e k g within item h.0)) h.3)

total_width-Grows : (d e : Declarations) (k : ℕ) → Grows d e → k ≤ length d.structs → (fields : List Field) → All (λ (field : Field). IsTypeAmong d k field.ty) fields → total_width e fields ≡ total_width d fields
total_width-Grows d e k g within [] h = refl
total_width-Grows d e k g within (field ∷ fields) h =
    let P : Field → Type 0 = λ f. IsTypeAmong d k f.ty in
    sum_by-cons (λ (f : Field). width e f.ty) field fields
    ∙ ap₂ (λ a b. a + b) (width-Grows d e k g within field.ty (All-head P field fields h)) (total_width-Grows d e k g within fields (All-tail P field fields h))
    ∙ sym (sum_by-cons (λ (f : Field). width d f.ty) field fields)

IsStruct-Grows : (d e : Declarations) (k : ℕ) (decl : StructDecl) → Grows d e → k ≤ length d.structs → IsStruct d k decl → IsStruct e k decl
IsStruct-Grows d e k decl g within h = record {
  fields = λ i x lt. IsTypeAmong-Grows d e k g within _ (h.fields i x lt);
  width = h.width ∙ ap (λ total. min total 129) (sym (total_width-Grows d e k g within decl.fields h.fields));
}

lookup-append : {X : Type 0} (f : X → ℕ) (xs ys : List X) (n : ℕ) → n < length xs → slice_index (map f (xs ++ ys)) n ≡ slice_index (map f xs) n
lookup-append f xs ys n within =
    let mapped : n < length (map f xs) = omega (arith, length-map xs f) in
    ap (λ l. slice_index l n) (map-append f xs ys) ∙ get_or-append (map f xs) (map f ys) 0 n mapped

Grows-enum : (d : Declarations) (decl : EnumDecl) → Grows d (record { enums = d.enums ++ decl ∷ []; structs = d.structs })
Grows-enum d decl = record {
  enums = omega (arith, length-append d.enums (decl ∷ []));
  enum_widths = λ n within. lookup-append (λ (decl : EnumDecl). decl.width) d.enums (decl ∷ []) n within;
  struct_widths = λ n within. refl;
}

Grows-struct : (d : Declarations) (decl : StructDecl) → Grows d (record { enums = d.enums; structs = d.structs ++ decl ∷ [] })
Grows-struct d decl = record {
  enums = le_refl _;
  enum_widths = λ n within. refl;
  struct_widths = λ n within. lookup-append (λ (decl : StructDecl). decl.width) d.structs (decl ∷ []) n within;
}

-- a table with one more enum
with_enum : (d : Declarations) (decl : EnumDecl) → IsTable d → IsEnum decl → IsTable (record { enums = d.enums ++ decl ∷ []; structs = d.structs })
with_enum d decl table h = record {
  enums = All-push IsEnum d.enums decl table.enums h;
  structs = λ number other is. let within = slice_get_within d.structs number other is in IsStruct-Grows d _ number other (Grows-enum d decl) (omega arith) (table.structs number other is);
}

-- what is found in a list with one more element
found_in_push : {X : Type 0} (xs : List X) (y : X) (n : ℕ) (x : X) → slice_get (xs ++ y ∷ []) n ≡ Some x → ((n < length xs) × (slice_get xs n ≡ Some x)) ⊎ ((n ≡ length xs) × (y ≡ x))
found_in_push xs y n x is =
    let at : get_or (xs ++ y ∷ []) n x ≡ x = get_or_from_slice_get (xs ++ y ∷ []) n x x is in
    let within = slice_get_within (xs ++ y ∷ []) n x is in
    elim (cases_lt n (length xs)) [
      | inl early ↦ inl (early, slice_get-get_or xs n x early ∙ ap Some (sym (get_or-append xs (y ∷ []) x n early) ∙ at))
      | inr late ↦
          let last : n ≡ length xs = omega (arith, length-append xs (y ∷ [])) in
          inr (last, sym (get_or-append_seam xs y [] x) ∙ ap (λ k. get_or (xs ++ y ∷ []) k x) (sym last) ∙ at)
    ]

-- a table with one more struct
with_struct : (d : Declarations) (name : List ℕ) (fields : List Field) → IsTable d → AreTypes d fields → IsTable (record { enums = d.enums; structs = d.structs ++ struct_of d name fields ∷ [] })
with_struct d name fields table h = record {
  enums = table.enums;
  structs = λ number other is. elim (found_in_push d.structs decl number other is) [
    | inl old ↦ let within = old.0 in IsStruct-Grows d _ number other g (omega arith) (table.structs number other old.1)
    | inr new ↦ let P : ℕ → StructDecl → Type 0 = λ n s. IsStruct (record { enums = d.enums; structs = d.structs ++ decl ∷ [] }) n s in
        subst (λ n. P n other) (sym new.0) (subst (P (length d.structs)) new.1 fresh)
  ];
}
  where
    decl : StructDecl
    decl = struct_of d name fields

    g : Grows d (record { enums = d.enums; structs = d.structs ++ decl ∷ [] })
    g = Grows-struct d decl

    fresh : IsStruct (record { enums = d.enums; structs = d.structs ++ decl ∷ [] }) (length d.structs) decl
    fresh = IsStruct-Grows d _ (length d.structs) decl g (le_refl _) (record { fields = h; width = refl })

-- what a call of `push` leaves
pushed : {A E X : Type 0} (r : Result A E) (P : List X → Type 0) (old new : List X) (x : X) → OnOk r (new ≡ old ++ x ∷ []) → OnErr r (new ≡ old) → P old → P (old ++ x ∷ []) → P new
pushed (Ok _) P old new x ok err before after = subst P (sym ok) after
pushed (Err _) P old new x ok err before after = subst P (sym err) before

pub after_enum : {A E : Type 0} (r : Result A E) (d : Declarations) (new : List EnumDecl) (decl : EnumDecl) → OnOk r (new ≡ d.enums ++ decl ∷ []) → OnErr r (new ≡ d.enums) → IsTable d → IsEnum decl → IsTable (record { enums = new; structs = d.structs })
after_enum r d new decl ok err table h = pushed r (λ enums. IsTable (record { enums = enums; structs = d.structs })) d.enums new decl ok err table (with_enum d decl table h)

pub after_struct : {A E : Type 0} (r : Result A E) (d : Declarations) (new : List StructDecl) (name : List ℕ) (fields : List Field) (w : ℕ) →
    w ≡ min (total_width d fields) 129 → OnOk r (new ≡ d.structs ++ record { name = name; fields = fields; width = w } ∷ []) → OnErr r (new ≡ d.structs) →
    IsTable d → AreTypes d fields → IsTable (record { enums = d.enums; structs = new })
after_struct r d new name fields w same ok err table h =
    pushed r (λ structs. IsTable (record { enums = d.enums; structs = structs })) d.structs new _ ok err table
    (subst (λ v. IsTable (record { enums = d.enums; structs = d.structs ++ record { name = name; fields = fields; width = v } ∷ [] })) (sym same) (with_struct d name fields table h))
