-- Parts of constructs that are well typed, by what their conditions say: types, members, fields and items.
use Rattle.std.proofs.Common.{◌≡◌, ℕ, suc, ◌<◌, ◌≤◌, Bool, true, false, cond, ◌&&◌, nat_le, nat_lt, List, [], ◌∷◌, length, map, replicate, slice_get, Option, Some, None, arith, refl, ap, ap₂, sym, subst, ◌∙◌}
use Rattle.std.specs.List.{AllByRecursion}
use Rattle.std.specs.Prelude.{is_some}
use Rattle.std.specs.Str.{bytes_eq}
use Rattle.std.proofs.lemmas.Bool.{eqb-true, leb-true, ltb-true}
use Rattle.std.proofs.lemmas.Option.{same_Some}
use Rattle.kw_base.specs.Names.{number_of}
use Rattle.kw_base.specs.declared.fault_number.TheConstants.{WRONG_FIELD, WRONG_TYPE, WRONG_WIDTH}
use Rattle.kw_bits.specs.BitVector.{BitVector}
use Rattle.kw_bits.specs.Laws.{HasWidth}
use Rattle.koika_syntax.specs.declared.tree.Name.{Name}
use Rattle.koika_syntax.specs.declared.tree.Number.{Number}
use Rattle.koika_syntax.specs.declared.tree.Suffix.{Suffix}
use Rattle.koika_syntax.specs.declared.tree.Suffix.TheVariants as suffixes
use Rattle.koika_syntax.specs.declared.tree.TypeExpression.{TypeExpression, TypeExpression-F, map-TypeExpression, out-TypeExpression}
use Rattle.koika_syntax.specs.declared.tree.TypeExpression.TheOpen as type_expression
use Rattle.koika_types.specs.declared.declarations.EnumDecl.{EnumDecl}
use Rattle.koika_types.specs.declared.declarations.Member.{Member}
use Rattle.typed_core.specs.Valid.{IsWidth}
use Rattle.koika_check.specs.Composites.{Given, MemberOf, agrees_if, array_by, array_of, bits_by_place, field_named, fields_by, fields_of, fits_field, member, member_named, members_by, members_of, names_are, struct_of, type_at, type_of_first}
use Rattle.koika_check.specs.Outcomes.{Condition, Gives, CheckResult, earlier, found, holds, smallest, unless, where_all, wrong}
use Rattle.koika_check.specs.Selections.{Items, Selected, as_array, bits_at, field_at, field_if, in_range, index_of, item_at, items_by, replace_field, replace_item, select, select_field, select_slice}
use Rattle.koika_check.specs.Types.{TypedPart, agrees, array, array_type, as_bits, as_struct, base_width, bits, bits_by, differs_by, each, is_bits, is_value, is_width, named_type, of_base, part, same, same_base, same_type, struct_by, type_named, type_of, type_step, width_of, wrong_type}
use Rattle.koika_check.specs.Typing.{IsType, Pairwise, Replaces, Takes, TakesField}
use Rattle.koika_check.specs.declared.checked.Checked.{Checked}
use Rattle.koika_check.specs.declared.checked.CheckedField.{CheckedField}
use Rattle.koika_check.specs.declared.checked.Struct.{Struct}
use Rattle.koika_check.specs.declared.typed.BaseType.{BaseType}
use Rattle.koika_check.specs.declared.typed.BaseType.TheVariants as base
use Rattle.koika_check.specs.declared.typed.ValueType.{ValueType}
use Rattle.koika_check.specs.Kinds.{number_named}
use Rattle.koika_check.specs.declared.things.Kind.TheVariants as kind
use Rattle.koika_check.proofs.Answering.{bind-gives, found-some}
use Rattle.koika_check.proofs.Positions.{same-is}
use Rattle.koika_check.proofs.Telling.{holds-true, smaller-both}
use Rattle.koika_check.proofs.TypeParts.{type-parts}
use Rattle.koika_check.proofs.TypedSoFar.{IsEnumSoFar, IsTypedSoFar, all-at, base-type, bits-type, lookup}

-- ---- outcomes and conditions

pub gives-same : {X : Type 0} (a b : X) → ◌≡◌ {A = CheckResult X} (Gives a) (Gives b) → a ≡ b
gives-same a b e = cc

pub unless-gives : {X : Type 0} (c : Condition) (value v : X) → unless c value ≡ Gives v → (c ≡ None) × (value ≡ v)
unless-gives None value v e = (refl, gives-same value v e)
unless-gives (Some f) value v e = absurd cc

all-none : (cs : List Condition) → smallest cs ≡ None → AllByRecursion (λ (c : Condition). c ≡ None) cs
all-none [] e = tt
all-none (c ∷ cs) e = let both = smaller-both c (smallest cs) e in (both.0, all-none cs both.1)

-- a construct that gives something gives its value, and its conditions hold
pub where-all : {X : Type 0} (cs : List Condition) (value v : X) → where_all cs value ≡ Gives v → (value ≡ v) × AllByRecursion (λ (c : Condition). c ≡ None) cs
where-all cs value v e = let both = unless-gives (smallest cs) value v e in (both.1, all-none cs both.0)

pub earlier-both : (a b : Condition) → earlier a b ≡ None → (a ≡ None) × (b ≡ None)
earlier-both None b e = (refl, e)
earlier-both (Some f) b e = absurd cc

-- each of the conditions holds
pub each-none : {X : Type 0} (look : X → Condition) (xs : List X) → each look xs ≡ None → AllByRecursion (λ x. look x ≡ None) xs
each-none look [] e = tt
each-none look (x ∷ xs) e = let both = earlier-both (look x) (each look xs) e in (both.0, each-none look xs both.1)

pub both-true : (a b : Bool) → (a && b) ≡ true → (a ≡ true) × (b ≡ true)
both-true true b e = (refl, e)
both-true false b e = absurd cc

pub is-width : (w : ℕ) → is_width w ≡ true → IsWidth w
is-width w e = (grind arith, grind arith)

-- ---- types

same-base : (a b : BaseType) → same_base a b ≡ true → a ≡ b
same-base (base.Bits w) (base.Bits v) e = ap base.Bits (eqb-true w v e)
same-base (base.Bits w) (base.Enum v) e = absurd cc
same-base (base.Bits w) (base.Struct v) e = absurd cc
same-base (base.Enum w) (base.Bits v) e = absurd cc
same-base (base.Enum w) (base.Enum v) e = ap base.Enum (eqb-true w v e)
same-base (base.Enum w) (base.Struct v) e = absurd cc
same-base (base.Struct w) (base.Bits v) e = absurd cc
same-base (base.Struct w) (base.Enum v) e = absurd cc
same-base (base.Struct w) (base.Struct v) e = ap base.Struct (eqb-true w v e)

type_with : BaseType → List ℕ → ValueType
type_with b lengths = record { base = b; lengths = lengths }

same-type : (a b : ValueType) → same_type a b ≡ true → a ≡ b
unfolding type_with
same-type a b e =
    let both = both-true (same_base a.base b.base) (bytes_eq a.lengths b.lengths) e in
    ap₂ type_with (same-base a.base b.base both.0) (same-is a.lengths b.lengths both.1)

-- types that the checker finds the same are equal
pub same-of : (a b : Option ValueType) → same a b ≡ true → a ≡ b
same-of None None e = refl
same-of None (Some b) e = absurd cc
same-of (Some a) None e = absurd cc
same-of (Some a) (Some b) e = ap Some (same-type a b e)

-- a part that agrees with a type is of it
pub agrees-is : (wanted : Option ValueType) (p : TypedPart) → agrees wanted p ≡ None → p.of ≡ wanted
agrees-is wanted p e = sym (same-of wanted p.of (holds-true (same wanted p.of) (wrong (differs_by (as_bits wanted) (as_bits p.of)) p.place) e))

bits-by : (b : BaseType) (lengths : List ℕ) (w : ℕ) → bits_by b lengths ≡ Some w → type_with b lengths ≡ bits w
unfolding type_with
bits-by (base.Bits v) [] w e = ap bits (same_Some v w e)
bits-by (base.Bits v) (l ∷ lengths) w e = absurd cc
bits-by (base.Enum v) [] w e = absurd cc
bits-by (base.Enum v) (l ∷ lengths) w e = absurd cc
bits-by (base.Struct v) [] w e = absurd cc
bits-by (base.Struct v) (l ∷ lengths) w e = absurd cc

-- a type that is bits, a struct or an array
pub as-bits : (of : Option ValueType) (w : ℕ) → as_bits of ≡ Some w → of ≡ Some (bits w)
unfolding type_with
as-bits None w e = absurd cc
as-bits (Some t) w e = ap Some (bits-by t.base t.lengths w e)

struct-by : (b : BaseType) (lengths : List ℕ) (n : ℕ) → struct_by b lengths ≡ Some n → type_with b lengths ≡ of_base (base.Struct n)
unfolding type_with
struct-by (base.Bits v) [] n e = absurd cc
struct-by (base.Bits v) (l ∷ lengths) n e = absurd cc
struct-by (base.Enum v) [] n e = absurd cc
struct-by (base.Enum v) (l ∷ lengths) n e = absurd cc
struct-by (base.Struct v) [] n e = ap (λ k. of_base (base.Struct k)) (same_Some v n e)
struct-by (base.Struct v) (l ∷ lengths) n e = absurd cc

pub as-struct : (of : Option ValueType) (n : ℕ) → as_struct of ≡ Some n → of ≡ Some (of_base (base.Struct n))
unfolding type_with
as-struct None n e = absurd cc
as-struct (Some t) n e = ap Some (struct-by t.base t.lengths n e)

items-by : (t : ValueType) (lengths : List ℕ) (items : Items) → t.lengths ≡ lengths → items_by t lengths ≡ Some items → t ≡ array items.length items.of
unfolding type_with
items-by t [] items same e = absurd cc
items-by t (l ∷ lengths) items same e =
    ap (type_with t.base) same ∙ ap (λ (i : Items). array i.length i.of) (same_Some (record { length = l; of = type_with t.base lengths }) items e)

pub as-array : (of : Option ValueType) (items : Items) → as_array of ≡ Some items → of ≡ Some (array items.length items.of)
as-array None items e = absurd cc
as-array (Some t) items e = ap Some (items-by t t.lengths items refl e)

-- a part that is bits has a width
pub is-bits : (p : TypedPart) → is_bits p ≡ None → (w : ℕ) × (p.of ≡ Some (bits w))
is-bits p e = by_width (as_bits p.of) refl (holds-true (is_some (as_bits p.of)) (wrong_type p) e)
  where
    by_width : (o : Option ℕ) → as_bits p.of ≡ o → is_some o ≡ true → (w : ℕ) × (p.of ≡ Some (bits w))
    by_width None o e = absurd cc
    by_width (Some w) o e = (w, as-bits p.of w o)

pub is-value : (p : TypedPart) → is_value p ≡ None → (t : ValueType) × (p.of ≡ Some t)
is-value p e = by_type p.of refl (holds-true (is_some p.of) (wrong_type p) e)
  where
    by_type : (o : Option ValueType) → p.of ≡ o → is_some o ≡ true → (t : ValueType) × (p.of ≡ Some t)
    by_type None o e = absurd cc
    by_type (Some t) o e = (t, o)

-- ---- written types

pub named-type : (d : Checked) (n : Name) (t : ValueType) → named_type d n ≡ Gives t → IsType d t
named-type d n t e =
    let b = bind-gives (found (type_named d n.text) _) _ t e in
    let all = where-all (holds (is_width (base_width d b.0)) (wrong WRONG_WIDTH n.place) ∷ []) (of_base b.0) t b.2 in
    subst (IsType d) all.0 (base-type d b.0 (is-width (base_width d b.0) (holds-true (is_width (base_width d b.0)) (wrong WRONG_WIDTH n.place) all.1.0)))

-- what a written type comes to is a type of values
step_valid : (d : Checked) (written : TypeExpression-F (CheckResult ValueType)) (t : ValueType) → type_step d written ≡ Gives t → IsType d t
step_valid d (type_expression.Bits width) t e =
    let all = where-all (holds (is_width width.number.value) (wrong WRONG_WIDTH width.place) ∷ []) (bits width.number.value) t e in
    subst (IsType d) all.0 (bits-type d width.number.value (is-width width.number.value (holds-true (is_width width.number.value) (wrong WRONG_WIDTH width.place) all.1.0)))
step_valid d (type_expression.Named n) t e = named-type d n t e
step_valid d (type_expression.Array place element length) t e =
    let item = bind-gives element (array_type d length.value place) t e in
    let whole = array length.value item.0 in
    let all = where-all (holds (is_width length.value && is_width (width_of d whole)) (wrong WRONG_WIDTH place) ∷ []) whole t item.2 in
    subst (IsType d) all.0 (is-width (width_of d whole) (both-true (is_width length.value) (is_width (width_of d whole)) (holds-true (is_width length.value && is_width (width_of d whole)) (wrong WRONG_WIDTH place) all.1.0)).1)

pub type-valid : (d : Checked) (written : TypeExpression) (t : ValueType) → type_of d written ≡ Gives t → IsType d t
type-valid d written t e = step_valid d (map-TypeExpression TypeExpression (CheckResult ValueType) (type_of d) (out-TypeExpression written)) t (sym (type-parts d written) ∙ e)

-- ---- members

bits-placed : (members : List Member) (place : Option ℕ) (b : BitVector) → bits_by_place members place ≡ Some b → (k : ℕ) × (m : Member) × (slice_get members k ≡ Some m) × (m.bits ≡ b)
bits-placed members None b e = absurd cc
bits-placed members (Some k) b e = by_member (slice_get members k) refl
  where
    by_member : (o : Option Member) → slice_get members k ≡ o → (k : ℕ) × (m : Member) × (slice_get members k ≡ Some m) × (m.bits ≡ b)
    by_member None o = let none : bits_by_place members (Some k) ≡ None = rw o refl in absurd cc
    by_member (Some m) o = let some : bits_by_place members (Some k) ≡ Some m.bits = rw o refl in (k, m, o, same_Some m.bits b (sym some ∙ e))

-- a member's bits have its enum's width
pub member-known : (d : Checked) → IsTypedSoFar d → (of m : Name) (x : MemberOf) → member d of m ≡ Gives x → HasWidth x.bits (base_width d (base.Enum x.number)) × IsWidth (base_width d (base.Enum x.number))
member-known d h of m x e =
    let number = bind-gives (found (number_named kind.Enum d of.text) _) _ x e in
    let bits = bind-gives (found (member_named (members_of d number.0) m.text) (wrong WRONG_FIELD m.place)) _ x number.2 in
    let it : MemberOf = record { number = number.0; bits = bits.0 } in
    subst (λ (y : MemberOf). HasWidth y.bits (base_width d (base.Enum y.number)) × IsWidth (base_width d (base.Enum y.number))) (gives-same it x bits.2)
    (by_enum number.0 bits.0 (slice_get d.enums number.0) refl (found-some (member_named (members_of d number.0) m.text) (wrong WRONG_FIELD m.place) bits.0 bits.1))
  where
    by_enum : (number : ℕ) (b : BitVector) (o : Option EnumDecl) → slice_get d.enums number ≡ o → member_named (members_by (slice_get d.enums number)) m.text ≡ Some b →
        HasWidth b (base_width d (base.Enum number)) × IsWidth (base_width d (base.Enum number))
    by_enum number b None o e =
        let none = bits-placed [] (number_of [] m.text) b (ap (λ (ms : Option EnumDecl). member_named (members_by ms) m.text) (sym o) ∙ e) in
        absurd cc
    by_enum number b (Some x) o e =
        let at = bits-placed x.members (number_of (map (λ (m : Member). m.name) x.members) m.text) b (ap (λ (ms : Option EnumDecl). member_named (members_by ms) m.text) (sym o) ∙ e) in
        let fine : IsEnumSoFar x = all-at IsEnumSoFar d.enums number x h.enums o in
        let wide : base_width d (base.Enum number) ≡ x.width = lookup (λ (y : EnumDecl). y.width) d.enums number x o in
        (subst (HasWidth b) (sym wide) (subst (λ c. HasWidth c x.width) at.3 (all-at (λ (m : Member). HasWidth m.bits x.width) x.members at.0 at.1 fine.1 at.2)), subst IsWidth (sym wide) fine.0)

-- ---- parts of values

field-placed : (fields : List CheckedField) (k : ℕ) (t : ValueType) → type_at fields (Some k) ≡ Some t → (f : CheckedField) × (slice_get fields k ≡ Some f) × (f.of ≡ t)
field-placed fields k t e = by_field (slice_get fields k) refl
  where
    by_field : (o : Option CheckedField) → slice_get fields k ≡ o → (f : CheckedField) × (slice_get fields k ≡ Some f) × (f.of ≡ t)
    by_field None o = let none : type_at fields (Some k) ≡ None = rw o refl in absurd cc
    by_field (Some f) o = let some : type_at fields (Some k) ≡ Some f.of = rw o refl in (f, o, same_Some f.of t (sym some ∙ e))

pub type-at : (fields : List CheckedField) (k : ℕ) (f : CheckedField) → slice_get fields k ≡ Some f → type_at fields (Some k) ≡ Some f.of
type-at fields k f e = rw e refl

-- what is taken of a part that has a type, and whether it can be replaced
abbrev pub TakesOf : Checked → TypedPart → Selected → Type 0
TakesOf d whole one = (t : ValueType) × (whole.of ≡ Some t) × Takes d one.selection t one.of

abbrev pub ReplacesOf : Checked → TypedPart → Selected → Type 0
ReplacesOf d whole one = (t : ValueType) × (whole.of ≡ Some t) × Replaces d one.selection t one.of

-- a field, both ways
field_both : (d : Checked) (whole : TypedPart) (s : ℕ) (o : Option ℕ) (t : Option ValueType) (one : Selected) → whole.of ≡ Some (of_base (base.Struct s)) → type_at (fields_of d s) o ≡ t → field_if d (fields_of d s) o t ≡ Some one →
    TakesOf d whole one × ReplacesOf d whole one
field_both d whole s None t one is at e = absurd cc
field_both d whole s (Some k) None one is at e = absurd cc
field_both d whole s (Some k) (Some t) one is at e =
    let f = field-placed (fields_of d s) k t at in
    let it : Selected = field_at d (fields_of d s) k t in
    let takes : TakesField d k _ (width_of d t) (of_base (base.Struct s)) t = (s, f.0, refl, f.1, sym f.2, refl, ap (width_of d) (sym f.2)) in
    subst (λ (x : Selected). TakesOf d whole x × ReplacesOf d whole x) (same_Some it one e) ((of_base (base.Struct s), is, takes), (of_base (base.Struct s), is, takes))

-- a field that is selected can be taken and replaced
pub field-selected : (d : Checked) (whole : TypedPart) (n : Name) (one : Selected) → select_field d whole n ≡ Gives one → TakesOf d whole one × ReplacesOf d whole one
field-selected d whole n one e =
    let s = bind-gives (found (as_struct whole.of) (wrong_type whole)) _ one e in
    let o = field_named (fields_of d s.0) n.text in
    field_both d whole s.0 o (type_at (fields_of d s.0) o) one (as-struct whole.of s.0 (found-some (as_struct whole.of) (wrong_type whole) s.0 s.1)) refl
    (found-some (field_if d (fields_of d s.0) o (type_at (fields_of d s.0) o)) (wrong WRONG_FIELD n.place) one s.2)

-- an item
item_both : (d : Checked) (whole : TypedPart) (i : Number) (items : Items) → whole.of ≡ Some (array items.length items.of) → in_range i items.length ≡ None →
    TakesOf d whole (item_at d i.value items.of) × ReplacesOf d whole (item_at d i.value items.of)
item_both d whole i items is e =
    let t = array items.length items.of in
    let lt = ltb-true i.value items.length (holds-true (nat_lt i.value items.length) (wrong WRONG_WIDTH i.place) e) in
    ((t, is, (items.length, refl, lt, refl)), (t, is, (items.length, refl, lt, refl)))

bits_taken : (d : Checked) (whole : TypedPart) (w high low : ℕ) → whole.of ≡ Some (bits w) → low ≤ high → high < w → TakesOf d whole (bits_at high low)
bits_taken d whole w high low is le lt = (bits w, is, (w, refl, le, lt, refl))

index_taken : (d : Checked) (whole : TypedPart) (i : Number) (items : Option Items) (w : Option ℕ) (one : Selected) → as_array whole.of ≡ items → as_bits whole.of ≡ w → index_of d whole i items w ≡ Gives one → TakesOf d whole one
index_taken d whole i (Some items) w one ai bi e =
    let all = where-all (in_range i items.length ∷ []) (item_at d i.value items.of) one e in
    subst (TakesOf d whole) all.0 (item_both d whole i items (as-array whole.of items ai) all.1.0).0
index_taken d whole i None (Some w) one ai bi e =
    let all = where-all (in_range i w ∷ []) (bits_at i.value i.value) one e in
    subst (TakesOf d whole) all.0 (bits_taken d whole w i.value i.value (as-bits whole.of w bi) (omega arith) (ltb-true i.value w (holds-true (nat_lt i.value w) (wrong WRONG_WIDTH i.place) all.1.0)))
index_taken d whole i None None one ai bi e = absurd cc

slice_taken : (d : Checked) (whole : TypedPart) (high low : Number) (one : Selected) → select_slice whole high low ≡ Gives one → TakesOf d whole one
slice_taken d whole high low one e =
    let w = bind-gives (found (as_bits whole.of) (wrong_type whole)) _ one e in
    let all = where-all (holds (nat_le low.value high.value && nat_lt high.value w.0) (wrong WRONG_WIDTH high.place) ∷ []) (bits_at high.value low.value) one w.2 in
    let both = both-true (nat_le low.value high.value) (nat_lt high.value w.0) (holds-true (nat_le low.value high.value && nat_lt high.value w.0) (wrong WRONG_WIDTH high.place) all.1.0) in
    subst (TakesOf d whole) all.0
    (bits_taken d whole w.0 high.value low.value (as-bits whole.of w.0 (found-some (as_bits whole.of) (wrong_type whole) w.0 w.1)) (leb-true low.value high.value both.0) (ltb-true high.value w.0 both.1))

-- what a suffix selects can be taken
pub selected : (d : Checked) (whole : TypedPart) (s : Suffix) (one : Selected) → select d whole s ≡ Gives one → TakesOf d whole one
selected d whole (suffixes.Field n) one e = (field-selected d whole n one e).0
selected d whole (suffixes.Index i) one e = index_taken d whole i (as_array whole.of) (as_bits whole.of) one refl refl e
selected d whole (suffixes.Slice high low) one e = slice_taken d whole high low one e

-- a part that is replaced, by one of its type
pub field-replaced : (d : Checked) (whole : TypedPart) (n : Name) (new : TypedPart) (one : Selected) → replace_field d whole n new ≡ Gives one → ReplacesOf d whole one × (new.of ≡ Some one.of)
field-replaced d whole n new one e =
    let f = bind-gives (select_field d whole n) _ one e in
    let all = where-all (agrees (Some f.0.of) new ∷ []) f.0 one f.2 in
    subst (λ (x : Selected). ReplacesOf d whole x × (new.of ≡ Some x.of)) all.0 ((field-selected d whole n f.0 f.1).1, agrees-is (Some f.0.of) new all.1.0)

pub item-replaced : (d : Checked) (whole : TypedPart) (i : Number) (new : TypedPart) (one : Selected) → replace_item d whole i new ≡ Gives one → ReplacesOf d whole one × (new.of ≡ Some one.of)
item-replaced d whole i new one e =
    let items = bind-gives (found (as_array whole.of) (wrong_type whole)) _ one e in
    let it : Selected = item_at d i.value items.0.of in
    let all = where-all (in_range i items.0.length ∷ agrees (Some items.0.of) new ∷ []) it one items.2 in
    subst (λ (x : Selected). ReplacesOf d whole x × (new.of ≡ Some x.of)) all.0
    ((item_both d whole i items.0 (as-array whole.of items.0 (found-some (as_array whole.of) (wrong_type whole) items.0 items.1)) all.1.0).1, agrees-is (Some items.0.of) new all.1.1.0)

-- ---- parts of known types

-- the parts are of these types, one by one
abbrev pub PartsAre : List TypedPart → List ValueType → Type 0
PartsAre = Pairwise (λ (p : TypedPart) (t : ValueType). p.of ≡ Some t)

agree_all : (of : ValueType) (parts : List TypedPart) → AllByRecursion (λ p. agrees (Some of) p ≡ None) parts → PartsAre parts (replicate (length parts) of)
agree_all of [] h = tt
agree_all of (p ∷ parts) h = (agrees-is (Some of) p h.0, agree_all of parts h.1)

array_parts : (d : Checked) (place : ℕ) (item : Option ValueType) (parts : List TypedPart) (whole : TypedPart) → array_by d place item parts ≡ Gives whole →
    (t : ValueType) × PartsAre parts (replicate (length parts) t) × IsType d (array (length parts) t) × (whole.of ≡ Some (array (length parts) t))
array_parts d place None parts whole e =
    let all = where-all (each is_value parts ∷ Some (wrong WRONG_TYPE place) ∷ []) (part None place) whole e in
    let none = all.1.1.0 in
    absurd cc
array_parts d place (Some item) parts whole e =
    let t = array (length parts) item in
    let all = where-all (each is_value parts ∷ each (agrees (Some item)) parts ∷ holds (is_width (width_of d t)) (wrong WRONG_WIDTH place) ∷ []) (part (Some t) place) whole e in
    (item, agree_all item parts (each-none (agrees (Some item)) parts all.1.1.0), is-width (width_of d t) (holds-true (is_width (width_of d t)) (wrong WRONG_WIDTH place) all.1.1.1.0), sym (ap (λ (p : TypedPart). p.of) all.0))

-- items of one type make an array
pub array-known : (d : Checked) (place : ℕ) (parts : List TypedPart) (whole : TypedPart) → array_of d place parts ≡ Gives whole →
    (t : ValueType) × PartsAre parts (replicate (length parts) t) × IsType d (array (length parts) t) × (whole.of ≡ Some (array (length parts) t))
array-known d place parts whole e = array_parts d place (type_of_first parts) parts whole e

-- the fields of a struct are found by their names
found_by_name : (fields : List CheckedField) → ((i : ℕ) (f : CheckedField) → slice_get fields i ≡ Some f → field_named fields f.name ≡ Some i) → (i : ℕ) (f : CheckedField) → slice_get fields i ≡ Some f → type_at fields (field_named fields f.name) ≡ Some f.of
found_by_name fields distinct i f e = ap (type_at fields) (distinct i f e) ∙ type-at fields i f e

all_found : (P : CheckedField → Type 0) (fields : List CheckedField) → ((i : ℕ) (f : CheckedField) → slice_get fields i ≡ Some f → P f) → AllByRecursion P fields
all_found P [] h = tt
all_found P (f ∷ fields) h = (h 0 f refl, all_found P fields (λ i g e. h (suc i) g e))

fields_fit : (fields next : List CheckedField) (given : List Given) (close : ℕ) → AllByRecursion (λ (f : CheckedField). type_at fields (field_named fields f.name) ≡ Some f.of) next → names_are next given close ≡ None →
    AllByRecursion (λ g. fits_field fields g ≡ None) given → PartsAre (map (λ (g : Given). g.part) given) (map (λ (f : CheckedField). f.of) next)
fields_fit fields [] [] close known names fit = tt
fields_fit fields [] (g ∷ given) close known names fit = absurd cc
fields_fit fields (f ∷ next) [] close known names fit = absurd cc
fields_fit fields (f ∷ next) (g ∷ given) close known names fit = by_name (bytes_eq f.name g.name.text) refl names (fields_fit fields next given close known.1)
  where
    by_name : (b : Bool) → bytes_eq f.name g.name.text ≡ b → cond b (names_are next given close) (Some (wrong WRONG_FIELD g.name.place)) ≡ None →
        (names_are next given close ≡ None → AllByRecursion (λ g. fits_field fields g ≡ None) given → PartsAre (map (λ (g : Given). g.part) given) (map (λ (f : CheckedField). f.of) next)) →
        PartsAre (map (λ (g : Given). g.part) (g ∷ given)) (map (λ (f : CheckedField). f.of) (f ∷ next))
    by_name false b e rest = absurd cc
    by_name true b e rest =
        let at : type_at fields (field_named fields g.name.text) ≡ Some f.of = ap (λ name. type_at fields (field_named fields name)) (sym (same-is f.name g.name.text b)) ∙ known.0 in
        (agrees-is (Some f.of) g.part (ap (λ o. agrees_if o g.part) (sym at) ∙ fit.0), rest e fit.1)

-- fields of their types make a struct
pub struct-known : (d : Checked) → IsTypedSoFar d → (number place : ℕ) (given : List Given) (close : ℕ) (whole : TypedPart) → struct_of d number place given close ≡ Gives whole →
    PartsAre (map (λ (g : Given). g.part) given) (map (λ (f : CheckedField). f.of) (fields_of d number)) × IsType d (of_base (base.Struct number)) × (whole.of ≡ Some (of_base (base.Struct number)))
struct-known d h number place given close whole e =
    let fields = fields_of d number in
    let all = where-all (names_are fields given close ∷ each (fits_field fields) given ∷ holds (is_width (base_width d (base.Struct number))) (wrong WRONG_WIDTH place) ∷ []) (part (Some (of_base (base.Struct number))) place) whole e in
    let known = all_found (λ (f : CheckedField). type_at fields (field_named fields f.name) ≡ Some f.of) fields (found_by_name fields (distinct (slice_get d.structs number) refl)) in (
      fields_fit fields fields given close known all.1.0 (each-none (fits_field fields) given all.1.1.0),
      base-type d (base.Struct number) (is-width (base_width d (base.Struct number)) (holds-true (is_width (base_width d (base.Struct number))) (wrong WRONG_WIDTH place) all.1.1.1.0)),
      sym (ap (λ (p : TypedPart). p.of) all.0),
    )
  where
    distinct : (o : Option Struct) → slice_get d.structs number ≡ o → (i : ℕ) (f : CheckedField) → slice_get (fields_of d number) i ≡ Some f → field_named (fields_of d number) f.name ≡ Some i
    distinct None o = subst (λ (fields : List CheckedField). (i : ℕ) (f : CheckedField) → slice_get fields i ≡ Some f → field_named fields f.name ≡ Some i) (sym (ap fields_by o)) (λ i f e. absurd cc)
    distinct (Some s) o = subst (λ (fields : List CheckedField). (i : ℕ) (f : CheckedField) → slice_get fields i ≡ Some f → field_named fields f.name ≡ Some i) (sym (ap fields_by o)) (h.structs number s o).1
