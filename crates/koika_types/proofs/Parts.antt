-- What the loops over the parts of a value cite.
use Rattle.std.proofs.Common.{◌≡◌, ℕ, zero, suc, ◌+◌, ◌<◌, ◌≤◌, List, [], ◌∷◌, ◌++◌, All, map, replicate, take, length, sum_by, get_or, Some, slice_get, refl, ap, sym, subst, ◌∙◌, arith}
use Rattle.std.proofs.lemmas.List.{take_more}
use Rattle.std.proofs.lemmas.List.Elements.{All-head, All-tail}
use Rattle.std.proofs.lemmas.List.Sums.{sum_by-cons, sum_by_more_le}
use Rattle.kw_bits.specs.BitVector.{BitVector}
use Rattle.kw_bits.specs.Operators.{concat}
use Rattle.koika_types.specs.Types.{IsTable, IsType, IsWidth, width}
use Rattle.koika_types.specs.Values.{IsOf, Pairwise, PartIsOf, field_types, packed, stacked, stacked_up}
use Rattle.koika_types.specs.inner.Values.{AreParts, IsValue}
use Rattle.koika_types.specs.declared.ty.Ty.{Ty}
use Rattle.koika_types.specs.declared.ty.Ty.TheVariants as ty
use Rattle.koika_types.specs.declared.declarations.Declarations.{Declarations}
use Rattle.koika_types.specs.declared.value.Value.{Value}
use Rattle.koika_types.specs.declared.value.Value.TheVariants as value
use Rattle.koika_types.specs.declared.value.Value.TheOpen.{Value-F}
use Rattle.koika_types.proofs.Layers.{open-IsOf}
use Rattle.koika_types.proofs.Sizes.{PackedSize, packed-HasSize, parts_of_array, parts_of_struct, sum_by-map}
use Rattle.koika_types.proofs.Stacks.{concat-nothing, nothing-concat, stacked-push, stacked-width, stacked_up-push, stacked_up-width, wide}
use Rattle.koika_types.proofs.Widths.{width-IsWidth}

-- ---- what the parts of a value are

fields-at : (d : Declarations) → IsTable d → (n : ℕ) (vs : List Value) (t : Ty) → IsType d t → PartIsOf d (IsOf d) (Value-F.Fields n vs) t → AreParts vs
fields-at d table n vs (ty.Struct m) valid of =
    let is : slice_get d.structs m ≡ Some of.1.0 = ap (λ k. slice_get d.structs k) (sym of.0) ∙ of.1.1 in
    let parts = parts_of_struct d table m of.1.0 is valid in
    (d, field_types of.1.0, table, parts.0, of.1.2, subst IsWidth (sym parts.1) valid.1)
fields-at d table n vs t valid of = absurd of

items-at : (d : Declarations) → IsTable d → (vs : List Value) (t : Ty) → IsType d t → PartIsOf d (IsOf d) (Value-F.Items vs) t → AreParts vs
items-at d table vs (ty.Array' p item n) valid of =
    let parts = parts_of_array d p item n valid in
    (d, replicate n item, table, parts.0, of, subst IsWidth (sym parts.1) (width-IsWidth d (length d.structs) table (ty.Array' p item n) valid))
items-at d table vs t valid of = absurd of

pub parts_of_fields : (n : ℕ) (vs : List Value) → IsValue (value.Fields n vs) → AreParts vs
parts_of_fields n vs (d, t, table, valid, of) =
    fields-at d table n vs t valid (open-IsOf d (Value-F.Fields n vs) t (subst (λ (v : Value). IsOf d v t) (sym (value.rolls-Fields n vs)) of))

pub parts_of_items : (vs : List Value) → IsValue (value.Items vs) → AreParts vs
parts_of_items vs (d, t, table, valid, of) =
    items-at d table vs t valid (open-IsOf d (Value-F.Items vs) t (subst (λ (v : Value). IsOf d v t) (sym (value.rolls-Items vs)) of))

-- ---- each part, and all together

part-at : (d : Declarations) (vs : List Value) (types : List Ty) (k : ℕ) (x : Value) → All (IsType d) types → Pairwise (IsOf d) vs types → k < length vs →
    (t : Ty) × (IsType d t × IsOf d (get_or vs k x) t)
part-at d [] types k x valid of lt = absurd (omega arith)
part-at d (v ∷ vs) [] k x valid of lt = absurd of
part-at d (v ∷ vs) (t ∷ types) zero x valid of lt = (t, (All-head (IsType d) t types valid, of.0))
part-at d (v ∷ vs) (t ∷ types) (suc k) x valid of lt = part-at d vs types k x (All-tail (IsType d) t types valid) of.1 (omega arith)

pub part-IsValue : (vs : List Value) (k : ℕ) (x : Value) → AreParts vs → k < length vs → IsValue (get_or vs k x)
part-IsValue vs k x (d, types, table, valid, of, fits) lt =
    let at = part-at d vs types k x valid of lt in
    (d, at.0, table, at.1.0, at.1.1)

-- how many bits a value is packed into
abbrev pub packed_width : Value → ℕ
packed_width v = (packed v).width

pub sized : (d : Declarations) → IsTable d → (vs : List Value) (types : List Ty) → All (IsType d) types → Pairwise (IsOf d) vs types → Pairwise (PackedSize d) vs types
sized d table [] [] valid of = tt
sized d table [] (t ∷ types) valid of = absurd of
sized d table (v ∷ vs) [] valid of = absurd of
sized d table (v ∷ vs) (t ∷ types) valid of =
    (packed-HasSize d table v t (All-head (IsType d) t types valid) of.0, sized d table vs types (All-tail (IsType d) t types valid) of.1)

total : (d : Declarations) (vs : List Value) (types : List Ty) → Pairwise (PackedSize d) vs types → sum_by packed_width vs ≡ sum_by (width d) types
total d [] [] h = refl
total d [] (t ∷ types) h = absurd h
total d (v ∷ vs) [] h = absurd h
total d (v ∷ vs) (t ∷ types) h =
    let first : packed_width v ≡ width d t = h.0.0 in
    let rest : sum_by packed_width vs ≡ sum_by (width d) types = total d vs types h.1 in
    omega (arith, first, rest, sum_by-cons packed_width v vs, sum_by-cons (width d) t types)

parts-fit : (vs : List Value) → AreParts vs → IsWidth (sum_by packed_width vs)
parts-fit vs (d, types, table, valid, of, fits) = subst IsWidth (sym (total d vs types (sized d table vs types valid of))) fits

some_of : (vs : List Value) → 1 ≤ sum_by packed_width vs → 0 < length vs
some_of [] h = absurd (omega arith)
some_of (v ∷ vs) h = omega arith

pub parts-some : (vs : List Value) → AreParts vs → 0 < length vs
parts-some vs h = some_of vs (parts-fit vs h).0

room : (vs : List Value) (k : ℕ) (x : Value) → AreParts vs → k < length vs → sum_by packed_width (take k vs) + packed_width (get_or vs k x) ≤ 128
room vs k x h lt =
    let most = (parts-fit vs h).1 in
    omega (arith, sum_by_more_le packed_width vs k x lt)

pub stacked-room : (vs : List Value) (k : ℕ) (x : Value) (b : BitVector) → AreParts vs → k < length vs → b ≡ stacked (map packed (take k vs)) → b.width + (packed (get_or vs k x)).width ≤ 128
stacked-room vs k x b h lt e =
    let sum : b.width ≡ sum_by packed_width (take k vs) = ap wide e ∙ stacked-width (map packed (take k vs)) ∙ sum_by-map wide packed (take k vs) in
    omega (arith, sum, room vs k x h lt)

pub stacked_up-room : (vs : List Value) (k : ℕ) (x : Value) (b : BitVector) → AreParts vs → k < length vs → b ≡ stacked_up (map packed (take k vs)) → (packed (get_or vs k x)).width + b.width ≤ 128
stacked_up-room vs k x b h lt e =
    let sum : b.width ≡ sum_by packed_width (take k vs) = ap wide e ∙ stacked_up-width (map packed (take k vs)) ∙ sum_by-map wide packed (take k vs) in
    omega (arith, sum, room vs k x h lt)

-- ---- one more part

pub map-push : {X Y : Type 0} (f : X → Y) (xs : List X) (x : X) → map f (xs ++ x ∷ []) ≡ map f xs ++ f x ∷ []
map-push f [] x = refl
map-push f (y ∷ ys) x = ap (λ rest. f y ∷ rest) (map-push f ys x)

taken : (vs : List Value) (k : ℕ) (x : Value) → k < length vs → map packed (take (k + 1) vs) ≡ map packed (take k vs) ++ packed (get_or vs k x) ∷ []
taken vs k x lt = ap (map packed) (take_more vs k x lt) ∙ map-push packed (take k vs) (get_or vs k x)

pub stacked-next : (vs : List Value) (k : ℕ) (x : Value) → k < length vs → stacked (map packed (take (k + 1) vs)) ≡ concat (stacked (map packed (take k vs))) (packed (get_or vs k x))
stacked-next vs k x lt = ap stacked (taken vs k x lt) ∙ stacked-push (map packed (take k vs)) (packed (get_or vs k x))

pub stacked_up-next : (vs : List Value) (k : ℕ) (x : Value) → k < length vs → stacked_up (map packed (take (k + 1) vs)) ≡ concat (packed (get_or vs k x)) (stacked_up (map packed (take k vs)))
stacked_up-next vs k x lt = ap stacked_up (taken vs k x lt) ∙ stacked_up-push (map packed (take k vs)) (packed (get_or vs k x))

-- ---- the first part

pub stacked-one : (vs : List Value) (x : Value) → 0 < length vs → stacked (map packed (take 1 vs)) ≡ packed (get_or vs 0 x)
stacked-one vs x lt = stacked-next vs 0 x lt ∙ nothing-concat (packed (get_or vs 0 x))

pub stacked_up-one : (vs : List Value) (x : Value) → 0 < length vs → stacked_up (map packed (take 1 vs)) ≡ packed (get_or vs 0 x)
stacked_up-one vs x lt = stacked_up-next vs 0 x lt ∙ concat-nothing (packed (get_or vs 0 x))
