-- What constants of the grammar come to is of its type.
use Rattle.std.proofs.Common.{◌≡◌, ℕ, List, [], ◌∷◌, length, map, replicate, Some, refl, ap, sym, subst, ◌∙◌}
use Rattle.std.specs.List.{AllByRecursion}
use Rattle.std.proofs.lemmas.List.{length-map}
use Rattle.std.proofs.lemmas.Option.{same_Some}
use Rattle.kw_base.specs.declared.fault_number.TheConstants.{UNKNOWN_NAME}
use Rattle.koika_syntax.specs.Grammar.{IsConstant, IsConstantFieldLayer, IsConstantLayer}
use Rattle.koika_syntax.specs.declared.tree.Constant.{Constant, Constant-F, map-Constant, roll-Constant, every_held-Constant, every_here-Constant, out-roll-Constant, fold-roll-Constant, ind-Constant}
use Rattle.koika_syntax.specs.declared.tree.ConstantField.{ConstantField, ConstantField-F, map-ConstantField, roll-ConstantField, every_held-ConstantField, out-roll-ConstantField, fold-roll-ConstantField}
use Rattle.koika_syntax.specs.declared.tree.Constant.TheOpen as constant
use Rattle.koika_types.specs.declared.value.Value.TheOpen.{Value-F}
use Rattle.koika_types.specs.declared.value.Value.TheVariants as value
use Rattle.koika_check.specs.Composites.{Given, array_of, fields_of, member, struct_of}
use Rattle.koika_check.specs.Constants.{FieldMeaning, Known, KnownField, ConstantMeaning, array_known, constant_field_step, constant_of, constant_step, given, known_member, struct_known}
use Rattle.koika_check.specs.inner.Constants.{constant_field_of}
use Rattle.koika_check.specs.Outcomes.{Gives, ◌>>=◌, found, in_turn, wrong}
use Rattle.koika_check.specs.Types.{array, bits, of_base, part}
use Rattle.koika_check.specs.Typing.{IsOf, IsType, Pairwise}
use Rattle.koika_check.specs.declared.checked.Checked.{Checked}
use Rattle.koika_check.specs.declared.checked.CheckedField.{CheckedField}
use Rattle.koika_check.specs.declared.typed.BaseType.TheVariants as base
use Rattle.koika_check.specs.declared.typed.ValueType.{ValueType}
use Rattle.koika_check.specs.Kinds.{number_named}
use Rattle.koika_check.specs.declared.things.Kind.TheVariants as kind
use Rattle.koika_check.proofs.Answering.{bind-gives}
use Rattle.koika_syntax.proofs.TreeParts.{Such, EachOfConstant, IsConstantField, each_of_constant}
use Rattle.koika_check.proofs.TypedComposites.{turn-all}
use Rattle.koika_check.proofs.TypedParts.{PartsAre, array-known, gives-same, member-known, struct-known}
use Rattle.koika_check.proofs.TypedSoFar.{IsTypedSoFar, base-type, bits-type}
use Rattle.koika_check.proofs.TypingLayers.{close-IsOf}

-- a constant that is of its type
abbrev pub IsKnown : Checked → Known → Type 0
IsKnown d k = (t : ValueType) × (k.part.of ≡ Some t) × IsOf d k.value t × IsType d t

abbrev Sound : ConstantMeaning → Type 0
Sound m = (d : Checked) → IsTypedSoFar d → (k : Known) → m d ≡ Gives k → IsKnown d k

abbrev SoundField : FieldMeaning → Type 0
SoundField m = (d : Checked) → IsTypedSoFar d → (f : KnownField) → m d ≡ Gives f → IsKnown d f.known

-- ---- values of known types

known_at : (d : Checked) (k : Known) (t : ValueType) → IsKnown d k → k.part.of ≡ Some t → IsOf d k.value t
known_at d k t known is = subst (IsOf d k.value) (same_Some known.0 t (sym known.1 ∙ is)) known.2

items_known : (d : Checked) (known : List Known) (types : List ValueType) → AllByRecursion (IsKnown d) known → PartsAre (map (λ (k : Known). k.part) known) types → Pairwise (IsOf d) (map (λ (k : Known). k.value) known) types
items_known d [] [] h are = tt
items_known d [] (t ∷ types) h are = absurd are
items_known d (k ∷ known) [] h are = absurd are
items_known d (k ∷ known) (t ∷ types) h are = (known_at d k t h.0 are.0, items_known d known types h.1 are.1)

fields_known : (d : Checked) (known : List KnownField) (types : List ValueType) → AllByRecursion (λ (f : KnownField). IsKnown d f.known) known → PartsAre (map (λ (g : Given). g.part) (map given known)) types →
    Pairwise (IsOf d) (map (λ (f : KnownField). f.known.value) known) types
fields_known d [] [] h are = tt
fields_known d [] (t ∷ types) h are = absurd are
fields_known d (f ∷ known) [] h are = absurd are
fields_known d (f ∷ known) (t ∷ types) h are = (known_at d f.known t h.0 are.0, fields_known d known types h.1 are.1)

array_sound : (d : Checked) (place : ℕ) (known : List Known) (k : Known) → AllByRecursion (IsKnown d) known → array_known d place known ≡ Gives k → IsKnown d k
array_sound d place known k h e =
    let parts = map (λ (k : Known). k.part) known in
    let vs = map (λ (k : Known). k.value) known in
    let whole = bind-gives (array_of d place parts) _ k e in
    let it = array-known d place parts whole.0 whole.1 in
    let t = array (length parts) it.0 in
    let count : length parts ≡ length vs = length-map known (λ (k : Known). k.part) ∙ sym (length-map known (λ (k : Known). k.value)) in
    let made : Known = record { part = whole.0; value = value.Items vs } in
    subst (IsKnown d) (gives-same made k whole.2) (
      t,
      it.3,
      close-IsOf d (value.Items vs) (Value-F.Items vs) (value.rolls-Items vs) t
          (it.0, ap (λ n. array n it.0) count, subst (λ n. Pairwise (IsOf d) vs (replicate n it.0)) count (items_known d known (replicate (length parts) it.0) h it.1)),
      it.2,
    )

struct_sound : (d : Checked) → IsTypedSoFar d → (number place close : ℕ) (known : List KnownField) (k : Known) → AllByRecursion (λ (f : KnownField). IsKnown d f.known) known →
    struct_known d number place close known ≡ Gives k → IsKnown d k
struct_sound d good number place close known k h e =
    let vs = map (λ (f : KnownField). f.known.value) known in
    let whole = bind-gives (struct_of d number place (map given known) close) _ k e in
    let it = struct-known d good number place (map given known) close whole.0 whole.1 in
    let t = of_base (base.Struct number) in
    let made : Known = record { part = whole.0; value = value.Fields number vs } in
    subst (IsKnown d) (gives-same made k whole.2)
    (t, it.2, close-IsOf d (value.Fields number vs) (Value-F.Fields number vs) (value.rolls-Fields number vs) t (refl, fields_known d known (map (λ (f : CheckedField). f.of) (fields_of d number)) h it.0), it.1)

-- ---- the cycle

abbrev Fine : Constant → Type 0
Fine t = IsConstant t → Sound (constant_of t)

abbrev FineField : ConstantField → Type 0
FineField t = IsConstantField t → SoundField (constant_field_of t)

-- what all elements, and all fields, give
elements_give : (xs : List Constant) (d : Checked) (ks : List Known) → IsTypedSoFar d → AllByRecursion IsConstant xs → AllByRecursion Fine xs → in_turn (λ (m : ConstantMeaning). m d) (map constant_of xs) ≡ Gives ks → AllByRecursion (IsKnown d) ks
elements_give xs d ks good is fine e = turn-all (IsKnown d) (λ (m : ConstantMeaning). m d) (map constant_of xs) ks (all_sound xs is fine) e
  where
    all_sound : (xs : List Constant) → AllByRecursion IsConstant xs → AllByRecursion Fine xs → AllByRecursion (λ (m : ConstantMeaning). (k : Known) → m d ≡ Gives k → IsKnown d k) (map constant_of xs)
    all_sound [] is fine = tt
    all_sound (x ∷ xs) is fine = (fine.0 is.0 d good, all_sound xs is.1 fine.1)

fields_give : (xs : List ConstantField) (d : Checked) (ks : List KnownField) → IsTypedSoFar d → AllByRecursion IsConstantField xs → AllByRecursion FineField xs → in_turn (λ (m : FieldMeaning). m d) (map constant_field_of xs) ≡ Gives ks →
    AllByRecursion (λ (f : KnownField). IsKnown d f.known) ks
fields_give xs d ks good is fine e = turn-all (λ (f : KnownField). IsKnown d f.known) (λ (m : FieldMeaning). m d) (map constant_field_of xs) ks (all_sound xs is fine) e
  where
    all_sound : (xs : List ConstantField) → AllByRecursion IsConstantField xs → AllByRecursion FineField xs → AllByRecursion (λ (m : FieldMeaning). (f : KnownField) → m d ≡ Gives f → IsKnown d f.known) (map constant_field_of xs)
    all_sound [] is fine = tt
    all_sound (x ∷ xs) is fine = (fine.0 is.0 d good, all_sound xs is.1 fine.1)

constant_sound : (x : Constant-F Constant ConstantField) → IsConstantLayer x → EachOfConstant IsConstant IsConstantField x → EachOfConstant Fine FineField x →
    Sound (constant_step (map-Constant Constant ConstantField ConstantMeaning FieldMeaning constant_of constant_field_of x))
constant_sound (constant.Literal l) here is fine d good k e =
    let t = bits l.bits.width in
    let made : Known = record { part = part (Some t) l.place; value = value.Number l.bits } in
    subst (IsKnown d) (gives-same made k e)
    (t, refl, close-IsOf d (value.Number l.bits) (Value-F.Number l.bits) (value.rolls-Number l.bits) t (refl, here), bits-type d l.bits.width (here.some_bit, here.no_wider))
constant_sound (constant.Member of m) here is fine d good k e =
    let it = bind-gives (member d of m) _ k e in
    let t = of_base (base.Enum it.0.number) in
    let v = value.Member it.0.number it.0.bits in
    let known = member-known d good of m it.0 it.1 in
    subst (IsKnown d) (gives-same (known_member of.place it.0) k it.2)
    (t, refl, close-IsOf d v (Value-F.Member it.0.number it.0.bits) (value.rolls-Member it.0.number it.0.bits) t (refl, known.0), base-type d (base.Enum it.0.number) known.1)
constant_sound (constant.Struct of fields close) here is fine d good k e =
    let number = bind-gives (found (number_named kind.Struct d of.text) (wrong UNKNOWN_NAME of.place)) (λ number. in_turn (λ (m : FieldMeaning). m d) (map constant_field_of fields) >>= struct_known d number of.place close) k e in
    let all = bind-gives (in_turn (λ (m : FieldMeaning). m d) (map constant_field_of fields)) (struct_known d number.0 of.place close) k number.2 in
    struct_sound d good number.0 of.place close all.0 k (fields_give fields d all.0 good is fine all.1) all.2
constant_sound (constant.Array place elements) here is fine d good k e =
    let all = bind-gives (in_turn (λ (m : ConstantMeaning). m d) (map constant_of elements)) (array_known d place) k e in
    array_sound d place all.0 k (elements_give elements d all.0 good is fine all.1) all.2

constant_of_layer : (x : Constant-F Constant ConstantField) (y : Constant-F (Such Fine) (Such FineField)) → map-Constant (Such Fine) (Such FineField) Constant ConstantField (λ e. e.0) (λ e. e.0) y ≡ x → Fine (roll-Constant x)
unfolding IsConstant constant_of constant_field_of
constant_of_layer x y same is =
    let held = every_held-Constant IsConstantLayer IsConstantFieldLayer (roll-Constant x) is in
    let here = subst IsConstantLayer (out-roll-Constant x) (every_here-Constant IsConstantLayer IsConstantFieldLayer (roll-Constant x) is) in
    let parts_are = subst (EachOfConstant IsConstant IsConstantField) (held.1 ∙ out-roll-Constant x) (each_of_constant IsConstant IsConstantField held.0) in
    let parts_fine = subst (EachOfConstant Fine FineField) same (each_of_constant Fine FineField y) in
    subst Sound (sym (fold-roll-Constant ConstantMeaning FieldMeaning constant_step constant_field_step x)) (constant_sound x here parts_are parts_fine)

constant_field_sound : (x : ConstantField-F Constant ConstantField) → IsConstant x.value → Fine x.value → SoundField (constant_field_step (map-ConstantField Constant ConstantField ConstantMeaning FieldMeaning constant_of constant_field_of x))
constant_field_sound x is fine d good f e =
    let known = bind-gives (constant_of x.value d) _ f e in
    let made : KnownField = record { name = x.name; known = known.0 } in
    subst (λ (f : KnownField). IsKnown d f.known) (gives-same made f known.2) (fine is d good known.0 known.1)

constant_field_of_layer : (x : ConstantField-F Constant ConstantField) (y : ConstantField-F (Such Fine) (Such FineField)) → map-ConstantField (Such Fine) (Such FineField) Constant ConstantField (λ e. e.0) (λ e. e.0) y ≡ x → FineField (roll-ConstantField x)
unfolding IsConstant constant_of constant_field_of
constant_field_of_layer x y same is =
    let held = every_held-ConstantField IsConstantLayer IsConstantFieldLayer (roll-ConstantField x) is in
    let value_is = subst (λ (x : ConstantField-F Constant ConstantField). IsConstant x.value) (held.1 ∙ out-roll-ConstantField x) held.0.value.1 in
    let value_fine = subst (λ (x : ConstantField-F Constant ConstantField). Fine x.value) same y.value.1 in
    subst SoundField (sym (fold-roll-ConstantField ConstantMeaning FieldMeaning constant_step constant_field_step x)) (constant_field_sound x value_is value_fine)

-- a constant of the grammar
pub constant-typed : (t : Constant) → IsConstant t → (d : Checked) → IsTypedSoFar d → (k : Known) → constant_of t d ≡ Gives k → IsKnown d k
constant-typed = ind-Constant Fine FineField constant_of_layer constant_field_of_layer
