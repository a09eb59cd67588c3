-- The parts of values of types are there, and so are the operands of chains.
use Rattle.std.proofs.Common.{◌≡◌, ℕ, zero, suc, ◌+◌, ◌-◌, ◌*◌, ◌/◌, ◌<◌, ◌≤◌, List, [], ◌∷◌, length, map, Option, Some, None, option_map, option_and_then, slice_get, slice_index, slice_index_or, ◌&&◌, if◌then◌else◌, arith, refl, ap, ap₂, sym, subst, ◌∙◌}
use Rattle.std.specs.List.{AllByRecursion}
use Rattle.std.proofs.lemmas.Bool.{le-leb, lt-ltb}
use Rattle.std.proofs.lemmas.List.{length-map}
use Rattle.std.proofs.lemmas.Option.{slice_get-get_or, slice_get_within}
use Rattle.kw_bits.specs.BitVector.{BitVector}
use Rattle.kw_bits.specs.Laws.{HasWidth}
use Rattle.kw_bits.specs.Operators as op
use Rattle.koika_syntax.specs.declared.operator.BinaryOperator.{BinaryOperator}
use Rattle.koika_types.specs.Values.{packed}
use Rattle.koika_types.specs.declared.declarations.EnumDecl.{EnumDecl}
use Rattle.koika_types.specs.declared.value.Value.{Value, out-Value, roll-out-Value}
use Rattle.koika_types.specs.declared.value.Value.TheOpen.{Value-F}
use Rattle.koika_types.specs.declared.value.Value.TheVariants as value
use Rattle.typed_core.specs.Valid.{IsWidth}
use Rattle.koika_check.specs.Composites.{fields_by, fields_of}
use Rattle.koika_check.specs.Meaning.{all_selected, below, binary_value, chained, from_the_top, parts_by, selected, unpacked, unpacked_among}
use Rattle.koika_check.specs.Types.{all_lengths, array, base_width, bits, of_base, width_of}
use Rattle.koika_check.specs.Typing.{Chains, IsAmong, IsOf, IsType, IsTypedDesign, Pairwise, PartIsOf, Replaces, Takes, TakesAll}
use Rattle.koika_check.specs.declared.checked.Checked.{Checked}
use Rattle.koika_check.specs.declared.checked.CheckedField.{CheckedField}
use Rattle.koika_check.specs.declared.checked.Struct.{Struct}
use Rattle.koika_check.specs.declared.typed.BaseType.{BaseType}
use Rattle.koika_check.specs.declared.typed.BaseType.TheVariants as base
use Rattle.koika_check.specs.declared.typed.Selection.{Selection}
use Rattle.koika_check.specs.declared.typed.Selection.TheVariants as selection
use Rattle.koika_check.specs.declared.typed.ValueType.{ValueType}
use Rattle.koika_lower.specs.Guarded.{all_at, all_some, chained_if, field_at, fields_in, item_at, part_at, replaced_at, unpacked_if, unpacked_in}
use Rattle.koika_lower.specs.inner.Simulation.{StandAll, Stands}
use Rattle.koika_lower.proofs.Agreements.{AllHave, Has}
use Rattle.koika_lower.proofs.ChainValues.{operates-width}
use Rattle.koika_lower.proofs.Constructs.{bits-width, valid-bits}
use Rattle.koika_check.proofs.TypingLayers.{open-IsOf}
use Rattle.koika_lower.proofs.TypedNumbers.{base_of, lengths_of, number-stands}
use Rattle.koika_lower.proofs.Values.{all-each, among-more, among-valid, constant-stands, takes-fit, takes-stands}

-- as many of one as of the other
pub pair-count : {X Y : Type 0} (P : X → Y → Type 0) (xs : List X) (ys : List Y) → Pairwise P xs ys → length xs ≡ length ys
pair-count P [] [] h = refl
pair-count P [] (y ∷ ys) h = absurd h
pair-count P (x ∷ xs) [] h = absurd h
pair-count P (x ∷ xs) (y ∷ ys) h = ap suc (pair-count P xs ys h.1)

-- what has a width is declared
declared : {X : Type 0} (width : X → ℕ) (xs : List X) (number : ℕ) → 1 ≤ slice_index (map width xs) number → (x : X) × (slice_get xs number ≡ Some x)
declared width [] number some = absurd (omega arith)
declared width (x ∷ xs) zero some = (x, refl)
declared width (x ∷ xs) (suc number) some = declared width xs number some

-- a number has the type of as many bits
pub number-has : (d : Checked) (width : ℕ) (x : BitVector) → HasWidth x width → Has d (value.Number x) (bits width)
number-has d width x h = ((number-stands d width x x refl h).0, valid-bits d width (subst IsWidth h.1 (h.0.some_bit, h.0.no_wider)))

module _ (d : Checked) (is : IsTypedDesign d) where
  -- a value stands for its bits
  pub stands : (v : Value) (t : ValueType) → Has d v t → Stands d (Some t) (Some v) (packed v)
  stands v t has = constant-stands d is t v has.1 has.0

  pub bits-have : (v : Value) (t : ValueType) → Has d v t → HasWidth (packed v) (width_of d t)
  bits-have v t has = (stands v t has).2

  pub stand-all : (vs : List Value) (ts : List ValueType) → AllHave d vs ts → StandAll d ts vs (map packed vs)
  stand-all [] [] have = tt
  stand-all [] (t ∷ ts) have = absurd have
  stand-all (v ∷ vs) [] have = absurd have
  stand-all (v ∷ vs) (t ∷ ts) have = (stands v t have.0, stand-all vs ts have.1)

  -- ---- parts

  field-there : (y : Value-F Value) (w : Value) (struct number : ℕ) (f : CheckedField) → PartIsOf d (IsOf d) y (of_base (base.Struct struct)) → slice_get (fields_of d struct) number ≡ Some f →
      field_at y number ≡ Some (slice_index_or (parts_by y) number w)
  unfolding base_of lengths_of
  field-there (Value-F.Number b) w struct number f h at = let k = ap base_of h.0 in absurd (cc)
  field-there (Value-F.Member m b) w struct number f h at = let k = ap base_of h.0 in absurd (cc)
  field-there (Value-F.Items vs) w struct number f h at = let k = ap lengths_of h.1 in absurd (cc)
  field-there (Value-F.Fields m vs) w struct number f h at =
      let k : base.Struct struct ≡ base.Struct m = ap base_of h.0 in
      let same : struct ≡ m = cc in
      let within = slice_get_within (fields_of d struct) number f at in
      let count : length (fields_of d struct) ≡ length vs =
      ap (λ j. length (fields_of d j)) same ∙ sym (length-map (fields_of d m) (λ (f : CheckedField). f.of)) ∙ sym (pair-count (IsOf d) vs (map (λ (f : CheckedField). f.of) (fields_of d m)) h.1) in
      slice_get-get_or vs number w (subst (λ j. number < j) count within)

  item-there : (y : Value-F Value) (w : Value) (n index : ℕ) (item : ValueType) → PartIsOf d (IsOf d) y (array n item) → index < n → item_at y index ≡ Some (slice_index_or (parts_by y) index w)
  unfolding lengths_of
  item-there (Value-F.Number b) w n index item h below = let k = ap lengths_of h.0 in absurd (cc)
  item-there (Value-F.Member m b) w n index item h below = let k = ap lengths_of h.0 in absurd (cc)
  item-there (Value-F.Fields m vs) w n index item h below = let k = ap lengths_of h.0 in absurd (cc)
  item-there (Value-F.Items vs) w n index item h below =
      let k : n ∷ item.lengths ≡ length vs ∷ h.0.lengths = ap lengths_of h.1 in
      let count : n ≡ length vs = cc in
      slice_get-get_or vs index w (subst (λ j. index < j) count below)

  pub part-there : (s : Selection) (t part : ValueType) (v : Value) → Has d v t → Takes d s t part → part_at v s ≡ Some (selected v s)
  part-there (selection.Field number lowest width) t part v has takes =
      field-there (out-Value v) v takes.0 number takes.1 (open-IsOf d v (out-Value v) (roll-out-Value v) (of_base (base.Struct takes.0)) (subst (IsOf d v) takes.2 has.0)) takes.3
  part-there (selection.Item index width) t part v has takes =
      item-there (out-Value v) v takes.0 index part (open-IsOf d v (out-Value v) (roll-out-Value v) (array takes.0 part) (subst (IsOf d v) takes.1 has.0)) takes.2
  part-there (selection.Bits high low) t part v has takes =
      let h = bits-width d t takes.0 (packed v) takes.1 (bits-have v t has) in
      ap (λ b. if b then Some (value.Number (op.slice (packed v) high low)) else None)
      (ap₂ (λ a b. a && b) (le-leb low high takes.2) (lt-ltb high (packed v).width (subst (λ k. high < k) (sym h.1) takes.3)))

  pub selected-has : (selections : List Selection) (t part : ValueType) (v : Value) → Has d v t → TakesAll d selections t part → Has d (all_selected v selections) part
  selected-has selections t part v has takes = ((takes-stands d is selections t part v (packed v) has.1 takes (stands v t has)).0, (takes-fit d is selections t part has.1 takes).2)

  pub all-there : (selections : List Selection) (t part : ValueType) (v : Value) → Has d v t → TakesAll d selections t part → all_at (Some v) selections ≡ Some (all_selected v selections)
  all-there [] t part v has takes = refl
  all-there (s ∷ rest) t part v has takes =
      ap (λ (o : Option Value). all_at o rest) (part-there s t takes.0 v has takes.1) ∙
      all-there rest takes.0 part (selected v s) (selected-has (s ∷ []) t takes.0 v has (takes.0, takes.1, refl)) takes.2

  pub replaced-there : (s : Selection) (t part : ValueType) (v : Value) → Has d v t → Replaces d s t part → replaced_at v s ≡ Some (selected v s)
  replaced-there (selection.Field number lowest width) t part v has takes = part-there (selection.Field number lowest width) t part v has takes
  replaced-there (selection.Item index width) t part v has takes = part-there (selection.Item index width) t part v has takes
  replaced-there (selection.Bits high low) t part v has takes = absurd takes

  -- ---- what bits are unpacked to

  all-some-map : {X : Type 0} (f : X → Option Value) (g : X → Value) (xs : List X) → ((x : X) → f x ≡ Some (g x)) → all_some (map f xs) ≡ Some (map g xs)
  all-some-map f g [] h = refl
  all-some-map f g (x ∷ xs) h = ap (λ (o : Option Value). all_some (o ∷ map f xs)) (h x) ∙ ap (option_map (λ vs. g x ∷ vs)) (all-some-map f g xs h)

  fields-in : (k : ℕ) (look : ValueType → BitVector → Option Value) (known : ValueType → BitVector → Value) → ((t : ValueType) (x : BitVector) → IsType d t → IsAmong k t.base → look t x ≡ Some (known t x)) →
      (fields : List CheckedField) (x : BitVector) → AllByRecursion (λ (f : CheckedField). IsType d f.of × IsAmong k f.of.base) fields → all_some (fields_in d look fields x) ≡ Some (from_the_top d known fields x)
  fields-in k look known h [] x each = refl
  fields-in k look known h (f ∷ fields) x each =
      ap (λ (o : Option Value). all_some (o ∷ fields_in d look fields (op.slice x (x.width - width_of d f.of - 1) 0))) (h f.of (op.slice x (x.width - 1) (x.width - width_of d f.of)) each.0.0 each.0.1) ∙
      ap (option_map (λ vs. known f.of (op.slice x (x.width - 1) (x.width - width_of d f.of)) ∷ vs)) (fields-in k look known h fields (op.slice x (x.width - width_of d f.of - 1) 0) each.1)

  -- the base of a valid type has a bit
  some_bit : (t : ValueType) → IsType d t → 1 ≤ base_width d t.base
  some_bit t valid = factor (base_width d t.base) (all_lengths t.lengths) valid.0
    where
      factor : (m k : ℕ) → 1 ≤ m * k → 1 ≤ m
      factor zero k h = absurd (omega (arith, h))
      factor (suc m) k h = omega arith

  in-there : (structs : ℕ) (b : BaseType) (lengths : List ℕ) (x : BitVector) → IsAmong structs b → 1 ≤ base_width d b → unpacked_in d structs b lengths x ≡ Some (unpacked_among d structs b lengths x)
  in-there structs b (n ∷ lengths) x among some =
      ap (option_map (λ vs. value.Items vs)) (all-some-map (λ i. unpacked_in d structs b lengths (op.slice x ((i + 1) * (x.width / n) - 1) (i * (x.width / n))))
      (λ i. unpacked_among d structs b lengths (op.slice x ((i + 1) * (x.width / n) - 1) (i * (x.width / n)))) (below n)
      (λ i. in-there structs b lengths (op.slice x ((i + 1) * (x.width / n) - 1) (i * (x.width / n))) among some))
  in-there structs (base.Bits width) [] x among some = refl
  in-there structs (base.Enum number) [] x among some =
      ap (option_map (λ (e : EnumDecl). value.Member number x)) (declared (λ (e : EnumDecl). e.width) d.enums number some).1
  in-there zero (base.Struct number) [] x among some = absurd (omega arith)
  in-there (suc structs) (base.Struct number) [] x among some =
      let it = declared (λ (s : Struct). s.width) d.structs number some in
      ap (option_and_then (λ (s : Struct). option_map (λ vs. value.Fields number vs) (all_some (fields_in d (λ t part. unpacked_in d structs t.base t.lengths part) s.fields x)))) it.1 ∙
      ap (option_map (λ vs. value.Fields number vs)) (fields-in number (λ t part. unpacked_in d structs t.base t.lengths part) (λ t part. unpacked_among d structs t.base t.lengths part)
      (λ t y valid earlier. in-there structs t.base t.lengths y (among-more number structs t.base (omega arith) earlier) (some_bit t valid)) it.0.fields x
      (all-each d is (λ (f : CheckedField). IsType d f.of × IsAmong number f.of.base) it.0.fields (is.structs number it.0 it.1).fields)) ∙
      ap (λ (o : Option Struct). Some (value.Fields number (from_the_top d (λ t part. unpacked_among d structs t.base t.lengths part) (fields_by o) x))) (sym it.1)

  pub unpacked-there : (t : ValueType) (x : BitVector) → IsType d t → unpacked_if d t x ≡ Some (unpacked d t x)
  unpacked-there t x valid = in-there (length d.structs) t.base t.lengths x (among-valid d is t.base (all_lengths t.lengths) valid.0) (some_bit t valid)

  -- ---- chains

  pub chain-there : (os : List BinaryOperator) (left : ValueType) (ts : List ValueType) (of : ValueType) (x : BitVector) (vs : List Value) → AllHave d vs ts → Chains os left ts of → HasWidth x (width_of d left) →
      (chained_if os x vs ≡ Some (chained os x vs)) × HasWidth (chained os x vs) (width_of d of)
  chain-there [] left [] of x [] have chains h = (refl, subst (λ (t : ValueType). HasWidth x (width_of d t)) (sym chains) h)
  chain-there [] left [] of x (v ∷ vs) have chains h = absurd have
  chain-there [] left (t ∷ ts) of x vs have chains h = absurd chains
  chain-there (o ∷ os) left [] of x vs have chains h = absurd chains
  chain-there (o ∷ os) left (t ∷ ts) of x [] have chains h = absurd have
  chain-there (o ∷ os) left (t ∷ ts) of x (v ∷ vs) have chains h =
      chain-there os chains.0 ts of (binary_value o x (packed v)) vs have.1 chains.2 (operates-width d left t chains.0 x (packed v) h (bits-have v t have.0) o chains.1)
