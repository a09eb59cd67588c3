-- What is well typed stays so as more is declared, and it has values of 1 to 128 bits.
use Rattle.std.proofs.Common.{◌≡◌, ℕ, zero, suc, ◌+◌, ◌*◌, ◌≤◌, inl, inr, List, [], ◌∷◌, ◌++◌, length, map, drop, replicate, slice_get, Option, Some, None, IfSome, arith, refl, ap, ap₂, sym, subst, ◌∙◌}
use Rattle.std.specs.List.{All, AllByRecursion}
use Rattle.std.specs.Prelude.{sum_by}
use Rattle.std.proofs.lemmas.List.Elements.{All-drop, All-head, All-tail, All-weaker}
use Rattle.std.proofs.lemmas.List.Sums.{sum_by-cons}
use Rattle.std.proofs.lemmas.Option.{slice_get_within}
use Rattle.koika_syntax.proofs.TreeParts.{Such, firsts}
use Rattle.koika_check.proofs.TypedTreeParts.{EachOfStep, EachOfTyped, each_of_step, each_of_typed}
use Rattle.kw_bits.specs.Host as host
use Rattle.kw_bits.specs.Laws.{HasWidth}
use Rattle.koika_syntax.specs.declared.operator.BinaryOperator.{BinaryOperator}
use Rattle.koika_syntax.specs.declared.operator.BinaryOperator.TheVariants as binary
use Rattle.koika_types.specs.declared.declarations.EnumDecl.{EnumDecl}
use Rattle.koika_types.specs.declared.value.Value.{Value}
use Rattle.koika_types.specs.declared.value.Value.TheOpen.{Value-F}
use Rattle.koika_types.specs.declared.value.Value.TheFolds.{ind-Value, map-Value}
use Rattle.koika_types.specs.declared.value.Value.TheViews.{roll-Value}
use Rattle.typed_core.specs.Valid.{IsHost, IsTable, IsWidth}
use Rattle.koika_check.specs.Composites.{fields_by, fields_of}
use Rattle.koika_check.specs.Types.{all_lengths, array, base_width, bits, of_base, width_of}
use Rattle.koika_check.specs.Typing.{Applies, AreArms, Binds, Chains, Doing, Gives, HasType, IsInput, IsOf, IsRegister, IsType, Operates, Pairwise, PartHasType, PartIsOf, Replaces, Runs, StepDoes, StepsHaveType, Takes, TakesAll, lowest_of}
use Rattle.koika_check.specs.inner.Typing.{StepHasType}
use Rattle.koika_check.specs.declared.checked.Checked.{Checked}
use Rattle.koika_check.specs.declared.checked.CheckedField.{CheckedField}
use Rattle.koika_check.specs.declared.checked.Host.{Host}
use Rattle.koika_check.specs.declared.checked.Struct.{Struct}
use Rattle.koika_check.specs.declared.checked.Table.{Table}
use Rattle.koika_check.specs.declared.typed.BaseType.{BaseType}
use Rattle.koika_check.specs.declared.typed.BaseType.TheVariants as base
use Rattle.koika_check.specs.declared.typed.Operation.{Operation}
use Rattle.koika_check.specs.declared.typed.Operation.TheVariants as operation
use Rattle.koika_check.specs.declared.typed.Selection.{Selection}
use Rattle.koika_check.specs.declared.typed.Selection.TheVariants as selection
use Rattle.koika_check.specs.declared.typed.BlockStep.{BlockStep, BlockStep-F, map-BlockStep, roll-BlockStep}
use Rattle.koika_check.specs.declared.typed.BlockStep.TheOpen as opened
use Rattle.koika_check.specs.declared.typed.Typed.{Typed, Typed-F, ind-Typed, map-Typed, roll-Typed}
use Rattle.koika_check.specs.declared.typed.ValueType.{ValueType}
use Rattle.koika_check.proofs.CalledTypes.{answer-width}
use Rattle.koika_check.proofs.Positions.{slice_get-push}
use Rattle.koika_check.proofs.TypedSoFar.{DeclaresTypes, all-at, bits-type, bits-width, field-there, field-type, field-types, item-type, lookup, looked-up, some-base, struct-there}
use Rattle.koika_check.proofs.TypingLayers.{close-HasType, close-IsOf, close-step, open-HasType, open-IsOf, open-step}

-- ---- growth

-- what is in the first list is at its place in the second
abbrev pub Stays : {X : Type 0} → List X → List X → Type 0
Stays {X} xs ys = (i : ℕ) (x : X) → slice_get xs i ≡ Some x → slice_get ys i ≡ Some x

pub stays-push : {X : Type 0} (xs : List X) (y : X) → Stays xs (xs ++ y ∷ [])
stays-push xs y i x e = slice_get-push xs y i (slice_get_within xs i x e) ∙ e

pub stays-same : {X : Type 0} (xs : List X) → Stays xs xs
stays-same xs i x e = e

-- what is declared in the first design is declared in the second
pub record Extends (d e : Checked) : Type 0 where
  pub enums : Stays d.enums e.enums
  pub structs : Stays d.structs e.structs
  pub registers : Stays d.registers e.registers
  pub inputs : Stays d.inputs e.inputs
  pub tables : Stays d.tables e.tables
  pub hosts : Stays d.hosts e.hosts
  pub functions : Stays d.functions e.functions

pub extends-same : (d : Checked) → Extends d d
extends-same d = record {
  enums = stays-same d.enums;
  structs = stays-same d.structs;
  registers = stays-same d.registers;
  inputs = stays-same d.inputs;
  tables = stays-same d.tables;
  hosts = stays-same d.hosts;
  functions = stays-same d.functions;
}

-- ---- types

module _ (d e : Checked) (g : Extends d e) where
  -- a type of values has the same width, and is one
  pub base-stays : (b : BaseType) → 1 ≤ base_width d b → base_width e b ≡ base_width d b
  base-stays (base.Bits w) h = refl
  base-stays (base.Enum n) h =
      let w : EnumDecl → ℕ = λ x. x.width in
      let x = looked-up w d.enums n h in
      lookup w e.enums n x.0 (g.enums n x.0 x.1) ∙ sym (lookup w d.enums n x.0 x.1)
  base-stays (base.Struct n) h =
      let w : Struct → ℕ = λ x. x.width in
      let x = looked-up w d.structs n h in
      lookup w e.structs n x.0 (g.structs n x.0 x.1) ∙ sym (lookup w d.structs n x.0 x.1)

  pub width-stays : (t : ValueType) → IsType d t → width_of e t ≡ width_of d t
  width-stays t h = ap (λ w. w * all_lengths t.lengths) (base-stays t.base (some-base d t h))

  pub type-stays : (t : ValueType) → IsType d t → IsType e t
  type-stays t h = subst IsWidth (sym (width-stays t h)) h

  pub types-stay : (ts : List ValueType) → All (IsType d) ts → All (IsType e) ts
  types-stay ts h = All-weaker (IsType d) (IsType e) type-stays ts h

  -- a struct has the same fields, of the same width together
  pub fields-stay : (number : ℕ) (s : Struct) → slice_get d.structs number ≡ Some s → fields_of e number ≡ fields_of d number
  fields-stay number s h = ap fields_by (g.structs number s h ∙ sym h)

  pub sum-stays : (fields : List CheckedField) → All (λ (f : CheckedField). IsType d f.of) fields → sum_by (λ (f : CheckedField). width_of e f.of) fields ≡ sum_by (λ (f : CheckedField). width_of d f.of) fields
  sum-stays [] h = refl
  sum-stays (f ∷ fields) h =
      let P : CheckedField → Type 0 = λ f. IsType d f.of in
      sum_by-cons (λ (f : CheckedField). width_of e f.of) f fields
      ∙ ap₂ (λ a b. a + b) (width-stays f.of (All-head P f fields h)) (sum-stays fields (All-tail P f fields h))
      ∙ sym (sum_by-cons (λ (f : CheckedField). width_of d f.of) f fields)

-- ---- values

each-replicate : {X : Type 0} (P : X → Type 0) (n : ℕ) (x : X) → P x → AllByRecursion P (replicate n x)
each-replicate P zero x p = tt
each-replicate P (suc n) x p = (p, each-replicate P n x p)

-- the types of fields
each-field : (d : Checked) (fields : List CheckedField) → All (λ (f : CheckedField). IsType d f.of) fields → AllByRecursion (IsType d) (map (λ (f : CheckedField). f.of) fields)
each-field d [] h = tt
each-field d (f ∷ fields) h = let P : CheckedField → Type 0 = λ f. IsType d f.of in (All-head P f fields h, each-field d fields (All-tail P f fields h))

module _ (d e : Checked) (g : Extends d e) (h : DeclaresTypes d) where
  abbrev ValueStays : Value → Type 0
  ValueStays v = (t : ValueType) → IsType d t → IsOf d v t → IsOf e v t

  values_stay : (vs : List Value) (ts : List ValueType) → AllByRecursion ValueStays vs → AllByRecursion (IsType d) ts → Pairwise (IsOf d) vs ts → Pairwise (IsOf e) vs ts
  values_stay [] [] stay types are = tt
  values_stay [] (t ∷ ts) stay types are = absurd are
  values_stay (v ∷ vs) [] stay types are = absurd are
  values_stay (v ∷ vs) (t ∷ ts) stay types are = (stay.0 t types.0 are.0, values_stay vs ts stay.1 types.1 are.1)

  abbrev EachValue : Value-F Value → Type 0
  EachValue (Value-F.Number b) = Unit {0}
  EachValue (Value-F.Member n b) = Unit {0}
  EachValue (Value-F.Fields n vs) = AllByRecursion ValueStays vs
  EachValue (Value-F.Items vs) = AllByRecursion ValueStays vs

  each_value : (y : Value-F (Such ValueStays)) → EachValue (map-Value (Such ValueStays) Value (λ e. e.0) y)
  each_value (Value-F.Number b) = tt
  each_value (Value-F.Member n b) = tt
  each_value (Value-F.Fields n vs) = firsts ValueStays vs
  each_value (Value-F.Items vs) = firsts ValueStays vs

  part_stays : (x : Value-F Value) → EachValue x → (t : ValueType) → IsType d t → PartIsOf d (IsOf d) x t → PartIsOf e (IsOf e) x t
  part_stays (Value-F.Number b) each t valid is = is
  part_stays (Value-F.Member n b) each t valid is =
      (is.0, subst (λ w. HasWidth b w) (sym (base-stays d e g (base.Enum n) (some-base d (of_base (base.Enum n)) (subst (IsType d) is.0 valid)))) is.1)
  part_stays (Value-F.Fields n vs) each t valid is =
      let s = struct-there d n (subst (IsType d) is.0 valid) in
      let there : fields_of d n ≡ s.0.fields = ap fields_by s.1 in
      let types : AllByRecursion (IsType d) (map (λ (f : CheckedField). f.of) (fields_of d n)) =
      subst (λ fields. AllByRecursion (IsType d) (map (λ (f : CheckedField). f.of) fields)) (sym there) (each-field d s.0.fields (field-types d h n s.0 s.1)) in
      (is.0, subst (λ fields. Pairwise (IsOf e) vs (map (λ (f : CheckedField). f.of) fields)) (sym (fields-stay d e g n s.0 s.1)) (values_stay vs (map (λ (f : CheckedField). f.of) (fields_of d n)) each types is.1))
  part_stays (Value-F.Items vs) each t valid is =
      (is.0, is.1, values_stay vs (replicate (length vs) is.0) each (each-replicate (IsType d) (length vs) is.0 (item-type d (length vs) is.0 (subst (IsType d) is.1 valid))) is.2)

  value_layer : (x : Value-F Value) (y : Value-F (Such ValueStays)) → map-Value (Such ValueStays) Value (λ e. e.0) y ≡ x → ValueStays (roll-Value x)
  value_layer x y same t valid is =
      close-IsOf e (roll-Value x) x refl t (part_stays x (subst EachValue same (each_value y)) t valid (open-IsOf d (roll-Value x) x refl t is))

  -- a value is of the type that it was of
  pub value-stays : (v : Value) (t : ValueType) → IsType d t → IsOf d v t → IsOf e v t
  value-stays = ind-Value ValueStays value_layer

-- ---- operations

-- what operators make of values has 1 to 128 bits
operates-valid : (d : Checked) (o : BinaryOperator) (left right of : ValueType) → IsType d left → IsType d right → Operates o left right of → IsType d of
operates-valid d o left right of l r h = by_operator o h
  where
    calculated : (width : ℕ) × ((left ≡ bits width) × (right ≡ bits width)) × (of ≡ bits width) → IsType d of
    calculated h = subst (IsType d) (h.1.0 ∙ sym h.2) l

    one_bit : of ≡ bits 1 → IsType d of
    one_bit e = subst (IsType d) (sym e) (bits-type d 1 (omega arith, omega arith))

    by_operator : (o : BinaryOperator) → Operates o left right of → IsType d of
    by_operator binary.Or h = calculated h
    by_operator binary.Xor h = calculated h
    by_operator binary.And h = calculated h
    by_operator binary.Equal h = one_bit h.1
    by_operator binary.NotEqual h = one_bit h.1
    by_operator binary.Less h = one_bit h.2
    by_operator binary.LessOrEqual h = one_bit h.2
    by_operator binary.Greater h = one_bit h.2
    by_operator binary.GreaterOrEqual h = one_bit h.2
    by_operator binary.Concat h =
        let w = bits-width d left h.0 l h.2 in
        subst (IsType d) (sym h.5) (bits-type d (h.0 + h.1) (omega (arith, w.0), h.4))
    by_operator binary.ShiftLeft h = calculated h
    by_operator binary.ShiftRight h = calculated h
    by_operator binary.ShiftRightSigned h = calculated h
    by_operator binary.Add h = calculated h
    by_operator binary.Subtract h = calculated h
    by_operator binary.Multiply h = calculated h

chains-valid : (d : Checked) (operators : List BinaryOperator) (t : ValueType) (ts : List ValueType) (of : ValueType) → IsType d t → AllByRecursion (IsType d) ts → Chains operators t ts of → IsType d of
chains-valid d [] t [] of l r h = subst (IsType d) (sym h) l
chains-valid d [] t (u ∷ ts) of l r h = absurd h
chains-valid d (o ∷ operators) t [] of l r h = absurd h
chains-valid d (o ∷ operators) t (u ∷ ts) of l r h = chains-valid d operators h.0 ts of (operates-valid d o t u h.0 l r.0 h.1) r.1 h.2

module _ (d e : Checked) (g : Extends d e) (h : DeclaresTypes d) where
  -- a part of a value is a value, and is taken in the same way
  pub take-stays : (s : Selection) (whole of : ValueType) → IsType d whole → Takes d s whole of → IsType d of × Takes e s whole of
  take-stays (selection.Field number lowest width) whole of valid t =
      let s = field-there d t.0 number t.1 t.3 in
      let type : IsType d t.1.of = field-type d h t.0 number t.1 t.3 in
      let same = fields-stay d e g t.0 s.0 s.1 in
      let behind : All (λ (f : CheckedField). IsType d f.of) (drop (number + 1) (fields_of d t.0)) =
      subst (λ fields. All (λ (f : CheckedField). IsType d f.of) (drop (number + 1) fields)) (sym (ap fields_by s.1)) (All-drop (λ (f : CheckedField). IsType d f.of) (number + 1) s.0.fields (field-types d h t.0 s.0 s.1)) in
      let low : lowest_of e t.0 number ≡ lowest_of d t.0 number =
      ap (λ fields. sum_by (λ (f : CheckedField). width_of e f.of) (drop (number + 1) fields)) same ∙ sum-stays d e g (drop (number + 1) (fields_of d t.0)) behind in
      (subst (IsType d) (sym t.4) type, (t.0, t.1, t.2, ap (λ fields. slice_get fields number) same ∙ t.3, t.4, t.5 ∙ sym low, t.6 ∙ sym (width-stays d e g t.1.of type)))
  take-stays (selection.Item index width) whole of valid t =
      let type = item-type d t.0 of (subst (IsType d) t.1 valid) in
      (type, (t.0, t.1, t.2, t.3 ∙ sym (width-stays d e g of type)))
  take-stays (selection.Bits high low) whole of valid t =
      let w = bits-width d whole t.0 valid t.1 in
      (subst (IsType d) (sym t.4) (bits-type d _ (omega arith, omega (arith, w.1, t.3))), t)

  pub takes-stay : (selections : List Selection) (whole of : ValueType) → IsType d whole → TakesAll d selections whole of → IsType d of × TakesAll e selections whole of
  takes-stay [] whole of valid t = (subst (IsType d) (sym t) valid, t)
  takes-stay (s ∷ selections) whole of valid t =
      let one = take-stays s whole t.0 valid t.1 in
      let rest = takes-stay selections t.0 of one.0 t.2 in
      (rest.0, (t.0, one.1, rest.1))

  replaces-stays : (s : Selection) (whole new : ValueType) → IsType d whole → Replaces d s whole new → Replaces e s whole new
  replaces-stays (selection.Field number lowest width) whole new valid r = (take-stays (selection.Field number lowest width) whole new valid r).1
  replaces-stays (selection.Item index width) whole new valid r = (take-stays (selection.Item index width) whole new valid r).1
  replaces-stays (selection.Bits high low) whole new valid r = absurd r

  abbrev IsValid : Option ValueType → Type 0
  IsValid of = IfSome of (IsType d)

  given : (of : Option ValueType) (t : ValueType) → of ≡ Some t → IsType d t → IsValid of
  given of t e valid = subst IsValid (sym e) valid

  none : (of : Option ValueType) → of ≡ None → IsValid of
  none of e = subst IsValid (sym e) tt

  -- an operation applies to the same types, and what it gives is valid
  applies-stays : (n m : ℕ) → n ≤ m → (o : Operation) (types : List ValueType) (of : Option ValueType) → AllByRecursion (IsType d) types → Applies d n o types of → IsValid of × Applies e m o types of
  applies-stays n m le (operation.Unary operators) [] of valid a = absurd a
  applies-stays n m le (operation.Unary operators) (t ∷ []) of valid a = (given of t a.2 valid.0, a)
  applies-stays n m le (operation.Unary operators) (t ∷ u ∷ ts) of valid a = absurd a
  applies-stays n m le (operation.Chain operators width) [] of valid a = absurd a
  applies-stays n m le (operation.Chain operators width) (t ∷ rest) of valid a =
      (given of a.1 a.3 (chains-valid d operators t rest a.1 valid.0 valid.1 a.2), (a.0, a.1, a.2, a.3, a.4 ∙ sym (width-stays d e g t valid.0)))
  applies-stays n m le (operation.Select selections) [] of valid a = absurd a
  applies-stays n m le (operation.Select selections) (t ∷ []) of valid a =
      let taken = takes-stay selections t a.0 valid.0 a.1 in (given of a.0 a.2 taken.0, (a.0, taken.1, a.2))
  applies-stays n m le (operation.Select selections) (t ∷ u ∷ ts) of valid a = absurd a
  applies-stays n m le (operation.Update one) [] of valid a = absurd a
  applies-stays n m le (operation.Update one) (t ∷ []) of valid a = absurd a
  applies-stays n m le (operation.Update one) (t ∷ new ∷ []) of valid a = (given of t a.1 valid.0, (replaces-stays one t new valid.0 a.0, a.1))
  applies-stays n m le (operation.Update one) (t ∷ new ∷ u ∷ ts) of valid a = absurd a
  applies-stays n m le (operation.Struct number) types of valid a =
      let s = struct-there d number a.1 in
      (given of (of_base (base.Struct number)) a.2 a.1, (a.0 ∙ ap (map (λ (f : CheckedField). f.of)) (sym (fields-stay d e g number s.0 s.1)), type-stays d e g (of_base (base.Struct number)) a.1, a.2))
  applies-stays n m le operation.Array types of valid a = (given of (array (length types) a.0) a.3 a.2, (a.0, a.1, type-stays d e g (array (length types) a.0) a.2, a.3))
  applies-stays n m le operation.Pack [] of valid a = absurd a
  applies-stays n m le operation.Pack (t ∷ []) of valid a = (given of (bits (width_of d t)) a (bits-type d (width_of d t) valid.0), a ∙ ap (λ w. Some (bits w)) (sym (width-stays d e g t valid.0)))
  applies-stays n m le operation.Pack (t ∷ u ∷ ts) of valid a = absurd a
  applies-stays n m le (operation.Unpack to) [] of valid a = absurd a
  applies-stays n m le (operation.Unpack to) (t ∷ []) of valid a = (given of to a.2 a.0, (type-stays d e g to a.0, a.1 ∙ ap bits (sym (width-stays d e g to a.0)), a.2))
  applies-stays n m le (operation.Unpack to) (t ∷ u ∷ ts) of valid a = absurd a
  applies-stays n m le (operation.Extend extension width) [] of valid a = absurd a
  applies-stays n m le (operation.Extend extension width) (t ∷ []) of valid a =
      let w = bits-width d t a.0 valid.0 a.1 in (given of (bits width) a.4 (bits-type d width (omega (arith, w.0, a.2), a.3)), a)
  applies-stays n m le (operation.Extend extension width) (t ∷ u ∷ ts) of valid a = absurd a
  applies-stays n m le (operation.Compare comparison) [] of valid a = absurd a
  applies-stays n m le (operation.Compare comparison) (t ∷ []) of valid a = absurd a
  applies-stays n m le (operation.Compare comparison) (t ∷ u ∷ []) of valid a = (given of a.0 a.2 (subst (IsType d) (sym a.1.2) (bits-type d 1 (omega arith, omega arith))), a)
  applies-stays n m le (operation.Compare comparison) (t ∷ u ∷ v ∷ ts) of valid a = absurd a
  applies-stays n m le (operation.Table number) [] of valid a = absurd a
  applies-stays n m le (operation.Table number) (t ∷ []) of valid a =
      (given of (bits a.0.spec.out_width) a.3 (bits-type d a.0.spec.out_width (all-at (λ (t : Table). IsTable t.spec × IsWidth t.spec.out_width) d.tables number a.0 h.tables a.1).1), (a.0, g.tables number a.0 a.1, a.2, a.3))
  applies-stays n m le (operation.Table number) (t ∷ u ∷ ts) of valid a = absurd a
  applies-stays n m le (operation.Host number) types of valid a =
      let k = answer-width a.0.spec.kind a.0.spec.in_width (all-at (λ (k : Host). IsHost k.spec) d.hosts number a.0 h.hosts a.1) in
      (given of (bits (host.out_width a.0.spec.kind a.0.spec.in_width)) a.3 (bits-type d (host.out_width a.0.spec.kind a.0.spec.in_width) (k.some, k.most)), (a.0, g.hosts number a.0 a.1, a.2, a.3))
  applies-stays n m le (operation.Call number) types of valid a =
      (subst IsValid (sym a.4) (h.functions number a.0 a.2).result, (a.0, omega (arith, a.1, le), g.functions number a.0 a.2, a.3, a.4))
  applies-stays n m le (operation.Read port register) [] of valid a =
      (given of a.0.of a.3 (all-at (IsRegister d) d.registers register a.0 h.registers a.2).of, (a.0, a.1, g.registers register a.0 a.2, a.3))
  applies-stays n m le (operation.Read port register) (t ∷ ts) of valid a = absurd a
  applies-stays n m le (operation.Write port register) [] of valid a = absurd a
  applies-stays n m le (operation.Write port register) (t ∷ []) of valid a = (none of a.4, (a.0, a.1, g.registers register a.0 a.2, a.3, a.4))
  applies-stays n m le (operation.Write port register) (t ∷ u ∷ ts) of valid a = absurd a
  applies-stays n m le operation.Abort [] of valid a = (none of a, a)
  applies-stays n m le operation.Abort (t ∷ ts) of valid a = absurd a

-- ---- expressions

module _ (d e : Checked) (g : Extends d e) (h : DeclaresTypes d) (n m : ℕ) (le : n ≤ m) where
  abbrev Valid : Option ValueType → Type 0
  Valid of = IfSome of (IsType d)

  abbrev TypedStays : Typed → Type 0
  TypedStays x = (locals : List ValueType) (of : Option ValueType) → All (IsType d) locals → HasType d n x locals of → Valid of × HasType e m x locals of

  -- what a step binds or gives
  abbrev ValidDoing : Doing → Type 0
  ValidDoing (Binds of) = IsType d of
  ValidDoing Runs = Unit {0}
  ValidDoing (Gives of) = Valid of

  abbrev StepStays : BlockStep → Type 0
  StepStays x = (locals : List ValueType) (doing : Doing) → All (IsType d) locals → StepHasType d n x locals doing → ValidDoing doing × StepHasType e m x locals doing

  operands_stay : (xs : List Typed) (ts : List ValueType) (locals : List ValueType) → AllByRecursion TypedStays xs → All (IsType d) locals → Pairwise (λ x t. HasType d n x locals (Some t)) xs ts →
      AllByRecursion (IsType d) ts × Pairwise (λ x t. HasType e m x locals (Some t)) xs ts
  operands_stay [] [] locals stay types are = (tt, tt)
  operands_stay [] (t ∷ ts) locals stay types are = absurd are
  operands_stay (x ∷ xs) [] locals stay types are = absurd are
  operands_stay (x ∷ xs) (t ∷ ts) locals stay types are =
      let one = stay.0 locals (Some t) types are.0 in
      let rest = operands_stay xs ts locals stay.1 types are.1 in
      ((one.0, rest.0), (one.1, rest.1))

  all_stay : (xs : List Typed) (locals : List ValueType) (of : Option ValueType) → AllByRecursion TypedStays xs → All (IsType d) locals → AllByRecursion (λ x. HasType d n x locals of) xs →
      (1 ≤ length xs → Valid of) × AllByRecursion (λ x. HasType e m x locals of) xs
  all_stay [] locals of stay types are = (λ some. absurd (omega (arith, some)), tt)
  all_stay (x ∷ xs) locals of stay types are =
      let one = stay.0 locals of types are.0 in
      (λ some. one.0, (one.1, (all_stay xs locals of stay.1 types are.1).1))

  steps_stay : (xs : List BlockStep) (locals : List ValueType) (of : Option ValueType) → AllByRecursion StepStays xs → All (IsType d) locals → StepsHaveType (StepHasType d n) xs locals of →
      Valid of × StepsHaveType (StepHasType e m) xs locals of
  steps_stay [] locals of stay types are = (subst Valid (sym are) tt, are)
  steps_stay (x ∷ xs) locals of stay types (inl are) =
      let one = stay.0 locals (Binds are.0) types are.1 in
      let rest = steps_stay xs (are.0 ∷ locals) of stay.1 (bound_too are.0 one.0) are.2 in
      (rest.0, inl (are.0, one.1, rest.1))
    where
      bound_too : (t : ValueType) → IsType d t → All (IsType d) (t ∷ locals)
      bound_too t valid zero b lt = valid
      bound_too t valid (suc k) b lt = types k b (omega (arith, lt))
  steps_stay (x ∷ xs) locals of stay types (inr (inl are)) =
      let one = stay.0 locals Runs types are.0 in
      let rest = steps_stay xs locals of stay.1 types are.1 in
      (rest.0, inr (inl (one.1, rest.1)))
  steps_stay (x ∷ xs) locals of stay types (inr (inr are)) =
      let one = stay.0 locals (Gives of) types are.0 in
      (one.0, inr (inr (one.1, are.1)))

  arms_valid : (conditions bodies : ℕ) (of : Option ValueType) → AreArms conditions bodies of → (1 ≤ bodies → Valid of) → Valid of
  arms_valid conditions bodies of (inl one_more) some = some (omega (arith, one_more))
  arms_valid conditions bodies of (inr unit) some = subst Valid (sym unit.1) tt

  part_has : (x : Typed-F BlockStep Typed) → EachOfTyped StepStays TypedStays x → (locals : List ValueType) (of : Option ValueType) → All (IsType d) locals → PartHasType d n (StepHasType d n) (HasType d n) x locals of →
      Valid of × PartHasType e m (StepHasType e m) (HasType e m) x locals of
  part_has (opened.Constant v) each locals of types has = (subst Valid (sym has.3) has.2, (has.0, value-stays d e g h v has.0 has.2 has.1, type-stays d e g has.0 has.2, has.3))
  part_has (opened.Local index) each locals of types has = (subst Valid (sym has.2) (all-at (IsType d) locals index has.0 types has.1), has)
  part_has (opened.Input number) each locals of types has =
      (subst Valid (sym has.2) (all-at (IsInput d) d.inputs number has.0 h.inputs has.1).of, (has.0, g.inputs number has.0 has.1, has.2))
  part_has (opened.Apply o operands) each locals of types has =
      let parts = operands_stay operands has.0 locals each types has.1 in
      let whole = applies-stays d e g h n m le o has.0 of parts.0 has.2 in
      (whole.0, (has.0, parts.1, whole.1))
  part_has (opened.If conditions bodies) each locals of types has =
      let first = all_stay conditions locals (Some (bits 1)) each.0 types has.0 in
      let second = all_stay bodies locals of each.1 types has.1 in
      (arms_valid (length conditions) (length bodies) of has.2 second.0, (first.1, second.1, has.2))
  part_has (opened.Block steps) each locals of types has = steps_stay steps locals of each types has

  typed_layer : (x : Typed-F BlockStep Typed) (y : Typed-F (Such StepStays) (Such TypedStays)) → map-Typed (Such StepStays) (Such TypedStays) BlockStep Typed (λ e. e.0) (λ e. e.0) y ≡ x → TypedStays (roll-Typed x)
  typed_layer x y same locals of types has =
      let opens = open-HasType d n (roll-Typed x) x refl locals of has in
      let it = part_has x (subst (EachOfTyped StepStays TypedStays) same (each_of_typed StepStays TypedStays y)) locals of types opens in
      (it.0, close-HasType e m (roll-Typed x) x refl locals of it.1)

  step_does : (x : BlockStep-F BlockStep Typed) → EachOfStep StepStays TypedStays x → (locals : List ValueType) (doing : Doing) → All (IsType d) locals → StepDoes (HasType d n) x locals doing → ValidDoing doing × StepDoes (HasType e m) x locals doing
  step_does (opened.Let v) each locals (Binds of) types has = each locals (Some of) types has
  step_does (opened.Let v) each locals Runs types has = absurd has
  step_does (opened.Let v) each locals (Gives of) types has = absurd has
  step_does (opened.Do v) each locals (Binds of) types has = absurd has
  step_does (opened.Do v) each locals Runs types has = (tt, (has.0, (each locals has.0 types has.1).1))
  step_does (opened.Do v) each locals (Gives of) types has = absurd has
  step_does (opened.Give v) each locals (Binds of) types has = absurd has
  step_does (opened.Give v) each locals Runs types has = absurd has
  step_does (opened.Give v) each locals (Gives of) types has = each locals of types has

  step_layer : (x : BlockStep-F BlockStep Typed) (y : BlockStep-F (Such StepStays) (Such TypedStays)) → map-BlockStep (Such StepStays) (Such TypedStays) BlockStep Typed (λ e. e.0) (λ e. e.0) y ≡ x → StepStays (roll-BlockStep x)
  step_layer x y same locals doing types has =
      let opens = open-step d n (roll-BlockStep x) x refl locals doing has in
      let it = step_does x (subst (EachOfStep StepStays TypedStays) same (each_of_step StepStays TypedStays y)) locals doing types opens in
      (it.0, close-step e m (roll-BlockStep x) x refl locals doing it.1)

  -- an expression has the type that it had, and the type is valid
  pub typed-stays : (x : Typed) (locals : List ValueType) (of : Option ValueType) → All (IsType d) locals → HasType d n x locals of → IfSome of (IsType d) × HasType e m x locals of
  typed-stays = ind-Typed StepStays TypedStays step_layer typed_layer

-- an expression that is well typed has a type of values, if it isn't unit
pub typed-valid : (d : Checked) → DeclaresTypes d → (n : ℕ) (x : Typed) (locals : List ValueType) (of : Option ValueType) → All (IsType d) locals → HasType d n x locals of → IfSome of (IsType d)
typed-valid d h n x locals of types has = (typed-stays d d (extends-same d) h n n (omega arith) x locals of types has).0
