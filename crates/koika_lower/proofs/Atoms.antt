-- Constants, names and inputs are lowered.
use Rattle.std.proofs.Common.{◌≡◌, ℕ, ◌<◌, List, [], ◌∷◌, ◌++◌, take, Option, Some, option_map, slice_get, slice_index_or, refl, ap, sym, subst, ◌∙◌}
use Rattle.std.proofs.lemmas.Option.{slice_get-get_or, slice_get-map, slice_get_within}
use Rattle.kw_bits.specs.BitVector.{BitVector}
use Rattle.kw_bits.specs.Laws.{HasWidth}
use Rattle.koika_types.specs.Values.{packed}
use Rattle.koika_types.specs.declared.value.Value.{Value}
use Rattle.typed_core.specs.Evaluation.{Value as Reached, Evaluation, Ports, unit}
use Rattle.typed_core.specs.declared.action.Action.TheVariants as action
use Rattle.typed_core.specs.declared.outcome.Stopped.{Stopped}
use Rattle.koika_check.specs.Meaning.{RuleSetting, bodies_behind, input_as, meaning, typed_step, unpacked}
use Rattle.koika_check.specs.Typing.{HasType, IsInput, IsTypedDesign}
use Rattle.koika_check.specs.declared.checked.Checked.{Checked}
use Rattle.koika_check.specs.declared.checked.CheckedFunction.{CheckedFunction}
use Rattle.koika_check.specs.declared.checked.Input.{Input}
use Rattle.koika_check.specs.declared.typed.BlockStep.TheOpen as opened
use Rattle.koika_check.specs.declared.typed.Typed.{Typed}
use Rattle.koika_check.specs.declared.typed.Typed.TheVariants as typed
use Rattle.koika_check.specs.declared.typed.ValueType.{ValueType}
use Rattle.koika_lower.specs.Lowering.{typed_input_widths, register_widths}
use Rattle.koika_lower.specs.inner.Simulation.{AreNames, Lowers, Sense, Simulates, Stands, place_of, world}
use Rattle.koika_lower.specs.declared.lowered.Bound.{Bound}
use Rattle.koika_lower.specs.declared.lowered.Lowered.{Lowered}
use Rattle.koika_lower.proofs.Constructs.{world-design}
use Rattle.koika_lower.proofs.MeaningLayers.{meaning-Constant, meaning-Input, meaning-Local}
use Rattle.koika_lower.proofs.Names.{name-at}
use Rattle.koika_lower.proofs.Simulations.{sim-value}
use Rattle.koika_check.proofs.TypingLayers.{open-HasType}
use Rattle.koika_lower.proofs.Values.{all-get, constant-stands, unpacked-stands}

-- ---- the world

behind-inputs : (s : RuleSetting Stopped) (fs : List CheckedFunction) → (bodies_behind s fs).inputs ≡ s.inputs
behind-inputs s [] = refl
behind-inputs s (f ∷ fs) = behind-inputs (record s { bodies = s.bodies ++ meaning s f.body ∷ [] }) fs

world-inputs : (d : Checked) (n : ℕ) (inputs : List BitVector) (ports : Ports Stopped) → (world d n inputs ports).inputs ≡ inputs
world-inputs d n inputs ports = behind-inputs (record { design = d; inputs = inputs; ports = ports; bodies = [] }) (take n d.functions)

module _ (d : Checked) (n depth : ℕ) (names : List Bound) (types : List ValueType) where
  -- the same by another account of what it comes to
  pub lowers-sense : (of : Option ValueType) (m m' : Sense) (l : Lowered) → ((s : RuleSetting Stopped) → m s ≡ m' s) → Lowers d n depth names types of m l → Lowers d n depth names types of m' l
  lowers-sense of m m' l e h = subst (λ (x : Sense). Lowers d n depth names types of x l) (λ i s. e s i) h

  -- an expression whose outermost part is known
  pub at_form : (e known : Typed) (of : Option ValueType) (l : Lowered) → e ≡ known → HasType d n e types of →
      (HasType d n known types of → Lowers d n depth names types of (λ s. meaning s known) l) → Lowers d n depth names types of (λ s. meaning s e) l
  at_form e known of l same h next =
      subst (λ (x : Typed). Lowers d n depth names types of (λ s. meaning s x) l) (sym same) (next (subst (λ (x : Typed). HasType d n x types of) same h))

  module _ (design : IsTypedDesign d) where
    pub constant-lowers : (v : Value) (of : Option ValueType) (l : Lowered) →
        l ≡ record { action = action.Const (packed v); width = (packed v).width } →
        HasType d n (typed.Constant v) types of → Lowers d n depth names types of (λ s. meaning s (typed.Constant v)) l
    constant-lowers v of l made h =
        let it = open-HasType d n (typed.Constant v) (opened.Constant v) (typed.rolls-Constant v) types of h in
        let t : ValueType = it.0 in
        let stands = constant-stands d design t v it.2 it.1 in
        lowers-sense of (λ s. typed_step s (opened.Constant v)) (λ s. meaning s (typed.Constant v)) l (λ s. sym (meaning-Constant s v))
        (subst (λ (o : Option ValueType). Lowers d n depth names types o (λ s. typed_step s (opened.Constant v)) l) (sym it.3)
        (subst (λ (x : Lowered). Lowers d n depth names types (Some t) (λ s. typed_step s (opened.Constant v)) x) (sym made)
        (record {
          valid = it.2;
          width = stands.2.1;
          typed = λ widths f. (stands.2.0, refl);
          means = λ inputs ports values locals w p st. sim-value (register_widths d) (Stands d (Some t)) (Some v) (packed v) stands;
        })))

    pub input-lowers : (number : ℕ) (of : Option ValueType) (l : Lowered) →
        ((i : Input) → slice_get d.inputs number ≡ Some i → l ≡ record { action = action.Input number; width = i.width }) →
        HasType d n (typed.Input number) types of → Lowers d n depth names types of (λ s. meaning s (typed.Input number)) l
    input-lowers number of l made h =
        let it = open-HasType d n (typed.Input number) (opened.Input number) (typed.rolls-Input number) types of h in
        let i : Input = it.0 in
        let ok = all-get (IsInput d) d.inputs number i design.inputs it.1 in
        let held : slice_get (typed_input_widths d) number ≡ Some i.width = slice_get-map (λ (x : Input). x.width) d.inputs number ∙ ap (option_map (λ (x : Input). x.width)) it.1 in
        lowers-sense of (λ s. typed_step s (opened.Input number)) (λ s. meaning s (typed.Input number)) l (λ s. sym (meaning-Input s number))
        (subst (λ (o : Option ValueType). Lowers d n depth names types o (λ s. typed_step s (opened.Input number)) l) (sym it.2)
        (subst (λ (x : Lowered). Lowers d n depth names types (Some i.of) (λ s. typed_step s (opened.Input number)) x) (sym (made i it.1))
        (record {
          valid = ok.of;
          width = ok.width;
          typed = λ widths f. held;
          means = λ inputs ports values locals w p st.
              let x : BitVector = slice_index_or inputs number unit in
              let wide : HasWidth x i.width = w.each number i.width held in
              let found : slice_get inputs number ≡ Some x =
              slice_get-get_or inputs number unit (subst (λ k. number < k) (sym w.count) (slice_get_within (typed_input_widths d) number i.width held)) in
              subst (λ (m : Evaluation (Option Value) Stopped). Simulates (register_widths d) (Stands d (Some i.of)) m (λ events. record { events = events; ending = Reached x }))
              (sym (ap (λ (c : Checked). input_as c (slice_get c.inputs number) (slice_get (world d n inputs ports).inputs number)) (world-design d n inputs ports)
              ∙ ap (λ (xs : List BitVector). input_as d (slice_get d.inputs number) (slice_get xs number)) (world-inputs d n inputs ports)
              ∙ ap (λ (o : Option Input). input_as d o (slice_get inputs number)) it.1
              ∙ ap (λ (o : Option BitVector). input_as d (Some i) o) found))
              (sim-value (register_widths d) (Stands d (Some i.of)) (Some (unpacked d i.of x)) x
              (unpacked-stands d design i.of x ok.of (wide.0, wide.1 ∙ ok.width)));
        })))

  pub local-lowers : (index : ℕ) (of : Option ValueType) (l : Lowered) → AreNames d depth names types →
      ((b : Bound) → slice_get names index ≡ Some b → l ≡ record { action = action.Local (place_of depth b); width = b.width }) →
      HasType d n (typed.Local index) types of → Lowers d n depth names types of (λ s. meaning s (typed.Local index)) l
  local-lowers index of l are made h =
      let it = open-HasType d n (typed.Local index) (opened.Local index) (typed.rolls-Local index) types of h in
      let t : ValueType = it.0 in
      let at = name-at d depth index names types t are it.1 in
      lowers-sense of (λ s. typed_step s (opened.Local index)) (λ s. meaning s (typed.Local index)) l (λ s. sym (meaning-Local s index))
      (subst (λ (o : Option ValueType). Lowers d n depth names types o (λ s. typed_step s (opened.Local index)) l) (sym it.2)
      (subst (λ (x : Lowered). Lowers d n depth names types (Some t) (λ s. typed_step s (opened.Local index)) x) (sym (made at.bound at.is))
      (record {
        valid = at.valid;
        width = at.width;
        typed = λ widths f. at.fits widths f;
        means = λ inputs ports values locals w p st.
            sim-value (register_widths d) (Stands d (Some t)) (slice_get values index) (slice_index_or locals (place_of depth at.bound) unit) (at.stands values locals st);
      })))
