-- Parts of values, updates and arrays are lowered.
use Rattle.std.proofs.Common.{◌≡◌, ◌≢◌, ℕ, zero, suc, ◌+◌, ◌-◌, ◌*◌, ◌≤◌, ◌<◌, ◌⊎◌, inl, inr, List, [], ◌∷◌, ◌++◌, length, map, replicate, Option, Some, true, false, slice_get, slice_index_or, arith, refl, ap, ap₂, sym, subst, ◌∙◌}
use Rattle.std.proofs.lemmas.Bool.{cases_eq}
use Rattle.kw_bits.specs.BitVector.{BitVector}
use Rattle.kw_bits.specs.Laws.{HasWidth}
use Rattle.kw_bits.specs.Operators as op
use Rattle.kw_bits.proofs.OperatorLaws.{slice-whole}
use Rattle.koika_types.specs.Values.{stacked_up}
use Rattle.koika_types.specs.declared.value.Value.{Value}
use Rattle.koika_types.specs.declared.value.Value.TheVariants as value
use Rattle.koika_types.proofs.Stacks.{nothing-concat}
use Rattle.typed_core.specs.Evaluation.{Ports, comes_to, evaluate, unit}
use Rattle.typed_core.specs.Valid.{ActionHasWidth}
use Rattle.typed_core.specs.declared.action.Action.{Action}
use Rattle.typed_core.specs.declared.outcome.Stopped.{Stopped}
use Rattle.koika_check.specs.Meaning.{all_selected, apply, updated}
use Rattle.koika_check.specs.Types.{array, width_of}
use Rattle.koika_check.specs.Typing.{IsType, IsTypedDesign, Replaces, TakesAll}
use Rattle.koika_check.specs.declared.checked.Checked.{Checked}
use Rattle.koika_check.specs.declared.typed.Operation.TheVariants as operation
use Rattle.koika_check.specs.declared.typed.Selection.{Selection}
use Rattle.koika_check.specs.declared.typed.ValueType.{ValueType}
use Rattle.koika_lower.specs.inner.Actions.{ComesTo}
use Rattle.koika_lower.specs.inner.Applied.{AllFit, IsArray, IsReplaced, IsSelected, IsUpdated, lets, lowest_bit, lowest_of_all, names_stacked, part_width, range_at, width_of_all, with_part}
use Rattle.koika_lower.specs.Lowering.{register_widths}
use Rattle.koika_lower.specs.inner.Simulation.{IsApplied, Lowers, LowersAll, Sense, Simulates, StandAll, Stands, apply_sense, declared_by, environment, world}
use Rattle.koika_lower.specs.declared.lowered.Bound.{Bound}
use Rattle.koika_lower.specs.declared.lowered.Lowered.{Lowered}
use Rattle.koika_lower.proofs.Calls.{lets-typed}
use Rattle.koika_lower.proofs.Constructs.{one-lowers, same-lowers, sim-core, single}
use Rattle.koika_lower.proofs.Operands.{onto, parts, sim-lets}
use Rattle.koika_lower.proofs.Simulations.{sim-value}
use Rattle.koika_lower.proofs.TypeWidths.{factor}
use Rattle.koika_lower.proofs.Values.{array-width, items-stand, updated-stands, replaces-fit, takes-fit, takes-stands}

-- the slice of all bits
whole_slice : (x : BitVector) (w low : ℕ) → HasWidth x w → low + w ≤ w → op.slice x (low + w - 1) low ≡ x
whole_slice x w low h within =
    let none : low ≡ 0 = omega arith in
    ap (λ k. op.slice x (k + w - 1) k) none ∙ ap (λ k. op.slice x k 0) (omega (arith, h.1)) ∙ slice-whole x h.0

-- an update of bound values
update-value : (d : Checked) → IsTypedDesign d → (n : ℕ) (inputs : List BitVector) (ports : Ports Stopped) (s : Selection) (t u : ValueType) (body : Action) (locals : List BitVector) (width : ℕ) →
    width ≡ width_of d t → IsType d t → Replaces d s t u → IsReplaced (range_at (lowest_bit s) (part_width s)) width body → (vs : List Value) (xs : List BitVector) → StandAll d (t ∷ u ∷ []) vs xs →
    Simulates (register_widths d) (Stands d (Some t)) (apply (world d n inputs ports) (operation.Update s) vs) (evaluate (environment d inputs) ports body (onto xs locals))
update-value d design n inputs ports s t u body locals width e valid r is [] xs h = absurd h
update-value d design n inputs ports s t u body locals width e valid r is (v ∷ vs) [] h = absurd h
update-value d design n inputs ports s t u body locals width e valid r is (v ∷ []) (x ∷ xs) h = absurd h.1
update-value d design n inputs ports s t u body locals width e valid r is (v ∷ w ∷ vs) (x ∷ []) h = absurd h.1
update-value d design n inputs ports s t u body locals width e valid r is (v ∷ w ∷ z ∷ vs) (x ∷ y ∷ xs) h = absurd h.1.1
update-value d design n inputs ports s t u body locals width e valid r is (v ∷ w ∷ []) (x ∷ y ∷ z ∷ xs) h = absurd h.1.1
update-value d design n inputs ports s t u body locals width e valid r is (v ∷ w ∷ []) (x ∷ y ∷ []) h =
    sim-core (register_widths d) (Stands d (Some t)) (apply (world d n inputs ports) (operation.Update s) (v ∷ w ∷ [])) (evaluate (environment d inputs) ports body (y ∷ x ∷ locals))
    (comes_to (with_part (range_at (lowest_bit s) (part_width s)) width x y)) (is.means (environment d inputs) ports y x locals)
    (sim-value (register_widths d) (Stands d (Some t)) (Some (updated v s w)) (with_part (range_at (lowest_bit s) (part_width s)) width x y)
    (subst (λ k. Stands d (Some t) (Some (updated v s w)) (with_part (range_at (lowest_bit s) (part_width s)) k x y)) (sym e)
    (updated-stands d design s t u v w x y valid r h.0 h.1.0)))

module _ (d : Checked) (n depth : ℕ) (names : List Bound) (types : List ValueType) where
  pub select-lowers : (selections : List Selection) (ts : List ValueType) (of : Option ValueType) (senses : List Sense) (operands init : List Lowered) (last l : Lowered) →
      operands ≡ init ++ last ∷ [] → (AllFit selections last.width → IsSelected selections last l) → IsApplied d n depth names types (operation.Select selections) ts of senses operands →
      Lowers d n depth names types of (apply_sense (operation.Select selections) senses) l
  select-lowers selections [] of senses operands init last l e h given = absurd given.applies
  select-lowers selections (t ∷ u ∷ ts) of senses operands init last l e h given = absurd given.applies
  select-lowers selections (t ∷ []) of senses operands init last l e h given =
      let it = given.applies in
      let lone = (single d n depth false names types t senses operands init last e given.all).lowers in
      let fit = takes-fit d given.design selections t it.0 lone.valid it.1 in
      let is : IsSelected selections last l = h (subst (AllFit selections) (sym lone.width) fit.0) in
      let wide : width_of_all selections last.width ≡ width_of d it.0 = ap (width_of_all selections) lone.width ∙ fit.1 in
      subst (λ (o : Option ValueType). Lowers d n depth names types o (apply_sense (operation.Select selections) senses) l) (sym it.2)
      (by_width it.0 it.1 fit.2 fit.3 is lone.width wide (cases_eq (width_of_all selections last.width) last.width))
    where
      by_width : (part : ValueType) → TakesAll d selections t part → IsType d part → lowest_of_all selections + width_of d part ≤ width_of d t → IsSelected selections last l → last.width ≡ width_of d t →
          width_of_all selections last.width ≡ width_of d part → (width_of_all selections last.width ≡ last.width) ⊎ (width_of_all selections last.width ≢ last.width) →
          Lowers d n depth names types (Some part) (apply_sense (operation.Select selections) senses) l
      by_width part takes valid within is whole wide (inl same) =
          let all_bits : width_of d t ≡ width_of d part = sym whole ∙ sym same ∙ wide in
          same-lowers d n depth names types (operation.Select selections) t (Some part) senses operands init last l e false given.all valid (is.same same) all_bits
          (λ inputs ports v x st. sim-value (register_widths d) (Stands d (Some part)) (Some (all_selected v selections)) x
          (subst (λ z. Stands d (Some part) (Some (all_selected v selections)) z) (whole_slice x (width_of d part) (lowest_of_all selections) (st.2.0, st.2.1 ∙ all_bits) (omega arith))
          (takes-stands d given.design selections t part v x (subst (λ w. (1 ≤ w) × (w ≤ 128)) (sym all_bits) valid) takes st)))
      by_width part takes valid within is whole wide (inr other) =
          let s = is.part other in
          let up : lowest_of_all selections + width_of_all selections last.width - 1 ≡ lowest_of_all selections + width_of d part - 1 = ap (λ w. lowest_of_all selections + w - 1) wide in
          let size : (lowest_of_all selections + width_of_all selections last.width - 1) - lowest_of_all selections + 1 ≡ width_of d part = omega (arith, wide, valid.0) in
          one-lowers d n depth names types (operation.Select selections) t (Some part) senses operands init last l e false given.all valid
          (λ env ports x. comes_to (op.slice x (lowest_of_all selections + width_of_all selections last.width - 1) (lowest_of_all selections))) s.means (is.width ∙ wide)
          (λ widths a ok. subst (λ w. ActionHasWidth (declared_by d) l.action widths w) size (s.typed (declared_by d) widths (width_of d t) a (omega (arith, wide, valid.0)) (omega (arith, wide, valid.0, within))))
          (λ inputs ports v x p st. sim-value (register_widths d) (Stands d (Some part)) (Some (all_selected v selections)) (op.slice x (lowest_of_all selections + width_of_all selections last.width - 1) (lowest_of_all selections))
          (subst (λ k. Stands d (Some part) (Some (all_selected v selections)) (op.slice x k (lowest_of_all selections))) (sym up)
          (takes-stands d given.design selections t part v x (single d n depth false names types t senses operands init last e given.all).lowers.valid takes st)))

  second_some : (u : ValueType) (ms : List Sense) (ls : List Lowered) → LowersAll d n (depth + 1) true names types (Some u ∷ []) ms ls → 1 ≤ width_of d u
  second_some u [] ls all = absurd all
  second_some u (m ∷ ms) [] all = absurd all
  second_some u (m ∷ ms) (l ∷ ls) all = all.0.valid.0

  pub update-lowers : (s : Selection) (ts : List ValueType) (of : Option ValueType) (senses : List Sense) (operands : List Lowered) (l : Lowered) → IsUpdated s operands l →
      IsApplied d n depth names types (operation.Update s) ts of senses operands → Lowers d n depth names types of (apply_sense (operation.Update s) senses) l
  update-lowers s [] of senses operands l h given = absurd given.applies
  update-lowers s (t ∷ []) of senses operands l h given = absurd given.applies
  update-lowers s (t ∷ u ∷ w ∷ ts) of senses operands l h given = absurd given.applies
  update-lowers s (t ∷ u ∷ []) of senses operands l h given = by_operands senses operands h given.all
    where
      by_operands : (senses : List Sense) (operands : List Lowered) → IsUpdated s operands l → LowersAll d n depth true names types (Some t ∷ Some u ∷ []) senses operands →
          Lowers d n depth names types of (apply_sense (operation.Update s) senses) l
      by_operands [] operands h all = absurd all
      by_operands (m ∷ ms) [] h all = absurd all
      by_operands (m ∷ ms) (a ∷ ls) h all =
          let it = given.applies in
          let first : Lowers d n depth names types (Some t) m a = all.0 in
          let fit = replaces-fit d given.design s t u first.valid it.0 in
          let is = h.replaced (omega (arith, fit.0, first.valid.1)) a ls refl (omega (arith, fit.0, first.width)) (omega (arith, first.width, first.valid.1)) in
          subst (λ (o : Option ValueType). Lowers d n depth names types o (apply_sense (operation.Update s) (m ∷ ms)) l) (sym it.1)
          (record {
            valid = first.valid;
            width = h.width a ls refl ∙ first.width;
            typed = λ widths f.
                let at : ActionHasWidth (declared_by d) h.body (onto (map (width_of d) (t ∷ u ∷ [])) widths) a.width =
                subst (λ w. ActionHasWidth (declared_by d) h.body (w ∷ width_of d t ∷ widths) a.width) fit.1
                (subst (λ w. ActionHasWidth (declared_by d) h.body (part_width s ∷ w ∷ widths) a.width) first.width (is.typed (declared_by d) widths (omega (arith, fit.1, second_some u ms ls all.1)))) in
                subst (λ w. ActionHasWidth (declared_by d) l.action widths w) (sym (h.width a ls refl))
                (h.bound.typed (declared_by d) widths a.width (lets-typed d n depth names types (t ∷ u ∷ []) (m ∷ ms) (a ∷ ls) h.body widths a.width given.are f all at));
            means = λ inputs ports values locals w p st.
                sim-core (register_widths d) (Stands d (Some t)) (apply_sense (operation.Update s) (m ∷ ms) (world d n inputs ports) values) (evaluate (environment d inputs) ports l.action locals)
                (lets (parts d n names types inputs ports values w p (a ∷ ls)) (evaluate (environment d inputs) ports h.body) locals) (h.bound.means (environment d inputs) ports locals)
                (sim-lets d n names types inputs ports values w p (Stands d (Some t)) depth (t ∷ u ∷ []) (m ∷ ms) (a ∷ ls) (apply (world d n inputs ports) (operation.Update s)) (evaluate (environment d inputs) ports h.body) locals given.are st all
                (update-value d given.design n inputs ports s t u h.body locals a.width first.width first.valid it.0 is));
          })

-- ---- arrays

index-onto : (xs zs : List BitVector) (k : ℕ) → slice_index_or (onto xs zs) (length xs + k) unit ≡ slice_index_or zs k unit
index-onto [] zs k = ap (λ i. slice_index_or zs i unit) (omega arith)
index-onto (x ∷ xs) zs k = ap (λ i. slice_index_or (onto xs (x ∷ zs)) i unit) (omega arith) ∙ index-onto xs (x ∷ zs) (suc k)

-- the names that are bound, one above the other
stacked-names : (xs locals : List BitVector) (x : BitVector) → names_stacked (length xs) (onto xs (x ∷ locals)) ≡ op.concat (stacked_up xs) x
stacked-names [] locals x = sym (nothing-concat x)
stacked-names (y ∷ ys) locals x =
    ap₂ op.concat (stacked-names ys (x ∷ locals) y)
    (ap (λ i. slice_index_or (onto ys (y ∷ x ∷ locals)) i unit) (omega arith) ∙ index-onto ys (y ∷ x ∷ locals) 1)

get-onto : (w k j : ℕ) (zs : List ℕ) → ((i : ℕ) → i < j → slice_get zs i ≡ Some w) → (i : ℕ) → i < k + j → slice_get (onto (replicate k w) zs) i ≡ Some w
get-onto w zero j zs h i below = h i (omega arith)
get-onto w (suc k) j zs h i below = get-onto w k (suc j) (w ∷ zs) (one_more h) i (omega arith)
  where
    one_more : ((i : ℕ) → i < j → slice_get zs i ≡ Some w) → (i : ℕ) → i < suc j → slice_get (w ∷ zs) i ≡ Some w
    one_more h zero below = refl
    one_more h (suc i) below = h i (omega arith)

map-replicate : (d : Checked) (k : ℕ) (item : ValueType) → map (width_of d) (replicate k item) ≡ replicate k (width_of d item)
map-replicate d zero item = refl
map-replicate d (suc k) item = ap (λ ws. width_of d item ∷ ws) (map-replicate d k item)

all-count : (d : Checked) (ts : List ValueType) (vs : List Value) (xs : List BitVector) → StandAll d ts vs xs → length xs ≡ length ts
all-count d [] [] [] h = refl
all-count d [] [] (x ∷ xs) h = absurd h
all-count d [] (v ∷ vs) xs h = absurd h
all-count d (t ∷ ts) [] xs h = absurd h
all-count d (t ∷ ts) (v ∷ vs) [] h = absurd h
all-count d (t ∷ ts) (v ∷ vs) (x ∷ xs) h = ap suc (all-count d ts vs xs h.1)

rising-count : (d : Checked) (n depth : ℕ) (names : List Bound) (types ts : List ValueType) (senses : List Sense) (ls : List Lowered) → LowersAll d n depth true names types (map Some ts) senses ls → length ls ≡ length ts
rising-count d n depth names types [] [] [] all = refl
rising-count d n depth names types [] [] (l ∷ ls) all = absurd all
rising-count d n depth names types [] (m ∷ ms) ls all = absurd all
rising-count d n depth names types (t ∷ ts) [] ls all = absurd all
rising-count d n depth names types (t ∷ ts) (m ∷ ms) [] all = absurd all
rising-count d n depth names types (t ∷ ts) (m ∷ ms) (l ∷ ls) all = ap suc (rising-count d n (depth + 1) names types ts ms ls all.1)

-- the value of an array's body
array-value : (d : Checked) → IsTypedDesign d → (n : ℕ) (inputs : List BitVector) (ports : Ports Stopped) (item : ValueType) (ts : List ValueType) (body : Action) (count : ℕ) (locals : List BitVector) →
    count ≡ length ts → 1 ≤ count → ts ≡ replicate (length ts) item → IsType d (array (length ts) item) → ComesTo body (λ env ports locals. comes_to (names_stacked (count - 1) locals)) →
    (vs : List Value) (xs : List BitVector) → StandAll d ts vs xs →
    Simulates (register_widths d) (Stands d (Some (array (length ts) item))) (apply (world d n inputs ports) operation.Array vs) (evaluate (environment d inputs) ports body (onto xs locals))
array-value d design n inputs ports item ts body count locals e some same valid means vs [] all = absurd (omega (arith, all-count d ts vs [] all))
array-value d design n inputs ports item ts body count locals e some same valid means vs (x ∷ xs) all =
    let k : length (x ∷ xs) ≡ length ts = all-count d ts vs (x ∷ xs) all in
    let last : count - 1 ≡ length xs = omega (arith, k) in
    sim-core (register_widths d) (Stands d (Some (array (length ts) item))) (apply (world d n inputs ports) operation.Array vs) (evaluate (environment d inputs) ports body (onto xs (x ∷ locals)))
    (comes_to (stacked_up (x ∷ xs)))
    (means (environment d inputs) ports (onto xs (x ∷ locals)) ∙ ap (λ i. comes_to (names_stacked i (onto xs (x ∷ locals)))) last ∙ ap comes_to (stacked-names xs locals x))
    (sim-value (register_widths d) (Stands d (Some (array (length ts) item))) (Some (value.Items vs)) (stacked_up (x ∷ xs))
    (subst (λ i. Stands d (Some (array i item)) (Some (value.Items vs)) (stacked_up (x ∷ xs))) k
    (items-stand d item vs (x ∷ xs) (subst (λ i. IsType d (array i item)) (sym k) valid)
    (subst (λ us. StandAll d us vs (x ∷ xs)) (same ∙ ap (λ i. replicate i item) (sym k)) all))))

module _ (d : Checked) (n depth : ℕ) (names : List Bound) (types : List ValueType) where
  pub array-lowers : (ts : List ValueType) (of : Option ValueType) (senses : List Sense) (operands : List Lowered) (l : Lowered) → IsArray operands l →
      IsApplied d n depth names types operation.Array ts of senses operands → Lowers d n depth names types of (apply_sense operation.Array senses) l
  array-lowers [] of senses operands l h given =
      let it = given.applies in absurd (omega (arith, it.2.0))
  array-lowers (t ∷ ts) of [] operands l h given = absurd given.all
  array-lowers (t ∷ ts) of (m ∷ ms) [] l h given = absurd given.all
  array-lowers (t ∷ ts) of (m ∷ ms) (a ∷ ls) l h given =
      let it = given.applies in
      let item : ValueType = it.0 in
      let count : length (a ∷ ls) ≡ length (t ∷ ts) = rising-count d n depth names types (t ∷ ts) (m ∷ ms) (a ∷ ls) given.all in
      let same : t ≡ item = let e = it.1 in cc in
      let wide : a.width ≡ width_of d item = given.all.0.width ∙ ap (width_of d) same in
      let whole : length (a ∷ ls) * width_of d item ≡ width_of d (array (length (t ∷ ts)) item) = ap (λ k. k * width_of d item) count ∙ array-width d (length (t ∷ ts)) item in
      let few : length (a ∷ ls) * a.width ≤ 128 = subst (λ w. length (a ∷ ls) * w ≤ 128) (sym wide) (subst (λ w. w ≤ 128) (sym whole) it.2.1) in
      let short : length (a ∷ ls) ≤ 128 = omega (arith, it.2.1, factor (length (a ∷ ls)) (width_of d item) (width_of d (array (length (t ∷ ts)) item)) whole it.2.0) in
      let size : l.width ≡ width_of d (array (length (t ∷ ts)) item) = h.width a ls refl short few ∙ ap (λ w. length (a ∷ ls) * w) wide ∙ whole in
      subst (λ (o : Option ValueType). Lowers d n depth names types o (apply_sense operation.Array (m ∷ ms)) l) (sym it.3)
      (record {
        valid = it.2;
        width = size;
        typed = λ widths f.
            subst (λ w. ActionHasWidth (declared_by d) l.action widths w) (whole ∙ sym size)
            (h.bound.typed (declared_by d) widths (length (a ∷ ls) * width_of d item) (lets-typed d n depth names types (t ∷ ts) (m ∷ ms) (a ∷ ls) h.body widths (length (a ∷ ls) * width_of d item) given.are f given.all
            (subst (λ ws. ActionHasWidth (declared_by d) h.body (onto ws widths) (length (a ∷ ls) * width_of d item)) (sym (ap (map (width_of d)) it.1 ∙ map-replicate d (length (t ∷ ts)) item))
            (h.typed (omega arith) short (declared_by d) (width_of d item) (onto (replicate (length (t ∷ ts)) (width_of d item)) widths)
            (subst (λ w. 1 ≤ w) (ap (width_of d) same) given.all.0.valid.0) (subst (λ w. length (a ∷ ls) * w ≤ 128) wide few)
            (λ i below. get-onto (width_of d item) (length (t ∷ ts)) 0 widths (λ j none. absurd (omega arith)) i (omega (arith, count)))))));
        means = λ inputs ports values locals w p st.
            sim-core (register_widths d) (Stands d (Some (array (length (t ∷ ts)) item))) (apply_sense operation.Array (m ∷ ms) (world d n inputs ports) values) (evaluate (environment d inputs) ports l.action locals)
            (lets (parts d n names types inputs ports values w p (a ∷ ls)) (evaluate (environment d inputs) ports h.body) locals) (h.bound.means (environment d inputs) ports locals)
            (sim-lets d n names types inputs ports values w p (Stands d (Some (array (length (t ∷ ts)) item))) depth (t ∷ ts) (m ∷ ms) (a ∷ ls) (apply (world d n inputs ports) operation.Array)
            (evaluate (environment d inputs) ports h.body) locals given.are st given.all
            (array-value d given.design n inputs ports item (t ∷ ts) h.body (length (a ∷ ls)) locals count (omega arith) it.1 it.2 (h.means (omega arith) short)));
      })
