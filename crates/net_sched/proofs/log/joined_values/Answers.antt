use Rattle.std.proofs.Common.{◌≡◌, ◌<◌, ◌+◌, ℕ, [], ◌∷◌, ◌++◌, List, length, sym, subst, ap, ap₂, ◌∙◌}
use Rattle.std.specs.Prelude.{◌&&◌, if◌then◌else◌}
use Rattle.net_graph.specs.Values.{value_at}
use Rattle.net_action.specs.Wires.{HasWire, is_up}
use Rattle.net_action.proofs.Growth.{grows_on, values_before, wire_kept}
use Rattle.net_sched.specs.inner.Cycles.{nth}
use Rattle.net_sched.proofs.Pushing.{longer, pushed}
use Rattle.net_sched.proofs.log.joined_values.Goals as goal

pub joined_value-requires-clause-fires : goal.joined_value-requires-clause-fires
joined_value-requires-clause-fires c = wire_kept [] c.args.net.now c.loop-place.net c.args.fires 1 (c.loop-place.invariant.grows []) c.requires.fires

pub joined_value-requires-clause-is_written : goal.joined_value-requires-clause-is_written
joined_value-requires-clause-is_written c =
    subst (λ (w : ℕ). HasWire c.loop-place.net w 1) (sym c.nth-is_written.ensures) (wire_kept [] c.args.net.now c.loop-place.net _ 1 (c.loop-place.invariant.grows []) (c.requires.flags.each c.loop-place.place c.loop-place-test.true))

pub joined_value-requires-clause-one_width : goal.joined_value-requires-clause-one_width
joined_value-requires-clause-one_width c =
    let here = c.requires.widths c.loop-place.place c.loop-place-test.true in (
      here.0,
      subst (λ (w : ℕ). HasWire c.loop-place.net w here.0) (sym c.nth-first.ensures) (wire_kept [] c.args.net.now c.loop-place.net _ here.0 (c.loop-place.invariant.grows []) here.1),
      subst (λ (w : ℕ). HasWire c.loop-place.net w here.0) (sym c.nth-second.ensures) (wire_kept [] c.args.net.now c.loop-place.net _ here.0 (c.loop-place.invariant.grows []) here.2),
    )

pub returns-in_err-value-clause-grows : goal.returns-in_err-value-clause-grows
returns-in_err-value-clause-grows c inputs = grows_on inputs c.args.net.now c.loop-place.net c.joined_value.new.net (c.loop-place.invariant.grows inputs) (c.joined_value.ensures.grows inputs)

pub returns-in_err-push-clause-grows : goal.returns-in_err-push-clause-grows
returns-in_err-push-clause-grows c inputs = grows_on inputs c.args.net.now c.loop-place.net c.joined_value.new.net (c.loop-place.invariant.grows inputs) (c.joined_value.ensures.grows inputs)

pub loop-place-preserved : goal.loop-place-preserved
loop-place-preserved c =
    let old = c.args.net.now in
    let now = c.loop-place.net in
    let new = c.joined_value.new.net in
    let sched = c.args.sched.now in
    let rule = c.args.rule.now in
    let more : List ℕ = c.loop-place.values ++ c.in_ok-value.value ∷ [] in
    let is : c.push.new.self ≡ more = c.in_ok-push.ensures.ok in
    record {
      grows = λ inputs. grows_on inputs old now new (c.loop-place.invariant.grows inputs) (c.joined_value.ensures.grows inputs);
      count = ap length is ∙ longer c.loop-place.values c.in_ok-value.value c.loop-place.place c.loop-place.invariant.count;
      wires = λ place width.
          let P : ℕ → ℕ → Type 0 = λ i w. HasWire old (nth sched.values i) width → HasWire new w width in
          let own : P c.loop-place.place c.in_ok-value.value =
          λ h. c.in_ok-value.ensures.wire width (subst (λ (w : ℕ). HasWire now w width) (sym c.nth-second.ensures) (wire_kept [] old now _ width (c.loop-place.invariant.grows []) h)) in
          subst (λ (ws : List ℕ). place < c.loop-place.place + 1 → HasWire old (nth sched.values place) width → HasWire new (nth ws place) width) (sym is)
          (pushed P c.loop-place.values c.in_ok-value.value c.loop-place.place c.loop-place.invariant.count (λ i within h. wire_kept [] now new _ width (c.joined_value.ensures.grows []) (c.loop-place.invariant.wires i width within h)) own place);
      value = λ s values are.
          let P : ℕ → ℕ → Type 0 = λ i w. value_at values w ≡ (if is_up values c.args.fires && is_up values (nth rule.was_written i) then value_at values (nth rule.values i) else value_at values (nth sched.values i)) in
          let own : P c.loop-place.place c.in_ok-value.value =
          c.in_ok-value.ensures.value s values are
          ∙ ap (λ (w : ℕ). if is_up values c.args.fires && is_up values w then value_at values c.nth-first.result else value_at values c.nth-second.result) c.nth-is_written.ensures
          ∙ ap₂ (λ (a b : ℕ). if is_up values c.args.fires && is_up values (nth rule.was_written c.loop-place.place) then value_at values a else value_at values b) c.nth-first.ensures c.nth-second.ensures in
          subst (λ (ws : List ℕ). (place : ℕ) → place < c.loop-place.place + 1 → P place (nth ws place)) (sym is)
          (pushed P c.loop-place.values c.in_ok-value.value c.loop-place.place c.loop-place.invariant.count (c.loop-place.invariant.value s values (values_before s [] now new values (c.joined_value.ensures.grows []) are)) own);
    }
