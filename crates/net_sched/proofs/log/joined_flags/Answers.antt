use Rattle.std.proofs.Common.{◌≡◌, ◌+◌, ℕ, [], List, sym, subst, ap₂, ◌∙◌}
use Rattle.std.specs.Prelude.{◌&&◌, ◌||◌}
use Rattle.net_action.specs.Wires.{HasWire, is_up}
use Rattle.net_action.proofs.Growth.{grows_on, values_before, wire_kept}
use Rattle.net_sched.specs.inner.Cycles.{AreFlags, JoinsFlags, nth}
use Rattle.net_sched.proofs.Pushing.{flags_more, pushed}
use Rattle.net_sched.proofs.log.joined_flags.Goals as goal

pub joined_flag-requires-clause-sched : goal.joined_flag-requires-clause-sched
joined_flag-requires-clause-sched c =
    subst (λ (w : ℕ). HasWire c.loop-place.net w 1) (sym c.nth.ensures) (wire_kept [] c.args.net.now c.loop-place.net _ 1 (c.loop-place.invariant.grows []) (c.requires.sched.each c.loop-place.place c.loop-place-test.true))

pub joined_flag-requires-clause-rule : goal.joined_flag-requires-clause-rule
joined_flag-requires-clause-rule c =
    subst (λ (w : ℕ). HasWire c.loop-place.net w 1) (sym c.nth-in-loop-place.ensures) (wire_kept [] c.args.net.now c.loop-place.net _ 1 (c.loop-place.invariant.grows []) (c.requires.rule.each c.loop-place.place c.loop-place-test.true))

pub joined_flag-requires-clause-fires : goal.joined_flag-requires-clause-fires
joined_flag-requires-clause-fires c = wire_kept [] c.args.net.now c.loop-place.net c.args.fires 1 (c.loop-place.invariant.grows []) c.requires.fires

pub returns-in_err-flag-clause-grows : goal.returns-in_err-flag-clause-grows
returns-in_err-flag-clause-grows c inputs = grows_on inputs c.args.net.now c.loop-place.net c.joined_flag.new.net (c.loop-place.invariant.grows inputs) (c.joined_flag.ensures.grows inputs)

pub returns-in_err-push-clause-grows : goal.returns-in_err-push-clause-grows
returns-in_err-push-clause-grows c inputs = grows_on inputs c.args.net.now c.loop-place.net c.joined_flag.new.net (c.loop-place.invariant.grows inputs) (c.joined_flag.ensures.grows inputs)

pub loop-place-preserved : goal.loop-place-preserved
loop-place-preserved c = record {
  grows = λ inputs. grows_on inputs c.args.net.now c.loop-place.net c.joined_flag.new.net (c.loop-place.invariant.grows inputs) (c.joined_flag.ensures.grows inputs);
  flags = subst (λ (ws : List ℕ). AreFlags c.joined_flag.new.net (c.loop-place.place + 1) ws) (sym c.in_ok-push.ensures.ok) (flags_more c.loop-place.net c.joined_flag.new.net c.loop-place.flags c.in_ok-flag.flag c.loop-place.place (c.joined_flag.ensures.grows []) c.loop-place.invariant.flags c.in_ok-flag.ensures.wire);
  up = λ s values are.
      let old : ℕ → ℕ → Type 0 = λ i w. is_up values w ≡ (is_up values (nth c.args.sched.now i) || (is_up values c.args.fires && is_up values (nth c.args.rule.now i))) in
      let own = c.in_ok-flag.ensures.up s values are ∙ ap₂ (λ (a b : ℕ). is_up values a || (is_up values c.args.fires && is_up values b)) c.nth.ensures c.nth-in-loop-place.ensures in
      subst (λ (ws : List ℕ). JoinsFlags values c.args.sched.now c.args.rule.now (is_up values c.args.fires) (c.loop-place.place + 1) ws) (sym c.in_ok-push.ensures.ok)
      (pushed old c.loop-place.flags c.in_ok-flag.flag c.loop-place.place c.loop-place.invariant.flags.count (c.loop-place.invariant.up s values (values_before s [] c.loop-place.net c.joined_flag.new.net values (c.joined_flag.ensures.grows []) are)) own);
}
