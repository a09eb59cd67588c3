use Rattle.std.proofs.Common.{◌≡◌, ◌<◌, ◌+◌, ◌≤◌, ℕ, List, length, ap, sym, subst, arith, take, Some}
use Rattle.std.specs.Prelude.{slice_get, slice_index_or}
use Rattle.std.proofs.lemmas.List.{take_all}
use Rattle.std.proofs.lemmas.Option.{slice_get-get_or}
use Rattle.typed_core.specs.Valid.{IsValid}
use Rattle.typed_core.specs.Widths.{input_widths, register_widths}
use Rattle.typed_core.specs.declared.design.Next.TheVariants as next
use Rattle.typed_core.specs.declared.design.Node.{Node}
use Rattle.typed_core.specs.declared.design.Parts.{Parts}
use Rattle.one_rule.specs.PortRun.{PortState, port_fire}
use Rattle.one_rule.specs.Walk.{Walk, start, walk_past}
use Rattle.net_action.proofs.Growth.{grows_on, values_before}
use Rattle.net_sched.specs.inner.Cycles.{CycleStandsFor, nothing}
use Rattle.net_sched.proofs.Passing.{walk_past_next}
use Rattle.net_sched.proofs.cycle.cycle_wires.Goals as goal

abbrev no_node : Node
no_node = record { rule = 0; yes = next.Node 0; no = next.Node 0 }

pub returns-in_err-cycle-clause-grows : goal.returns-in_err-cycle-clause-grows
returns-in_err-cycle-clause-grows c = c.beginning.ensures.grows (input_widths c.args.design.now)

pub loop-number-init : goal.loop-number-init
loop-number-init c = record {
  grows = c.beginning.ensures.grows (input_widths c.args.design.now);
  wires = c.in_ok-cycle.ensures.wires;
  walk = λ s values are. c.in_ok-cycle.ensures.walk s values are;
}

pub pass-requires-clause-node : goal.pass-requires-clause-node
pass-requires-clause-node c =
    let design = c.args.design.now in
    let i = c.loop-number.number in
    let items = c.as_slice-node-items.result.now in
    let same : items ≡ design.nodes = subst (λ (d : Parts). items ≡ d.nodes) c.design.view_is c.as_slice-node-items.ensures in
    let within : i < length design.nodes = omega (arith, c.loop-number-test.true, ap length same) in
    let valid = subst IsValid c.design.view_is c.design.invariant in
    let found : slice_get design.nodes i ≡ Some (slice_index_or items i no_node) =
    subst (λ (ns : List Node). slice_get design.nodes i ≡ Some (slice_index_or ns i no_node)) (sym same) (slice_get-get_or design.nodes i no_node within) in
    valid.nodes i (slice_index_or items i no_node) found

pub returns-in_err-pass-clause-grows : goal.returns-in_err-pass-clause-grows
returns-in_err-pass-clause-grows c = grows_on (input_widths c.args.design.now) c.args.net.now c.loop-number.net c.pass.new.net c.loop-number.invariant.grows c.pass.ensures.grows

pub loop-number-preserved : goal.loop-number-preserved
loop-number-preserved c =
    let design = c.args.design.now in
    let widths = input_widths design in
    let i = c.loop-number.number in
    let items = c.as_slice-node-items.result.now in
    let same : items ≡ design.nodes = subst (λ (d : Parts). items ≡ d.nodes) c.design.view_is c.as_slice-node-items.ensures in
    let within : i < length design.nodes = omega (arith, c.loop-number-test.true, ap length same) in
    record {
      grows = grows_on widths c.args.net.now c.loop-number.net c.pass.new.net c.loop-number.invariant.grows c.pass.ensures.grows;
      wires = c.in_ok-pass.ensures.wires;
      walk = λ s values are.
          let fire = port_fire design s.inputs s.states in
          let first : Walk PortState = start design.nodes nothing in
          let before = c.loop-number.invariant.walk s values (values_before s widths c.loop-number.net c.pass.new.net values c.pass.ensures.grows are) in
          subst (λ (w : Walk PortState). CycleStandsFor (register_widths design) (length design.nodes) (length design.rules) values s.states c.pass.new.cycle (i + 1) w)
          (sym (walk_past_next fire design.nodes items i no_node first same within))
          (c.in_ok-pass.ensures.walk s values s.states (walk_past fire 0 (take i design.nodes) first) are before);
    }

pub returns-clause-walk : goal.returns-clause-walk
returns-clause-walk c s values are =
    let design = c.args.design.now in
    let i = c.loop-number.number in
    let items = c.as_slice-node-items.result.now in
    let same : items ≡ design.nodes = subst (λ (d : Parts). items ≡ d.nodes) c.design.view_is c.as_slice-node-items.ensures in
    let past : length design.nodes ≤ i = omega (arith, c.loop-number-test.false, ap length same) in
    let last : i ≡ length design.nodes = omega (arith, past, c.loop-number.auto.number-end, ap length same) in
    let fire = port_fire design s.inputs s.states in
    let first : Walk PortState = start design.nodes nothing in
    subst (λ (w : Walk PortState). CycleStandsFor (register_widths design) (length design.nodes) (length design.rules) values s.states c.loop-number.cycle (length design.nodes) w)
    (ap (λ (ns : List Node). walk_past fire 0 ns first) (take_all i design.nodes past))
    (subst (λ (n : ℕ). CycleStandsFor (register_widths design) (length design.nodes) (length design.rules) values s.states c.loop-number.cycle n (walk_past fire 0 (take i design.nodes) first)) last
    (c.loop-number.invariant.walk s values are))
