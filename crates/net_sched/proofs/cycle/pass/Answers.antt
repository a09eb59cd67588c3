use Rattle.std.proofs.Common.{◌≡◌, ℕ, [], length, refl, ap, sym, subst, ◌∙◌, arith, Bool}
use Rattle.std.specs.Prelude.{slice_get}
use Rattle.typed_core.specs.Widths.{input_widths, register_widths}
use Rattle.one_rule.specs.Cycle.{environment}
use Rattle.one_rule.specs.PortRun.{port_fire, port_run_if}
use Rattle.typed_core.specs.Continuations.{is_at}
use Rattle.net_action.specs.Gates.{Grows}
use Rattle.net_action.specs.Wires.{HasWire, is_up}
use Rattle.net_action.proofs.Growth.{grows_on, log_kept, ports_kept, values_before, wire_kept}
use Rattle.net_sched.specs.inner.Cycles.{AreFlags, IsVisit, IsWithin}
use Rattle.net_sched.specs.declared.cycle.CycleWires.{CycleWires}
use Rattle.net_sched.proofs.Passing.{gone, is_within}
use Rattle.net_sched.proofs.Pushing.{flags_kept}
use Rattle.net_sched.proofs.cycle.pass.Goals as goal

pub visit-requires-clause-rule : goal.visit-requires-clause-rule
visit-requires-clause-rule c = c.requires.node.rule

pub visit-requires-clause-is_visited : goal.visit-requires-clause-is_visited
visit-requires-clause-is_visited c = subst (λ (w : ℕ). HasWire c.args.net.now w 1) (sym c.nth-is_visited.ensures) (c.requires.wires.visited.each c.args.number c.requires.number)

pub lead-requires-clause-next : goal.lead-requires-clause-next
lead-requires-clause-next c =
    subst (λ (n : ℕ). IsWithin n c.args.node.now.yes) (sym c.requires.wires.visited.count) (is_within (length c.args.context.now.design.now.nodes) c.args.number c.args.node.now.yes c.requires.node.yes)

pub lead-requires-clause-visited : goal.lead-requires-clause-visited
lead-requires-clause-visited c =
    let visited = c.args.cycle.now.visited in
    subst (λ (n : ℕ). AreFlags c.visit.new.net n visited) (sym c.requires.wires.visited.count)
    (flags_kept (input_widths c.args.context.now.design.now) c.args.net.now c.visit.new.net visited (length c.args.context.now.design.now.nodes) c.visit.ensures.grows c.requires.wires.visited)

pub returns-in_err-lead-clause-grows : goal.returns-in_err-lead-clause-grows
returns-in_err-lead-clause-grows c = grows_on (input_widths c.args.context.now.design.now) c.args.net.now c.visit.new.net c.lead.new.net c.visit.ensures.grows (c.lead.ensures.grows (input_widths c.args.context.now.design.now))

pub lead-requires-2-clause-next : goal.lead-requires-2-clause-next
lead-requires-2-clause-next c =
    subst (λ (n : ℕ). IsWithin n c.args.node.now.no) (sym (c.in_ok-lead.ensures.flags.count ∙ c.requires.wires.visited.count)) (is_within (length c.args.context.now.design.now.nodes) c.args.number c.args.node.now.no c.requires.node.no)

pub lead-requires-2-clause-goes : goal.lead-requires-2-clause-goes
lead-requires-2-clause-goes c = wire_kept [] c.visit.new.net c.lead.new.net c.in_ok-tried.tried.fails 1 (c.lead.ensures.grows []) c.in_ok-tried.ensures.fails

pub returns-in_err-lead-2-clause-grows : goal.returns-in_err-lead-2-clause-grows
returns-in_err-lead-2-clause-grows c =
    let widths = input_widths c.args.context.now.design.now in
    grows_on widths c.args.net.now c.visit.new.net c.lead-2.new.net c.visit.ensures.grows (grows_on widths c.visit.new.net c.lead.new.net c.lead-2.new.net (c.lead.ensures.grows widths) (c.lead-2.ensures.grows widths))

pub mark-requires-clause-place : goal.mark-requires-clause-place
mark-requires-clause-place c = omega (arith, c.requires.node.rule, c.requires.wires.fired.count)

pub mark-requires-clause-flags : goal.mark-requires-clause-flags
mark-requires-clause-flags c =
    let widths = input_widths c.args.context.now.design.now in
    let fired = c.args.cycle.now.fired in
    let grows = grows_on widths c.args.net.now c.visit.new.net c.lead-2.new.net c.visit.ensures.grows (grows_on widths c.visit.new.net c.lead.new.net c.lead-2.new.net (c.lead.ensures.grows widths) (c.lead-2.ensures.grows widths)) in
    subst (λ (n : ℕ). AreFlags c.lead-2.new.net n fired) (sym c.requires.wires.fired.count) (flags_kept widths c.args.net.now c.lead-2.new.net fired (length c.args.context.now.design.now.rules) grows c.requires.wires.fired)

pub mark-requires-clause-is_set : goal.mark-requires-clause-is_set
mark-requires-clause-is_set c =
    wire_kept [] c.visit.new.net c.lead-2.new.net c.in_ok-tried.tried.fires 1 (grows_on [] c.visit.new.net c.lead.new.net c.lead-2.new.net (c.lead.ensures.grows []) (c.lead-2.ensures.grows [])) c.in_ok-tried.ensures.fires

pub returns-in_err-mark-clause-grows : goal.returns-in_err-mark-clause-grows
returns-in_err-mark-clause-grows c =
    let widths = input_widths c.args.context.now.design.now in
    grows_on widths c.args.net.now c.visit.new.net c.mark.new.net c.visit.ensures.grows
    (grows_on widths c.visit.new.net c.lead-2.new.net c.mark.new.net (grows_on widths c.visit.new.net c.lead.new.net c.lead-2.new.net (c.lead.ensures.grows widths) (c.lead-2.ensures.grows widths)) (c.mark.ensures.grows widths))

pub returns-clause-grows : goal.returns-clause-grows
returns-clause-grows c =
    let widths = input_widths c.args.context.now.design.now in
    grows_on widths c.args.net.now c.visit.new.net c.mark.new.net c.visit.ensures.grows
    (grows_on widths c.visit.new.net c.lead-2.new.net c.mark.new.net (grows_on widths c.visit.new.net c.lead.new.net c.lead-2.new.net (c.lead.ensures.grows widths) (c.lead-2.ensures.grows widths)) (c.mark.ensures.grows widths))

pub returns-clause-wires : goal.returns-clause-wires
returns-clause-wires c =
    let widths = input_widths c.args.context.now.design.now in
    let registers = register_widths c.args.context.now.design.now in
    let old = c.args.cycle.now in
    let last : Grows [] c.visit.new.net c.mark.new.net = grows_on [] c.visit.new.net c.lead-2.new.net c.mark.new.net (grows_on [] c.visit.new.net c.lead.new.net c.lead-2.new.net (c.lead.ensures.grows []) (c.lead-2.ensures.grows [])) (c.mark.ensures.grows []) in
    let all : Grows widths c.args.net.now c.mark.new.net =
    grows_on widths c.args.net.now c.visit.new.net c.mark.new.net c.visit.ensures.grows
    (grows_on widths c.visit.new.net c.lead-2.new.net c.mark.new.net (grows_on widths c.visit.new.net c.lead.new.net c.lead-2.new.net (c.lead.ensures.grows widths) (c.lead-2.ensures.grows widths)) (c.mark.ensures.grows widths)) in
    let ports = ports_kept widths c.args.net.now c.mark.new.net registers old.ports all c.requires.wires.ports in
    record {
      ports = record {
        count = ports.count;
        each_start = ports.each_start;
        log = log_kept [] c.visit.new.net c.mark.new.net registers c.in_ok-tried.tried.log last c.in_ok-tried.ensures.log;
      };
      visited = flags_kept [] c.lead-2.new.net c.mark.new.net c.lead-2.new.visited (length c.args.context.now.design.now.nodes) (c.mark.ensures.grows [])
          (subst (λ (n : ℕ). AreFlags c.lead-2.new.net n c.lead-2.new.visited) (c.in_ok-lead.ensures.flags.count ∙ c.requires.wires.visited.count) c.in_ok-lead-2.ensures.flags);
      fired = subst (λ (n : ℕ). AreFlags c.mark.new.net n c.mark.new.flags) c.requires.wires.fired.count c.in_ok-mark.ensures.flags;
    }

pub returns-clause-walk : goal.returns-clause-walk
returns-clause-walk c s values regs now are stands =
    let third = values_before s [] c.lead-2.new.net c.mark.new.net values (c.mark.ensures.grows []) are in
    let second = values_before s [] c.lead.new.net c.lead-2.new.net values (c.lead-2.ensures.grows []) third in
    let first = values_before s [] c.visit.new.net c.lead.new.net values (c.lead.ensures.grows []) second in
    let design = c.args.context.now.design.now in
    let widths = register_widths design in
    let node = c.args.node.now in
    let old = c.args.cycle.now in
    let tried = c.in_ok-tried.tried in
    let new : CycleWires = record { ports = record { start = old.ports.start; log = tried.log }; visited = c.lead-2.new.visited; fired = c.mark.new.flags } in
    let visited = c.requires.wires.visited.count in
    let here : is_up values c.nth-is_visited.result ≡ is_at c.args.number now.at = ap (is_up values) c.nth-is_visited.ensures ∙ stands.visited c.args.number (omega arith) c.requires.number in
    let run = port_run_if (environment design s.inputs) now.state.log regs (slice_get design.rules node.rule) in
    gone widths (length design.nodes) (length design.rules) values regs old new c.args.number node now tried c.lead.new.visited refl refl
    (λ n within. c.in_ok-lead.ensures.up s values second n (omega (arith, within, visited)))
    (λ n within. c.in_ok-lead-2.ensures.up s values third n (omega (arith, within, visited, c.in_ok-lead.ensures.flags.count)))
    (λ n within. c.in_ok-mark.ensures.up s values are n (omega (arith, within, c.requires.wires.fired.count)))
    stands run.events (is_at c.args.number now.at) run.ending refl
    (subst (λ (b : Bool). IsVisit widths values tried b now.state (port_fire design s.inputs regs node.rule now.state)) here (c.in_ok-tried.ensures.visit s values regs now.state first stands.ports))
