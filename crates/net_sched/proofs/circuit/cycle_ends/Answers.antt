use Rattle.std.proofs.Common.{◌≡◌, ℕ, [], List, length, map, ap, sym, subst, ◌∙◌, arith}
use Rattle.net_graph.specs.Values.{AllRead}
use Rattle.typed_core.specs.Evaluation.{unit}
use Rattle.typed_core.specs.Valid.{IsValid}
use Rattle.typed_core.specs.Widths.{input_widths, register_widths}
use Rattle.typed_core.specs.declared.design.Parts.{Parts}
use Rattle.typed_core.specs.declared.design.RegDecl.{RegDecl}
use Rattle.one_rule.specs.PortRun.{port_walk}
use Rattle.rule_log.proofs.Telling.{after_at}
use Rattle.net_action.proofs.Growth.{values_before}
use Rattle.net_sched.specs.inner.Cycles.{AreStates}
use Rattle.net_sched.proofs.Pushing.{flags_kept}
use Rattle.net_sched.proofs.circuit.cycle_ends.Goals as goal

pub cycle_wires-requires-clause-start : goal.cycle_wires-requires-clause-start
cycle_wires-requires-clause-start c =
    let same = subst (λ (d : Parts). c.as_slice.result.now ≡ d.regs) c.design.view_is c.as_slice.ensures in
    subst (λ (ws : List ℕ). AreStates c.state_wires.new.net ws c.in_ok-start.start) (ap (λ (decls : List RegDecl). map (λ (decl : RegDecl). decl.width) decls) same) c.in_ok-start.ensures.wires

pub returns-clause-valid : goal.returns-clause-valid
returns-clause-valid c = subst IsValid c.design.view_is c.design.invariant

pub returns-clause-reads : goal.returns-clause-reads
returns-clause-reads c =
    let d = c.args.design.now in
    let widths = register_widths d in
    let regs = subst (λ (d : Parts). c.as_slice.result.now ≡ d.regs) c.design.view_is c.as_slice.ensures in
    (c.next_values.ensures.grows (input_widths d)).reads widths (c.cycle_wires.ensures.grows.reads widths
    (subst (λ (decls : List RegDecl). AllRead (input_widths d) (map (λ (decl : RegDecl). decl.width) decls) c.state_wires.new.net) regs (c.in_ok-start.ensures.reads (input_widths d))))

pub returns-clause-ends : goal.returns-clause-ends
returns-clause-ends c =
    let d = c.args.design.now in
    let second = c.cycle_wires.new.net in
    let last = c.next_values.new.net in
    record {
      as_many = c.in_ok-next.ensures.count;
      wires = c.in_ok-next.ensures.wires;
      flags = flags_kept [] second last c.in_ok-cycle.cycle.fired (length d.rules) (c.next_values.ensures.grows []) c.in_ok-cycle.ensures.wires.fired;
      leaves = λ s values are.
          let stands = c.in_ok-cycle.ensures.walk s values (values_before s [] second last values (c.next_values.ensures.grows []) are) in
          let end = port_walk d s.inputs s.states in
          record {
            regs = λ size register within.
                c.in_ok-next.ensures.values s values end.log s.states are stands.ports register within
                ∙ sym (after_at (register_widths d) register end.log s.states unit stands.ports.log.fit (omega (arith, within, size)));
            flags = stands.fired;
          };
    }
