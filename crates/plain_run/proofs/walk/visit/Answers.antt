use Rattle.std.proofs.Common.{length, sym, ap, subst, arith}
use Rattle.std.specs.Prelude.{slice_get}
use Rattle.typed_core.specs.Widths.{register_widths}
use Rattle.one_rule.specs.Cycle.{environment}
use Rattle.one_rule.specs.PortRun.{port_run_if}
use Rattle.rule_log.specs.StandsFor.{RegisterLog, StandsFor}
use Rattle.plain_run.proofs.Walking.{flags_count}
use Rattle.plain_run.proofs.walk.visit.Goals as goal

pub settle-requires-clause-rule : goal.settle-requires-clause-rule
settle-requires-clause-rule c =
    let state = c.requires.stands.0 in
    omega (arith, c.requires.rule, ap length c.requires.stands.1.flags, flags_count (length c.args.env.now.design.now.rules) state.fired)

pub returns-clause-visit : goal.returns-clause-visit
returns-clause-visit c state stands =
    let design = c.args.env.now.design.now in
    let p = port_run_if (environment design c.args.env.now.inputs.now) state.log c.args.regs.now (slice_get design.rules c.args.node.now.rule) in
    let run = c.in_ok-end.ensures.run state.log stands.log in
    let log = subst (λ (log : RegisterLog). StandsFor (register_widths design) log p.events) (sym c.deref.ensures) run.1 in
    c.settle.ensures design state p stands run.0 log (c.in_ok-end.ensures.follows state.log stands.log)
