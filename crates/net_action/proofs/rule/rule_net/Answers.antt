use Rattle.std.proofs.Common.{◌≡◌, ℕ, ◌<◌, List, [], Option, Some, length, sym, subst, refl}
use Rattle.std.specs.Prelude.{slice_get, slice_index_or}
use Rattle.std.proofs.lemmas.Option.{slice_get_read}
use Rattle.typed_core.specs.Valid.{ActionHasWidth, IsValid, declarations}
use Rattle.typed_core.specs.Widths.{input_widths, register_widths}
use Rattle.typed_core.specs.declared.design.Parts.{Parts}
use Rattle.typed_core.specs.declared.design.Rule.{Rule}
use Rattle.one_rule.specs.Cycle.{environment}
use Rattle.one_rule.specs.PortRun.{port_run_if}
use Rattle.typed_core.proofs.Values.{found_holds}
use Rattle.net_action.specs.inner.Parts.{CanBe}
use Rattle.net_action.specs.Wires.{RuleStandsFor}
use Rattle.net_action.proofs.Beginning.{rule_stands}
use Rattle.net_action.proofs.Growth.{grows_on, ports_kept, values_before}
use Rattle.net_action.proofs.rule.rule_net.Goals as goal

found : (rules : List Rule) (number : ℕ) (rule : Rule) → number < length rules → rule ≡ slice_index_or rules number rule → slice_get rules number ≡ Some rule
found rules number rule within is = slice_get_read rules (length rules) number rule refl within is

pub part-requires-clause-valid : goal.part-requires-clause-valid
part-requires-clause-valid c = subst IsValid c.design.view_is c.design.invariant

pub part-requires-clause-ports : goal.part-requires-clause-ports
part-requires-clause-ports c = ports_kept (input_widths c.args.design.now) c.args.net.now c.beginning.new.net (register_widths c.args.design.now) c.args.ports.now (c.beginning.ensures.grows (input_widths c.args.design.now)) c.requires.ports

pub part-requires-clause-run : goal.part-requires-clause-run
part-requires-clause-run c = c.in_ok-run.ensures.running

pub part-requires-clause-ready : goal.part-requires-clause-ready
part-requires-clause-ready c =
    let valid = subst IsValid c.design.view_is c.design.invariant in
    let at = subst (λ (d : Parts). slice_get d.rules c.args.rule ≡ Some c.get.result.now) c.design.view_is (found c.design.inside.rules c.args.rule c.get.result.now (subst (λ (d : Parts). c.args.rule < length d.rules) (sym c.design.view_is) c.requires.rule) c.get.ensures) in
    let typed = found_holds (λ (rule : Rule). ActionHasWidth (declarations c.args.design.now) rule.body [] 0) c.args.design.now.rules c.args.rule c.get.result.now valid.rules at in
    subst (λ (names : List ℕ). CanBe (ActionHasWidth (declarations c.args.design.now) c.get.result.now.body) c.beginning.new.net names) (sym c.empty-locals.ensures) ([], 0, tt, typed)

pub returns-in_err-_unit-clause-grows : goal.returns-in_err-_unit-clause-grows
returns-in_err-_unit-clause-grows c = grows_on (input_widths c.args.design.now) c.args.net.now c.beginning.new.net c.part.new.net (c.beginning.ensures.grows (input_widths c.args.design.now)) c.part.ensures.grows

pub returns-clause-grows : goal.returns-clause-grows
returns-clause-grows c = grows_on (input_widths c.args.design.now) c.args.net.now c.beginning.new.net c.part.new.net (c.beginning.ensures.grows (input_widths c.args.design.now)) c.part.ensures.grows

pub returns-clause-fires : goal.returns-clause-fires
returns-clause-fires c = c.in_ok-_unit.ensures.part.running.fires

pub returns-clause-log : goal.returns-clause-log
returns-clause-log c = c.in_ok-_unit.ensures.part.running.log

pub returns-clause-run : goal.returns-clause-run
returns-clause-run c s values events regs are st =
    let at = subst (λ (d : Parts). slice_get d.rules c.args.rule ≡ Some c.get.result.now) c.design.view_is (found c.design.inside.rules c.args.rule c.get.result.now (subst (λ (d : Parts). c.args.rule < length d.rules) (sym c.design.view_is) c.requires.rule) c.get.ensures) in
    let first = values_before s (input_widths c.args.design.now) c.beginning.new.net c.part.new.net values c.part.ensures.grows are in
    let stands = rule_stands (declarations c.args.design.now) c.args.ports.now c.beginning.new.net c.part.new.net _ c.part.new.run c.get.result.now.body c.empty-locals.result c.in_ok-_unit._unit s values events regs c.empty-locals.ensures c.in_ok-_unit.ensures.part are st
    (c.in_ok-run.ensures.fires s values first) (c.in_ok-run.ensures.none s values first) in
    subst (λ (o : Option Rule). RuleStandsFor (register_widths c.args.design.now) values c.part.new.run (port_run_if (environment c.args.design.now s.inputs) events regs o)) (sym at) stands

pub returns-in_err-run-clause-grows : goal.returns-in_err-run-clause-grows
returns-in_err-run-clause-grows c = c.beginning.ensures.grows (input_widths c.args.design.now)
