use Rattle.std.proofs.Common.{rules, length, refl, subst, sym}
use Rattle.std.proofs.lemmas.List.{get_or_read_under}
use Rattle.kw_bits.specs.BitVector.{BitVector}
use Rattle.kw_bits.specs.Laws.{HasWidth}
use Rattle.typed_core.specs.Evaluation.{unit}
use Rattle.typed_core.specs.Fits.{CanEvaluate}
use Rattle.typed_core.specs.Valid.{ActionHasWidth}
use Rattle.typed_core.specs.declared.action.Action.{Action, the_lemmas}
use Rattle.typed_core.proofs.Ready.{CanEvaluate-operand}
use Rattle.typed_core.proofs.WidthLists.{within}
use Rattle.one_rule.specs.Answers.{declarations_of, environment_of}
use Rattle.one_rule.proofs.Steps.{body_ready, goes_on_at, has_value, ready_after, ready_behind, value_has_width}
use Rattle.one_rule.proofs.evaluation.part.+run.Goals as goal

pub bound-run-requires : goal.bound-run-requires
bound-run-requires g t c κs within =
    let d = declarations_of c.args.env.now in
    let body = body_ready d c.args.a.now c.args.body.now c.args.locals.now c.operand.new.slot.value c.requires.ready c.if-not-operand.ensures.value in
    let here : CanEvaluate d c.args.body.now c.bind-inner.result = rw c.bind-inner.ensures body in
    search (rules, the_lemmas)

pub in_turn-run-requires-in-Unit : goal.in_turn-run-requires-in-Unit
in_turn-run-requires-in-Unit g t c κs within =
    let d = declarations_of c.args.env.now in
    let env = environment_of g.E.Outside.kept c.args.env.now in
    let reading = g.P.Ports.reading c.args.ports.now in
    let ready = ready_after d env c.requires.fits _ reading _ c.requires.ports c.args.first.now c.args.locals.now (g.P.Ports.widths c.run.new.ports) (g.P.Ports.reading c.run.new.ports) (g.P.Ports.stands_for c.run.new.ports) c.requires.first c.run.new.slot c.run.result (goes_on_at c.run.result c.in-Unit.is) c.run.ensures.leaves c.run.ensures.reading c.run.ensures.widths in
    search (rules, the_lemmas)

pub operand-unreachable-requires : goal.operand-unreachable-requires
operand-unreachable-requires g t c =
    has_value (declarations_of c.args.env.now) (environment_of g.E.Outside.kept c.args.env.now) c.requires.fits _ (g.P.Ports.reading c.args.ports.now) _ c.requires.ports c.args.action.now c.args.locals.now (g.P.Ports.stands_for c.run.new.ports) c.requires.ready c.in-Unit.ensures.leaves

pub operand-returns-in-Input-clause-value : goal.operand-returns-in-Input-clause-value
operand-returns-in-Input-clause-value g t c = λ widths width l typed some.
    let d = declarations_of c.args.env.now in
    let inputs = c.args.env.now.inputs.now in
    let found = subst (λ (a : Action). ActionHasWidth d a widths width) c.in-Input.is typed in
    let fit = c.requires.fits.inputs in
    let same = get_or_read_under inputs c.in-Input.input (length inputs) c.get.result.now unit c.get.ensures (within d.inputs inputs c.in-Input.input width fit found) refl in
    subst (λ (v : BitVector). HasWidth v width) (sym same) (fit.each c.in-Input.input width found)

pub operand-returns-in-Value : goal.operand-returns-in-Value
operand-returns-in-Value g t c =
    let d = declarations_of c.args.env.now in
    let env = environment_of g.E.Outside.kept c.args.env.now in
    let reading = g.P.Ports.reading c.args.ports.now in
    let ready = CanEvaluate-operand d c.args.action.now c.args.locals.now c.requires.ready in
    let leaves = c.in-Value.ensures.leaves in
    let ports = ready_behind d env c.requires.fits _ reading _ c.requires.ports c.args.action.now c.args.locals.now c.run.new.slot.value (g.P.Ports.widths c.run.new.ports) (g.P.Ports.reading c.run.new.ports) (g.P.Ports.stands_for c.run.new.ports) ready leaves c.run.ensures.reading c.run.ensures.widths in
    let value = value_has_width d env c.requires.fits _ reading _ c.requires.ports c.args.action.now c.args.locals.now c.run.new.slot.value (g.P.Ports.widths c.run.new.ports) (g.P.Ports.reading c.run.new.ports) (g.P.Ports.stands_for c.run.new.ports) ready leaves in
    record { leaves = leaves; ports = ports; value = value; reading = c.run.ensures.reading; widths = c.run.ensures.widths }
