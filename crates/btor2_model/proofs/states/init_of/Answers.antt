use Rattle.std.proofs.Common.{None, Some, ap, sym, ◌∙◌}
use Rattle.std.proofs.lemmas.List.{take_all}
use Rattle.std.specs.List.{find}
use Rattle.std.specs.Option.{option_map}
use Rattle.btor2_text.specs.declared.line.Line.{Line}
use Rattle.btor2_model.specs.Rules.{is_init}
use Rattle.btor2_model.specs.Scope.{id_at}
use Rattle.btor2_model.specs.inner.SlowRun.{sets}
use Rattle.btor2_model.proofs.Selections.{set-by}
use Rattle.btor2_model.proofs.Walk.{find-here, find-next}
use Rattle.btor2_model.proofs.states.init_of.Goals as goal

pub returns-then-is_init_of-clause-value : goal.returns-then-is_init_of-clause-value
returns-then-is_init_of-clause-value c = λ all.
    set-by is_init c.args.lines.now all c.args.state (Some c.line-item.result)
    (find-here (sets is_init c.args.state) c.args.lines.now c.loop-line.line-index c.line-item.result c.loop-line-test.true c.line-item.is c.loop-line.invariant (sym c.is_init_of.ensures ∙ c.if-is_init_of.true))
    ∙ ap (λ id. Some (all id)) (sym (c.id_at.ensures ∙ ap (λ given. id_at given 2) c.as_slice.ensures))

pub loop-line-preserved : goal.loop-line-preserved
loop-line-preserved c =
    find-next (sets is_init c.args.state) c.args.lines.now c.loop-line.line-index c.line-item.result c.loop-line-test.true c.line-item.is c.loop-line.invariant (sym c.is_init_of.ensures ∙ c.if-is_init_of.false)

pub returns-clause-value : goal.returns-clause-value
returns-clause-value c = λ all.
    set-by is_init c.args.lines.now all c.args.state None (ap (find (sets is_init c.args.state)) (sym (take_all c.loop-line.line-index c.args.lines.now c.loop-line-test.false)) ∙ c.loop-line.invariant)

pub returns-then-is_init_of-clause-id : goal.returns-then-is_init_of-clause-id
returns-then-is_init_of-clause-id c =
    ap Some (c.id_at.ensures ∙ ap (λ given. id_at given 2) c.as_slice.ensures)
    ∙ sym (ap (option_map (λ (line : Line). id_at line.arguments 2))
    (find-here (sets is_init c.args.state) c.args.lines.now c.loop-line.line-index c.line-item.result c.loop-line-test.true c.line-item.is c.loop-line.invariant (sym c.is_init_of.ensures ∙ c.if-is_init_of.true)))

pub returns-clause-id : goal.returns-clause-id
returns-clause-id c =
    sym (ap (option_map (λ (line : Line). id_at line.arguments 2)) (ap (find (sets is_init c.args.state)) (sym (take_all c.loop-line.line-index c.args.lines.now c.loop-line-test.false)) ∙ c.loop-line.invariant))
