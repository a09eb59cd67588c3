use Rattle.std.proofs.Common.{◌≡◌, ℕ, nat_eq, List, ap, sym, ◌∙◌, subst, IfSome}
use Rattle.std.specs.List.{zip}
use Rattle.std.specs.Map.{lookup}
use Rattle.btor2_model.specs.inner.Known.{AreNarrow, scope_of}
use Rattle.btor2_model.specs.Rules.{rule_of}
use Rattle.btor2_model.specs.Run.{value_by}
use Rattle.btor2_model.specs.inner.SlowRun.{step_with}
use Rattle.btor2_model.proofs.Evaluation.{accepted-next, Evaluated-end, Evaluated-next, Evaluated-start}
use Rattle.btor2_model.proofs.Filling.{Filling-end, Filling-next, Filling-start}
use Rattle.btor2_model.proofs.Walk.{narrow-none}
use Rattle.btor2_model.proofs.line_values.values_with.Goals as goal

pub loop-line-init : goal.loop-line-init
loop-line-init c = record {
  evaluated = Evaluated-start c.args.lines.now c.args.inputs.now c.args.states.now (scope_of c.in_ok-known.known) c.new-values.result c.in_ok-known.ensures (subst AreNarrow (sym c.in_ok-known.ensures) narrow-none) c.requires c.new-values.ensures;
  fills = λ given forms inputs states. Filling-start given c.args.lines.now c.args.inputs.now c.args.states.now (scope_of c.in_ok-known.known) c.new-values.result c.in_ok-known.ensures c.requires forms inputs states;
}

pub declare-requires-clause-accepted : goal.declare-requires-clause-accepted
declare-requires-clause-accepted c =
    (accepted-next c.args.lines.now c.loop-line.line-index (scope_of c.loop-line.known) c.line-item.result c.loop-line-test.true c.line-item.is c.loop-line.invariant.evaluated.accepted).0

pub loop-line-preserved : goal.loop-line-preserved
loop-line-preserved c =
    let ids = c.deref.ensures.value ∙ c.in_ok-ids.ensures in
    record {
      evaluated = Evaluated-next c.args.lines.now c.args.inputs.now c.args.states.now c.loop-line.line-index (scope_of c.loop-line.known) (scope_of c.declare.new.known) c.loop-line.values c.set.new.self c.line-item.result
          c.line_value-value.result c.loop-line.invariant.evaluated c.loop-line-test.true c.line-item.is c.in_ok-declare.ensures.declared c.in_ok-declare.ensures.narrow c.in_ok-set.ensures
          (λ before after states values.
          subst (λ (ids : List ℕ). IfSome c.line_value-value.result (λ v. v ≡ value_by (rule_of c.line-item.result.keyword) (step_with ids c.args.inputs.now before) (scope_of c.loop-line.known) after c.line-item.result))
          ids (c.line_value-value.ensures.value before after states values));
      fills = λ given forms inputs states.
          Filling-next given c.args.lines.now c.args.inputs.now c.args.states.now c.loop-line.line-index (scope_of c.loop-line.known) (scope_of c.declare.new.known) c.loop-line.values c.set.new.self c.line-item.result
          c.line_value-value.result (c.loop-line.invariant.fills given forms inputs states) c.loop-line-test.true c.line-item.is c.in_ok-declare.ensures.declared c.in_ok-set.ensures
          (λ an. c.line_value-value.ensures.input an ∙ ap (λ (ids : List ℕ). lookup (nat_eq c.line-item.result.id) (zip ids c.args.inputs.now)) ids)
          c.line_value-value.ensures.state c.line_value-value.ensures.some;
    }

pub returns-clause-known : goal.returns-clause-known
returns-clause-known c = Evaluated-end c.args.lines.now c.args.inputs.now c.args.states.now c.loop-line.line-index (scope_of c.loop-line.known) c.loop-line.values c.loop-line.invariant.evaluated c.loop-line-test.false

pub returns-clause-filled : goal.returns-clause-filled
returns-clause-filled c = λ given forms inputs states.
    Filling-end given c.args.lines.now c.args.inputs.now c.args.states.now c.loop-line.line-index (scope_of c.loop-line.known) c.loop-line.values (c.loop-line.invariant.fills given forms inputs states) c.loop-line-test.false
