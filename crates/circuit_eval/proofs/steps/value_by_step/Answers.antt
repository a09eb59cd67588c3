-- The value of a node whose operands are wide, by its operator on what is kept of them.
use Rattle.std.proofs.Common.{subst, ◌∙◌}
use Rattle.circuit_eval.specs.Programs.{Makes}
use Rattle.circuit_eval.specs.declared.program.Step.{Step}
use Rattle.circuit_eval.proofs.Programs.{wide_operands}
use Rattle.circuit_eval.proofs.steps.value_by_step.Goals as goal

pub value_of-requires-clause-stands : goal.value_of-requires-clause-stands
value_of-requires-clause-stands c =
    let m = subst (λ (step : Step). Makes c.args.net.now c.args.id step) c.in-Wide.is c.requires.makes in
    (wide_operands (record { inputs = c.args.sources.inputs.now; states = c.args.sources.states.now }) c.args.net.now c.args.words.now c.args.wides.now c.args.id c.in-Wide.a c.in-Wide.b c.in-Wide.operator c.requires.net c.requires.room c.requires.keeps m.0 m.1 m.2).0

pub returns-in-Wide : goal.returns-in-Wide
returns-in-Wide c =
    let m = subst (λ (step : Step). Makes c.args.net.now c.args.id step) c.in-Wide.is c.requires.makes in
    c.value_of.ensures ∙ (wide_operands (record { inputs = c.args.sources.inputs.now; states = c.args.sources.states.now }) c.args.net.now c.args.words.now c.args.wides.now c.args.id c.in-Wide.a c.in-Wide.b c.in-Wide.operator c.requires.net c.requires.room c.requires.keeps m.0 m.1 m.2).1
