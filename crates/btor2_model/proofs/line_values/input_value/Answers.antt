use Rattle.std.proofs.Common.{◌∙◌}
use Rattle.btor2_model.proofs.Selections.{input-turn}
use Rattle.btor2_model.proofs.line_values.input_value.Goals as goal

pub loop-place-preserved : goal.loop-place-preserved
loop-place-preserved c = c.loop-place.invariant ∙ input-turn c.args.id c.args.ids.now c.args.inputs.now c.loop-place.place _ c.loop-place-test.true c.if-id-known.false
