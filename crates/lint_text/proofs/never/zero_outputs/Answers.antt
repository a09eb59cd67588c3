use Rattle.std.proofs.Common.{◌++◌, ◌∷◌, [], ◌∙◌, Bool, List, ap₂, sym}
use Rattle.circuit_eval.specs.declared.circuit.OutputWire.{OutputWire}
use Rattle.lint_text.specs.inner.Zeros.{is_zero}
use Rattle.lint_text.proofs.Ranges.{map_take}
use Rattle.lint_text.proofs.never.zero_outputs.Goals as goal

pub loop-wire-preserved : goal.loop-wire-preserved
loop-wire-preserved c =
    c.in_ok-push.ensures.ok ∙ ap₂ (λ (marks : List Bool) (b : Bool). marks ++ b ∷ []) c.loop-wire.invariant c.is_zero.ensures
    ∙ sym (map_take (λ (wire : OutputWire). is_zero c.args.ops.now wire.id) c.args.outputs.now c.loop-wire.wire-index c.wire-item.result c.loop-wire-test.true c.wire-item.is)
