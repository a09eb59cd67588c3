use Rattle.std.proofs.Common.{◌∙◌, Bool, false, List, ap, get_or, map, subst, sym}
use Rattle.circuit_eval.specs.declared.circuit.OutputWire.{OutputWire}
use Rattle.circuit_eval.specs.declared.circuit.Wires.{Wires}
use Rattle.lint_text.specs.Never.{AreNeverOne, HasFlags}
use Rattle.lint_text.specs.inner.Zeros.{is_zero}
use Rattle.lint_text.proofs.NeverOne.{is-never_one}
use Rattle.lint_text.proofs.Ranges.{if_ok}
use Rattle.lint_text.proofs.never.never_one.Goals as goal

pub returns : goal.returns
returns c =
    let inside = c.circuit.inside in
    let w : Wires = record { net = inside.net; states = inside.states; inputs = inside.inputs; outputs = inside.outputs } in
    let bits : HasFlags w = subst HasFlags (sym c.circuit.view_is) c.requires in
    if_ok c.zero_outputs.result _ _ c.zero_outputs.ensures
    (λ marks is.
    subst (λ (x : Wires). AreNeverOne x marks) c.circuit.view_is
    (λ k marked.
    is-never_one w c.circuit.invariant bits k
    (ap (λ (ms : List Bool). get_or ms k false) (sym (is ∙ (λ i. map (λ (wire : OutputWire). is_zero (c.ops.ensures.ops i) wire.id) (c.as_slice.ensures i)))) ∙ marked)))
