use Rattle.std.proofs.Common.{map, refl, ap, ◌∙◌, rules}
use Rattle.aig_blast.specs.Aigs.{AigParts}
use Rattle.aiger_text.specs.AigShapes.{of_input, of_latch, name_of}
use Rattle.aiger_text.proofs.shape.aig_shape.Goals as goal

pub returns : goal.returns
returns c =
    let inputs = c.in_ok-inputs.ensures of_input (λ x y k. search rules) ∙ ap (map of_input) c.as_slice.ensures ∙ ap (λ (a : AigParts). map of_input a.inputs) c.aig.view_is in
    let registers = c.in_ok-registers.ensures of_latch (λ x y k. search rules) ∙ ap (map of_latch) c.as_slice-2.ensures ∙ ap (λ (a : AigParts). map of_latch a.latches) c.aig.view_is in
    let names = c.in_ok-rules.ensures name_of (λ x y k. search rules) ∙ ap (map name_of) c.as_slice-3.ensures ∙ ap (λ (a : AigParts). map name_of a.outputs) c.aig.view_is in
    rw (inputs, registers, names) refl
