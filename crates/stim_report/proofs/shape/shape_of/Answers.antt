use Rattle.std.proofs.Common.{map, refl, ap, ◌∙◌, rules}
use Rattle.typed_core.specs.declared.design.Parts.{Parts}
use Rattle.stim_report.specs.Shapes.{of_input, of_register, name_of}
use Rattle.stim_report.proofs.ShapesOfDesigns.{rows_fit, rows_match}
use Rattle.stim_report.proofs.shape.shape_of.Goals as goal

pub returns : goal.returns
returns c =
    let inputs = c.in_ok-inputs.ensures of_input (λ x y k. search rules) ∙ ap (map of_input) c.as_slice.ensures ∙ ap (λ (d : Parts). map of_input d.inputs) c.design.view_is in
    let registers = c.in_ok-registers.ensures of_register (λ x y k. search rules) ∙ ap (map of_register) c.as_slice-2.ensures ∙ ap (λ (d : Parts). map of_register d.regs) c.design.view_is in
    let names = c.in_ok-rules.ensures name_of (λ x y k. search rules) ∙ ap (map name_of) c.as_slice-3.ensures ∙ ap (λ (d : Parts). map name_of d.rules) c.design.view_is in
    record {
      shape = rw (inputs, registers, names) refl;
      matches = λ run fit. rows_match c.args.design.now c.in_ok-registers.registers c.in_ok-rules.rules registers names run fit;
      fits = λ run fit. rows_fit c.args.design.now c.in_ok-registers.registers c.in_ok-rules.rules registers names run fit;
    }
