use Rattle.std.proofs.Common.{map, refl, ap, ◌∙◌, rules}
use Rattle.front_end.specs.Sources.{of_input, of_register, name_of}
use Rattle.front_end.proofs.shape.shape_of.Goals as goal

pub returns : goal.returns
returns c =
    let inputs = c.in_ok-inputs.ensures of_input (λ x y k. search rules) ∙ ap (map of_input) c.as_slice.ensures in
    let registers = c.in_ok-registers.ensures of_register (λ x y k. search rules) ∙ ap (map of_register) c.as_slice-2.ensures in
    let names = c.in_ok-rules.ensures name_of (λ x y k. search rules) ∙ ap (map name_of) c.as_slice-3.ensures in
    rw (inputs, registers, names) refl
