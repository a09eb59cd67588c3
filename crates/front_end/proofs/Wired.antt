-- The circuit of what a design is lowered to is the design's.
use Rattle.std.proofs.Common.{◌≡◌, ℕ, List, [], ◌∷◌, map, refl, sym, ap, subst, ◌∙◌}
use Rattle.std.specs.Prelude.{All}
use Rattle.std.specs.List.{AllByRecursion}
use Rattle.std.proofs.lemmas.List.Elements.{All-from_recursion, recursion_from_All}
use Rattle.net_graph.specs.Nets.{width_at, widths_of}
use Rattle.typed_core.specs.Valid.{IsValid}
use Rattle.typed_core.specs.Widths.{HaveWidths}
use Rattle.typed_core.specs.declared.design.InputDecl.{InputDecl}
use Rattle.typed_core.specs.declared.design.Parts.{Parts}
use Rattle.typed_core.specs.declared.design.RegDecl.{RegDecl}
use Rattle.one_rule.specs.Stimulus.{inputs_of}
use Rattle.circuit_eval.specs.Circuits as circuit
use Rattle.circuit_eval.specs.declared.circuit.InputWire.{InputWire}
use Rattle.circuit_eval.specs.declared.circuit.OutputWire.{OutputWire}
use Rattle.circuit_eval.specs.declared.circuit.StateWire.{StateWire}
use Rattle.circuit_eval.specs.declared.circuit.Wires.{Wires}
use Rattle.net_sched.specs.Designs as built
use Rattle.net_simplify.specs.Kept as simpler
use Rattle.koika_check.specs.declared.checked.Checked.{Checked}
use Rattle.koika_lower.specs.Lowering.{IsLowered, core_input, register_of}
use Rattle.front_end.specs.Sources as sources
use Rattle.front_end.proofs.LoweredRuns.{inputs-wide, registers-wide, run-same, twice}
use Rattle.front_end.specs.Circuits.{IsWiredAs}

abbrev one : {Z : Type 0} → Z → ℕ
one z = 1

-- lists that have the same images have as many elements
ones-same : {X Y Z : Type 0} (f : X → Z) (g : Y → Z) (xs : List X) (ys : List Y) → map f xs ≡ map g ys → map one xs ≡ map one ys
ones-same f g xs ys e = sym (twice f one xs) ∙ ap (map one) e ∙ twice g one ys

-- outputs of one bit
ones-of : (f : OutputWire → ℕ) (wires : List OutputWire) → AllByRecursion (λ (wire : OutputWire). f wire ≡ 1) wires → map f wires ≡ map (λ (wire : OutputWire). 1) wires
ones-of f [] all = refl
ones-of f (wire ∷ wires) all = rw all.0 (ap (λ rest. 1 ∷ rest) (ones-of f wires all.1))

-- a circuit that is built of what the design is lowered to, and made simple, is the design's
pub wired : (d : Checked) (design : Parts) (c simple : Wires) → IsLowered d design → IsValid design → built.HasParts design c → built.RunsAs design c → simpler.Keeps c simple → simpler.RunsAs c simple → IsWiredAs d simple
wired d design c simple lowered valid parts runs kept same =
    let outputs = kept.outputs ∙ parts.outputs ∙ lowered.names in
    record {
      inputs = ap (map (λ (wire : InputWire). wire.name)) kept.inputs ∙ parts.inputs ∙ ap (map (λ (decl : InputDecl). decl.name)) lowered.inputs ∙ twice core_input (λ (decl : InputDecl). decl.name) d.inputs;
      input_widths = ap circuit.input_widths kept.inputs ∙ parts.input_widths ∙ inputs-wide d design lowered;
      states = kept.states ∙ parts.states ∙ ap (map (λ (decl : RegDecl). decl.name)) lowered.registers ∙ twice register_of (λ (decl : RegDecl). decl.name) d.registers;
      state_widths = kept.state_widths ∙ parts.state_widths ∙ registers-wide d design lowered;
      outputs = outputs;
      output_widths =
          kept.output_widths
          ∙ ones-of (λ (wire : OutputWire). width_at (widths_of c.net) wire.id) c.outputs (recursion_from_All (λ (wire : OutputWire). width_at (widths_of c.net) wire.id ≡ 1) c.outputs parts.bits)
          ∙ ones-same (λ (wire : OutputWire). wire.name) sources.name_of c.outputs d.rules (parts.outputs ∙ lowered.names);
      run = λ stimulus n is.
          same stimulus n (is.widths ∙ sym (parts.input_widths ∙ inputs-wide d design lowered)) is.fits
          ∙ runs stimulus n (is.widths ∙ sym (inputs-wide d design lowered)) is.fits
          ∙ run-same d design lowered valid (inputs_of stimulus) (λ k. subst (λ (ws : List ℕ). HaveWidths ws (inputs_of stimulus k)) is.widths (is.fits k)) n;
    }

-- ---- names

-- what holds of names holds of all that have these names
pub named-so : {X Y Z : Type 0} (P : Z → Type 0) (f : X → Z) (g : Y → Z) (xs : List X) (ys : List Y) → map f xs ≡ map g ys → All (λ (y : Y). P (g y)) ys → All (λ (x : X). P (f x)) xs
named-so {X} {Y} {Z} P f g xs ys e all =
    All-from_recursion (λ (x : X). P (f x)) xs (each xs ys e (recursion_from_All (λ (y : Y). P (g y)) ys all))
  where
    each : (xs : List X) (ys : List Y) → map f xs ≡ map g ys → AllByRecursion (λ (y : Y). P (g y)) ys → AllByRecursion (λ (x : X). P (f x)) xs
    each [] ys e all = tt
    each (x ∷ xs) [] e all = absurd cc
    each (x ∷ xs) (y ∷ ys) e all =
        let head : f x ≡ g y = cc in
        let tail : map f xs ≡ map g ys = cc in
        (subst P (sym head) all.0, each xs ys tail all.1)
