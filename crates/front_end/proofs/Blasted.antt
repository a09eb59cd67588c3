-- The bit-level circuit of a design's circuit is the design's.
use Rattle.std.proofs.Common.{◌≡◌, ℕ, List, [], ◌∷◌, map, refl, sym, ap, ◌∙◌}
use Rattle.std.specs.Prelude.{All, filter, ◌==◌}
use Rattle.std.proofs.lemmas.List.Elements.{All-weaker}
use Rattle.net_graph.specs.Nets.{width_at, widths_of}
use Rattle.circuit_eval.specs.declared.circuit.InputWire.{InputWire}
use Rattle.circuit_eval.specs.declared.circuit.OutputWire.{OutputWire}
use Rattle.circuit_eval.specs.declared.circuit.StateWire.{StateWire}
use Rattle.circuit_eval.specs.declared.circuit.Wires.{Wires}
use Rattle.aig_blast.specs.Aigs.{AigParts, IsSymbol, IsWordName}
use Rattle.aig_blast.specs.Blasted.{HasSymbols, HasWires, RunsAs, flag_wires}
use Rattle.koika_check.specs.declared.checked.Checked.{Checked}
use Rattle.koika_check.specs.declared.checked.Input.{Input}
use Rattle.koika_check.specs.declared.checked.Register.{Register}
use Rattle.koika_check.specs.declared.checked.CheckedRule.{CheckedRule}
use Rattle.koika_syntax.specs.Lexemes.{IsWord}
use Rattle.front_end.specs.Names.{HasWordNames}
use Rattle.front_end.specs.Aigs.{IsAigOf}
use Rattle.front_end.specs.Circuits.{IsWiredAs}
use Rattle.front_end.proofs.Wired.{named-so}
use Rattle.front_end.proofs.WordSymbols.{word-name, word-symbol}

-- where all measures are 1, the test of it keeps all
pub all-ones : {X Y : Type 0} (f : X → ℕ) (xs : List X) (ys : List Y) → map f xs ≡ map (λ y. 1) ys → filter (λ x. f x == 1) xs ≡ xs
all-ones f [] ys e = refl
all-ones f (x ∷ xs) [] e = absurd cc
all-ones f (x ∷ xs) (y ∷ ys) e =
    let head : f x ≡ 1 = cc in
    let tail : map f xs ≡ map (λ y. 1) ys = cc in
    rw head (ap (λ rest. x ∷ rest) (all-ones f xs ys tail))

-- a circuit that has the names of a design can be written where they can
pub has-symbols : (d : Checked) (c : Wires) → HasWordNames d → IsWiredAs d c → HasSymbols c
has-symbols d c names is = record {
  inputs = named-so IsWordName (λ (wire : InputWire). wire.name) (λ (i : Input). i.name) c.inputs d.inputs is.inputs
      (All-weaker (λ (i : Input). IsWord i.name) (λ (i : Input). IsWordName i.name) (λ i word. word-name i.name word) d.inputs names.inputs);
  states = named-so IsWordName (λ (wire : StateWire). wire.name) (λ (r : Register). r.name) c.states d.registers is.states
      (All-weaker (λ (r : Register). IsWord r.name) (λ (r : Register). IsWordName r.name) (λ r word. word-name r.name word) d.registers names.registers);
  outputs = named-so IsSymbol (λ (wire : OutputWire). wire.name) (λ (r : CheckedRule). r.name) c.outputs d.rules is.outputs
      (All-weaker (λ (r : CheckedRule). IsWord r.name) (λ (r : CheckedRule). IsSymbol r.name) (λ r word. word-symbol r.name word) d.rules names.rules);
}

-- outputs of one bit are all kept
flags-all : (d : Checked) (c : Wires) → IsWiredAs d c → flag_wires c ≡ c.outputs
flags-all d c is = all-ones (λ (wire : OutputWire). width_at (widths_of c.net) wire.id) c.outputs d.rules is.output_widths

-- what is made of a design's circuit is the design's bit-level circuit
pub is-aig : (d : Checked) (c : Wires) (aig : AigParts) → IsWiredAs d c → HasWires c aig → RunsAs c aig → IsAigOf d aig
is-aig d c aig is has runs = record {
  inputs = has.inputs ∙ is.inputs;
  input_widths = has.input_widths ∙ is.input_widths;
  latches = has.states ∙ is.states;
  latch_widths = has.state_widths ∙ is.state_widths;
  outputs = has.outputs ∙ ap (map (λ (wire : OutputWire). wire.name)) (flags-all d c is) ∙ is.outputs;
  run = λ stimulus n fits. runs stimulus n (fits.widths ∙ sym is.input_widths) fits.fits ∙ is.run stimulus n fits;
}
