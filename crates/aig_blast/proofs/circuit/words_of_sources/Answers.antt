use Rattle.std.proofs.Common.{◌≡◌, ◌+◌, ap, ap₂, ◌∙◌, arith}
use Rattle.std.specs.Prelude.{sum}
use Rattle.circuit_eval.specs.Circuits.{input_widths, state_widths}
use Rattle.circuit_eval.specs.declared.circuit.Wires.{Wires}
use Rattle.aig_blast.specs.inner.Sources.{source_words}
use Rattle.aig_blast.proofs.circuit.words_of_sources.Goals as goal

pub returns : goal.returns
returns c =
    let ws : c.deref.result.now ≡ input_widths c.args.circuit.now.inputs = c.deref.ensures.value ∙ c.in_ok-input_widths.ensures ∙ ap input_widths c.as_slice.ensures ∙ ap (λ (w : Wires). input_widths w.inputs) c.circuit.view_is in
    let vs : c.deref-2.result.now ≡ state_widths c.args.circuit.now.states = c.deref-2.ensures.value ∙ c.in_ok-state_widths.ensures ∙ ap state_widths c.as_slice-2.ensures ∙ ap (λ (w : Wires). state_widths w.states) c.circuit.view_is in
    let before : c.in_ok-inputs.before ≡ sum (input_widths c.args.circuit.now.inputs) = omega (arith, c.in_ok-inputs.ensures.count, ap sum ws) in
    record {
      inputs = c.in_ok-inputs.ensures.words ∙ ap (source_words 0) ws;
      states = c.in_ok-states.ensures.words ∙ ap₂ source_words before vs;
      count = c.in_ok-states.ensures.count ∙ ap₂ (λ m n. m + n) before (ap sum vs);
      few = c.in_ok-states.ensures.few;
    }
