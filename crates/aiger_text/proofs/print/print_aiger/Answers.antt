use Rattle.std.proofs.Common.{◌≡◌, ◌+◌, ◌<◌, ◌^◌, ◌++◌, ◌∷◌, [], ℕ, List, length, ap, ap₂, subst, ◌∙◌}
use Rattle.std.specs.Prelude.{sum}
use Rattle.std.specs.List.{flat_map}
use Rattle.aig_blast.specs.Aigs.{AigParts, input_word_widths, IsAig, latch_widths}
use Rattle.aig_blast.specs.declared.aig.InputWord.{InputWord}
use Rattle.aig_blast.specs.declared.aig.LatchWord.{LatchWord}
use Rattle.aig_blast.specs.declared.aig.OutputBit.{OutputBit}
use Rattle.aig_blast.specs.declared.gate.Gate.{Gate}
use Rattle.aiger_text.specs.Printing.{gate_text, input_symbols, input_word_text, laid, latch_symbols, latch_width_of, latch_word_text, one_of, output_symbol, output_text, rest_text, input_line_count}
use Rattle.aiger_text.specs.Reading.{aig_of}
use Rattle.aiger_text.proofs.ReadBack.{read_back}
use Rattle.aiger_text.proofs.TextRuns.{graph-of}
use Rattle.aiger_text.proofs.print.print_aiger.Goals as goal

pub returns : goal.returns
returns c =
    let a : AigParts = c.args.aig.now in
    let inputs : c.as_slice-inputs.result.now ≡ a.inputs = c.as_slice-inputs.ensures ∙ ap (λ (x : AigParts). x.inputs) c.aig.view_is in
    let latches : c.as_slice-latches.result.now ≡ a.latches = c.as_slice-latches.ensures ∙ ap (λ (x : AigParts). x.latches) c.aig.view_is in
    let outputs : c.as_slice-outputs.result.now ≡ a.outputs = c.as_slice-outputs.ensures ∙ ap (λ (x : AigParts). x.outputs) c.aig.view_is in
    let gates : c.as_slice-gates.result.now ≡ a.gates = c.as_slice-gates.ensures ∙ ap (λ (x : AigParts). x.gates) c.aig.view_is in
    let before : c.count_inputs-before.result ≡ sum (input_word_widths a.inputs) = c.count_inputs-before.ensures ∙ ap (λ (ws : List InputWord). sum (input_word_widths ws)) inputs in
    let kept : c.count_latches-kept.result ≡ sum (latch_widths a.latches) = c.count_latches-kept.ensures ∙ ap (λ (ws : List LatchWord). sum (latch_widths ws)) latches in
    let numbers = λ (b k o g : ℕ). rest_text ((b + k + g) ∷ b ∷ k ∷ o ∷ g ∷ []) in
    let header = ap₂ (λ (b k : ℕ). numbers b k c.count_outputs-written.result (length c.as_slice-gates.result.now)) before kept ∙ ap₂ (λ (o g : ℕ). numbers (sum (input_word_widths a.inputs)) (sum (latch_widths a.latches)) o g) (c.count_outputs-written.ensures.count ∙ ap length outputs) (ap length gates) in
    let t1 = c.in_ok-push_rest.ensures ∙ ap₂ (λ (t r : List ℕ). t ++ r) c.in_ok-text.ensures header in
    let t2 = c.in_ok-push_inputs.ensures ∙ ap₂ (λ (t : List ℕ) (ws : List InputWord). t ++ laid input_line_count input_word_text 1 ws) t1 inputs in
    let t3 = c.in_ok-push_latches.ensures ∙ ap₂ (λ (t r : List ℕ). t ++ r) t2 (ap₂ (λ (n : ℕ) (ws : List LatchWord). laid latch_width_of latch_word_text (1 + n) ws) before latches) in
    let t4 = c.in_ok-push_outputs.ensures ∙ ap₂ (λ (t : List ℕ) (os : List OutputBit). t ++ flat_map output_text os) t3 outputs in
    let t5 = c.in_ok-push_gates.ensures ∙ ap₂ (λ (t r : List ℕ). t ++ r) t4 (ap₂ (λ (n : ℕ) (gs : List Gate). laid one_of gate_text (1 + n) gs) (ap₂ (λ (m n : ℕ). m + n) before kept) gates) in
    let t6 = c.in_ok-push_input_symbols.ensures ∙ ap₂ (λ (t : List ℕ) (ws : List InputWord). t ++ laid input_line_count input_symbols 0 ws) t5 inputs in
    let t7 = c.in_ok-push_latch_symbols.ensures ∙ ap₂ (λ (t : List ℕ) (ws : List LatchWord). t ++ laid latch_width_of latch_symbols 0 ws) t6 latches in
    let written = c.in_ok-push_output_symbols.ensures ∙ ap₂ (λ (t : List ℕ) (os : List OutputBit). t ++ laid one_of output_symbol 0 os) t7 outputs in
    let valid : IsAig a = subst IsAig c.aig.view_is c.aig.invariant in
    let few : length a.outputs < 2 ^ 63 = subst (λ (os : List OutputBit). length os < 2 ^ 63) outputs c.count_outputs-written.ensures.few in
    let back = ap aig_of written ∙ read_back a valid few in
    record { text = written; meaning = graph-of _ a back; read_back = back }
