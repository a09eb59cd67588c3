-- The lines that a design's circuit is written as are the design's circuit.
use Rattle.std.proofs.Common.{◌≡◌, ℕ, ◌+◌, ◌<◌, false, List, [], ◌∷◌, ◌++◌, length, map, get_or, Some, refl, sym, ap, subst, ◌∙◌}
use Rattle.std.specs.Prelude.{All, slice_get}
use Rattle.std.specs.List.{AllByRecursion}
use Rattle.std.proofs.lemmas.List.{length-map}
use Rattle.one_rule.specs.Stimulus.{InputVectors, inputs_of}
use Rattle.one_rule.specs.declared.rows.Row.{Row}
use Rattle.circuit_eval.specs.declared.circuit.InputWire.{InputWire}
use Rattle.circuit_eval.specs.declared.circuit.OutputWire.{OutputWire}
use Rattle.circuit_eval.specs.declared.circuit.StateWire.{StateWire}
use Rattle.circuit_eval.specs.declared.circuit.Wires.{Wires}
use Rattle.btor2_text.specs.Printable.{IsPlainToken, numbered_from}
use Rattle.btor2_text.specs.declared.line.Line.{Line}
use Rattle.btor2_model.specs.Acceptance.{IsAccepted}
use Rattle.btor2_model.specs.Rules.{is_bad, is_output}
use Rattle.btor2_model.specs.Run as text
use Rattle.btor2_net.specs.Layout.{AreLaidOut}
use Rattle.btor2_net.specs.Pages.{lines_of}
use Rattle.btor2_net.specs.TidyLines.{AreTidy}
use Rattle.btor2_net.specs.Translations as translation
use Rattle.btor2_net.specs.Translations.{HasLines, HasTokens, line_name, output_widths}
use Rattle.koika_assert.specs.Bads.{HasSameParts, RunsAlike, ShowsMarks, flag_lines, is_violated, with_bads}
use Rattle.stim_report.specs.Summary.{has_fired}
use Rattle.koika_check.specs.Typing.{IsTypedDesign}
use Rattle.koika_check.specs.declared.checked.Checked.{Checked}
use Rattle.koika_check.specs.declared.checked.Input.{Input}
use Rattle.koika_check.specs.declared.checked.Register.{Register}
use Rattle.koika_check.specs.declared.checked.CheckedRule.{CheckedRule}
use Rattle.front_end.specs.Circuits.{IsStimulusFor, IsWiredAs}
use Rattle.koika_top.specs.Compile.{AreCircuitOf, HasPartsOf}
use Rattle.front_end.specs.Names.{HasWordNames}
use Rattle.front_end.specs.Marks.{marks_of}
use Rattle.front_end.specs.Sources as sources
use Rattle.front_end.specs.Systems as typed
use Rattle.koika_top.proofs.PlainNames.{words-tokens}
use Rattle.koika_top.proofs.BadLines.{bads-have-names, flags-all, row-of-run, with-bads-numbered}
use Rattle.koika_top.proofs.CircuitLines.{AreNumbered, HasSymbol, lines-numbered, no-bads, numbered-anew, outputs-named}
use Rattle.front_end.proofs.Wired.{named-so}

-- ---- names

-- a circuit that has the names of a design can be written where they can
pub has-tokens : (d : Checked) (c : Wires) → HasWordNames d → IsWiredAs d c → HasTokens c
has-tokens d c names is = record {
  inputs = named-so IsPlainToken (λ (wire : InputWire). wire.name) (λ (i : Input). i.name) c.inputs d.inputs is.inputs (words-tokens (λ (i : Input). i.name) d.inputs names.inputs);
  states = named-so IsPlainToken (λ (wire : StateWire). wire.name) (λ (r : Register). r.name) c.states d.registers is.states (words-tokens (λ (r : Register). r.name) d.registers names.registers);
  outputs = named-so IsPlainToken (λ (wire : OutputWire). wire.name) (λ (r : CheckedRule). r.name) c.outputs d.rules is.outputs (words-tokens (λ (r : CheckedRule). r.name) d.rules names.rules);
}

-- ---- lines

module _ (d : Checked) (c : Wires) (is : IsWiredAs d c) (lines : List Line) (are : lines ≡ lines_of c) (has : HasLines lines c) where
  outputs-narrow : output_widths lines ≡ map (λ (r : CheckedRule). 1) d.rules
  outputs-narrow = sym has.output_widths ∙ is.output_widths

  outputs-same : translation.names_of is_output lines ≡ map sources.name_of d.rules
  outputs-same = sym has.outputs ∙ is.outputs

  flags-are : flag_lines lines ≡ text.lines_by_rule is_output lines
  flags-are = flags-all lines d.rules outputs-narrow

  outputs-count : length (text.lines_by_rule is_output lines) ≡ length d.rules
  outputs-count = sym (length-map (text.lines_by_rule is_output lines) line_name) ∙ ap length outputs-same ∙ length-map d.rules sources.name_of

  no-bad-lines : text.lines_by_rule is_bad lines ≡ []
  no-bad-lines = ap (text.lines_by_rule is_bad) are ∙ no-bads c

  -- each marked rule has a flag
  pub marks-have-flags : IsTypedDesign d → All (λ mark. mark < length (flag_lines lines)) d.asserts
  marks-have-flags well = subst (λ n. All (λ mark. mark < n) d.asserts) (sym (ap length flags-are ∙ outputs-count)) well.asserts

  module _ (well : IsTypedDesign d) (runs : translation.RunsAs lines c) (all : List Line) (marked : all ≡ with_bads lines d.asserts) (parts : HasSameParts lines all) (alike : RunsAlike lines all) (marks : ShowsMarks lines d.asserts all) where
    bads-named : translation.names_of is_bad all ≡ (marks_of d).names
    bads-named =
        ap (translation.names_of is_bad) marked
        ∙ bads-have-names lines d.asserts (map sources.name_of d.rules) no-bad-lines flags-are outputs-same
        (subst (λ (ls : List Line). AllByRecursion HasSymbol (text.lines_by_rule is_output ls)) (sym are) (outputs-named c))
        (subst (λ n. All (λ mark. mark < n) d.asserts) (sym outputs-count) well.asserts)

    lines-run : (stimulus : InputVectors) (n : ℕ) → IsStimulusFor d stimulus → text.run_of lines (inputs_of stimulus) n ≡ typed.run_of d (inputs_of stimulus) n
    lines-run stimulus n fits = sym (runs stimulus n (fits.widths ∙ sym is.input_widths) fits.fits) ∙ is.run stimulus n fits

    violated : (stimulus : InputVectors) (n step : ℕ) (row : Row) → IsStimulusFor d stimulus → slice_get (typed.run_of d (inputs_of stimulus) n) (step + 1) ≡ Some row
        → map (is_violated all (inputs_of stimulus) step) (text.lines_by_rule is_bad all) ≡ map (λ rule. has_fired rule row) d.asserts
    violated stimulus n step row fits at =
        let same = row-of-run lines (inputs_of stimulus) n step row (ap (λ (rows : List Row). slice_get rows (step + 1)) (lines-run stimulus n fits) ∙ at) in
        marks (inputs_of stimulus) step
        ∙ ap (λ (bads : List Line). map (is_violated lines (inputs_of stimulus) step) bads ++ map (λ mark. get_or (text.row_behind lines (inputs_of stimulus) step).fired mark false) d.asserts) no-bad-lines
        ∙ ap (λ (r : Row). map (λ mark. has_fired mark r) d.asserts) same

    has-parts : HasPartsOf d all
    has-parts = record {
      inputs = parts.inputs ∙ sym has.inputs ∙ is.inputs;
      input_widths = parts.input_widths ∙ sym has.input_widths ∙ is.input_widths;
      states = parts.states ∙ sym has.states ∙ is.states;
      state_widths = parts.state_widths ∙ sym has.state_widths ∙ is.state_widths;
      outputs = parts.outputs ∙ outputs-same;
      output_widths = parts.output_widths ∙ outputs-narrow;
      bads = bads-named;
    }

    -- the lines with the bad ones behind them are the design's circuit
    pub are-circuit : IsAccepted all → AreLaidOut all → AreTidy all → AreCircuitOf d all
    are-circuit accepted layout tidy = record {
      accepted = accepted;
      layout = layout;
      tidy = tidy;
      parts = has-parts;
      run = λ stimulus n fits. alike (inputs_of stimulus) n ∙ lines-run stimulus n fits;
      violated = violated;
    }

    -- and they are numbered as they stand
    pub stay-numbered : numbered_from 1 all ≡ all
    stay-numbered =
        let one : numbered_from 1 (with_bads lines d.asserts) ≡ with_bads lines d.asserts = numbered-anew 1 (with_bads lines d.asserts) (with-bads-numbered lines d.asserts (subst (λ (ls : List Line). AreNumbered 1 ls) (sym are) (lines-numbered c))) in
        ap (numbered_from 1) marked ∙ one ∙ sym marked
