-- `aigsim` answers to the AIGER text of a source, with the source's stimulus, the run that `sim` answers to the source.
use Rattle.std.proofs.Common.{◌≡◌, ℕ, ◌≤◌, All, List, length, refl, sym, ap, ap₂, subst, ◌∙◌, inl, inr}
use Rattle.std.proofs.lemmas.List.{length-map}
use Rattle.kw_bits.specs.Host.{TakesWidth}
use Rattle.kw_bits.specs.declared.host.HostSpec.{HostSpec}
use Rattle.aig_blast.specs.Aigs.{AigParts}
use Rattle.aig_blast.specs.declared.aig.InputWord.{InputWord}
use Rattle.aig_blast.specs.declared.aig.LatchWord.{LatchWord}
use Rattle.aiger_text.specs.Acceptance.{accepted_text}
use Rattle.aiger_text.specs.AigShapes as shapes
use Rattle.aiger_text.specs.Drafts.{Draft}
use Rattle.aiger_text.specs.Meaning.{IsGraphOf, text_run, text_shape}
use Rattle.koika_check.proofs.TypedTrees.{typed-design}
use Rattle.koika_check.specs.declared.checked.Checked.{Checked}
use Rattle.koika_check.specs.declared.checked.Input.{Input}
use Rattle.koika_check.specs.declared.checked.Register.{Register}
use Rattle.one_rule.specs.Stimulus.{InputVectors, inputs_of}
use Rattle.stim_report.specs.Cuts.{parts_of}
use Rattle.stim_report.specs.Stimuli.{stimulus_of}
use Rattle.stim_report.specs.declared.shape.NameWidth.{NameWidth}
use Rattle.stim_report.specs.declared.shape.Shape.{Shape}
use Rattle.front_end.specs.Aigs.{IsAigOf}
use Rattle.front_end.specs.Circuits.{IsStimulusFor}
use Rattle.koika_top.specs.Aiger.{AnswersRows, ShowsAig}
use Rattle.koika_top.specs.Aigsim as bits
use Rattle.koika_top.specs.Aigsim.{AnswersAigsim, HoldsRun, HoldsAigText}
use Rattle.koika_top.specs.Btorsim.{longest_circuit}
use Rattle.front_end.specs.Lengths as lengths
use Rattle.koika_top.specs.Sim.{rows_text}
use Rattle.front_end.specs.Sources as sources
use Rattle.front_end.specs.Sources.{Spells}
use Rattle.front_end.specs.Systems as typed
use Rattle.front_end.specs.declared.answer.Answer.{Answer}
use Rattle.front_end.specs.declared.answer.Answer.TheVariants.{Usage, Refused, Written}
use Rattle.koika_top.specs.declared.shown.Shown.{Shown}
use Rattle.front_end.proofs.OneSource.{long_or_spelled, same_design, spelled_or_not}
use Rattle.front_end.proofs.Reading.{stimulus-fits, widths-valid}
use Rattle.koika_top.proofs.Shapes.{both-agree}
use Rattle.koika_top.proofs.StimuliFit.{stimulus-always, stimulus-free}

module _ (d : Checked) (aig : AigParts) (are : IsAigOf d aig) (said : Draft) (graph : IsGraphOf said aig) where
  -- what texts tell of the text is what they tell of the design
  shape-same : text_shape said ≡ sources.shape_of d
  shape-same =
      let inputs = both-agree (λ (w : InputWord). w.name) (λ (w : InputWord). w.width) (λ (i : Input). i.name) (λ (i : Input). i.width) aig.inputs d.inputs are.inputs are.input_widths in
      let registers = both-agree (λ (w : LatchWord). w.name) (λ (w : LatchWord). w.first.width) (λ (r : Register). r.name) (λ (r : Register). r.width) aig.latches d.registers are.latches are.latch_widths in
      let shape : List NameWidth → List NameWidth → List (List ℕ) → Shape = λ is rs names. record { inputs = is; registers = rs; rules = names } in
      let own : shapes.shape_of aig ≡ sources.shape_of d = λ i. shape (inputs i) (registers i) (are.outputs i) in
      sym graph.shape ∙ own

  long-same : (cycles : ℕ) → bits.is_too_long cycles said ≡ lengths.is_too_long_for cycles d
  long-same cycles =
      let registers : length (text_shape said).registers ≡ length d.registers =
      ap (λ (s : Shape). length s.registers) shape-same ∙ length-map d.registers sources.of_register
      in
      let rules : length (text_shape said).rules ≡ length d.rules = ap (λ (s : Shape). length s.rules) shape-same ∙ length-map d.rules sources.name_of in
      ap₂ (lengths.is_too_long cycles) registers rules

  shown-same : (stimulus : InputVectors) → IsStimulusFor d stimulus → (n : ℕ) (shown : Shown)
      → bits.shown_run shown said stimulus n ≡ rows_text shown (sources.shape_of d) (typed.run_of d (inputs_of stimulus) n)
  shown-same stimulus fits n shown =
      let run : text_run said (inputs_of stimulus) n ≡ typed.run_of d (inputs_of stimulus) n = sym (graph.run (inputs_of stimulus) n) ∙ are.run stimulus n fits in
      λ i. rows_text shown (shape-same i) (run i)

module _ (hosts : List HostSpec) (offered : All (λ (h : HostSpec). TakesWidth h.kind h.in_width) hosts) (source converted other : List ℕ) (h : ShowsAig hosts source converted)
    (front : (parts_of other).design ≡ converted) (after : (parts_of other).stimulus ≡ (parts_of source).stimulus) (short : length other ≤ longest_circuit) where
  abbrev said : Draft
  said = h.means.said

  holds-text : HoldsAigText other said
  holds-text = record { short = short; read = ap accepted_text front ∙ h.means.reads }

  module _ (d : Checked) (stimulus : InputVectors) (spelled : Spells hosts source d stimulus) where
    circuit : IsAigOf d h.aig
    circuit = subst (λ (x : Checked). IsAigOf x h.aig) (same_design hosts source h.design d h.spelled.spelled spelled.spelled) h.circuit

    holds-run : HoldsRun other said stimulus
    holds-run = record {
      holds = holds-text;
      given =
          (λ i. stimulus_of (shape-same d h.aig circuit said h.means.graph i) (parts_of other).first_line (after i))
          ∙ stimulus-free (sources.shape_of d) (parts_of source).first_line (parts_of other).first_line (parts_of source).stimulus stimulus spelled.given;
    }

    fits : IsStimulusFor d stimulus
    fits =
        let tree = spelled.spelled.tree in
        let well = typed-design hosts tree d offered spelled.spelled.spelled.derived.design spelled.spelled.typed in
        let all = widths-valid d (sources.shape_of d) well refl in
        record {
          widths = stimulus-fits d (sources.shape_of d) (parts_of source).first_line (parts_of source).stimulus stimulus refl spelled.given;
          fits = stimulus-always (sources.shape_of d) (parts_of source).first_line (parts_of source).stimulus stimulus all spelled.given;
        }

  pub runs-the-same : (cycles : ℕ) (shown : Shown) (answer : Answer) → AnswersRows hosts cycles shown source answer → AnswersAigsim cycles shown other answer
  runs-the-same cycles shown Usage is = is
  runs-the-same cycles shown (Refused fault) (inl long) = absurd (long_or_spelled hosts source fault h.design long h.spelled.spelled)
  runs-the-same cycles shown (Refused fault) (inr (inl wrong)) = absurd (spelled_or_not hosts source fault h.design h.stimulus wrong h.spelled)
  runs-the-same cycles shown (Refused fault) (inr (inr (e, (d, stimulus, spelled, long)))) =
      inr (inr (inr (e, (said, stimulus, holds-run d stimulus spelled, long-same d h.aig (circuit d stimulus spelled) said h.means.graph cycles ∙ long))))
  runs-the-same cycles shown (Written report) shows =
      let mine = circuit shows.design shows.stimulus shows.spelled in
      record {
        said = said;
        stimulus = shows.stimulus;
        holds = holds-run shows.design shows.stimulus shows.spelled;
        within = long-same shows.design h.aig mine said h.means.graph cycles ∙ shows.within;
        told = shows.told ∙ sym (shown-same shows.design h.aig mine said h.means.graph shows.stimulus (fits shows.design shows.stimulus shows.spelled) cycles shown);
      }
