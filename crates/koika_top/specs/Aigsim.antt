-- What a source is that holds an AIGER text, in front of its mark, and a stimulus after it, and what is shown of the text's
-- run, by its own lines and literals. Texts and runs are those of AIGER (Biere, 2007; Biere, Heljanko and Wieringa, 2011); the
-- order of refusals is this project's own.
use Rattle.std.specs.Prelude.{◌≡◌, ℕ, ◌<◌, ◌≤◌, ◌⊎◌, Bool, true, false, List, length, Result, Ok, Err}
use Rattle.aiger_text.specs.Acceptance.{accepted_text}
use Rattle.aiger_text.specs.Drafts.{Draft}
use Rattle.aiger_text.specs.Meaning.{text_run, text_shape}
use Rattle.kw_base.specs.declared.fault.Fault.{Fault}
use Rattle.one_rule.specs.Stimulus.{InputVectors, inputs_of}
use Rattle.stim_report.specs.Cuts as cuts
use Rattle.stim_report.specs.Stimuli.{stimulus_of}
use Rattle.koika_top.specs.Btorsim.{IsTooLong, longest_circuit}
use Rattle.front_end.specs.Lengths as lengths
use Rattle.koika_top.specs.Sim.{rows_text}
use Rattle.front_end.specs.Sources.{fault_of_source}
use Rattle.front_end.specs.declared.answer.Answer.{Answer}
use Rattle.front_end.specs.declared.answer.Answer.TheVariants.{Usage, Refused, Written}
use Rattle.koika_top.specs.declared.shown.Shown.{Shown}

-- whether a run of what a text says is longer than runs may be for these cycles: words of latches stand for registers, and
-- outputs for rules
abbrev pub is_too_long : ℕ → Draft → Bool
is_too_long cycles said = lengths.is_too_long cycles (length (text_shape said).registers) (length (text_shape said).rules)

-- the stimulus of a source for what its text says, or its first fault
abbrev pub stimulus_in : List ℕ → Draft → Result InputVectors Fault
stimulus_in source said = let parts = cuts.parts_of source in stimulus_of (text_shape said) parts.first_line parts.stimulus

-- the source isn't too long, and this is what the text in front of its mark says
pub record HoldsAigText (source : List ℕ) (said : Draft) : Type 0 where
  pub short : length source ≤ longest_circuit
  pub read : accepted_text (cuts.parts_of source).design ≡ Ok said

-- and this is the stimulus after it
pub record HoldsRun (source : List ℕ) (said : Draft) (stimulus : InputVectors) : Type 0 where
  pub holds : HoldsAigText source said
  pub given : stimulus_in source said ≡ Ok stimulus

-- The fault with which a source is refused: 40 where it is too long, else the first one of its text, else that of its
-- stimulus, else 45 where its run is too long.
abbrev pub HasNoAigText : List ℕ → Fault → Type 0
HasNoAigText source fault = (length source ≤ longest_circuit) × (accepted_text (cuts.parts_of source).design ≡ Err fault)

-- the stimulus has a fault
abbrev pub HasNoStimulus : List ℕ → Fault → Type 0
HasNoStimulus source fault = (said : Draft) × HoldsAigText source said × (stimulus_in source said ≡ Err fault)

-- the run is too long
abbrev pub RunsTooLong : ℕ → List ℕ → Fault → Type 0
RunsTooLong cycles source fault =
    (fault ≡ fault_of_source 45) × ((said : Draft) × (stimulus : InputVectors) × HoldsRun source said stimulus × (is_too_long cycles said ≡ true))

-- one of these, in this order
abbrev pub IsRefusal : ℕ → List ℕ → Fault → Type 0
IsRefusal cycles source fault =
    IsTooLong source fault ⊎ (HasNoAigText source fault ⊎ (HasNoStimulus source fault ⊎ RunsTooLong cycles source fault))

-- what is shown of a text's run for these cycles: a report or a summary
abbrev pub shown_run : Shown → Draft → InputVectors → ℕ → List ℕ
shown_run shown said stimulus cycles = rows_text shown (text_shape said) (text_run said (inputs_of stimulus) cycles)

-- the text shows the run of the source's AIGER text on the source's stimulus for these cycles
pub record ShowsRun (cycles : ℕ) (shown : Shown) (source text : List ℕ) : Type 0 where
  pub said : Draft
  pub stimulus : InputVectors
  pub holds : HoldsRun source said stimulus
  pub within : is_too_long cycles said ≡ false
  pub told : text ≡ shown_run shown said stimulus cycles

-- the answer of `aigsim`
abbrev pub AnswersAigsim : ℕ → Shown → List ℕ → Answer → Type 0
AnswersAigsim cycles shown source Usage = ⊥
AnswersAigsim cycles shown source (Refused fault) = IsRefusal cycles source fault
AnswersAigsim cycles shown source (Written text) = ShowsRun cycles shown source text
