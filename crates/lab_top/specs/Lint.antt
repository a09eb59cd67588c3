-- What `lint` answers to a source: what is noted of the source's design before its first run. Each note is true, and the
-- notes of refusals are complete, on any inputs and registers. Which of the rules that never fire are noted is left open.
use Rattle.std.specs.Prelude.{◌≡◌, ℕ, Bool, true, false, List, Contains, Some, slice_get, slice_index_or}
use Rattle.kw_bits.specs.BitVector.{BitVector}
use Rattle.kw_bits.specs.declared.host.HostSpec.{HostSpec}
use Rattle.typed_core.specs.Widths.{HaveWidths}
use Rattle.typed_core.specs.declared.access.Access.{Access}
use Rattle.koika_check.specs.declared.checked.Checked.{Checked}
use Rattle.koika_lower.specs.Lowering.{register_widths, typed_input_widths}
use Rattle.one_rule.specs.Stimulus.{InputVectors, inputs_of}
use Rattle.one_rule.specs.declared.rows.Row.{Row}
use Rattle.attempt_log.specs.declared.cause.Cause.TheVariants as cause
use Rattle.front_end.specs.Circuits.{IsStimulusFor}
use Rattle.front_end.specs.Sources.{SpellsDesign, design_part}
use Rattle.front_end.specs.Systems.{run_of, system_of}
use Rattle.lab_core.specs.Numbers.{is_unwatched, verdict_in}
use Rattle.lab_core.specs.Trials.{trials}
use Rattle.lab_core.specs.declared.trial.Trial.{Trial}
use Rattle.lab_core.specs.declared.trial.TrialVerdict.TheVariants as verdict
use Rattle.lab_lint.specs.Order.{IsOrder, Order}
use Rattle.lint_text.specs.Notes.{notes}
use Rattle.lint_text.specs.Places.{places_in}
use Rattle.lint_text.specs.Text.{notes_text}
use Rattle.lint_text.specs.declared.note.Note.{Note}
use Rattle.lint_text.specs.declared.note.Note.TheVariants as note
use Rattle.lint_text.specs.declared.places.Places.{Places}
use Rattle.lab_top.specs.OfDesigns.{AnswersOf}
use Rattle.lab_top.specs.Runs.{trials_in}
use Rattle.lab_top.specs.declared.answer.LabAnswer.{LabAnswer}

-- the rule fires in no cycle of any run from the first values, for every stimulus
abbrev pub NeverFires : Checked → (rule : ℕ) → Type 0
NeverFires d rule = (stimulus : InputVectors) (n cycle : ℕ) (row : Row) → IsStimulusFor d stimulus
    → slice_get (run_of d (inputs_of stimulus) n) cycle ≡ Some row → slice_index_or row.fired rule false ≡ false

-- the trial is one of a cycle of the design, which begins with some inputs and registers of its widths
pub record IsTrialIn (d : Checked) (t : Trial) : Type 0 where
  pub inputs : List BitVector
  pub registers : List BitVector
  pub wide : HaveWidths (typed_input_widths d) inputs
  pub fit : HaveWidths (register_widths d) registers
  pub tried : Contains (trials (system_of d) inputs registers) t

-- each write that a rule's own accesses refuse in a trial is in a note of the rule and the register
abbrev pub OwnsAreNoted : Checked → List Note → Type 0
OwnsAreNoted d noted = (t : Trial) (a : Access) → IsTrialIn d t → t.verdict ≡ verdict.Refused (cause.OwnClash a)
    → (writes : List Access) × Contains noted (note.Own t.rule a.register writes) × Contains writes a

-- the two accesses of each clash in a trial are in the lists of a note of the two rules and the register
abbrev pub ClashesAreNoted : Checked → List Note → Type 0
ClashesAreNoted d noted = (t : Trial) (a e : Access) (earlier : ℕ) → IsTrialIn d t
    → t.verdict ≡ verdict.Refused (cause.Clash a earlier e)
    → (accesses : List Access) × (others : List Access)
    × Contains noted (note.May t.rule earlier a.register accesses others) × Contains accesses a × Contains others e

-- an assertion that has neither note is looked at in each cycle of each run
abbrev pub OthersAreWatched : Checked → List Note → Type 0
OthersAreWatched d noted = (stimulus : InputVectors) (cycle rule : ℕ) → IsStimulusFor d stimulus → Contains d.asserts rule
    → (Contains noted (note.MayBeRefused rule) → ⊥) → (Contains noted (note.MayBeUntried rule) → ⊥)
    → is_unwatched (verdict_in rule (trials_in d (inputs_of stimulus) cycle)) ≡ false

-- the notes are complete: where there is none of a kind, there is nothing to note
pub record AreComplete (d : Checked) (noted : List Note) : Type 0 where
  pub owns : OwnsAreNoted d noted
  pub clashes : ClashesAreNoted d noted
  pub others : OthersAreWatched d noted

-- the text is that of the design's notes, where the design's names are at these places
pub record IsLint (d : Checked) (places : Places) (text : List ℕ) : Type 0 where
  pub order : Order
  pub is_order : IsOrder d.nodes order
  pub is_never : (rule : ℕ) → Bool
  pub never : (rule : ℕ) → is_never rule ≡ true → NeverFires d rule
  pub told : text ≡ notes_text d places (notes order is_never d)
  pub complete : AreComplete d (notes order is_never d)

-- the design is the source's, and the places are those of names in the tree that the source spells
pub record NotesDesign (hosts : List HostSpec) (source : List ℕ) (d : Checked) (text : List ℕ) : Type 0 where
  pub spelled : SpellsDesign hosts source d
  pub noted : IsLint d (places_in (design_part source) spelled.tree) text

-- the answer of `lint`
abbrev pub AnswersLint : List HostSpec → List ℕ → LabAnswer → Type 0
AnswersLint hosts source answer = AnswersOf (NotesDesign hosts source) hosts source answer
