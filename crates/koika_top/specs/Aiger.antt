-- What `aiger` answers to a source: an AIGER text (Biere, Heljanko and Wieringa, 2011) that is read as a bit-level circuit
-- whose run is that of the source's design, for every stimulus. Which one is left open: any that is so.
use Rattle.std.specs.Prelude.{◌≡◌, ℕ, ◌<◌, ◌≤◌, ◌⊎◌, false, List, length, Ok}
use Rattle.aig_blast.specs.Aigs.{AigParts}
use Rattle.aiger_text.specs.Meaning.{HasGraph}
use Rattle.aiger_text.specs.Printing.{text_of}
use Rattle.aiger_text.specs.Reading.{aig_of}
use Rattle.kw_base.specs.declared.fault.Fault.{Fault}
use Rattle.kw_bits.specs.declared.host.HostSpec.{HostSpec}
use Rattle.koika_check.specs.BitWeights.{bit_weight}
use Rattle.koika_check.specs.declared.checked.Checked.{Checked}
use Rattle.one_rule.specs.Stimulus.{InputVectors, inputs_of}
use Rattle.stim_report.specs.Cuts as cuts
use Rattle.front_end.specs.Aigs.{IsAigOf, most_bits}
use Rattle.koika_top.specs.Btorsim.{longest_circuit}
use Rattle.koika_top.specs.Sim.{AnswersSim, rows_text}
use Rattle.front_end.specs.Lengths.{is_too_long_for}
use Rattle.front_end.specs.Sources.{IsTooLong, IsUnspelled, Spells, fault_of_source, shape_of}
use Rattle.front_end.specs.Systems as typed
use Rattle.front_end.specs.declared.answer.Answer.{Answer}
use Rattle.front_end.specs.declared.answer.Answer.TheVariants.{Usage, Refused, Written}
use Rattle.koika_top.specs.declared.shown.Shown.{Shown}

-- The text is accepted and means a circuit of the source's design by its own lines and literals, and is read as that circuit,
-- whose bit i of the word `x` has the symbol `x[i]`; the source spells a stimulus for the design too, which isn't too heavy.
pub record ShowsAig (hosts : List HostSpec) (source text : List ℕ) : Type 0 where
  pub design : Checked
  pub stimulus : InputVectors
  pub spelled : Spells hosts source design stimulus
  pub light : bit_weight design ≤ most_bits
  pub aig : AigParts
  pub means : HasGraph text aig
  pub read : aig_of text ≡ Ok aig
  pub printed : text ≡ text_of aig
  pub circuit : IsAigOf design aig

-- 48 where the source spells a design and a stimulus, and the design has too many bits
abbrev pub HasTooManyBits : List HostSpec → List ℕ → Fault → Type 0
HasTooManyBits hosts source fault =
    (fault ≡ fault_of_source 48) × ((design : Checked) × (stimulus : InputVectors) × Spells hosts source design stimulus × (most_bits < bit_weight design))

-- the source has no bit-level circuit, and this is why
abbrev pub HasNoAig : List HostSpec → List ℕ → Fault → Type 0
HasNoAig hosts source fault = IsUnspelled hosts source fault ⊎ HasTooManyBits hosts source fault

-- the answer of `aiger`
abbrev pub AnswersAiger : List HostSpec → List ℕ → Answer → Type 0
AnswersAiger hosts source Usage = ⊥
AnswersAiger hosts source (Refused fault) = IsTooLong source fault ⊎ HasNoAig hosts source fault
AnswersAiger hosts source (Written text) = ShowsAig hosts source text

-- a source of `aigsim` has the AIGER text of another source before its mark, that source's stimulus after it, and isn't
-- too long
pub record IsConvertedOf (hosts : List HostSpec) (source other : List ℕ) : Type 0 where
  pub text : List ℕ
  pub shows : ShowsAig hosts source text
  pub front : (cuts.parts_of other).design ≡ text
  pub stimulus : (cuts.parts_of other).stimulus ≡ (cuts.parts_of source).stimulus
  pub short : length other ≤ longest_circuit

-- the text shows the run of the source's design on the source's stimulus for these cycles, as `sim` shows it but without the
-- lines of violated assertions
pub record ShowsRows (hosts : List HostSpec) (cycles : ℕ) (shown : Shown) (source text : List ℕ) : Type 0 where
  pub design : Checked
  pub stimulus : InputVectors
  pub spelled : Spells hosts source design stimulus
  pub within : is_too_long_for cycles design ≡ false
  pub told : text ≡ rows_text shown (shape_of design) (typed.run_of design (inputs_of stimulus) cycles)

-- the answer of `sim` without these lines
abbrev pub AnswersRows : List HostSpec → ℕ → Shown → List ℕ → Answer → Type 0
AnswersRows hosts cycles shown source Usage = ⊥
AnswersRows hosts cycles shown source (Refused fault) = AnswersSim hosts cycles shown source (Refused fault)
AnswersRows hosts cycles shown source (Written text) = ShowsRows hosts cycles shown source text
