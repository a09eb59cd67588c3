-- What `recheck` answers to a source: a design, a stimulus and a journal, each after a line `%%` but the first. A good
-- journal certifies the run that is reported (McConnell et al., Certifying algorithms, Computer Science Review 2011).
-- How the journal came about isn't said.
use Rattle.std.specs.Prelude.{◌≡◌, ℕ, ◌≤◌, ◌⊎◌, true, false, List, [], ◌++◌, length, replicate}
use Rattle.kw_base.specs.declared.fault.Fault.{Fault}
use Rattle.kw_bits.specs.declared.host.HostSpec.{HostSpec}
use Rattle.typed_core.specs.declared.design.Parts.{Parts as Core}
use Rattle.one_rule.specs.Stimulus.{AreSame, InputVectors}
use Rattle.journal_check.specs.Checking.{IsFirstJournalFault, IsGood}
use Rattle.journal_check.specs.Reading.{IsFirstMalformed, IsJournal}
use Rattle.journal_check.specs.declared.journal.Journal.{Journal}
use Rattle.koika_check.specs.declared.checked.Checked.{Checked}
use Rattle.koika_lower.specs.Lowering.{IsLowered}
use Rattle.kw_base.specs.Texts as texts
use Rattle.stim_report.specs.Cuts as cuts
use Rattle.koika_top.specs.Journal.{ShowsJournal, is_too_heavy}
use Rattle.front_end.specs.Lengths.{is_too_long_for}
use Rattle.koika_top.specs.Sim.{text_of_run}
use Rattle.front_end.specs.Certified.{HasNoParts, SpellsBoth, longest_certified, parts_of}
use Rattle.front_end.specs.Sources.{fault_of_source, longest_source}
use Rattle.front_end.specs.declared.answer.Answer.{Answer}
use Rattle.front_end.specs.declared.answer.Answer.TheVariants.{Usage, Refused, Written}
use Rattle.koika_top.specs.declared.shown.Shown.TheVariants.{Report}

-- ---- sources

-- the source spells a design and a stimulus, and that many cycles may have a journal
pub record MayHaveJournal (hosts : List HostSpec) (cycles : ℕ) (source : List ℕ) (design : Checked) (stimulus : InputVectors) : Type 0 where
  pub spelled : SpellsBoth hosts source design stimulus
  pub within : is_too_long_for cycles design ≡ false
  pub light : is_too_heavy cycles design ≡ false

-- its certificate is this journal of the design, lowered
pub record SpellsJournal (hosts : List HostSpec) (cycles : ℕ) (source : List ℕ) (design : Checked) (stimulus : InputVectors) (core : Core) (journal : Journal) : Type 0 where
  pub spelled : MayHaveJournal hosts cycles source design stimulus
  pub lowered : IsLowered design core
  pub read : IsJournal core stimulus (parts_of source).certificate_line (parts_of source).certificate journal

-- ---- answers

-- the journal is good, and the text is the report of the run of that many cycles
pub record ShowsChecked (hosts : List HostSpec) (cycles : ℕ) (source text : List ℕ) : Type 0 where
  pub design : Checked
  pub stimulus : InputVectors
  pub core : Core
  pub journal : Journal
  pub spelled : SpellsJournal hosts cycles source design stimulus core journal
  pub good : IsGood core stimulus cycles journal
  pub told : text ≡ text_of_run design stimulus cycles Report

-- 45 where a run of that many cycles is too long, and then 49 where they are too many for a journal
abbrev pub HasNoLength : List HostSpec → ℕ → List ℕ → Fault → Type 0
HasNoLength hosts cycles source fault =
    (design : Checked) × (stimulus : InputVectors) × SpellsBoth hosts source design stimulus
    × (((fault ≡ fault_of_source 45) × (is_too_long_for cycles design ≡ true))
    ⊎ ((fault ≡ fault_of_source 49) × (is_too_long_for cycles design ≡ false) × (is_too_heavy cycles design ≡ true)))

-- the source is refused before its journal is looked at: its first two parts spell no design with a stimulus, or else the
-- cycles are too many
abbrev pub IsRefusedBefore : List HostSpec → ℕ → List ℕ → Fault → Type 0
IsRefusedBefore hosts cycles source fault = HasNoParts hosts source fault ⊎ HasNoLength hosts cycles source fault

-- else 80 at the first line of the certificate that is of no form
abbrev pub HasNoLines : List HostSpec → ℕ → List ℕ → Fault → Type 0
HasNoLines hosts cycles source fault =
    (design : Checked) × (stimulus : InputVectors) × (core : Core) × MayHaveJournal hosts cycles source design stimulus × IsLowered design core
    × IsFirstMalformed core stimulus (parts_of source).certificate_line (parts_of source).certificate fault

-- else the first fault of a journal that isn't good: 81, 82, 83
abbrev pub IsWrong : List HostSpec → ℕ → List ℕ → Fault → Type 0
IsWrong hosts cycles source fault =
    (design : Checked) × (stimulus : InputVectors) × (core : Core) × (journal : Journal) × SpellsJournal hosts cycles source design stimulus core journal
    × IsFirstJournalFault core stimulus cycles journal fault

-- no journal certifies a run of that many cycles, and this is why
abbrev pub IsUncertified : List HostSpec → ℕ → List ℕ → Fault → Type 0
IsUncertified hosts cycles source fault =
    IsRefusedBefore hosts cycles source fault ⊎ (HasNoLines hosts cycles source fault ⊎ IsWrong hosts cycles source fault)

-- the answer of `recheck`
abbrev pub AnswersRecheck : List HostSpec → ℕ → List ℕ → Answer → Type 0
AnswersRecheck hosts cycles source Usage = ⊥
AnswersRecheck hosts cycles source (Refused fault) = IsUncertified hosts cycles source fault
AnswersRecheck hosts cycles source (Written text) = ShowsChecked hosts cycles source text

-- A source of `recheck` has the design's bytes and the stimulus's lines of another source before its second mark, but
-- for line feeds after the design and empty lines after the stimulus, and isn't too long. A mark begins a line, so a
-- design that ends without a line feed has one more in front of a mark.
pub record HasPartsOf (source other : List ℕ) : Type 0 where
  pub line_feeds : ℕ
  pub design : (parts_of other).design ≡ (cuts.parts_of source).design ++ replicate line_feeds 10
  pub empty_lines : ℕ
  pub stimulus : texts.lines_of (parts_of other).stimulus ≡ texts.lines_of (cuts.parts_of source).stimulus ++ replicate empty_lines []
  pub short : length other ≤ longest_certified
  pub design_short : length (parts_of other).design ≤ longest_source

-- it spells this design, and a stimulus with the same inputs in every cycle; without more lines it is the same stimulus
pub record SpellsSame (hosts : List HostSpec) (other : List ℕ) (design : Checked) (stimulus : InputVectors) (empty_lines : ℕ) : Type 0 where
  pub again : InputVectors
  pub same : AreSame stimulus again
  pub equal : empty_lines ≡ 0 → again ≡ stimulus
  pub spelled : SpellsBoth hosts other design again

-- before its second mark it spells the design of another source and a stimulus with the same inputs in every cycle, and
-- after it has that source's journal
pub record IsJournaledOf (hosts : List HostSpec) (cycles workers : ℕ) (source other : List ℕ) : Type 0 where
  pub text : List ℕ
  pub shows : ShowsJournal hosts cycles workers source text
  pub again : InputVectors
  pub same : AreSame shows.stimulus again
  pub spelled : SpellsBoth hosts other shows.design again
  pub journal : (parts_of other).certificate ≡ text
