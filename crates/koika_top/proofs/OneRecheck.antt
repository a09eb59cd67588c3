-- `recheck` has one answer to a source, whatever the source's design is lowered to.
use Rattle.std.proofs.Common.{◌≡◌, ◌⊎◌, ℕ, true, false, List, refl, sym, ap, ap₂, subst, ◌∙◌, inl, inr}
use Rattle.kw_base.specs.declared.fault.Fault.{Fault}
use Rattle.kw_bits.specs.declared.host.HostSpec.{HostSpec}
use Rattle.typed_core.specs.Widths.{HaveWidths}
use Rattle.typed_core.specs.declared.design.Parts.{Parts as Core}
use Rattle.one_rule.specs.Stimulus.{InputVectors, inputs_of}
use Rattle.kw_base.specs.Texts.{lines_of}
use Rattle.journal_check.specs.Checking.{IsFirstJournalFault, IsGood}
use Rattle.journal_check.specs.Reading as reading
use Rattle.journal_check.specs.Reading.{IsFirstMalformed, IsJournal}
use Rattle.journal_check.specs.Twins.{AreTwins}
use Rattle.journal_check.specs.declared.journal.Journal.{Journal}
use Rattle.journal_check.proofs.OneFault.{good_excludes_faults, one_first_fault}
use Rattle.journal_check.proofs.OneJournal.{no_malformed, one_journal, one_malformed}
use Rattle.journal_check.proofs.Twins.{twins_fail_alike, twins_pass_alike, twins_read_alike, twins_stop_alike}
use Rattle.koika_check.specs.declared.checked.Checked.{Checked}
use Rattle.koika_lower.specs.Lowering.{IsLowered, typed_input_widths}
use Rattle.koika_top.specs.Answer.{IsSameAnswer}
use Rattle.koika_top.specs.Journal.{is_too_heavy}
use Rattle.koika_top.specs.Recheck.{AnswersRecheck, HasNoLength, HasNoLines, IsRefusedBefore, IsWrong, MayHaveJournal, ShowsChecked}
use Rattle.front_end.specs.Certified.{HasNoParts, SpellsBoth, SpellsFirst, parts_of}
use Rattle.front_end.specs.Lengths.{is_too_long_for}
use Rattle.koika_top.specs.Sim.{text_of_run}
use Rattle.front_end.specs.Sources.{shape_of}
use Rattle.front_end.specs.declared.answer.Answer.{Answer}
use Rattle.front_end.specs.declared.answer.Answer.TheVariants.{Refused}
use Rattle.koika_top.specs.declared.shown.Shown.TheVariants.{Report}
use Rattle.koika_top.proofs.AnswerCases.{same_answer}
use Rattle.koika_top.proofs.JournalNames.{lowered-plain}
use Rattle.koika_top.proofs.LoweredTwins.{lowered-twins}
use Rattle.front_end.proofs.Either.{IsOne, either}
use Rattle.front_end.proofs.OneCertified.{no_parts-same, one_design, one_stimulus, parts_or_not}
use Rattle.front_end.proofs.WordNames.{word-names}
use Rattle.front_end.proofs.Reading.{stimulus-fits}
use Rattle.koika_top.proofs.StimuliFit.{stimulus-always}
use Rattle.koika_top.proofs.ValidWidths.{registers-valid, shape-valid}

module _ (hosts : List HostSpec) (cycles : ℕ) (bytes : List ℕ) where
  abbrev line : ℕ
  line = (parts_of bytes).certificate_line

  abbrev text : List ℕ
  text = (parts_of bytes).certificate

  -- ---- lengths

  long_or_within : (d e : Checked) → SpellsFirst hosts bytes d → SpellsFirst hosts bytes e → is_too_long_for cycles d ≡ true → is_too_long_for cycles e ≡ false → ⊥
  long_or_within d e h k long within = let bad : true ≡ false = sym long ∙ ap (is_too_long_for cycles) (one_design hosts bytes d e h k) ∙ within in absurd cc

  heavy_or_light : (d e : Checked) → SpellsFirst hosts bytes d → SpellsFirst hosts bytes e → is_too_heavy cycles d ≡ true → is_too_heavy cycles e ≡ false → ⊥
  heavy_or_light d e h k heavy light = let bad : true ≡ false = sym heavy ∙ ap (is_too_heavy cycles) (one_design hosts bytes d e h k) ∙ light in absurd cc

  no_length-same : (f g : Fault) → HasNoLength hosts cycles bytes f → HasNoLength hosts cycles bytes g → f ≡ g
  no_length-same f g (d, s, h, inl a) (e, r, k, inl b) = a.0 ∙ sym b.0
  no_length-same f g (d, s, h, inl a) (e, r, k, inr b) = absurd (long_or_within d e h.first k.first a.1 b.1)
  no_length-same f g (d, s, h, inr a) (e, r, k, inl b) = absurd (long_or_within e d k.first h.first b.1 a.1)
  no_length-same f g (d, s, h, inr a) (e, r, k, inr b) = a.0 ∙ sym b.0

  before-same : IsOne (IsRefusedBefore hosts cycles bytes)
  before-same = either (HasNoParts hosts bytes) (HasNoLength hosts cycles bytes) (no_parts-same hosts bytes) no_length-same (λ f g a b. parts_or_not hosts bytes f b.0 b.1 a b.2)

  -- no source both may have a journal and is refused before it
  pub before_or_may : (f : Fault) (d : Checked) (s : InputVectors) → MayHaveJournal hosts cycles bytes d s → IsRefusedBefore hosts cycles bytes f → ⊥
  before_or_may f d s may (inl none) = parts_or_not hosts bytes f d s none may.spelled
  before_or_may f d s may (inr (e, r, h, inl long)) = long_or_within e d h.first may.spelled.first long.1 may.within
  before_or_may f d s may (inr (e, r, h, inr heavy)) = heavy_or_light e d h.first may.spelled.first heavy.2 may.light

  -- ---- journals

  -- no name of what the design is lowered to has a space
  core-plain : (d : Checked) (core : Core) → SpellsFirst hosts bytes d → IsLowered d core → reading.HasPlainNames core
  core-plain d core first lowered =
      let design = first.spelled in
      lowered-plain d core lowered (word-names hosts design.tree d design.spelled.derived.design.declarations design.typed)

  -- the stimulus fits
  fits : (d : Checked) (s : InputVectors) → SpellsBoth hosts bytes d s → (cycle : ℕ) → HaveWidths (typed_input_widths d) (inputs_of s cycle)
  fits d s h cycle =
      let shape = shape_of d in
      let parts = parts_of bytes in
      subst (λ (widths : List ℕ). HaveWidths widths (inputs_of s cycle)) (stimulus-fits d shape parts.stimulus_line parts.stimulus s refl h.given)
      (stimulus-always shape parts.stimulus_line parts.stimulus s (shape-valid hosts h.first.spelled.tree d h.first.spelled.typed) h.given cycle)

  -- what is said of a journal with the other is said with this
  module _ (d e : Checked) (s r : InputVectors) (core other : Core) (may : MayHaveJournal hosts cycles bytes d s) (also : MayHaveJournal hosts cycles bytes e r) (lowered : IsLowered d core) (besides : IsLowered e other) where
    given : r ≡ s
    given = one_stimulus hosts bytes e d r s also.spelled may.spelled

    twins : AreTwins s other core
    twins =
        let spelled = may.spelled.first.spelled in
        lowered-twins d s other core (registers-valid hosts spelled.tree d spelled.typed) (fits d s may.spelled)
        (subst (λ (x : Checked). IsLowered x other) (one_design hosts bytes e d also.spelled.first may.spelled.first) besides) lowered

    pub read-across : (j : Journal) → IsJournal other r line text j → IsJournal core s line text j
    read-across j h = twins_read_alike s other core line text j twins (subst (λ (x : InputVectors). IsJournal other x line text j) given h)

    pub stop-across : (f : Fault) → IsFirstMalformed other r line text f → IsFirstMalformed core s line text f
    stop-across f h = twins_stop_alike s other core line text f twins (subst (λ (x : InputVectors). IsFirstMalformed other x line text f) given h)

    pub pass-across : (j : Journal) → IsGood other r cycles j → IsGood core s cycles j
    pass-across j h = twins_pass_alike s other core cycles j twins (subst (λ (x : InputVectors). IsGood other x cycles j) given h)

    fail-across : (j : Journal) (f : Fault) → IsFirstJournalFault other r cycles j f → IsFirstJournalFault core s cycles j f
    fail-across j f h = twins_fail_alike s other core cycles j f twins (subst (λ (x : InputVectors). IsFirstJournalFault other x cycles j f) given h)

  -- what is said of the third part with one design of the core
  module _ (d : Checked) (s : InputVectors) (core : Core) (may : MayHaveJournal hosts cycles bytes d s) (lowered : IsLowered d core) where
    -- one journal is read
    pub one_read : (a b : Journal) → IsJournal core s line text a → IsJournal core s line text b → a ≡ b
    one_read a b h k = one_journal core s line (lines_of text) a b (core-plain d core may.spelled.first lowered) h k

    -- or none, where a line is of no form
    pub read_or_stop : (j : Journal) (f : Fault) → IsJournal core s line text j → IsFirstMalformed core s line text f → ⊥
    read_or_stop j f h k = no_malformed core s line text j f (core-plain d core may.spelled.first lowered) h k

    pub good_or_wrong : (a b : Journal) (f : Fault) → IsJournal core s line text a → IsJournal core s line text b → IsGood core s cycles a → IsFirstJournalFault core s cycles b f → ⊥
    good_or_wrong a b f h k good wrong = good_excludes_faults core s cycles b f (subst (IsGood core s cycles) (one_read a b h k) good) wrong

    abbrev Stops : Fault → Type 0
    Stops f = IsFirstMalformed core s line text f

    abbrev Fails : Fault → Type 0
    Fails f = (j : Journal) × IsJournal core s line text j × IsFirstJournalFault core s cycles j f

    -- another such source has these faults with this design of the core
    stops-here : (f : Fault) → HasNoLines hosts cycles bytes f → Stops f
    stops-here f (e, r, other, also, besides, h) = stop-across d e s r core other may also lowered besides f h

    fails-here : (f : Fault) → IsWrong hosts cycles bytes f → Fails f
    fails-here f (e, r, other, j, spelled, h) =
        let also = spelled.spelled in
        (j, read-across d e s r core other may also lowered spelled.lowered j spelled.read, fail-across d e s r core other may also lowered spelled.lowered j f h)

    pub stop-same : (f g : Fault) → Stops f → Stops g → f ≡ g
    stop-same f g h k = one_malformed core s line (core-plain d core may.spelled.first lowered) text f g h k

    fail-same : (f g : Fault) → Fails f → Fails g → f ≡ g
    fail-same f g h k = one_first_fault core s cycles k.0 f g (subst (λ (j : Journal). IsFirstJournalFault core s cycles j f) (one_read h.0 k.0 h.1 k.1) h.2) k.2

    looked-same : IsOne (λ f. Stops f ⊎ Fails f)
    looked-same = either Stops Fails stop-same fail-same (λ f g h k. read_or_stop k.0 f k.1 h)

    pub here : (f : Fault) → HasNoLines hosts cycles bytes f ⊎ IsWrong hosts cycles bytes f → Stops f ⊎ Fails f
    here f (inl h) = inl (stops-here f h)
    here f (inr h) = inr (fails-here f h)

    -- a journal that is good with it stops nowhere and isn't wrong
    pub good_or_not : (j : Journal) (f : Fault) → IsJournal core s line text j → IsGood core s cycles j → Stops f ⊎ Fails f → ⊥
    good_or_not j f h good (inl k) = read_or_stop j f h k
    good_or_not j f h good (inr k) = good_or_wrong j k.0 f h k.1 good k.2

  -- ---- answers

  abbrev Looked : Fault → Type 0
  Looked f = HasNoLines hosts cycles bytes f ⊎ IsWrong hosts cycles bytes f

  after-same : (f g : Fault) → Looked f → Looked g → f ≡ g
  after-same f g (inl (d, s, core, may, lowered, h)) k = looked-same d s core may lowered f g (inl h) (here d s core may lowered g k)
  after-same f g (inr (d, s, core, j, spelled, h)) k =
      looked-same d s core spelled.spelled spelled.lowered f g (inr (j, spelled.read, h)) (here d s core spelled.spelled spelled.lowered g k)

  before_or_after : (f g : Fault) → IsRefusedBefore hosts cycles bytes f → Looked g → ⊥
  before_or_after f g before (inl (d, s, core, may, lowered, h)) = before_or_may f d s may before
  before_or_after f g before (inr (d, s, core, j, spelled, h)) = before_or_may f d s spelled.spelled before

  shown_or_not : (f : Fault) (told : List ℕ) → ShowsChecked hosts cycles bytes told → Looked f → ⊥
  shown_or_not f told h k =
      let spelled = h.spelled in
      good_or_not h.design h.stimulus h.core spelled.spelled spelled.lowered h.journal f spelled.read h.good (here h.design h.stimulus h.core spelled.spelled spelled.lowered f k)

  shown-same : (a b : List ℕ) → ShowsChecked hosts cycles bytes a → ShowsChecked hosts cycles bytes b → a ≡ b
  shown-same a b h k =
      let mine = h.spelled.spelled.spelled in
      let other = k.spelled.spelled.spelled in
      h.told
      ∙ ap₂ (λ (d : Checked) (s : InputVectors). text_of_run d s cycles Report) (one_design hosts bytes h.design k.design mine.first other.first) (one_stimulus hosts bytes h.design k.design h.stimulus k.stimulus mine other)
      ∙ sym k.told

  shown_or_refused : (f : Fault) (told : List ℕ) → AnswersRecheck hosts cycles bytes (Refused f) → ShowsChecked hosts cycles bytes told → ⊥
  shown_or_refused f told (inl before) h = before_or_may f h.design h.stimulus h.spelled.spelled before
  shown_or_refused f told (inr after) h = shown_or_not f told h after

  pub recheck-same : (a b : Answer) → AnswersRecheck hosts cycles bytes a → AnswersRecheck hosts cycles bytes b → IsSameAnswer a b
  recheck-same =
      same_answer (AnswersRecheck hosts cycles bytes) (λ none. none) (either (IsRefusedBefore hosts cycles bytes) Looked before-same after-same before_or_after) shown_or_refused shown-same
