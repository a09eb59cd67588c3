-- `recheck` answers to the journal of a source, after the source's design and stimulus, what `sim` answers to the source.
use Rattle.std.proofs.Common.{◌≡◌, ◌≤◌, ℕ, inl, inr, List, [], ◌∷◌, ◌++◌, length, map, replicate, refl, sym, ap, ap₂, subst, ◌∙◌}
use Rattle.std.specs.Prelude.{All}
use Rattle.std.specs.List.{AllByRecursion}
use Rattle.std.proofs.lemmas.List.{length-map}
use Rattle.std.proofs.lemmas.List.Elements.{recursion_from_All}
use Rattle.kw_bits.specs.Host.{TakesWidth}
use Rattle.kw_bits.specs.Laws.{HasWidth}
use Rattle.kw_bits.specs.declared.host.HostSpec.{HostSpec}
use Rattle.koika_types.specs.Values.{packed}
use Rattle.typed_core.specs.Valid.{AreNodes}
use Rattle.typed_core.specs.Widths.{HaveWidths, register_widths}
use Rattle.typed_core.specs.declared.design.Parts.{Parts}
use Rattle.typed_core.specs.declared.design.RegDecl.{RegDecl}
use Rattle.typed_core.specs.declared.design.Rule.{Rule as CoreRule}
use Rattle.typed_core.proofs.WidthLists.{HaveWidths-cons, HaveWidths-empty}
use Rattle.one_rule.specs.Run.{first_values}
use Rattle.one_rule.specs.Stimulus.{InputVectors}
use Rattle.stim_report.specs.Cuts as cuts
use Rattle.attempt_log.specs.Entries.{worker_of}
use Rattle.attempt_log.specs.declared.entry.Entry.{Entry}
use Rattle.attempt_log.specs.declared.entry.Entry.TheVariants as entry
use Rattle.board_lock.specs.Histories.{InRun}
use Rattle.board_lock.proofs.Ranges.{all_of}
use Rattle.journal_check.specs.Checking.{opening_of}
use Rattle.journal_check.specs.Fitting.{LineFits}
use Rattle.journal_check.specs.Journals.{lines_in}
use Rattle.journal_check.specs.Reading.{IsJournal}
use Rattle.journal_check.specs.declared.journal.Batch.{Batch}
use Rattle.journal_check.specs.declared.journal.Journal.{Journal}
use Rattle.journal_check.proofs.WrittenJournals.{AreIn, IsIn, lines_fit, read-back, renumbered, renumbered-good}
use Rattle.koika_check.specs.Typing.{IsRegister, IsTypedDesign}
use Rattle.koika_check.specs.declared.checked.Checked.{Checked}
use Rattle.koika_check.specs.declared.checked.Register.{Register}
use Rattle.koika_check.specs.declared.checked.CheckedRule.{CheckedRule}
use Rattle.koika_check.proofs.TypedTrees.{typed-design}
use Rattle.koika_lower.specs.Lowering.{IsLowered, register_of}
use Rattle.koika_lower.proofs.Values.{constant-stands}
use Rattle.koika_top.specs.Journal.{IsMadeBy}
use Rattle.front_end.specs.Certified.{parts_of}
use Rattle.koika_top.specs.Recheck.{AnswersRecheck, HasPartsOf, IsJournaledOf, SpellsJournal, SpellsSame}
use Rattle.koika_top.specs.Sim.{AnswersSim, text_of_run}
use Rattle.front_end.specs.Sources.{Spells, SpellsDesign, design_part, longest_source, shape_of}
use Rattle.front_end.specs.declared.answer.Answer.{Answer}
use Rattle.front_end.specs.declared.answer.Answer.TheVariants.{Usage, Refused, Written}
use Rattle.koika_top.specs.declared.shown.Shown.TheVariants.{Report}
use Rattle.front_end.proofs.FewCycles.{few-cycles}
use Rattle.front_end.proofs.CutAgain.{design_part-again}
use Rattle.koika_top.proofs.DeclaredNames.{HasDeclaredNames, declared-names, lowered-own, lowered-shown}
use Rattle.koika_top.proofs.EmptyLines.{longer, longer-equal, longer-same, longer-text}
use Rattle.koika_top.proofs.LineFeeds.{HasTokens, has_feeds}
use Rattle.koika_top.proofs.OneAnswer.{journaled_or_refused}
use Rattle.front_end.proofs.OneSource.{same_design, same_stimulus}
use Rattle.koika_top.proofs.SameStimuli.{good-same, journal-same, text-same}

-- what a source spells, a design part spells that has line feeds more and isn't too long
part-spells : (hosts : List HostSpec) (source other : List ℕ) (feeds : ℕ) (d : Checked) → (cuts.parts_of other).design ≡ design_part source ++ replicate feeds 10 → length (cuts.parts_of other).design ≤ longest_source
    → SpellsDesign hosts source d → SpellsDesign hosts (cuts.parts_of other).design d
part-spells hosts source other feeds d is short h =
    let has = has_feeds feeds (design_part source) h.tree h.spelled.tokens (record { are = h.spelled.are; derived = h.spelled.derived }) in
    let same : design_part source ++ replicate feeds 10 ≡ design_part (design_part other) = sym (design_part-again other ∙ is) in
    let again : HasTokens (design_part (design_part other)) h.tree h.spelled.tokens = subst (λ (text : List ℕ). HasTokens text h.tree h.spelled.tokens) same has in
    record {
      tree = h.tree;
      spelled = record { short = short; tokens = h.spelled.tokens; are = again.are; derived = again.derived; few = h.spelled.few };
      typed = h.typed;
    }

-- a source with the parts of another spells its design, and a stimulus that is the same in every cycle
pub parts-spell : (hosts : List HostSpec) (source other : List ℕ) (d : Checked) (s : InputVectors) (is : HasPartsOf source other) → Spells hosts source d s → SpellsSame hosts other d s is.empty_lines
parts-spell hosts source other d s is h = record {
  again = longer is.empty_lines s;
  same = longer-same is.empty_lines s;
  equal = longer-equal is.empty_lines s;
  spelled = record {
    first = record { short = is.short; spelled = part-spells hosts source other is.line_feeds d is.design is.design_short h.spelled };
    given =
        longer-text (shape_of d) (cuts.parts_of source).first_line (parts_of other).stimulus_line is.empty_lines (cuts.parts_of source).stimulus (parts_of other).stimulus s is.stimulus
        h.given;
  };
}

-- ---- lowered designs

module _ (d : Checked) (typed : IsTypedDesign d) where
  firsts_fit : (rs : List Register) → AllByRecursion (IsRegister d) rs → HaveWidths (map (λ (decl : RegDecl). decl.width) (map register_of rs)) (map (λ (decl : RegDecl). decl.first) (map register_of rs))
  firsts_fit [] all = HaveWidths-empty
  firsts_fit (r ∷ rs) all =
      let first = subst (HasWidth (packed r.first)) (sym all.0.width) (constant-stands d typed r.of r.first all.0.of all.0.first).2 in
      HaveWidths-cons r.width (map (λ (decl : RegDecl). decl.width) (map register_of rs)) (packed r.first) (map (λ (decl : RegDecl). decl.first) (map register_of rs)) first (firsts_fit rs all.1)

  module _ (core : Parts) (lowered : IsLowered d core) where
    first-wide : HaveWidths (register_widths core) (first_values core)
    first-wide =
        subst (λ (decls : List RegDecl). HaveWidths (map (λ (decl : RegDecl). decl.width) decls) (map (λ (decl : RegDecl). decl.first) decls)) (sym lowered.registers)
        (firsts_fit d.registers (recursion_from_All (IsRegister d) d.registers typed.registers))

    core-nodes : AreNodes (length core.rules) core.nodes
    core-nodes =
        let count : length core.rules ≡ length d.rules = sym (length-map core.rules (λ (c : CoreRule). c.name)) ∙ ap length lowered.names ∙ length-map d.rules (λ (r : CheckedRule). r.name) in
        subst (λ (k : ℕ). AreNodes k core.nodes) (sym count) (subst (AreNodes (length d.rules)) (sym lowered.nodes) typed.nodes)

-- ---- entries

module _ (core : Parts) (stimulus : InputVectors) (workers : ℕ) where
  entry_in : (batch : Batch) (e : Entry) → worker_of e ≤ workers → InRun (opening_of core stimulus [] batch) e → IsIn workers batch e
  entry_in batch (entry.Submit worker cycle rule inputs events ending answer) by in_run = let cycles = in_run refl in (by, cycles.0, cycles.1)
  entry_in batch (entry.Settle worker answer) by in_run = by

  made-in : (batches : List Batch) → AllByRecursion (IsMadeBy core stimulus workers) batches → AllByRecursion (AreIn workers) batches
  made-in [] made = tt
  made-in (batch ∷ batches) made = (all_of (IsIn workers batch) batch.entries (λ i e is. entry_in batch e (made.0.by i e is) (made.0.in_run i e is)), made-in batches made.1)

-- ---- answers

module _ (hosts : List HostSpec) (offered : All (λ (host : HostSpec). TakesWidth host.kind host.in_width) hosts) (cycles workers : ℕ) (some : 1 ≤ workers) (few : workers ≤ 8)
    (source other : List ℕ) (is : IsJournaledOf hosts cycles workers source other) where
  abbrev d : Checked
  d = is.shows.design

  abbrev stimulus : InputVectors
  stimulus = is.shows.stimulus

  abbrev again : InputVectors
  again = is.again

  abbrev core : Parts
  core = is.shows.core

  abbrev line : ℕ
  line = (parts_of other).certificate_line

  abbrev journal : Journal
  journal = renumbered core line is.shows.journal

  abbrev spells : SpellsDesign hosts source d
  spells = is.shows.spelled.spelled.spelled

  typed : IsTypedDesign d
  typed = typed-design hosts spells.tree d offered spells.spelled.derived.design spells.typed

  names : HasDeclaredNames d
  names = declared-names hosts spells.tree d spells.spelled.derived.design.declarations spells.typed

  fit : AllByRecursion (LineFits core stimulus is.shows.journal.workers) (lines_in is.shows.journal)
  fit =
      lines_fit core stimulus cycles workers (core-nodes d typed core is.shows.lowered) (lowered-own d core is.shows.lowered names) (few-cycles cycles _ _ is.shows.spelled.within)
      is.shows.journal (first-wide d typed core is.shows.lowered) some few
      is.shows.is.workers_are is.shows.is.good (made-in core stimulus workers is.shows.journal.batches is.shows.is.made)

  read : IsJournal core again line (parts_of other).certificate journal
  read =
      journal-same stimulus again is.same core line (parts_of other).certificate journal
      (read-back core stimulus line is.shows.journal (parts_of other).certificate (lowered-shown d core is.shows.lowered names) fit (is.journal ∙ is.shows.told))

  spelled : SpellsJournal hosts cycles other d again core journal
  spelled = record {
    spelled = record {
      spelled = is.spelled;
      within = is.shows.spelled.within;
      light = is.shows.spelled.light;
    };
    lowered = is.shows.lowered;
    read = read;
  }

  pub answers-again : (answer : Answer) → AnswersSim hosts cycles Report source answer → AnswersRecheck hosts cycles other answer
  answers-again Usage run = run
  answers-again (Refused fault) (inl long) = absurd (journaled_or_refused hosts source cycles workers fault d stimulus is.shows.spelled (inl long))
  answers-again (Refused fault) (inr none) = absurd (journaled_or_refused hosts source cycles workers fault d stimulus is.shows.spelled (inr (inl none)))
  answers-again (Written text) run = record {
    design = d;
    stimulus = again;
    core = core;
    journal = journal;
    spelled = spelled;
    good = good-same stimulus again is.same core cycles journal (renumbered-good core stimulus cycles line is.shows.journal is.shows.is.good);
    told =
        run.told
        ∙ ap₂ (λ (e : Checked) (s : InputVectors). text_of_run e s cycles Report) (same_design hosts source run.design d run.spelled.spelled spells)
        (same_stimulus hosts source run.design d run.stimulus stimulus run.spelled is.shows.spelled.spelled)
        ∙ text-same stimulus again is.same d cycles Report;
  }
