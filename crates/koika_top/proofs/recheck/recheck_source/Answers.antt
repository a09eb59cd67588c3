use Rattle.std.proofs.Common.{inl, inr, ◌∙◌}
use Rattle.std.specs.Arc.{arc_value}
use Rattle.std.proofs.lemmas.Result.{err_from_is_err_and}
use Rattle.one_rule.specs.Hosts.{host_specs}
use Rattle.one_rule.specs.Stimulus.{inputs_of}
use Rattle.journal_check.proofs.ReadFits.{read_journals_fit}
use Rattle.koika_top.specs.Recheck.{SpellsJournal}
use Rattle.front_end.specs.Marks.{marks_of}
use Rattle.koika_top.specs.Sim.{text_of_rows}
use Rattle.koika_top.specs.declared.shown.Shown.TheVariants.{Report}
use Rattle.front_end.proofs.FewCycles.{few-cycles}
use Rattle.front_end.proofs.Reading.{fault-of-part}
use Rattle.koika_top.proofs.Rechecking.{journal-at, malformed-at, some-row}
use Rattle.koika_top.proofs.recheck.recheck_source.Goals as goal

pub returns-in_err-lowered-clause-refused : goal.returns-in_err-lowered-clause-refused
returns-in_err-lowered-clause-refused g c =
    let p = err_from_is_err_and c.from_residual.result c.from_residual.ensures.1 in
    rw (p.1, p.2) (fault-of-part _ _ c.in_err-lowered.field-0.0 (λ fault h. inl h) c.in_err-lowered.ensures.refused)

pub returns-in_err-journal-clause-refused : goal.returns-in_err-journal-clause-refused
returns-in_err-journal-clause-refused g c =
    let it = c.in_ok-lowered.lowered in
    let parts = c.certified_parts-parts.ensures in
    let p = err_from_is_err_and c.from_residual-in_err-journal.result c.from_residual-in_err-journal.ensures.1 in
    rw (p.1, p.2)
    (fault-of-part _ _ c.in_err-journal.field-0.0
    (λ fault h. inr (inl (it.checked, arc_value it.stimulus, arc_value it.design, c.in_ok-lowered.ensures.lowered, it.lowered, malformed-at _ _ _ _ _ _ _ _ fault c.deref-design.ensures c.deref-stimulus.ensures parts.certificate_line parts.certificate h)))
    c.in_err-journal.ensures.fault)

pub certified_rows-requires-clause-last : goal.certified_rows-requires-clause-last
certified_rows-requires-clause-last g c = few-cycles c.args.cycles _ _ c.in_ok-lowered.ensures.lowered.within

pub certified_rows-requires-clause-fits : goal.certified_rows-requires-clause-fits
certified_rows-requires-clause-fits g c =
    let it = c.in_ok-lowered.lowered in
    let parts = c.certified_parts-parts.ensures in
    read_journals_fit (arc_value it.design) (arc_value it.stimulus) _ _ c.in_ok-journal.journal
    (journal-at _ _ _ _ _ _ _ _ c.in_ok-journal.journal c.deref-design.ensures c.deref-stimulus.ensures parts.certificate_line parts.certificate c.in_ok-journal.ensures.journal)

pub returns-in_err-rows-clause-refused : goal.returns-in_err-rows-clause-refused
returns-in_err-rows-clause-refused g c =
    let it = c.in_ok-lowered.lowered in
    let parts = c.certified_parts-parts.ensures in
    let spells : SpellsJournal (host_specs c.args.hosts.now) c.args.cycles c.args.source.now it.checked (arc_value it.stimulus) (arc_value it.design) c.in_ok-journal.journal =
    record {
      spelled = c.in_ok-lowered.ensures.lowered;
      lowered = it.lowered;
      read = journal-at _ _ _ _ _ _ _ _ c.in_ok-journal.journal c.deref-design.ensures c.deref-stimulus.ensures parts.certificate_line parts.certificate c.in_ok-journal.ensures.journal;
    }
    in
    let p = err_from_is_err_and c.from_residual-in_err-rows.result c.from_residual-in_err-rows.ensures.1 in
    rw (p.1, p.2)
    (fault-of-part _ _ c.in_err-rows.field-0.0
    (λ fault h. inr (inr (it.checked, arc_value it.stimulus, arc_value it.design, c.in_ok-journal.journal, spells, h)))
    c.in_err-rows.ensures.fault)

pub report_rows-requires-clause-some : goal.report_rows-requires-clause-some
report_rows-requires-clause-some g c =
    let it = c.in_ok-lowered.lowered in
    some-row it.checked (inputs_of (arc_value it.stimulus)) c.args.cycles c.in_ok-rows.rows c.in_ok-rows.ensures.run

pub returns-clause-text : goal.returns-clause-text
returns-clause-text g c =
    let it = c.in_ok-lowered.lowered in
    let parts = c.certified_parts-parts.ensures in
    record {
      design = it.checked;
      stimulus = arc_value it.stimulus;
      core = arc_value it.design;
      journal = c.in_ok-journal.journal;
      spelled = record {
        spelled = c.in_ok-lowered.ensures.lowered;
        lowered = it.lowered;
        read = journal-at _ _ _ _ _ _ _ _ c.in_ok-journal.journal c.deref-design.ensures c.deref-stimulus.ensures parts.certificate_line parts.certificate c.in_ok-journal.ensures.journal;
      };
      good = c.in_ok-rows.ensures.good;
      told = c.in_ok-text.ensures ∙ (λ i. text_of_rows Report (it.shape_fits i) (marks_of it.checked) (c.in_ok-rows.ensures.run i));
    }
