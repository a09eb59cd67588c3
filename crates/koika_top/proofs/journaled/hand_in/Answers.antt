use Rattle.std.proofs.Common.{List, sym, subst, ◌∙◌}
use Rattle.attempt_log.specs.declared.entry.Entry.{Entry}
use Rattle.koika_top.specs.inner.Histories.{IsRecord}
use Rattle.koika_top.proofs.Records.{noted, submitted}
use Rattle.koika_top.proofs.journaled.hand_in.Goals as goal

pub returns-clause-record : goal.returns-clause-record
returns-clause-record c =
    subst (λ (h : List Entry). IsRecord c.args.worker h c.submit-answer.new.self)
    (sym (noted c.args.entries.now c.push.new.self c.args.worker c.args.made c.submit-answer.result _ _ _ _ _ _ c.in_ok-push.ensures.ok c.cycle-cycle.ensures c.rule-rule.ensures.rule
    (c.in_ok-inputs.ensures ∙ c.as_slice.ensures ∙ c.inputs.ensures.inputs) (c.in_ok-events.ensures ∙ c.as_slice-2.ensures ∙ c.events.ensures.events) c.outcome-outcome.ensures c.taken.ensures))
    (submitted c.args.worker c.args.entries.now c.args.core.now c.submit-answer.new.self c.args.made c.submit-answer.result c.requires.record
    c.recall.ensures
    c.requires.is_for c.requires.in_run c.submit-answer.ensures.step c.submit-answer.ensures.opening)
