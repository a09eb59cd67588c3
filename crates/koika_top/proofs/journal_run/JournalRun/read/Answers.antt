use Rattle.std.proofs.Common.{sym, ◌∙◌}
use Rattle.koika_top.proofs.journal_run.JournalRun.read.Goals as goal

pub returns-clause-run : goal.returns-clause-run
returns-clause-run g c =
    let lowered = c.in_ok-lowered.ensures in
    record {
      spelled = rw (lowered.checked, lowered.stimulus) c.in_ok-spelled.ensures.spelled;
      within = rw lowered.checked (sym c.is_too_long_for.ensures ∙ c.if-is_too_long_for.false);
      light = rw lowered.checked (sym c.is_too_heavy.ensures ∙ c.if-is_too_heavy.false);
    }

pub returns-clause-typed : goal.returns-clause-typed
returns-clause-typed g c = rw c.in_ok-lowered.ensures.checked c.in_ok-spelled.ensures.typed

pub invariant_of-result : goal.invariant_of-result
invariant_of-result g c =
    let lowered = c.in_ok-lowered.ensures in
    record {
      within = rw lowered.checked (sym c.is_too_long_for.ensures ∙ c.if-is_too_long_for.false);
      light = rw lowered.checked (sym c.is_too_heavy.ensures ∙ c.if-is_too_heavy.false);
      some = c.requires.some;
      most = c.requires.most;
    }
