use Rattle.std.proofs.Common.{sym, ◌∙◌}
use Rattle.koika_top.proofs.design_run.Run.read.Goals as goal

pub returns-clause-run : goal.returns-clause-run
returns-clause-run g c = rw (c.in_ok-lowered.ensures.checked, c.in_ok-lowered.ensures.stimulus) c.in_ok-spelled.ensures.spelled

pub returns-clause-typed : goal.returns-clause-typed
returns-clause-typed g c = rw c.in_ok-lowered.ensures.checked c.in_ok-spelled.ensures.typed

pub invariant_of-result : goal.invariant_of-result
invariant_of-result g c = record { within = rw c.in_ok-lowered.ensures.checked (sym c.is_too_long_for.ensures ∙ c.if-is_too_long_for.false) }
