use Rattle.std.proofs.Common.{sym, ◌∙◌}
use Rattle.lab_top.proofs.runs.read_run.Goals as goal

pub returns-clause-spelled : goal.returns-clause-spelled
returns-clause-spelled g c = rw (c.in_ok-lowered.ensures.checked, c.in_ok-lowered.ensures.stimulus) c.in_ok-spelled.ensures.spelled

pub returns-clause-typed : goal.returns-clause-typed
returns-clause-typed g c = rw c.in_ok-lowered.ensures.checked c.in_ok-spelled.ensures.typed

pub returns-clause-within : goal.returns-clause-within
returns-clause-within g c = rw c.in_ok-lowered.ensures.checked (sym c.is_too_long_for.ensures ∙ c.if-is_too_long_for.false)
