use Rattle.spec_worker.proofs.Gaining.{counted_if, never_fell_if}
use Rattle.spec_worker.proofs.end_turn.Goals as goal

pub returns-clause-never_fell : goal.returns-clause-never_fell
returns-clause-never_fell g c = never_fell_if _ _ _ c.settle-answer.ensures.ended

pub returns-clause-counted : goal.returns-clause-counted
returns-clause-counted g c = counted_if _ _ _ c.settle-answer.ensures.ended
