use Rattle.std.proofs.Common.{ap, refl, ◌∙◌}
use Rattle.attempt_log.specs.Seats.{gives_job, one_more_if}
use Rattle.attempt_log.specs.declared.job.JobAnswer.{JobAnswer}
use Rattle.spec_worker.proofs.Gaining.{gains_as, gains_idle, gains_job}
use Rattle.spec_worker.proofs.take_turn.Goals as goal

pub returns-in-Ok-Idle-clause-own : goal.returns-in-Ok-Idle-clause-own
returns-in-Ok-Idle-clause-own g c =
    let made = c.end_turn-in-Ok-Idle.ensures.made in
    let given = c.in-Ok-Idle.ensures.given ∙ ap (λ (a : JobAnswer). one_more_if (gives_job a) (g.S.BoardSeat.given c.args.seat.now)) c.in-Ok-Idle.field-0-is in
    gains_as _ _ _ _ _ _ _ _ _ _ _ _ made.0 refl made.1 made.3 (gains_idle _ _ _ _ _ _ _ c.job.ensures.own given c.end_turn-in-Ok-Idle.ensures.own c.end_turn-in-Ok-Idle.ensures.counts.1)

pub returns-in-Ok-clause-own : goal.returns-in-Ok-clause-own
returns-in-Ok-clause-own g c =
    let made = c.end_turn.ensures.made in
    let given = c.in-Ok-Job.ensures.given ∙ ap (λ (a : JobAnswer). one_more_if (gives_job a) (g.S.BoardSeat.given c.args.seat.now)) c.in-Ok-Job.field-0-is in
    gains_as _ _ _ _ _ _ _ _ _ _ _ _ made.0 refl made.1 made.3 (gains_job _ _ _ _ _ _ _ _ _ _ c.job.ensures.own given c.hand_in-stored.ensures.own c.hand_in-stored.ensures.counts.1 c.end_turn.ensures.own c.end_turn.ensures.counts.1)
