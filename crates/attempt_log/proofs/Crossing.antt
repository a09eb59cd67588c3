-- Jobs and attempts cross threads, as their fields do.
use denote.Param.Send.{IsSend, IsSync, sendable}
use Rattle.std.proofs.Crossing.{crosses}
use Rattle.typed_core.proofs.Crossing.{design_send, design_sync}
use Rattle.one_rule.proofs.Crossing.{externs_send, externs_sync}
use Rattle.attempt_log.specs.contracts.job.Job as job
use Rattle.attempt_log.specs.contracts.traced.Attempt as attempt

pub job_send : IsSend job.the_row
job_send = search (design_send, design_sync, externs_send, externs_sync, sendable, crosses) depth 40 fits 8000

pub job_sync : IsSync job.the_row
job_sync = search (design_send, design_sync, externs_send, externs_sync, sendable, crosses) depth 40 fits 8000

pub attempt_send : IsSend attempt.the_row
attempt_send = search (design_send, design_sync, sendable, crosses) depth 40 fits 8000

pub attempt_sync : IsSync attempt.the_row
attempt_sync = search (design_send, design_sync, sendable, crosses) depth 40 fits 8000
