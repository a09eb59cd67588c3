-- Externs and a stimulus cross threads, as their fields do.
use denote.Param.Send.{IsSend, IsSync, sendable}
use Rattle.std.proofs.Crossing.{crosses}
use Rattle.one_rule.specs.contracts.externs.kept.Externs as externs
use Rattle.one_rule.specs.contracts.stimulus.Stimulus as stimulus

pub externs_send : IsSend externs.the_row
externs_send = search (sendable, crosses) depth 40 fits 8000

pub externs_sync : IsSync externs.the_row
externs_sync = search (sendable, crosses) depth 40 fits 8000

pub stimulus_send : IsSend stimulus.the_row
stimulus_send = search (sendable, crosses) depth 40 fits 8000

pub stimulus_sync : IsSync stimulus.the_row
stimulus_sync = search (sendable, crosses) depth 40 fits 8000
