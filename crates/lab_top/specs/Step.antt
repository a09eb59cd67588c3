-- What is promised of the lab's command `step`, which reads its source line by line.
use Rattle.std.specs.Prelude.{◌≢◌, ℕ, Bool, false, List, [], ◌∷◌, codes}
use Rattle.std.specs.Str.{bytes_eq}
use Rattle.kw_bits.specs.declared.host.HostSpec.{HostSpec}
use Rattle.front_end.specs.Streams.{Stream}
use Rattle.stream_run.specs.Sessions as sessions
use Rattle.lab_top.specs.Answer.{ends}
use Rattle.lab_top.specs.declared.status.LabStatus.{LabStatus}
use Rattle.lab_top.specs.declared.status.LabStatus.TheVariants.{Failed}

-- the words ask for `step`: it has no options
abbrev pub asks_step : List (List ℕ) → Bool
asks_step (word ∷ []) = bytes_eq word (codes "step")
asks_step words = false

-- the call is a session, which never fails
pub record IsSession (hosts : List HostSpec) (source sink : Stream) (status : LabStatus) : Type 0 where
  pub kept : sessions.IsKept (sessions.session hosts source sink (ends status))
  pub never_fails : status ≢ Failed
