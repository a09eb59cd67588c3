-- How a part of a session ends early where another call said why. This serves private functions alone.
use Rattle.kw_base.specs.declared.fault.Refusal.{Refusal}
use Rattle.kw_base.specs.declared.fault.Refusal.TheVariants as refusals
use Rattle.front_end.specs.declared.untold.Untold.{Untold}
use Rattle.front_end.specs.declared.untold.Untold.TheVariants as untold
use Rattle.stream_run.specs.declared.stop.Stop.{Stop}
use Rattle.stream_run.specs.declared.stop.Stop.TheVariants as stops

-- why it ends where a call refuses
abbrev pub stop_by_refusal : Refusal → Stop
stop_by_refusal (refusals.Fault fault) = stops.Fault fault
stop_by_refusal refusals.NoMemory = stops.NoMemory

-- why it ends where a text isn't written
abbrev pub stop_by_untold : Untold → Stop
stop_by_untold untold.WriteFault = stops.WriteFault
stop_by_untold untold.NoMemory = stops.NoMemory
