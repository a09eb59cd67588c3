-- What is asked of a run, and what is written of it. Only contracts of private functions cite it.
use Rattle.std.specs.Prelude.{Result}
use Rattle.std.specs.Arc.{arc_value}
use Rattle.koika_check.specs.Typing.{IsTypedDesign}
use Rattle.koika_top.specs.inner.Journaling.{WritesJournal}
use Rattle.koika_top.specs.Sim.{text_of_run}
use Rattle.front_end.specs.Streams.{Stream}
use Rattle.front_end.specs.Told.{Told}
use Rattle.koika_top.specs.declared.crew.Work.{Work}
use Rattle.koika_top.specs.declared.crew.Work.TheVariants.{Shown, Journal}
use Rattle.koika_top.specs.declared.engine_kind.EngineKind.{EngineKind}
use Rattle.koika_top.specs.declared.engine_kind.EngineKind.TheVariants.{Workers}
use Rattle.front_end.specs.declared.untold.Untold.{Untold}

-- the engine that makes the run
abbrev pub engine_of : Work → EngineKind
engine_of (Shown run) = run.engine
engine_of (Journal run) = Workers run.workers

-- the design of a run that is shown is well typed
abbrev pub IsReady : Work → Type 0
IsReady (Shown run) = IsTypedDesign run.lowered.checked
IsReady (Journal run) = Unit {0}

-- what is shown of the run was written, or its journal, or its first bytes
abbrev pub IsWritten : Work → Stream → Result (Unit {0}) Untold → Type 0
IsWritten (Shown run) sink result = Told (text_of_run run.lowered.checked (arc_value run.lowered.stimulus) run.cycles run.shown) sink result
IsWritten (Journal run) sink result = WritesJournal (arc_value run.lowered.design) (arc_value run.lowered.stimulus) run.cycles run.workers sink result
