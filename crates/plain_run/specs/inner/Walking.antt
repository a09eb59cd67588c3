-- Where the plain engine is in a cycle's walk, given what a cycle of port runs keeps. This serves private functions.
use Rattle.std.specs.Prelude.{◌≡◌, [], length}
use Rattle.typed_core.specs.Widths.{register_widths}
use Rattle.typed_core.specs.declared.design.Parts.{Parts}
use Rattle.one_rule.specs.Cycle.{flags}
use Rattle.one_rule.specs.PortRun.{PortState}
use Rattle.one_rule.specs.Walk.{Walk}
use Rattle.rule_log.specs.StandsFor.{RegisterLog, StandsFor}
use Rattle.plain_run.specs.declared.cycles.Logs.{Logs}
use Rattle.plain_run.specs.declared.walk.Walking.{Walking}

-- no rule has fired
abbrev pub begin : PortState
begin = record { log = []; fired = [] }

-- the engine's log stands for the scheduler log, and its flags are the rules that fired
pub record Stands (design : Parts) (walking : Walking) (state : PortState) : Type 0 where
  pub log : StandsFor (register_widths design) walking.sched state.log
  pub flags : walking.fired ≡ flags (length design.rules) state.fired

-- and the walk is at the same place
abbrev pub IsAt : Parts → Walking → Walk PortState → Type 0
IsAt design walking walk = Stands design walking walk.state × (walking.at ≡ walk.at)

-- a log of no access
abbrev pub IsEmpty : Parts → RegisterLog → Type 0
IsEmpty design log = StandsFor (register_widths design) log []

abbrev pub AreEmpty : Parts → Logs → Type 0
AreEmpty design logs = IsEmpty design logs.sched × IsEmpty design logs.rule.value
