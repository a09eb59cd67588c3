-- What a rule's run after a scheduler log answers, given the port run after a list of events that the log stands for.
use Rattle.std.specs.Prelude.{◌≡◌, ℕ, List}
use Rattle.kw_bits.specs.BitVector.{BitVector}
use Rattle.typed_core.specs.Evaluation.{Ending, Progress, Stop, Value}
use Rattle.typed_core.specs.declared.outcome.Stopped.{Stopped}
use Rattle.typed_core.specs.declared.outcome.Stopped.TheVariants.{Abort, Refused}
use Rattle.rule_log.specs.StandsFor.{StandsFor}
use Rattle.action_interp.specs.declared.run.LoggedRun.{LoggedRun}
use Rattle.action_interp.specs.declared.run.RuleEnd.{RuleEnd}
use Rattle.action_interp.specs.declared.run.RuleEnd.TheVariants as end
use Rattle.action_interp.specs.declared.run.RuleRun.{RuleRun}
use Rattle.action_interp.specs.declared.run.RuleRun.TheVariants as run

-- a value is a rule's end
abbrev pub end_of : Ending BitVector Stopped → RuleEnd
end_of (Value value) = end.Fired
end_of (Stop Abort) = end.Aborted
end_of (Stop (Refused access)) = end.Blocked access

-- the answer says how the port run ends, and the log of a rule that fires stands for its events
abbrev pub IsRun : List ℕ → RuleRun → Progress BitVector Stopped → Type 0
IsRun widths (run.Fired log) p = (end_of p.ending ≡ end.Fired) × StandsFor widths log p.events
IsRun widths run.Aborted p = p.ending ≡ Stop Abort
IsRun widths (run.Blocked access) p = p.ending ≡ Stop (Refused access)

-- the same where the log stands for the events that the rule makes before it stops, too
abbrev pub IsLoggedRun : List ℕ → LoggedRun → Progress BitVector Stopped → Type 0
IsLoggedRun widths run p = (run.end ≡ end_of p.ending) × StandsFor widths run.log.value p.events
