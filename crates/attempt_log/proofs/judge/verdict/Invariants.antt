use Rattle.std.proofs.Common.{◌≡◌, List, drop, take}
use Rattle.typed_core.specs.Widths.{register_widths}
use Rattle.attempt_log.specs.Past.{StandsFor}
use Rattle.one_rule.specs.declared.cycle.Fired.{Fired}
use Rattle.attempt_log.specs.Verdict.{verdict, verdict_from}
use Rattle.attempt_log.proofs.judge.verdict.Given as goal

-- the events that are left decide what all decide
abbrev pub invariant-loop-number : goal.invariant-loop-number
invariant-loop-number l =
    (fired : List Fired) → StandsFor (register_widths l.attempt.design) l.past fired
    → verdict_from l.regs fired (take l.number l.events) (drop l.number l.events) l.attempt.run.outcome ≡ verdict l.regs fired l.attempt.run
