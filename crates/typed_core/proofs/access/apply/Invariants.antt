use Rattle.std.proofs.Common.{◌≡◌, drop, length}
use Rattle.typed_core.specs.Alone.{after}
use Rattle.typed_core.proofs.access.apply.Given as goal

-- what is left makes of the registers what all makes of the first ones
abbrev pub invariant-loop-event : goal.invariant-loop-event
invariant-loop-event l =
    record {
      same : after (drop l.event-index l.event-items) l.regs ≡ after l.events l.fn.regs;
      count : length l.regs ≡ length l.fn.regs;
    }
