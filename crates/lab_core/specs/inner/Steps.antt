-- Where the walk of a cycle is, for private functions: the registers, the rules that fired by the trials so far, and the
-- place.
use Rattle.std.specs.Prelude.{List}
use Rattle.kw_bits.specs.BitVector.{BitVector}
use Rattle.typed_core.specs.declared.design.Next.{Next}
use Rattle.one_rule.specs.Walk.{Walk}
use Rattle.one_rule.specs.declared.cycle.State.{State}
use Rattle.lab_core.specs.declared.trial.Trial.{Trial}
use Rattle.lab_core.specs.inner.Tops.{fired_in}

-- the state of the walk after these trials
abbrev pub state_of : List BitVector → List Trial → State
state_of regs tried = record { regs = regs; past = fired_in tried }

-- the walk at this place after these trials
abbrev pub walk_at : List BitVector → List Trial → Next → Walk State
walk_at regs tried at = record { state = state_of regs tried; at = at }
