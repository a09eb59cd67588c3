use Rattle.std.proofs.Common.{◌≡◌, ◌-◌, ◌≤◌, List, drop, length, take}
use Rattle.koika_check.specs.inner.Locals.{AreLocals, locals_of, shapes_of}
use Rattle.koika_check.specs.declared.typed.ValueType.{ValueType}
use Rattle.koika_check.proofs.locals.Locals.leave.Given as goal

abbrev pub invariant-loop-self : goal.invariant-loop-self
invariant-loop-self l =
    AreLocals l.self × (l.bound ≤ length l.self.bound) × (length l.self.bound ≤ length l.fn.self.bound) ×
    ((arrays : List ValueType) → locals_of arrays l.self ≡ drop (length l.fn.self.bound - length l.self.bound) (locals_of arrays l.fn.self)) ×
    (shapes_of l.self ≡ take (length l.self.bound) (shapes_of l.fn.self))

abbrev pub decreases-loop-self : goal.decreases-loop-self
decreases-loop-self l = length l.self.bound
