use Rattle.std.proofs.Common.{◌≡◌, take}
use Rattle.koika_assert.proofs.copies.copied_arguments.Given as goal

abbrev pub invariant-loop-argument : goal.invariant-loop-argument
invariant-loop-argument l = l.copy ≡ take l.argument-index l.arguments
