use Rattle.std.proofs.Common.{◌≡◌, length}
use Rattle.koika_check.proofs.path.Path.new.Given as goal

abbrev pub invariant-loop : goal.invariant-loop
invariant-loop l = length l.places ≡ l.counter
