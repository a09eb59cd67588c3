use Rattle.std.proofs.Common.{◌≡◌, ◌++◌, drop}
use Rattle.koika_assert.specs.Violations.{violated_lines}
use Rattle.koika_assert.proofs.watch.push_violations.Given as goal

abbrev pub invariant-loop-number : goal.invariant-loop-number
invariant-loop-number l = l.text ++ violated_lines (drop l.number l.names) (drop l.number l.firsts) ≡ l.fn.text ++ violated_lines l.names l.firsts
