use Rattle.std.proofs.Common.{◌≡◌, ◌+◌, drop}
use Rattle.std.specs.List.{position_from}
use Rattle.stim_report.specs.Summary.{has_fired}
use Rattle.koika_assert.proofs.watch.first_fired.Given as goal

abbrev pub invariant-loop-number : goal.invariant-loop-number
invariant-loop-number l = position_from (has_fired l.rule) (l.cycle + l.number) (drop l.number l.rows) ≡ position_from (has_fired l.rule) l.cycle l.rows
