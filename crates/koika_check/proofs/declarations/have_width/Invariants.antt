use Rattle.std.proofs.Common.{◌≡◌, drop}
use Rattle.koika_check.specs.Declarations.{has_width}
use Rattle.koika_check.specs.Types.{each}
use Rattle.koika_check.proofs.declarations.have_width.Given as goal

abbrev pub invariant-loop-entry : goal.invariant-loop-entry
invariant-loop-entry l = each (has_width l.width) (drop l.entry-index l.entries) ≡ each (has_width l.width) l.entries
