use Rattle.std.proofs.Common.{◌≡◌, map, take}
use Rattle.koika_check.specs.declared.checked.Table.{Table}
use Rattle.koika_lower.proofs.declarations.lower_tables.Given as goal

abbrev pub invariant-loop-table : goal.invariant-loop-table
invariant-loop-table l = l.all ≡ map (λ (t : Table). t.spec) (take l.table-index l.tables)
