use Rattle.std.proofs.Common.{◌≡◌, take}
use Rattle.std.specs.Prelude.{◌&&◌}
use Rattle.std.specs.List.{filter, list_any}
use Rattle.typed_core.specs.Clash.{clashes}
use Rattle.typed_core.specs.declared.access.Access.{Access}
use Rattle.lab_lint.specs.Occurrences.{rule_part}
use Rattle.lab_lint.specs.Refusals.{is_access, is_refused_in}
use Rattle.lab_lint.proofs.made.clashing.Given as goal

abbrev pub invariant-loop-access : goal.invariant-loop-access
invariant-loop-access l = l.some ≡ filter (λ (a : Access). list_any (λ (e : Access). clashes a e) l.fn.earlier) (take l.access-index l.accesses)
