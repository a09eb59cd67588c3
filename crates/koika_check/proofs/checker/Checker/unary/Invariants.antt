use Rattle.std.proofs.Common.{◌≡◌, map, take}
use Rattle.koika_syntax.specs.declared.tree.Prefix.{Prefix}
use Rattle.koika_check.proofs.checker.Checker.unary.Given as goal

abbrev pub invariant-loop-prefix : goal.invariant-loop-prefix
invariant-loop-prefix l = l.operators ≡ map (λ (p : Prefix). p.operator) (take l.prefix-index l.prefixes)
