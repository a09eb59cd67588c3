use Rattle.std.proofs.Common.{◌≡◌, map, take}
use Rattle.koika_syntax.specs.declared.tree.Literal.{Literal}
use Rattle.koika_check.proofs.declarations.bits_of.Given as goal

abbrev pub invariant-loop-literal : goal.invariant-loop-literal
invariant-loop-literal l = l.bits ≡ map (λ (x : Literal). x.bits) (take l.literal-index l.literals)
