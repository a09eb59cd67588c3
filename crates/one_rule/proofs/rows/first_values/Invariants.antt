use Rattle.std.proofs.Common.{◌≡◌, map, take}
use Rattle.typed_core.specs.declared.design.RegDecl.{RegDecl}
use Rattle.one_rule.proofs.rows.first_values.Given as goal

abbrev pub invariant-loop-decl : goal.invariant-loop-decl
invariant-loop-decl l = l.regs ≡ map (λ (decl : RegDecl). decl.first) (take l.decl-index l.decl-items)
