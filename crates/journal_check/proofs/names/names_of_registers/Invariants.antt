use Rattle.std.proofs.Common.{◌≡◌, map, take}
use Rattle.typed_core.specs.declared.design.RegDecl.{RegDecl}
use Rattle.journal_check.proofs.names.names_of_registers.Given as goal

-- the names so far
abbrev pub invariant-loop-decl : goal.invariant-loop-decl
invariant-loop-decl l = l.names ≡ map (λ (decl : RegDecl). decl.name) (take l.decl-index l.design.regs)
