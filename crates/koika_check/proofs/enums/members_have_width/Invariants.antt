use Rattle.std.proofs.Common.{◌≡◌, drop, map}
use Rattle.koika_syntax.specs.declared.tree.EnumMember.{EnumMember}
use Rattle.koika_check.specs.Declarations.{has_width}
use Rattle.koika_check.specs.Types.{each}
use Rattle.koika_check.proofs.enums.members_have_width.Given as goal

abbrev pub invariant-loop-member : goal.invariant-loop-member
invariant-loop-member l = each (has_width l.width) (map (λ (m : EnumMember). m.value) (drop l.member-index l.members)) ≡ each (has_width l.width) (map (λ (m : EnumMember). m.value) l.members)
