use Rattle.std.proofs.Common.{subst, sym}
use Rattle.std.proofs.lemmas.Bool.{false≢true}
use Rattle.typed_core.specs.declared.design.Parts.{Parts}
use Rattle.koika_lower.specs.Lowering.{IsLowered}
use Rattle.koika_lower.proofs.lowering.lower.Goals as goal

pub unreachable-requires : goal.unreachable-requires
unreachable-requires c = false≢true (c.in-None.ensures.some.1 c.in_ok-parts.ensures.valid)

pub returns : goal.returns
returns c = subst (λ (p : Parts). IsLowered c.args.checked.now p) (sym c.in-Some.ensures.parts) c.in_ok-parts.ensures.lowered
