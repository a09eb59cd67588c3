use Rattle.std.proofs.Common.{ap, sym, subst, ◌∙◌}
use Rattle.koika_lower.specs.Lowering.{IsLowered}
use Rattle.one_rule.specs.Externs.{kept}
use Rattle.typed_core.specs.Valid.{externs_of}
use Rattle.front_end.proofs.Wired.{wired}
use Rattle.front_end.proofs.circuits.circuit_of.Goals as goal

pub build-requires : goal.build-requires
build-requires c = record { externs = ap kept c.deref-externs.ensures ∙ c.args.lowered.now.externs_fit ∙ sym (ap externs_of c.deref-design.ensures) }

pub returns-clause-wired : goal.returns-clause-wired
returns-clause-wired c =
    let it = c.args.lowered.now in
    wired it.checked c.deref-design.result.now c.in_ok-built.built c.in_ok-simple.simple (subst (IsLowered it.checked) (sym c.deref-design.ensures) it.lowered) c.recall.ensures
    c.in_ok-built.ensures.parts c.in_ok-built.ensures.run c.in_ok-simple.ensures.kept c.in_ok-simple.ensures.run
