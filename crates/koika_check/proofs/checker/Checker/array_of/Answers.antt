use Rattle.std.proofs.Common.{None, Some, ap, map, refl, sym, ◌∙◌}
use Rattle.koika_check.specs.inner.Checking.{arrays_of}
use Rattle.koika_check.specs.Composites.{array_by}
use Rattle.koika_check.specs.inner.Shapes.{part_of}
use Rattle.koika_check.specs.Types.{part}
use Rattle.koika_check.proofs.Growth.{grows-refl}
use Rattle.koika_check.proofs.PartTypes.{first-type}
use Rattle.koika_check.proofs.Telling.{two-ok}
use Rattle.koika_check.proofs.checker.Checker.array_of.Goals as goal

pub array_of_items-requires-clause-element : goal.array_of_items-requires-clause-element
array_of_items-requires-clause-element c = (first-type c.args.self.now c.args.parts.now c.in-Some.element (sym c.in-Some.ensures.first) c.requires.each).0

pub array_of_items-requires-clause-some : goal.array_of_items-requires-clause-some
array_of_items-requires-clause-some c = (first-type c.args.self.now c.args.parts.now c.in-Some.element (sym c.in-Some.ensures.first) c.requires.each).1

pub returns-in_ok-refuse-in-None : goal.returns-in_ok-refuse-in-None
returns-in_ok-refuse-in-None c =
    let parts = map (part_of (arrays_of c.args.self.now)) c.args.parts.now in
    record {
      kept = c.requires.checker;
      grows = grows-refl c.args.self.now;
      value = part None c.args.place;
      gives =
          ap (λ t. array_by c.args.self.now.design c.args.place t parts) (sym (c.in-None.ensures.of (arrays_of c.args.self.now)))
          ∙ two-ok c.none_is_unit.result (Some c.new.result) _ _ c.least.result _ (part None c.args.place) c.least.ensures (c.none_is_unit.ensures (arrays_of c.args.self.now)) (ap Some c.new.ensures) c.in_ok-refuse-in-None.ensures;
      means = record { scope_is = refl; part = refl; type = tt };
    }
