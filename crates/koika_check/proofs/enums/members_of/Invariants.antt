use Rattle.std.proofs.Common.{◌≡◌, [], drop, length}
use Rattle.koika_check.specs.Declarations.{add_member, names_of_members}
use Rattle.koika_check.specs.inner.Listed.{Keeps, Lists}
use Rattle.koika_check.specs.Outcomes.{one_by_one}
use Rattle.koika_check.specs.inner.Things.{AreParts, thing}
use Rattle.koika_check.specs.declared.things.Kind.TheVariants as kind
use Rattle.koika_check.proofs.enums.members_of.Given as goal

abbrev pub invariant-loop-index : goal.invariant-loop-index
invariant-loop-index l = record {
  parts : AreParts l.parts;
  keeps : Keeps l.fn.parts l.parts (thing kind.Enum l.number);
  lists : Lists l.parts (thing kind.Enum l.number) (names_of_members l.kept);
  count : length l.kept ≡ l.index;
  rest : one_by_one add_member (drop l.index l.members) l.kept ≡ one_by_one add_member l.members [];
}
