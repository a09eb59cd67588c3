use Rattle.std.proofs.Common.{◌≡◌, [], drop}
use Rattle.koika_check.specs.inner.Checking.{IsChecker}
use Rattle.koika_check.specs.Declarations.{add_field, names_of_fields}
use Rattle.koika_check.specs.inner.Listed.{AreFields, GrowsInParts, Keeps, Lists}
use Rattle.koika_check.specs.Outcomes.{one_by_one}
use Rattle.koika_check.specs.inner.Things.{thing}
use Rattle.koika_check.specs.declared.things.Kind.TheVariants as kind
use Rattle.koika_check.proofs.checker.Checker.all_fields.Given as goal

abbrev pub invariant-loop-field : goal.invariant-loop-field
invariant-loop-field l = record {
  checker : IsChecker l.self;
  grows : GrowsInParts l.fn.self l.self;
  locals : l.self.locals ≡ l.fn.self.locals;
  keeps : Keeps l.fn.self.parts l.self.parts (thing kind.Struct l.number);
  fields : AreFields l.self l.kept;
  lists : Lists l.self.parts (thing kind.Struct l.number) (names_of_fields l.kept.fields);
  rest : one_by_one (add_field l.fn.self.design) (drop l.field-index l.fields) l.kept.fields ≡ one_by_one (add_field l.fn.self.design) l.fields [];
}
