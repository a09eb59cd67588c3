use Rattle.std.proofs.Common.{ap, ◌∙◌}
use Rattle.std.proofs.lemmas.Result.{IfOk-weaker}
use Rattle.koika_check.specs.inner.Things.{position_of, thing}
use Rattle.koika_check.specs.declared.things.Kind.TheVariants as kind
use Rattle.koika_check.proofs.checker.Checker.field_of.Goals as goal

pub returns : goal.returns
returns c =
    IfOk-weaker c.find.result _ _
    (λ found e. e ∙ ap (position_of c.args.self.now.parts (thing kind.Struct c.args.of)) c.as_slice-name.ensures ∙ c.requires.checker.named_fields c.args.of c.requires.declared c.args.name.now.text) c.find.ensures
