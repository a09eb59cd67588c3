use Rattle.std.proofs.Common.{ap, refl, sym, ◌∙◌}
use Rattle.koika_check.specs.inner.Things.{number_if, thing_named}
use Rattle.koika_check.specs.declared.things.Kind.TheVariants as kind
use Rattle.koika_check.proofs.CalledTypes.{called-unknown}
use Rattle.koika_check.proofs.checker.Checker.called.Goals as goal

pub returns-in-None : goal.returns-in-None
returns-in-None c =
    let thing = sym (c.named-thing.ensures ∙ ap (thing_named c.args.self.now.things) c.as_slice.ensures) in
    let declared = c.requires.names c.args.name.now.text in
    let functions = sym (declared kind.Function) ∙ ap (number_if kind.Function) thing ∙ sym c.number_if.ensures ∙ c.in_default.is in
    let tables = sym (declared kind.Table) ∙ ap (number_if kind.Table) thing ∙ sym c.number_if-2.ensures ∙ c.in_default-number_if.is in
    let hosts = sym (declared kind.Host) ∙ ap (number_if kind.Host) thing ∙ sym c.number_if-3.ensures ∙ c.in-None.is in
    rw (c.unknown.ensures, called-unknown c.args.self.now.design c.args.name.now functions tables hosts) refl
