use Rattle.std.proofs.Common.{◌∙◌, ap, sym, refl, true, false}
use Rattle.std.specs.Prelude.{is_some}
use Rattle.koika_check.specs.inner.Things.{thing_named}
use Rattle.koika_check.proofs.Declaring.{new-name}
use Rattle.koika_check.proofs.checker.Checker.is_new.Goals as goal

pub returns-in-Some : goal.returns-in-Some
returns-in-Some c =
    let n = c.args.name.now in
    rw c.repeated.ensures
    (new-name c.args.self.now.design n (thing_named c.args.self.now.things n.text) true (c.requires.names n.text) (ap is_some (ap (thing_named c.args.self.now.things) (sym c.as_slice.ensures) ∙ sym c.in-Some.ensures)))

pub returns-in-None : goal.returns-in-None
returns-in-None c =
    let n = c.args.name.now in
    let none = ap (thing_named c.args.self.now.things) (sym c.as_slice.ensures) ∙ sym c.in-None.ensures in
    (n.text, new-name c.args.self.now.design n (thing_named c.args.self.now.things n.text) false (c.requires.names n.text) (ap is_some none), (refl, none))
