use Rattle.std.proofs.Common.{◌∙◌, ap, refl, sym}
use Rattle.koika_check.specs.inner.Checking.{arrays_of, scope_of}
use Rattle.koika_check.specs.Declarations.{names_of_locals}
use Rattle.koika_check.specs.Scopes.{local_named}
use Rattle.koika_check.proofs.Parameters.{other-name}
use Rattle.koika_check.proofs.checker.Checker.is_unbound.Goals as goal

pub returns-in-None : goal.returns-in-None
returns-in-None c =
    let s = scope_of c.args.self.now in
    let n = c.args.name.now in
    let none = ap (local_named s.locals) (sym c.as_slice.ensures) ∙ c.in-None.ensures.local (arrays_of c.args.self.now) in
    (n.text, other-name (names_of_locals s.locals) n none, refl)
