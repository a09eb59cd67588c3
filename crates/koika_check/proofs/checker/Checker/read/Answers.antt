use Rattle.std.proofs.Common.{◌≡◌, Some, [], ap, refl, sym, ◌∙◌}
use Rattle.koika_check.specs.Constructs.{applied, typing}
use Rattle.koika_check.specs.Outcomes.{Gives, ◌>>=◌}
use Rattle.koika_check.specs.Scopes.{register, register_type}
use Rattle.koika_check.specs.declared.typed.Operation.TheVariants as operation
use Rattle.koika_check.specs.declared.typed.Typed.TheVariants as made
use Rattle.koika_check.proofs.Leaves.{leaf-ok}
use Rattle.koika_check.proofs.PartTypes.{register-type}
use Rattle.koika_check.proofs.Telling.{tells-ok}
use Rattle.koika_check.proofs.checker.Checker.read.Goals as goal

pub returns : goal.returns
returns c =
    let d = c.args.self.now.design in
    let n = c.in_ok-register.register in
    let found = tells-ok (λ m of. m ≡ of) (register d c.args.register.now) n c.in_ok-register.ensures.found in
    let of = register-type c.args.self.now c.requires n c.index.result.now c.in_ok-register.ensures.declared c.index.ensures in
    leaf-ok c.args.self.now _ (Some c.index.result.now) _ c.args.place (made.Apply (operation.Read c.args.port n) []) c.at.result
    (ap (λ o. o >>= λ m. Gives (applied (register_type d m) c.args.place (operation.Read c.args.port m) [])) (found.1 ∙ ap Gives (sym found.2))
    ∙ ap (λ t. Gives (typing t c.args.place (made.Apply (operation.Read c.args.port n) []))) of.0)
    refl of.1 (c.at.ensures ∙ ap (λ os. record { part = record { of = Some c.index.result.now; place = c.args.place }; typed = made.Apply (operation.Read c.args.port n) os }) c.new.ensures)
