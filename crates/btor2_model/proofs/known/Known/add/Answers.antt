use Rattle.std.proofs.Common.{◌≡◌, ◌≤◌, ap, sym, ◌∙◌, subst}
use Rattle.btor2_model.specs.inner.Known.{scope_of}
use Rattle.btor2_model.specs.Scope.{DeclaredIds}
use Rattle.btor2_model.specs.declared.meaning.IdMeaning.{IdMeaning}
use Rattle.btor2_model.specs.declared.meaning.Role.TheVariants as roles
use Rattle.btor2_model.proofs.Narrow.{narrow-update}
use Rattle.btor2_model.proofs.known.Known.add.Goals as goal

pub returns-in_ok-declare-in-Ok-clause-narrow : goal.returns-in_ok-declare-in-Ok-clause-narrow
returns-in_ok-declare-in-Ok-clause-narrow c = λ id meaning is sort.
    narrow-update (scope_of c.args.self.now).meanings c.args.line.now.id _ c.requires
    (subst (λ (m : IdMeaning). m.role ≡ roles.Sort → m.width ≤ 128) c.in-Ok.ensures.meaning c.in-Ok.ensures.narrow)
    id meaning (sym (ap (λ (s : DeclaredIds). s.meanings id) c.in_ok-declare-in-Ok.ensures) ∙ is) sort
