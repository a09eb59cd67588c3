use Rattle.std.proofs.Common.{ap, sym, subst, ◌∙◌, Some}
use Rattle.kw_base.specs.Names.{Adds}
use Rattle.koika_check.proofs.Bindings.{name-kept, name-number, name-same}
use Rattle.koika_check.specs.inner.Locals.{inside_of}
use Rattle.std.proofs.Common.{[]}
use Rattle.koika_check.proofs.locals.Locals.number_of.Goals as goal

pub returns-in_ok-push-in-New-clause-kept : goal.returns-in_ok-push-in-New-clause-kept
returns-in_ok-push-in-New-clause-kept c =
    let added = subst (λ a. Adds c.args.self.now.names c.args.name.now a c.add.new.self) c.in-New.is c.in_ok-number.ensures.adds in
    rw (added.2, c.in_ok-push-in-New.ensures.ok) (name-kept c.args.self.now c.args.name.now c.requires)

pub returns-in_ok-push-in-New-clause-number : goal.returns-in_ok-push-in-New-clause-number
returns-in_ok-push-in-New-clause-number c =
    let added = subst (λ a. Adds c.args.self.now.names c.args.name.now a c.add.new.self) c.in-New.is c.in_ok-number.ensures.adds in
    rw added.2 (name-number c.args.self.now.names c.args.name.now added.0 ∙ ap Some (sym added.1))

pub returns-in_ok-push-in-New-clause-same : goal.returns-in_ok-push-in-New-clause-same
returns-in_ok-push-in-New-clause-same c arrays =
    let added = subst (λ a. Adds c.args.self.now.names c.args.name.now a c.add.new.self) c.in-New.is c.in_ok-number.ensures.adds in
    rw added.2 (name-same arrays c.args.self.now.names c.args.name.now (inside_of [] c.args.self.now.bound) c.requires.hidden)
