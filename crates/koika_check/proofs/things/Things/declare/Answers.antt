use Rattle.std.proofs.Common.{subst}
use Rattle.kw_base.specs.Names.{Adds}
use Rattle.koika_check.proofs.Positions.{at-push}
use Rattle.koika_check.proofs.things.Things.declare.Goals as goal

pub returns-in_ok-push-in-New-clause-declares : goal.returns-in_ok-push-in-New-clause-declares
returns-in_ok-push-in-New-clause-declares c other =
    let added = subst (λ a. Adds c.args.self.now.names c.args.name.now a c.add.new.self) c.in-New.is c.in_ok-add.ensures.adds in
    rw (added.2, c.in_ok-push-in-New.ensures.ok) (at-push c.args.self.now.names c.args.self.now.things c.args.name.now c.args.thing other c.requires.kept added.0)
