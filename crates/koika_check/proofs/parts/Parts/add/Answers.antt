use Rattle.std.proofs.Common.{subst, ◌∙◌}
use Rattle.kw_base.specs.Names.{Adds}
use Rattle.koika_check.specs.inner.Things.{key_of_part}
use Rattle.koika_check.proofs.Positions.{at-push}
use Rattle.koika_check.proofs.parts.Parts.add.Goals as goal

pub returns-clause-added : goal.returns-clause-added
returns-clause-added c other part =
    let key = c.as_slice.ensures ∙ c.in_ok-key.ensures in
    let added = subst (λ k. Adds c.args.self.now.keys k c.in_ok-add.field-0 c.add.new.self) key c.in_ok-add.ensures.adds in
    let new = subst (λ a. Adds c.args.self.now.keys (key_of_part c.args.of c.args.name.now) a c.add.new.self) c.in-New.is added in
    rw (new.2, c.in_ok-push-in-New.ensures.ok) (at-push c.args.self.now.keys c.args.self.now.positions (key_of_part c.args.of c.args.name.now) c.args.position (key_of_part other part) c.requires new.0)
