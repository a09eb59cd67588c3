use Rattle.std.proofs.Common.{ap, length, sym, subst, ◌∙◌}
use Rattle.std.proofs.lemmas.List.{length-map}
use Rattle.kw_base.specs.Names.{Adds, number_of}
use Rattle.koika_check.specs.inner.Shapes.{key_of}
use Rattle.koika_check.proofs.ArrayTypes.{New-denotes, New-kept, There-denotes}
use Rattle.koika_check.proofs.shapes.Shapes.array_of.Goals as goal

pub returns-in-There-clause-denotes : goal.returns-in-There-clause-denotes
returns-in-There-clause-denotes c =
    let added = subst (λ a. Adds c.args.self.now.keys c.key_of.result a c.add.new.self) c.in-There.is c.in_ok-number.ensures.adds in
    There-denotes c.args.self.now c.requires.kept c.in-There.number c.args.array (ap (number_of c.args.self.now.keys) (sym c.key_of.ensures.key) ∙ added.0) c.key_of.ensures.fits.0 c.key_of.ensures.fits.1

pub returns-in_ok-push-in-New-clause-kept : goal.returns-in_ok-push-in-New-clause-kept
returns-in_ok-push-in-New-clause-kept c =
    let added = subst (λ a. Adds c.args.self.now.keys c.key_of.result a c.add.new.self) c.in-New.is c.in_ok-number.ensures.adds in
    rw (added.2, c.in_ok-push-in-New.ensures.ok, c.key_of.ensures.key)
    (New-kept c.args.self.now c.requires.kept c.args.array (ap (number_of c.args.self.now.keys) (sym c.key_of.ensures.key) ∙ added.0) c.requires.known c.key_of.ensures.fits.0 c.key_of.ensures.fits.1)

pub returns-in_ok-push-in-New-clause-denotes : goal.returns-in_ok-push-in-New-clause-denotes
returns-in_ok-push-in-New-clause-denotes c =
    let added = subst (λ a. Adds c.args.self.now.keys c.key_of.result a c.add.new.self) c.in-New.is c.in_ok-number.ensures.adds in
    rw c.in_ok-push-in-New.ensures.ok (New-denotes c.args.self.now.arrays c.args.array c.in-New.number (added.1 ∙ ap length c.requires.kept.keys ∙ length-map c.args.self.now.arrays key_of))
