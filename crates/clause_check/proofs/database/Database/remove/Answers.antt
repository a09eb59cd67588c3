use Rattle.std.proofs.Common.{true, false, refl, ap, sym}
use Rattle.std.specs.Option.{is_some}
use Rattle.std.proofs.lemmas.Bool.{not-false, not-true}
use Rattle.clause_check.proofs.Databases.{clause_at, clause_dropped, clause_missing, same_progress}
use Rattle.clause_check.proofs.database.Database.remove.Goals as goal

pub returns-in_default-clause-was : goal.returns-in_default-clause-was
returns-in_default-clause-was c =
    let d = c.args.self.now in
    sym (ap is_some (clause_missing _ _ d.numbers.items d.places.items d.literals.items d.kept d.numbers.items c.args.number refl c.in_default.ensures.absent))

pub returns-then-not-place-clause-was : goal.returns-then-not-place-clause-was
returns-then-not-place-clause-was c =
    let d = c.args.self.now in
    sym (ap is_some (clause_at _ _ d.numbers.items d.places.items d.literals.items d.kept d.numbers.items c.in-Some.index c.args.number c.index-place.result.now false refl c.in-Some.ensures.within c.in-Some.ensures.found c.index-place.ensures (not-true _ c.if-not-place.true)))

pub returns-clause-was : goal.returns-clause-was
returns-clause-was c =
    let d = c.args.self.now in
    sym (ap is_some (clause_at _ _ d.numbers.items d.places.items d.literals.items d.kept d.numbers.items c.in-Some.index c.args.number c.index-place.result.now true refl c.in-Some.ensures.within c.in-Some.ensures.found c.index-place.ensures (not-false _ c.if-not-place.false)))

pub returns-clause-removed : goal.returns-clause-removed
returns-clause-removed c = λ _.
    let d = c.args.self.now in
    same_progress _ _ _ _ _ _ (clause_dropped _ _ d.numbers.items d.places.items d.literals.items d.kept d.numbers.items c.in-Some.index c.args.number _ refl c.in-Some.ensures.within c.in-Some.ensures.found refl) refl refl
