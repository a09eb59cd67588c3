use Rattle.std.proofs.Common.{true, false, Some, refl, ap, sym, ◌∙◌}
use Rattle.std.specs.Option.{option_copied}
use Rattle.std.specs.List.{slice_range}
use Rattle.std.proofs.lemmas.Bool.{not-false, not-true}
use Rattle.clause_check.proofs.Databases.{clause_at, clause_missing}
use Rattle.clause_check.proofs.database.Database.clause.Goals as goal

pub returns-in_err-index-clause-clause : goal.returns-in_err-index-clause-clause
returns-in_err-index-clause-clause c =
    let d = c.args.self.now in
    ap option_copied c.from_residual.ensures ∙ sym (clause_missing _ _ d.numbers.items d.places.items d.literals.items d.kept d.numbers.items c.args.number refl c.in_err-index.ensures.absent)

pub returns-then-not-place-clause-clause : goal.returns-then-not-place-clause-clause
returns-then-not-place-clause-clause c =
    let d = c.args.self.now in
    sym (clause_at _ _ d.numbers.items d.places.items d.literals.items d.kept d.numbers.items c.in_ok-index.index c.args.number c.index-place.result.now false refl c.in_ok-index.ensures.within c.in_ok-index.ensures.found c.index-place.ensures (not-true _ c.if-not-place.true))

pub returns-clause-clause : goal.returns-clause-clause
returns-clause-clause c =
    let d = c.args.self.now in
    ap (λ (l : _). Some (slice_range l c.index-place.result.now.start c.index-place.result.now.end)) c.deref.ensures.value
    ∙ sym (clause_at _ _ d.numbers.items d.places.items d.literals.items d.kept d.numbers.items c.in_ok-index.index c.args.number c.index-place.result.now true refl c.in_ok-index.ensures.within c.in_ok-index.ensures.found c.index-place.ensures (not-false _ c.if-not-place.false))
