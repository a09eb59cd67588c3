use Rattle.std.proofs.Common.{false, true, refl, ap}
use Rattle.std.specs.List.{slice_range}
use Rattle.std.proofs.lemmas.Bool.{not-false, not-true}
use Rattle.std.proofs.lemmas.List.{get_or_read}
use Rattle.clause_check.specs.inner.Progresses.{progress_of}
use Rattle.clause_check.proofs.Databases.{clause_above, clause_at, keeps_gone, keeps_ok}
use Rattle.clause_check.proofs.database.Database.keep.Goals as goal

pub returns-then-not-place-clause-kept : goal.returns-then-not-place-clause-kept
returns-then-not-place-clause-kept c =
    let d = c.args.self.now in
    let o = c.args.database.now in
    keeps_gone _ (progress_of d).there (progress_of o).there
    (clause_at _ _ d.numbers.items d.places.items d.literals.items d.kept d.numbers.items c.args.index _ c.index-place.result.now false refl c.requires.within refl c.index-place.ensures (not-true _ c.if-not-place.true))
    (clause_above _ _ o.numbers.items o.places.items o.literals.items o.kept _ c.requires.above)

pub returns-clause-kept : goal.returns-clause-kept
returns-clause-kept c =
    let d = c.args.self.now in
    keeps_ok c.add.result _ c.index.result.now _ _ (progress_of d).there (progress_of c.args.database.now) (progress_of c.add.new.self)
    (get_or_read d.numbers.items c.args.index c.index.result.now c.requires.within c.index.ensures 0)
    (clause_at _ _ d.numbers.items d.places.items d.literals.items d.kept d.numbers.items c.args.index _ c.index-place.result.now true refl c.requires.within refl c.index-place.ensures (not-false _ c.if-not-place.false))
    (ap (λ (l : _). slice_range l c.index-place.result.now.start c.index-place.result.now.end) c.deref.ensures.value) c.add.ensures.progress
