use Rattle.std.proofs.Common.{refl, rules}
use Rattle.clause_check.proofs.Databases.{clause_added, same_progress}
use Rattle.clause_check.proofs.database.Database.add.Goals as goal

pub returns-clause-progress : goal.returns-clause-progress
returns-clause-progress c =
    let d = c.args.self.now in
    same_progress _ _ _ _ _ _
    (clause_added _ _ d.numbers.items d.places.items d.literals.items d.kept c.push-2.new.self.items c.push.new.self.items c.extend_from_slice.new.self.items c.args.clause.now c.args.number
    (record { start = c.len-start.result; end = c.len-end.result; is_there = _ }) c.in-Ok.ensures.items c.in_ok-push.ensures.items c.in_ok-extend_from_slice.ensures.items c.requires.above (search rules) (search rules) refl)
    refl c.has_empty-self.ensures
