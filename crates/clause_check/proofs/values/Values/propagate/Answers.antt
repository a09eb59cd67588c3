use Rattle.std.proofs.Common.{Bool, [], subst, sym}
use Rattle.clause_check.specs.Propagation.{denied}
use Rattle.clause_check.specs.inner.Progresses.{progress_of}
use Rattle.clause_check.specs.inner.Values.{Denies}
use Rattle.clause_check.proofs.Propagating.{follows_denied, follows_ok}
use Rattle.clause_check.proofs.values.Values.propagate.Goals as goal

pub returns-then-not-branch-clause-follows : goal.returns-then-not-branch-clause-follows
returns-then-not-branch-clause-follows c =
    let of = c.deny.new.self.values.items in
    sym (follows_denied (progress_of c.args.database.now).there c.args.clause.now c.args.hints.now of
    (subst (λ (b : Bool). Denies of b (denied [] c.args.clause.now)) c.if-not-branch.true c.in_ok-deny.ensures.denied))

pub returns-clause-follows : goal.returns-clause-follows
returns-clause-follows c =
    let of = c.deny.new.self.values.items in
    follows_ok c.refutes.result (progress_of c.args.database.now).there c.args.clause.now c.args.hints.now of
    (subst (λ (b : Bool). Denies of b (denied [] c.args.clause.now)) c.if-not-branch.false c.in_ok-deny.ensures.denied) c.refutes.ensures.refutes
