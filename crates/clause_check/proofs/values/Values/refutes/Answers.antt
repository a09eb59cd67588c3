use Rattle.std.proofs.Common.{◌∷◌, sym, ◌∙◌}
use Rattle.clause_check.specs.inner.Progresses.{progress_of}
use Rattle.clause_check.proofs.Propagating.{hint_goes_on, left-not_false}
use Rattle.clause_check.proofs.values.Values.refutes.Goals as goal

pub loop-hint-preserved : goal.loop-hint-preserved
loop-hint-preserved c =
    let inv = c.loop-hint.invariant in
    let clause = c.in-Some-clause.clause.now in
    let literal = c.in-One.literal in
    record {
      count = c.in_ok-assume-in-One.ensures.count ∙ inv.count;
      same = λ trues agrees.
          let found = inv.same trues agrees in
          let left = c.in-One.ensures.left found.0 found.1 in (
            literal ∷ found.0,
            c.in_ok-assume-in-One.ensures.assumed found.0 found.1 (left-not_false found.0 clause literal (sym left)),
            sym (hint_goes_on (progress_of c.args.database.now).there found.0 c.loop-hint.rest.now c.in-Some.hint.now c.in-Some.others.now c.in-Some.ensures.cases.0 clause literal (sym c.in-Some-clause.ensures.clause) (sym left)) ∙ found.2,
          );
    }
