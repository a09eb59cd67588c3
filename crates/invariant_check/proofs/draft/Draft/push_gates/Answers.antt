use Rattle.std.proofs.Common.{◌∙◌}
use Rattle.invariant_check.proofs.Drafting.{gate_pushed}
use Rattle.invariant_check.proofs.draft.Draft.push_gates.Goals as goal

pub loop-k-preserved : goal.loop-k-preserved
loop-k-preserved c =
    let l = c.loop-k in
    record {
      clauses = gate_pushed c.args.needed.now c.args.sources l.k c.args.gates.now _ l.self.formula.clauses
          c.push_if_needed.new.self.formula.clauses _ c.loop-k-test.true c.in_ok-push_if_needed.ensures.clauses
          l.invariant.clauses;
      variables = c.in_ok-push_if_needed.ensures.variables ∙ l.invariant.variables;
    }
