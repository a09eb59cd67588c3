use Rattle.std.proofs.Common.{ℕ, List, ◌+◌, ◌/◌, ◌≤◌, ◌++◌, map, sym, subst, ap, ◌∙◌}
use Rattle.std.specs.List.{All}
use Rattle.clause_check.specs.Clauses.{Clause}
use Rattle.clause_check.specs.Flat.{clauses_by}
use Rattle.clause_check.specs.declared.literal.Literal.{Literal}
use Rattle.invariant_check.specs.Obligations.{before_step, folded}
use Rattle.invariant_check.proofs.Drafting.{before_within, mapped_pushed}
use Rattle.invariant_check.proofs.Lists.{all_left, all_right}
use Rattle.invariant_check.proofs.draft.Draft.push_before.Goals as goal

pub push-requires-clause-within : goal.push-requires-clause-within
push-requires-clause-within c =
    let l = c.loop-first in
    let first = c.in-Some.first in
    let P : Literal → _ = λ (literal : Literal). c.args.inputs + literal.variable ≤ c.args.self.now.formula.variables in
    let own = all_left P first.clause.now first.rest.literals.now
    (subst (λ (ls : List Literal). All P ls) c.in-Some.ensures.literals l.invariant.bound) in
    subst (λ (n : ℕ). All (λ lit. lit / 2 ≤ n) c.as_slice.result.now) (sym l.invariant.variables)
    (subst (λ (lits : List ℕ). All (λ lit. lit / 2 ≤ c.args.self.now.formula.variables) lits)
    (sym (c.as_slice.ensures.value ∙ c.in_ok-put_before.ensures))
    (before_within c.args.inputs c.args.self.now.formula.variables first.clause.now own))

pub loop-first-preserved : goal.loop-first-preserved
loop-first-preserved c =
    let l = c.loop-first in
    let first = c.in-Some.first in
    let P : Literal → _ = λ (literal : Literal). c.args.inputs + literal.variable ≤ c.args.self.now.formula.variables in
    record {
      clauses = mapped_pushed (λ (clause : Clause). map (before_step c.args.inputs) clause)
          (clauses_by l.rest.literals.now l.rest.lengths.now)
          (clauses_by first.rest.literals.now first.rest.lengths.now)
          first.clause.now l.self.formula.clauses c.push.new.self.formula.clauses _ c.in-Some.ensures.found
          (c.in_ok-push.ensures.clauses
          ∙ ap (λ (lits : List ℕ). l.self.formula.clauses ++ folded lits) (c.as_slice.ensures.value
          ∙ c.in_ok-put_before.ensures)) l.invariant.clauses;
      variables = c.in_ok-push.ensures.variables ∙ l.invariant.variables;
      bound = all_right P first.clause.now first.rest.literals.now
          (subst (λ (ls : List Literal). All P ls) c.in-Some.ensures.literals l.invariant.bound);
    }
