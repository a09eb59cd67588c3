use Rattle.std.proofs.Common.{ℕ, List, ◌/◌, ◌≤◌, sym, subst, ◌∙◌, length, arith}
use Rattle.std.specs.List.{All}
use Rattle.clause_check.specs.Flat.{clauses_by}
use Rattle.clause_check.specs.declared.literal.Literal.{Literal}
use Rattle.invariant_check.specs.Obligations.{next_lit}
use Rattle.invariant_check.proofs.Drafting.{all_broken_pushed}
use Rattle.invariant_check.proofs.Lists.{all_left, all_right}
use Rattle.invariant_check.proofs.draft.Draft.push_broken.Goals as goal

pub push_broken_clause-requires-clause-within : goal.push_broken_clause-requires-clause-within
push_broken_clause-requires-clause-within c =
    let l = c.loop-first in
    let first = c.in-Some.first in
    let P : Literal → _ = λ (literal : Literal). (1 ≤ literal.variable)
    × (literal.variable ≤ length c.args.nexts.now) in
    all_left P first.clause.now first.rest.literals.now
    (subst (λ (ls : List Literal). All P ls) c.in-Some.ensures.literals l.invariant.within)

pub push_broken_clause-requires-clause-bound : goal.push_broken_clause-requires-clause-bound
push_broken_clause-requires-clause-bound c =
    let l = c.loop-first in
    let first = c.in-Some.first in
    let P : Literal → _ = λ (literal : Literal). next_lit c.args.nexts.now literal / 2 ≤
    c.args.self.now.formula.variables in
    subst (λ (n : ℕ). All (λ (literal : Literal). next_lit c.args.nexts.now literal / 2 ≤ n) first.clause.now)
    (sym l.invariant.variables)
    (all_left P first.clause.now first.rest.literals.now
    (subst (λ (ls : List Literal). All P ls) c.in-Some.ensures.literals l.invariant.bound))

pub overflow_add-next : goal.overflow_add-next
overflow_add-next c = omega (arith, c.loop-first.invariant.few, c.requires.few)

pub loop-first-preserved : goal.loop-first-preserved
loop-first-preserved c =
    let l = c.loop-first in
    let first = c.in-Some.first in
    let P : Literal → _ = λ (literal : Literal). (1 ≤ literal.variable)
    × (literal.variable ≤ length c.args.nexts.now) in
    let Q : Literal → _ = λ (literal : Literal). next_lit c.args.nexts.now literal / 2 ≤
    c.args.self.now.formula.variables in
    record {
      clauses = all_broken_pushed c.args.nexts.now l.next (clauses_by l.rest.literals.now l.rest.lengths.now)
          (clauses_by first.rest.literals.now first.rest.lengths.now)
          first.clause.now l.self.formula.clauses c.push_broken_clause.new.self.formula.clauses _
          c.in-Some.ensures.found c.in_ok-push_broken_clause.ensures.clauses l.invariant.clauses;
      variables = c.in_ok-push_broken_clause.ensures.variables ∙ l.invariant.variables;
      few = omega (arith, l.invariant.few, c.in-Some.ensures.shorter);
      within = all_right P first.clause.now first.rest.literals.now
          (subst (λ (ls : List Literal). All P ls) c.in-Some.ensures.literals l.invariant.within);
      bound = all_right Q first.clause.now first.rest.literals.now
          (subst (λ (ls : List Literal). All Q ls) c.in-Some.ensures.literals l.invariant.bound);
    }
