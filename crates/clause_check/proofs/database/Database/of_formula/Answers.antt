use Rattle.std.proofs.Common.{ℕ, List, [], ◌∷◌, ◌++◌, append_assoc, ap, subst, sym, ◌∙◌, ◌≤◌}
use Rattle.clause_check.specs.Clauses.{Clause}
use Rattle.clause_check.specs.declared.literal.Literal.{Literal}
use Rattle.clause_check.specs.inner.Progresses.{progress_of}
use Rattle.clause_check.specs.inner.Tokens.{AreWithin}
use Rattle.clause_check.proofs.Databases.{all_left, all_right, begun_more}
use Rattle.clause_check.proofs.database.Database.of_formula.Goals as goal

pub add_next-requires : goal.add_next-requires
add_next-requires c =
    let variables = c.args.formula.now.variables in
    let first = c.in-Some.first in
    let literals = subst (λ (ls : List Literal). AreWithin variables ls) c.in-Some.ensures.literals c.loop-first.invariant.literals in
    subst (λ (v : ℕ). AreWithin v first.clause.now) (sym c.loop-first.invariant.variables) (all_left (λ (l : Literal). l.variable ≤ variables) first.clause.now first.rest.literals.now literals)

pub loop-first-preserved : goal.loop-first-preserved
loop-first-preserved c =
    let variables = c.args.formula.now.variables in
    let first = c.in-Some.first in
    let begun = c.loop-first.invariant.begun in
    record {
      variables = c.add_next.ensures.variables ∙ c.loop-first.invariant.variables;
      literals = all_right (λ (l : Literal). l.variable ≤ variables) first.clause.now first.rest.literals.now (subst (λ (ls : List Literal). AreWithin variables ls) c.in-Some.ensures.literals c.loop-first.invariant.literals);
      begun = (
        begun.0 ++ first.clause.now ∷ [],
        begun_more begun.0 first.clause.now (progress_of c.loop-first.database) (progress_of c.add_next.new.self) begun.1 c.in_ok-add_next.ensures.progress,
        append_assoc begun.0 (first.clause.now ∷ []) _ ∙ ap (λ (cs : List Clause). begun.0 ++ cs) (sym c.in-Some.ensures.found) ∙ begun.2,
      );
    }
