use Rattle.std.proofs.Common.{List, eqb, sym, subst, ◌∙◌, arith}
use Rattle.std.specs.List.{All, list_any}
use Rattle.std.proofs.lemmas.Bool.{not-true}
use Rattle.clause_check.specs.Clauses.{IsLiteral}
use Rattle.clause_check.specs.declared.literal.Literal.{Literal}
use Rattle.invariant_check.proofs.Drafting.{are_literals}
use Rattle.invariant_check.proofs.draft.Draft.push.Goals as goal

pub put_literals-requires : goal.put_literals-requires
put_literals-requires c = λ k d h. omega (arith, c.requires.within k d h, c.requires.few)

pub push-requires : goal.push-requires
push-requires c =
    let lits = c.args.lits.now in
    let is_open = c.if-not-is_open.false in
    let same = c.as_slice.ensures.value ∙ c.in_ok-is_open.ensures.literals is_open in
    subst (λ (ls : List Literal). All (IsLiteral c.args.self.now.formula.variables) ls) (sym same)
    (are_literals c.args.self.now.formula.variables lits
    (not-true (list_any (λ lit. eqb lit 1) lits) (sym c.in_ok-is_open.ensures.open ∙ is_open)) c.requires.within)
