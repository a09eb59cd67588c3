use Rattle.std.proofs.Common.{◌++◌, ◌∷◌, [], ◌∙◌, ℕ, List, map, ap₂, sym, arith}
use Rattle.std.proofs.lemmas.List.FromFn.{map-range_with_len_more}
use Rattle.typed_core.specs.declared.access.Access.{Access}
use Rattle.lab_lint.specs.Refusals.{made, own_writes}
use Rattle.lab_lint.specs.Rules.{numbers}
use Rattle.lint_text.proofs.Found.{as_many, row-at}
use Rattle.lint_text.proofs.findings.all_own.Goals as goal

pub get-requires : goal.get-requires
get-requires c =
    let d = c.args.design.now in
    omega (arith, c.loop-rule-test.true, c.len-rule-end.ensures, as_many (λ (r : ℕ). map (made d r) (numbers d.registers)) d.rules c.args.made.now c.requires)

pub own_of-requires : goal.own_of-requires
own_of-requires c =
    let d = c.args.design.now in
    c.get.ensures ∙ row-at d (made d) c.args.made.now c.loop-rule.rule _ c.requires (omega (arith, c.loop-rule-test.true, c.len-rule-end.ensures))

pub loop-rule-preserved : goal.loop-rule-preserved
loop-rule-preserved c =
    let d = c.args.design.now in
    let n = c.loop-rule.rule in
    c.in_ok-push.ensures.ok
    ∙ ap₂ (λ (xs : List (List (List Access))) (x : List (List Access)). xs ++ x ∷ []) c.loop-rule.invariant c.in_ok-own_of.ensures
    ∙ sym (map-range_with_len_more (λ (r : ℕ). map (own_writes d r) (numbers d.registers)) 0 n n (omega arith))
