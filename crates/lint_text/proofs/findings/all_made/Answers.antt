use Rattle.std.proofs.Common.{◌++◌, ◌∷◌, [], ◌∙◌, ℕ, List, map, ap₂, sym, arith}
use Rattle.std.proofs.lemmas.List.FromFn.{map-range_with_len_more}
use Rattle.typed_core.specs.declared.access.Access.{Access}
use Rattle.lab_lint.specs.Occurrences.{rule_part}
use Rattle.lab_lint.specs.Refusals.{made}
use Rattle.lab_lint.specs.Rules.{numbers}
use Rattle.lint_text.proofs.Found.{as_many, item}
use Rattle.lint_text.proofs.findings.all_made.Goals as goal

pub get-requires : goal.get-requires
get-requires c =
    let d = c.args.design.now in
    omega (arith, c.loop-rule-test.true, c.len-rule-end.ensures, as_many (λ (r : ℕ). (rule_part d r).all) d.rules c.args.occurrences.now c.requires.occurrences)

pub made_by-requires-clause-occurrences : goal.made_by-requires-clause-occurrences
made_by-requires-clause-occurrences c =
    let d = c.args.design.now in
    c.as_slice.ensures ∙ c.get.ensures
    ∙ item (λ (r : ℕ). (rule_part d r).all) d.rules c.args.occurrences.now c.loop-rule.rule _ c.requires.occurrences (omega (arith, c.loop-rule-test.true, c.len-rule-end.ensures))

pub loop-rule-preserved : goal.loop-rule-preserved
loop-rule-preserved c =
    let d = c.args.design.now in
    let n = c.loop-rule.rule in
    c.in_ok-push.ensures.ok
    ∙ ap₂ (λ (xs : List (List (List Access))) (x : List (List Access)). xs ++ x ∷ []) c.loop-rule.invariant c.in_ok-made_by.ensures
    ∙ sym (map-range_with_len_more (λ (r : ℕ). map (made d r) (numbers d.registers)) 0 n n (omega arith))
