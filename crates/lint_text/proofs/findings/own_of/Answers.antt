use Rattle.std.proofs.Common.{◌++◌, ◌∷◌, [], ◌∙◌, List, ap, ap₂, sym, arith}
use Rattle.std.specs.Prelude.{◌&&◌}
use Rattle.std.specs.List.{filter}
use Rattle.std.proofs.lemmas.List.FromFn.{map-range_with_len_more}
use Rattle.typed_core.specs.declared.access.Access.{Access}
use Rattle.lab_lint.specs.Occurrences.{rule_part}
use Rattle.lab_lint.specs.Refusals.{is_refused_in, made, own_writes}
use Rattle.lint_text.proofs.Found.{as_many, item}
use Rattle.lint_text.proofs.findings.own_of.Goals as goal

pub get-requires : goal.get-requires
get-requires c =
    let d = c.args.design.now in
    omega (arith, c.loop-register-test.true, c.len-register-end.ensures, as_many (made d c.args.rule) d.registers c.args.made.now c.requires)

pub loop-register-preserved : goal.loop-register-preserved
loop-register-preserved c =
    let d = c.args.design.now in
    let rule = c.args.rule in
    let n = c.loop-register.register in
    c.in_ok-push.ensures.ok
    ∙ ap₂ (λ (xs : List (List Access)) (x : List Access). xs ++ x ∷ []) c.loop-register.invariant
    (c.in_ok-own_writes.ensures
    ∙ ap (λ (accesses : List Access). filter (λ (a : Access). a.write && is_refused_in (rule_part d rule) a) accesses)
    (c.as_slice.ensures ∙ c.get.ensures ∙ item (made d rule) d.registers c.args.made.now n _ c.requires (omega (arith, c.loop-register-test.true, c.len-register-end.ensures))))
    ∙ sym (map-range_with_len_more (own_writes d rule) 0 n n (omega arith))
