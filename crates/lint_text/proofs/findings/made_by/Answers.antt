use Rattle.std.proofs.Common.{◌++◌, ◌∷◌, [], ◌∙◌, List, ap, ap₂, sym, arith}
use Rattle.std.specs.List.{filter, list_any}
use Rattle.std.proofs.lemmas.List.FromFn.{map-range_with_len_more}
use Rattle.typed_core.specs.declared.access.Access.{Access}
use Rattle.lab_lint.specs.Refusals.{accesses_of, is_access, made}
use Rattle.lab_lint.specs.declared.occurrence.Occurrence.{Occurrence}
use Rattle.lint_text.proofs.findings.made_by.Goals as goal

pub loop-register-preserved : goal.loop-register-preserved
loop-register-preserved c =
    let d = c.args.design.now in
    let n = c.loop-register.register in
    c.in_ok-push.ensures.ok
    ∙ ap₂ (λ (xs : List (List Access)) (x : List Access). xs ++ x ∷ []) c.loop-register.invariant
    (c.in_ok-made_accesses.ensures ∙ ap (λ (all : List Occurrence). filter (λ (a : Access). list_any (is_access a) all) (accesses_of n)) c.requires.occurrences)
    ∙ sym (map-range_with_len_more (made d c.args.rule) 0 n n (omega arith))
