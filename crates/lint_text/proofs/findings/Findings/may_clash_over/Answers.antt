use Rattle.std.proofs.Common.{◌≡◌, ◌∙◌, Bool, true, false, cond, List, [], ◌∷◌, ap₂, refl}
use Rattle.std.specs.Prelude.{◌||◌}
use Rattle.std.specs.List.{filter, list_any}
use Rattle.typed_core.specs.Clash.{clashes}
use Rattle.typed_core.specs.declared.access.Access.{Access}
use Rattle.lab_lint.specs.Refusals.{made}
use Rattle.lab_lint.specs.Rules.{has_any}
use Rattle.lint_text.proofs.findings.Findings.may_clash_over.Goals as goal

any-filter : {X : Type 0} (p : X → Bool) (xs : List X) → list_any p xs ≡ has_any (filter p xs)
any-filter p [] = refl
any-filter p (x ∷ xs) = chosen (p x) (any-filter p xs)
  where
    chosen : (b : Bool) → list_any p xs ≡ has_any (filter p xs) → (b || list_any p xs) ≡ has_any (cond b (x ∷ filter p xs) (filter p xs))
    chosen true h = refl
    chosen false h = h

pub returns : goal.returns
returns c =
    let d = c.args.design.now in
    let register = c.args.register in
    c.some_clash.ensures
    ∙ ap₂ (λ (accesses earlier : List Access). list_any (λ (a : Access). list_any (λ (e : Access). clashes a e) earlier) accesses) c.made.ensures c.made-2.ensures
    ∙ any-filter (λ (a : Access). list_any (λ (e : Access). clashes a e) (made d c.args.earlier register)) (made d c.args.rule register)
