use Rattle.std.proofs.Common.{◌≡◌, ℕ, ◌+◌, List, ◌∷◌, [], ◌++◌, length, ap, sym, subst, ◌∙◌, arith}
use Rattle.kw_base.specs.Names.{AreNumbered}
use Rattle.invariant_check.specs.inner.FirstNames.{AreFirst}
use Rattle.invariant_check.proofs.FirstOfBits.{added_new, added_there, first_new, first_there}
use Rattle.invariant_check.proofs.bits.add_bit.Goals as goal

pub returns-in_ok-push-clause-first : goal.returns-in_ok-push-clause-first
returns-in_ok-push-clause-first c = λ bits first is.
    let seen = c.args.names.now in
    let numbers = c.args.numbers.now.items in
    let own = c.args.name.now in
    let new = added_new seen c.add.new.self own c.in_ok-add.field-0 c.in-New.field-0 c.in-New.is
    c.in_ok-add.ensures.adds in
    let number : c.in-Some.number
    ≡ length bits + 1 = first_of (omega (arith, c.in-Some.ensures, is), grind (arith, c.in-Some.ensures, is)) in
    let pushed = c.in_ok-push.ensures.items ∙ ap (λ n. numbers ++ n ∷ []) number in
    subst (λ (s : List (List ℕ)). AreFirst s c.push.new.self.items (bits ++ own ∷ [])) (sym new)
    (subst (λ (ns : List ℕ). AreFirst (seen ++ own ∷ []) ns (bits ++ own ∷ [])) (sym pushed)
    (first_new seen numbers bits own first (subst AreNumbered new c.in_ok-add.ensures.numbered)))

pub returns-in_default-2-clause-first : goal.returns-in_default-2-clause-first
returns-in_default-2-clause-first c = λ bits first is.
    let seen = c.args.names.now in
    let numbers = c.args.numbers.now.items in
    let own = c.args.name.now in
    let there = added_there seen c.add.new.self own c.in_ok-add.field-0 c.in_default-2.field-0 c.in_default-2.is
    c.in_ok-add.ensures.adds in
    subst (λ (s : List (List ℕ)). AreFirst s numbers (bits ++ own ∷ [])) (sym there.1)
    (first_there seen numbers bits own c.in_default-2.field-0 first there.0)
