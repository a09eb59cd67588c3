use Rattle.std.proofs.Common.{List, ◌∙◌, ◌<◌, ◌^◌, ap, sym, subst}
use Rattle.kw_base.specs.Names.{number_of}
use Rattle.koika_types.specs.declared.declarations.Member.{Member}
use Rattle.koika_check.specs.Declarations.{names_of_members}
use Rattle.koika_check.specs.inner.Listed.{Keeps, Lists}
use Rattle.koika_check.specs.inner.Things.{thing}
use Rattle.koika_check.specs.declared.things.Kind.TheVariants as kind
use Rattle.koika_check.proofs.Added.{declares-at}
use Rattle.koika_check.proofs.AddedTypes.{added-enum}
use Rattle.koika_check.proofs.Checkers.{is-width}
use Rattle.koika_check.proofs.Declaring.{both_hold, test_holds}
use Rattle.koika_check.proofs.Telling.{passes-ok}
use Rattle.koika_check.proofs.checker.Checker.enumeration.Goals as goal

pub returns-clause-kept : goal.returns-clause-kept
returns-clause-kept c =
    let a = c.args.self.now in
    let new = c.in_ok-is_new.ensures in
    let members = c.in_ok-kept.ensures.answers in
    let number = c.in_ok-number.ensures.number ∙ c.len.ensures in
    let none = sym c.least.ensures ∙ passes-ok c.least.result c.in_ok-refuse.field-0 c.in_ok-refuse.ensures in
    let width = is-width c.args.width.number.value (sym c.is_width.ensures ∙ test_holds c.is_width.result _ (sym c.unless-in_range.ensures ∙ (both_hold c.unless-in_range.result c.members_have_width.result none).0)) in
    rw c.in_ok-push.ensures.ok
    (added-enum a c.requires _ c.args.name.now.text c.declare.new.self c.members_of.new.parts (c.in_ok-text.ensures ∙ c.as_slice.ensures) new.2.1
    (declares-at a.things c.declare.new.self c.args.name.now.text c.as_slice-2.result.now _ _ c.as_slice-2.ensures (ap (thing kind.Enum) number) c.in_ok-declare.ensures.kept c.in_ok-declare.ensures.declares)
    (subst (λ n. n < 2 ^ 32) number c.in_ok-number.ensures.small) c.in_ok-kept.ensures.kept
    (subst (λ n. Keeps a.parts c.members_of.new.parts (thing kind.Enum n)) number c.in_ok-kept.ensures.keeps)
    (subst (λ n. Lists c.members_of.new.parts (thing kind.Enum n) (names_of_members c.in_ok-kept.kept)) number (λ name. members.2.1 name ∙ ap (λ (ms : List Member). number_of (names_of_members ms) name) (sym members.2.0))) width)
