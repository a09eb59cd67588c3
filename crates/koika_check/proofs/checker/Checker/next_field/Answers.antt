use Rattle.std.proofs.Common.{ℕ, List, [], ◌∷◌, ◌++◌, ◌∙◌, ap, sym, arith}
use Rattle.std.proofs.lemmas.List.{length-map, map-append}
use Rattle.kw_base.specs.Names.{number_of}
use Rattle.koika_check.specs.Declarations.{names_of_fields}
use Rattle.koika_check.specs.inner.Things.{position_of, thing}
use Rattle.koika_check.specs.Types.{type_of, width_of}
use Rattle.koika_check.specs.declared.checked.CheckedField.{CheckedField}
use Rattle.koika_check.specs.declared.things.Kind.TheVariants as kind
use Rattle.koika_check.proofs.Declaring.{known-stands}
use Rattle.koika_check.proofs.Fields.{fields-push, grows-parts, parts-kept}
use Rattle.koika_check.proofs.Growth.{grows-refl}
use Rattle.koika_check.proofs.checker.Checker.next_field.Goals as goal

pub named_type-requires : goal.named_type-requires
named_type-requires c =
    parts-kept c.args.self.now c.requires.checker c.add_part.new.parts c.args.number c.in_ok-add_part.ensures.kept c.in_ok-add_part.ensures.keeps c.requires.new c.ranges.number.fits

pub returns-clause-fields : goal.returns-clause-fields
returns-clause-fields c =
    let a = c.args.self.now in
    let s = c.named_type.new.self in
    let f : CheckedField = record { name = c.in_ok-text.text; of = c.in_ok-of.of.of } in
    let stands = known-stands s s (grows-refl s) c.in_ok-of.of (type_of a.design c.args.field.now.of) c.in_ok-of.ensures.tells in
    fields-push a s (grows-parts a c.add_part.new.parts s c.in_ok-of.ensures.grows) c.args.kept.now _ c.requires.fields f c.in_ok-of.of.shape c.width-width.result stands
    (c.width-width.ensures ∙ ap (width_of s.design) (sym stands.0)) c.in_ok-push.ensures.ok c.in_ok-push-2.ensures.ok (grind (arith, c.min-kept.ensures, c.saturating_add.ensures))

pub returns-clause-lists : goal.returns-clause-lists
returns-clause-lists c name =
    let kept = c.args.kept.now.fields in
    let added = c.in_ok-add_part.ensures.answers (names_of_fields kept) c.requires.lists (length-map kept (λ (x : CheckedField). x.name) ∙ sym c.len.ensures) in
    let text = c.in_ok-text.ensures ∙ c.as_slice.ensures in
    let f : CheckedField = record { name = c.in_ok-text.text; of = c.in_ok-of.of.of } in
    ap (λ q. position_of q (thing kind.Struct c.args.number) name) c.in_ok-of.ensures.grows.parts ∙ added.2.1 name
    ∙ ap (λ (n : List ℕ). number_of (names_of_fields kept ++ n ∷ []) name) (sym text)
    ∙ ap (λ (ns : List (List ℕ)). number_of ns name) (sym (map-append (λ (x : CheckedField). x.name) kept (f ∷ []))) ∙ ap (λ (fs : List CheckedField). number_of (names_of_fields fs) name) (sym c.in_ok-push.ensures.ok)
