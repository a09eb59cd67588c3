use Rattle.std.proofs.Common.{◌≡◌, ◌++◌, ◌∙◌, ap}
use Rattle.std.specs.List.{filter, list_any}
use Rattle.typed_core.specs.Clash.{clashes}
use Rattle.typed_core.specs.declared.access.Access.{Access}
use Rattle.lab_lint.specs.Refusals.{clashed, clashing}
use Rattle.lab_lint.specs.Rules.{has_any}
use Rattle.lint_text.specs.Notes.{note_if}
use Rattle.lint_text.specs.declared.note.Note.TheVariants as note
use Rattle.lint_text.proofs.Ranges.{on_ok}
use Rattle.lint_text.proofs.findings.Findings.push_may_note.Goals as goal

pub returns : goal.returns
returns c =
    let d = c.args.design.now in
    let rule = c.args.rule in
    let earlier = c.args.earlier in
    let register = c.args.register in
    let accesses : c.in_ok-accesses.accesses ≡ clashing d rule earlier register =
    c.in_ok-accesses.ensures
    ∙ (λ i. filter (λ (a : Access). list_any (λ (e : Access). clashes a e) (c.made-others.ensures i)) (c.made-made.ensures i)) in
    let others : c.in_ok-others.others ≡ clashed d rule earlier register =
    c.in_ok-others.ensures
    ∙ (λ i. filter (λ (e : Access). list_any (λ (a : Access). clashes a e) (c.made-made.ensures i)) (c.made-others.ensures i)) in
    let noted : c.has_any-is_noted.result ≡ has_any (clashing d rule earlier register) =
    c.has_any-is_noted.ensures ∙ ap has_any (c.as_slice.ensures ∙ accesses) in
    on_ok c.push_if.result _ _ c.push_if.ensures
    (λ pushed. pushed ∙ (λ i. c.args.notes.now ++ note_if (noted i) (note.May rule earlier register (accesses i) (others i))))
