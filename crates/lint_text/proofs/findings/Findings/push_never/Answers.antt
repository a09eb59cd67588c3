use Rattle.std.proofs.Common.{◌≡◌, ◌++◌, ◌∙◌, Bool, true, false, List, [], ap, refl}
use Rattle.std.specs.Prelude.{◌&&◌, if◌then◌else◌}
use Rattle.lab_lint.specs.Order.{is_scheduled}
use Rattle.lint_text.specs.Findings.{is_set}
use Rattle.lint_text.specs.Notes.{if_scheduled, never_note, note_if}
use Rattle.lint_text.specs.declared.note.Note.{Note}
use Rattle.lint_text.specs.declared.note.Note.TheVariants as note
use Rattle.lint_text.proofs.Ranges.{flat_more}
use Rattle.lint_text.proofs.findings.Findings.push_never.Goals as goal

both : (a b : Bool) (n : Note) → note_if (a && b) n ≡ (if a then note_if b n else [])
both true b n = refl
both false b n = refl

pub loop-rule-preserved : goal.loop-rule-preserved
loop-rule-preserved c =
    let d = c.args.design.now in
    let f = c.args.self.now in
    let rule = c.loop-rule.rule in
    let n : Note = note.Never rule in
    flat_more (if_scheduled d (never_note (is_set f.never))) rule c.args.notes.now c.loop-rule.notes _ c.loop-rule.invariant
    (c.in_ok-push_if.ensures ∙ ap (λ (b : Bool). c.loop-rule.notes ++ note_if b n) c.is_idle.ensures
    ∙ ap (λ (xs : List Note). c.loop-rule.notes ++ xs) (both (is_scheduled d.nodes rule) (is_set f.never rule) n))
