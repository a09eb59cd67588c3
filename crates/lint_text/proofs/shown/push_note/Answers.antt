use Rattle.std.proofs.Common.{◌++◌, ◌∙◌, ℕ, List, ap, sym}
use Rattle.std.specs.Prelude.{codes}
use Rattle.journal_check.specs.Printing.{ended, joined_tokens}
use Rattle.lint_text.specs.Text.{assert_tokens, note_line}
use Rattle.lint_text.specs.declared.note.Note.{Note}
use Rattle.lint_text.proofs.Ranges.{on_ok}
use Rattle.lint_text.proofs.shown.push_note.Goals as goal

pub returns-in-MayBeRefused : goal.returns-in-MayBeRefused
returns-in-MayBeRefused c =
    let before = c.args.text.now in
    on_ok c.push_assert.result _ _ c.push_assert.ensures
    (λ pushed. pushed ∙ ap (λ (name : List ℕ). before ++ ended (joined_tokens (assert_tokens name (codes "may be refused")))) c.rule_name-in-MayBeRefused.ensures
    ∙ ap (λ (n : Note). before ++ note_line c.args.design.now c.args.places.now n) (sym c.in-MayBeRefused.is))

pub returns-in-MayBeUntried : goal.returns-in-MayBeUntried
returns-in-MayBeUntried c =
    let before = c.args.text.now in
    on_ok c.push_assert-in-MayBeUntried.result _ _ c.push_assert-in-MayBeUntried.ensures
    (λ pushed. pushed ∙ ap (λ (name : List ℕ). before ++ ended (joined_tokens (assert_tokens name (codes "may be untried")))) c.rule_name-in-MayBeUntried.ensures
    ∙ ap (λ (n : Note). before ++ note_line c.args.design.now c.args.places.now n) (sym c.in-MayBeUntried.is))
