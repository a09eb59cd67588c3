use Rattle.std.proofs.Common.{◌++◌, ◌∙◌, List, ap}
use Rattle.koika_check.specs.declared.measure.Measure.{Measure}
use Rattle.lint_text.specs.inner.Measured.{measures_from}
use Rattle.lint_text.specs.declared.note.Note.{Note}
use Rattle.lint_text.proofs.Ranges.{on_ok}
use Rattle.lint_text.proofs.Sizes.{sizes-are}
use Rattle.lint_text.proofs.findings.Findings.push_sizes.Goals as goal

pub returns : goal.returns
returns c =
    let d = c.args.design.now in
    on_ok c.push_measures.result _ _ c.push_measures.ensures
    (λ pushed. pushed ∙ ap (λ (ms : List Measure). c.args.notes.now ++ measures_from 0 ms) (c.as_slice.ensures ∙ c.in_ok-measures.ensures)
    ∙ ap (λ (notes : List Note). c.args.notes.now ++ notes) (sizes-are d c.requires.typed))
