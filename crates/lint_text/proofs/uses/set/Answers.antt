use Rattle.std.proofs.Common.{◌∙◌, Bool, List, ap, arith}
use Rattle.lint_text.specs.Findings.{is_set}
use Rattle.lint_text.proofs.Marked.{marked_at, unmarked_at}
use Rattle.lint_text.proofs.uses.set.Goals as goal

pub returns-then-place-len-clause-marks : goal.returns-then-place-len-clause-marks
returns-then-place-len-clause-marks c number within =
    ap (λ (marks : List Bool). is_set marks number) c.set.ensures
    ∙ marked_at c.args.marks.now c.args.place number (omega (arith, c.if-place-len.true, c.len.ensures))

pub returns-else-place-len-clause-marks : goal.returns-else-place-len-clause-marks
returns-else-place-len-clause-marks c number within =
    unmarked_at c.args.marks.now c.args.place number (omega (arith, c.if-place-len.false, c.len.ensures)) within
