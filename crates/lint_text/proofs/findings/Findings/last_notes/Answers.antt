use Rattle.std.proofs.Common.{◌<◌, ℕ, List, length, subst, sym}
use Rattle.std.specs.Prelude.{All}
use Rattle.lint_text.proofs.findings.Findings.last_notes.Goals as goal

pub push_asserts-requires-clause-marks : goal.push_asserts-requires-clause-marks
push_asserts-requires-clause-marks c =
    subst (λ (marks : List ℕ). All (λ mark. mark < length c.args.design.now.rules) marks) (sym c.as_slice.ensures) c.requires.typed.asserts
