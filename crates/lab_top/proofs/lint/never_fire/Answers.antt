use Rattle.lab_top.proofs.LintNotes.{never-fire}
use Rattle.lab_top.proofs.Modules.{has-flags}
use Rattle.lab_top.proofs.lint.never_fire.Goals as goal

pub never_one-requires : goal.never_one-requires
never_one-requires c = has-flags c.args.lowered.now.checked c.in_ok-circuit.circuit c.in_ok-circuit.ensures.wired

pub returns : goal.returns
returns c =
    never-fire c.args.lowered.now.checked c.in_ok-circuit.circuit c.in_ok-circuit.ensures.wired c.in_ok-marks.marks
    c.in_ok-marks.ensures
