use Rattle.std.proofs.Common.{ap, ◌∙◌, subst}
use Rattle.std.specs.Arc.{arc_value}
use Rattle.one_rule.specs.Stimulus.{InputVectors, inputs_of}
use Rattle.attempt_log.specs.Setting.{IsFor, attempt_of}
use Rattle.attempt_log.specs.declared.job.Job.{Job}
use Rattle.attempt_log.proofs.Alike.{same_by_equal}
use Rattle.board_core.specs.Board.{setting_of}
use Rattle.board_core.specs.Kept.{Kept}
use Rattle.board_core.proofs.kept.KeptBoard.job.Goals as goal

pub returns-clause-is_for : goal.returns-clause-is_for
returns-clause-is_for c =
    let i = c.self.inside in
    let at = c.args.candidate in
    let job : Job = record { design = c.in_ok-try_clone.field-0; externs = c.args.externs; cycle = at.cycle; rule = at.rule; inputs = c.in_ok-inputs.field-0; regs = c.in_ok-from_slice.field-0 } in
    subst (λ (k : Kept). IsFor (setting_of k.opening) (attempt_of job)) c.self.view_is
    (record {
      design = same_by_equal (arc_value c.in_ok-try_clone.field-0) (arc_value i.design) c.in_ok-try_clone.ensures;
      inputs = c.in_ok-inputs.ensures.inputs ∙ ap (λ (s : InputVectors). inputs_of s at.cycle) c.deref.ensures;
    })
