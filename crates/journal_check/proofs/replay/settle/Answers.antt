use Rattle.std.proofs.Common.{◌≡◌, refl}
use Rattle.kw_base.specs.declared.fault.Fault.{Fault}
use Rattle.board_core.specs.History as history
use Rattle.board_core.specs.declared.event.BoardEvent.TheVariants as event
use Rattle.journal_check.specs.Checking.{at_line}
use Rattle.journal_check.specs.inner.Replaying.{AnswersOtherwise}
use Rattle.journal_check.proofs.LinesRead.{fails}
use Rattle.journal_check.proofs.Replays.{settle_answers, settle_otherwise}
use Rattle.journal_check.proofs.RunsOfBatches.{refused}
use Rattle.journal_check.proofs.replay.settle.Goals as goal

pub returns-then-not-is_answer-clause-fault : goal.returns-then-not-is_answer-clause-fault
returns-then-not-is_answer-clause-fault c =
    let differ = fails c.is_answer.result c.is_answer.ensures c.if-not-is_answer.true in
    refused (λ (fault : Fault). (fault ≡ at_line 82 c.args.line) × AnswersOtherwise c.args.core.now event.Settle (history.Settle c.args.answer)) c.refusal.result (at_line 82 c.args.line) c.refusal.ensures
    (refl, settle_otherwise c.args.core.now c.settle.new.self c.settle.result c.args.answer c.settle.ensures.step differ)

pub returns-clause-ok : goal.returns-clause-ok
returns-clause-ok c =
    settle_answers c.args.core.now c.settle.new.self c.settle.result c.args.answer c.settle.ensures.step c.settle.ensures.opening (c.is_answer.ensures.0 c.if-not-is_answer.false)
