use Rattle.std.proofs.Common.{sym, subst, ap, arith}
use Rattle.attempt_log.specs.Attempt.{Attempted}
use Rattle.attempt_log.specs.declared.job.JobAnswer.{JobAnswer}
use Rattle.board_core.specs.Board.{Board}
use Rattle.board_core.specs.Candidates.{Chooses}
use Rattle.board_core.specs.Kept.{StandsFor}
use Rattle.board_lock.specs.Histories.{IsCycle}
use Rattle.cycle_driver.proofs.Heads.{head_goes_on}
use Rattle.koika_top.proofs.Records.{head_in_run}
use Rattle.koika_top.proofs.journaled.do_head.Goals as goal

pub hand_in-requires-clause-in_run : goal.hand_in-requires-clause-in_run
hand_in-requires-clause-in_run c =
    let core = c.args.core.now in
    let chooses = subst (λ (told : JobAnswer). (board : Board) → StandsFor core board → Chooses core.opening board 0 told) c.in-Job.is c.in_ok-job.ensures.chooses in
    subst (IsCycle core.opening) (sym (ap (λ (a : Attempted). a.cycle) c.in_ok-made-in-Job.ensures)) (head_in_run c.args.worker c.args.entries.now core c.in-Job.job c.requires.record chooses)

pub returns-clause-less : goal.returns-clause-less
returns-clause-less c =
    let core = c.args.core.now in
    let chooses = subst (λ (told : JobAnswer). (board : Board) → StandsFor core board → Chooses core.opening board 0 told) c.in-Job.is c.in_ok-job.ensures.chooses in
    let goes = head_goes_on core c.requires.awaits c.hand_in.new.core c.settle_head.new.core c.in-Job.job c.in_ok-made-in-Job.made c.in_ok-hand_in-in-Job.field-0 c.in_ok-settle_head-in-Job.field-0 chooses c.in_ok-made-in-Job.ensures c.hand_in.ensures.opening c.in_ok-hand_in-in-Job.ensures.step c.in_ok-settle_head-in-Job.ensures.step in
    omega (arith, c.in_ok-settle_head-in-Job.ensures.less goes, c.in_ok-hand_in-in-Job.ensures.left)
