use Rattle.std.proofs.Common.{subst, arith}
use Rattle.attempt_log.specs.declared.job.JobAnswer.{JobAnswer}
use Rattle.board_core.specs.Board.{Board}
use Rattle.board_core.specs.Candidates.{Chooses}
use Rattle.board_core.specs.Kept.{StandsFor}
use Rattle.cycle_driver.proofs.Heads.{head_goes_on}
use Rattle.cycle_driver.proofs.finish.settle_head.Goals as goal

pub returns-clause-less : goal.returns-clause-less
returns-clause-less c =
    let core = c.args.core.now in
    let chooses = subst (λ (told : JobAnswer). (board : Board) → StandsFor core board → Chooses core.opening board 0 told) c.in-Job.is c.in_ok-job.ensures.chooses in
    let goes = head_goes_on core c.requires c.submit.new.self c.settle.new.self c.in-Job.job c.in_ok-made-in-Job.made c.submit.result c.settle.result chooses c.in_ok-made-in-Job.ensures c.submit.ensures.opening c.submit.ensures.step c.settle.ensures.step in
    omega (arith, c.settle.ensures.less goes, c.submit.ensures.left)
