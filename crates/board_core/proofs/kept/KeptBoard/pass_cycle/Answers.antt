use Rattle.std.proofs.Common.{subst}
use Rattle.board_core.specs.Candidates.{further}
use Rattle.board_core.specs.inner.Search.{Finds}
use Rattle.board_core.proofs.Counts.{skips}
use Rattle.board_core.proofs.Finds.{found_more}
use Rattle.board_core.proofs.kept.KeptBoard.pass_cycle.Goals as goal

pub returns-in-Found-clause-finds : goal.returns-in-Found-clause-finds
returns-in-Found-clause-finds c all number f board st =
    found_more (all board) (further c.args.self.now.opening board c.args.cycle) number c.in-Found.found (subst (Finds (all board) number) c.in-Found.is (f board st))

pub returns-then-count-left-clause-finds : goal.returns-then-count-left-clause-finds
returns-then-count-left-clause-finds c all number f board st =
    skips (all board) (further c.args.self.now.opening board c.args.cycle) number c.in-Left.left c.count_further-count.result (c.count_further-count.ensures board st) c.if-count-left.true
    (subst (Finds (all board) number) c.in-Left.is (f board st))

pub returns-else-count-left-clause-finds : goal.returns-else-count-left-clause-finds
returns-else-count-left-clause-finds c all number f board st = c.search_cycle.ensures.finds all number (λ b s. subst (Finds (all b) number) c.in-Left.is (f b s)) board st
