use Rattle.std.proofs.Common.{arith}
use Rattle.std.proofs.lemmas.Option.{slice_get_within}
use Rattle.board_core.specs.Candidates.{first}
use Rattle.board_core.proofs.Counts.{few_first}
use Rattle.board_core.proofs.kept.KeptBoard.count_head.Goals as goal

pub returns-in-Found : goal.returns-in-Found
returns-in-Found c board st =
    let o = c.args.self.now.opening in
    omega (arith, few_first o board, slice_get_within (first o board) 0 c.in-Found.field-0 (c.in-Found.ensures.finds board st))

pub returns-in-Left : goal.returns-in-Left
returns-in-Left c board st = omega (arith, c.in-Left.ensures.finds board st)
