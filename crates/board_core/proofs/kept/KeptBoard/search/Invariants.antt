use Rattle.std.proofs.Common.{◌++◌, flat_map}
use Rattle.std.specs.List.{range_with_len}
use Rattle.board_core.specs.Candidates.{first, further}
use Rattle.board_core.specs.inner.Search.{FindsIn, HasRule}
use Rattle.board_core.proofs.kept.KeptBoard.search.Given as goal

-- the cycles so far are gone past
abbrev pub invariant-loop-ahead : goal.invariant-loop-ahead
invariant-loop-ahead l =
    record {
      finds : FindsIn l.self (λ board. first l.self.opening board ++ flat_map (further l.self.opening board) (range_with_len board.cycle l.ahead)) l.fn.number l.search;
      rule : HasRule l.self.opening.design.rules l.search;
    }
