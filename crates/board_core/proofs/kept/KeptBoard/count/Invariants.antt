use Rattle.std.proofs.Common.{◌≡◌, ◌+◌, ◌*◌, ◌≤◌, ◌++◌, flat_map, length}
use Rattle.std.specs.List.{range_with_len}
use Rattle.typed_core.specs.declared.limits.TheConstants.{MAX_NODES}
use Rattle.board_core.specs.Board.{Board}
use Rattle.board_core.specs.Candidates.{first, further}
use Rattle.board_core.specs.Kept.{StandsFor}
use Rattle.board_core.proofs.kept.KeptBoard.count.Given as goal

-- the candidates of the cycles so far are counted
abbrev pub invariant-loop-ahead : goal.invariant-loop-ahead
invariant-loop-ahead l =
    record {
      few : l.count ≤ 1 + MAX_NODES * l.ahead;
      counts : (board : Board) → StandsFor l.self board → l.count ≡ length (first l.self.opening board ++ flat_map (further l.self.opening board) (range_with_len board.cycle l.ahead));
    }
