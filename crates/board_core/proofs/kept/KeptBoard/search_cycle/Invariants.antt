use Rattle.std.proofs.Common.{ℕ, List, ◌++◌, filter, take}
use Rattle.board_core.specs.Board.{Board}
use Rattle.board_core.specs.Candidates.{is_further, pairs}
use Rattle.board_core.specs.inner.Search.{FindsIn}
use Rattle.board_core.specs.declared.candidate.Candidate.{Candidate}
use Rattle.board_core.specs.declared.candidate.Search.TheVariants as search
use Rattle.board_core.proofs.kept.KeptBoard.search_cycle.Given as goal

-- the further candidates so far are gone past
abbrev pub invariant-loop-number : goal.invariant-loop-number
invariant-loop-number l =
    record {
      finds : (all : Board → List Candidate) (number : ℕ) → FindsIn l.self all number (search.Left l.fn.left)
          → FindsIn l.self (λ board. all board ++ filter (is_further board) (take l.number (pairs l.self.opening.design.nodes l.cycle))) number (search.Left l.left);
    }
