-- Candidates: the rules and cycles that a board has work for, in order, and the job that it gives. A job's registers
-- are the board's present ones, a guess for all but the head. Which worker takes it isn't said.
use Rattle.std.specs.Prelude.{◌≡◌, ℕ, ◌+◌, ◌-◌, ◌<◌, ◌≤◌, ◌%◌, Bool, not, ◌==◌, ◌&&◌, List, [], ◌∷◌, ◌++◌, length, map, flat_map, filter, Option, Some, None, slice_get, min}
use Rattle.std.specs.List.{enumerate_from, range_with_len}
use Rattle.std.specs.Arc.{arc_value}
use Rattle.typed_core.specs.Valid.{externs_of}
use Rattle.typed_core.specs.declared.design.Next.{Next}
use Rattle.typed_core.specs.declared.design.Next.TheVariants as next
use Rattle.typed_core.specs.declared.design.Node.{Node}
use Rattle.one_rule.specs.Cycle.{is_among}
use Rattle.one_rule.specs.Externs.{kept}
use Rattle.one_rule.specs.Stimulus.{inputs_of}
use Rattle.typed_core.specs.Continuations.{is_at}
use Rattle.attempt_log.specs.declared.job.Job.{Job}
use Rattle.attempt_log.specs.declared.job.JobAnswer.{JobAnswer}
use Rattle.attempt_log.specs.declared.job.JobAnswer.TheVariants as answer
use Rattle.board_core.specs.Board.{Board, Opening, head, stands}
use Rattle.board_core.specs.declared.candidate.Candidate.{Candidate}

-- the pair is the head of the current cycle
abbrev pub is_head : Board → Candidate → Bool
is_head board c = (c.cycle == board.cycle) && is_at c.node board.walk.at

-- the rule isn't settled in the cycle, and no attempt stands for it
abbrev pub is_open : Board → Candidate → Bool
is_open board c = not ((c.cycle == board.cycle) && is_among board.settled c.rule) && not (stands board c.cycle c.rule)

-- the pair is open, and isn't the head
abbrev pub is_further : Board → Candidate → Bool
is_further board c = not (is_head board c) && is_open board c

-- a node of this number, as a pair with a cycle
abbrev pub pair_of : ℕ → ℕ × Node → Candidate
pair_of cycle n = record { cycle = cycle; node = n.0; rule = n.1.rule }

-- the nodes of a scheduler, each as a pair with a cycle
abbrev pub pairs : List Node → ℕ → List Candidate
pairs nodes cycle = map (pair_of cycle) (enumerate_from 0 nodes)

-- the pair of a cycle and the node that its walk is at
abbrev pub pair_at : ℕ → Next → Option Node → List Candidate
pair_at cycle next.End _ = []
pair_at cycle (next.Node number) None = []
pair_at cycle (next.Node number) (Some node) = pair_of cycle (number, node) ∷ []

-- the head, where it is a node and no attempt stands for it
abbrev pub first : Opening → Board → List Candidate
first o board = filter (λ (c : Candidate). not (stands board c.cycle c.rule)) (pair_at board.cycle board.walk.at (head o board))

-- the further candidates of a cycle, in order of the node
abbrev pub further : Opening → Board → ℕ → List Candidate
further o board cycle = filter (is_further board) (pairs o.design.nodes cycle)

-- the current cycle and those after it, up to the window's end and the last one
abbrev pub cycles : Opening → Board → List ℕ
cycles o board = range_with_len board.cycle (min o.window (o.to + 1 - board.cycle))

-- the head comes first, and then the further ones, in order of the cycle
abbrev pub candidates : Opening → Board → List Candidate
candidates o board = first o board ++ flat_map (further o board) (cycles o board)

-- the candidate of number `pick`, counted round; there is none where there are no candidates
abbrev pub Picks : List Candidate → ℕ → Option Candidate → Type 0
Picks all pick None = all ≡ []
Picks all pick (Some c) = (0 < length all) × (slice_get all (pick % length all) ≡ Some c)

-- the job of a candidate: it is for the board's design, the candidate's cycle and rule and the stimulus's inputs, on
-- the registers as they are
pub record IsJobOf (o : Opening) (board : Board) (c : Candidate) (job : Job) : Type 0 where
  pub design : arc_value job.design ≡ o.design
  pub externs : kept (arc_value job.externs) ≡ externs_of o.design
  pub cycle : job.cycle ≡ c.cycle
  pub rule : job.rule ≡ c.rule
  pub inputs : job.inputs ≡ inputs_of o.stimulus c.cycle
  pub registers : job.regs ≡ board.walk.state.regs

-- what a board answers to a pick, by the choice of candidates
abbrev pub Chooses : Opening → Board → ℕ → JobAnswer → Type 0
Chooses o board pick answer.Finished = o.to < board.cycle
Chooses o board pick answer.Idle = (board.cycle ≤ o.to) × Picks (candidates o board) pick None
Chooses o board pick (answer.Job job) = (board.cycle ≤ o.to) × (c : Candidate) × Picks (candidates o board) pick (Some c) × IsJobOf o board c job
