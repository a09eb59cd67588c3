-- Plain positions: where the walk of a cycle is after its first visits, whole rules one after another (Bourgeat et al.,
-- PLDI 2020), and the boards that are at one. No attempt and no event of a board is named in a position.
use Rattle.std.specs.Prelude.{◌≡◌, ℕ, zero, suc, ◌+◌, ◌-◌, ◌*◌, ◌<◌, ◌≤◌, true, false, List, [], ◌∷◌, ◌++◌, length, Option, Some, None, IfSome}
use Rattle.kw_bits.specs.BitVector.{BitVector}
use Rattle.typed_core.specs.Widths.{HaveWidths, register_widths}
use Rattle.typed_core.specs.Valid.{IsValid}
use Rattle.typed_core.specs.declared.design.Next.{Next}
use Rattle.typed_core.specs.declared.design.Next.TheVariants as next
use Rattle.typed_core.specs.declared.design.Node.{Node}
use Rattle.one_rule.specs.Cycle.{System, begin, fire, system_of}
use Rattle.one_rule.specs.Run.{last_registers, run}
use Rattle.one_rule.specs.Stimulus.{AlwaysFits, StimulusFits, inputs_of}
use Rattle.one_rule.specs.Walk.{Firing, Walk, start, visit}
use Rattle.one_rule.specs.declared.cycle.State.{State}
use Rattle.attempt_log.specs.Attempt.{Attempted, IsAttempt}
use Rattle.board_core.specs.Board.{Board, Opening, is_beyond, is_past, node_at, stands}

-- the walk with one visit more, if it isn't at the end
abbrev pub visit_if : {S : Type 0} → Firing S → Walk S → Option Node → Walk S
visit_if fire walk (Some node) = visit fire node walk
visit_if fire walk None = walk

-- the plain position of this number in a cycle: its walk after that many visits
abbrev pub position : System → List BitVector → List BitVector → ℕ → Walk State
position system inputs regs zero = start system.nodes (begin regs)
position system inputs regs (suc visits) =
    let before = position system inputs regs visits in
    visit_if (fire system inputs) before (node_at system.nodes before.at)

-- the rule of a node, if there is one
abbrev pub rule_if : Option Node → List ℕ
rule_if (Some node) = node.rule ∷ []
rule_if None = []

-- the rules that were visited before the position
abbrev pub visited : System → List BitVector → List BitVector → ℕ → List ℕ
visited system inputs regs zero = []
visited system inputs regs (suc visits) =
    visited system inputs regs visits ++ rule_if (node_at system.nodes (position system inputs regs visits).at)

-- the design is valid, the stimulus and the registers fit it, and the cycles are in order
pub record IsOpening (o : Opening) : Type 0 where
  pub design : IsValid o.design
  pub stimulus : StimulusFits o.design o.stimulus
  pub always : AlwaysFits o.stimulus
  pub registers : HaveWidths (register_widths o.design) o.regs
  pub order : o.from ≤ o.to

-- an attempt that stands for the cycle and the rule is one at this rule in this cycle, of the board's design and on its
-- stimulus's inputs
pub record StandsRight (o : Opening) (cycle rule : ℕ) (a : Attempted) : Type 0 where
  pub attempt : IsAttempt a
  pub design : a.design ≡ o.design
  pub inputs : a.inputs ≡ inputs_of o.stimulus a.cycle
  pub in_cycle : a.cycle ≡ cycle
  pub at_rule : a.rule ≡ rule

-- Attempts stand only inside the window, up to the last cycle, and for rules that aren't settled.
pub record IsOpen (o : Opening) (board : Board) (cycle rule : ℕ) : Type 0 where
  pub unsettled : is_past board cycle rule ≡ false
  pub in_window : is_beyond o board cycle ≡ false

-- the board is at a plain position of its current cycle, and its rows are the first rows of the run; once the last
-- cycle is closed, no rule is visited
pub record IsPlain (o : Opening) (board : Board) : Type 0 where
  pub after : o.from < board.cycle
  pub within : board.cycle ≤ o.to + 1
  pub rows : board.rows ≡ run (system_of o.design) (inputs_of o.stimulus) o.regs o.from (board.cycle - 1)
  pub visits : ℕ
  pub walk : board.walk ≡ position (system_of o.design) (inputs_of o.stimulus board.cycle) (last_registers o.regs board.rows) visits
  pub settled : board.settled ≡ visited (system_of o.design) (inputs_of o.stimulus board.cycle) (last_registers o.regs board.rows) visits
  pub slots : (cycle rule : ℕ) → IfSome (board.slots cycle rule) (StandsRight o cycle rule)
  pub stand : (cycle rule : ℕ) → stands board cycle rule ≡ true → IsOpen o board cycle rule
  pub rest : o.to < board.cycle → visits ≡ 0

-- ---- what is left to do

-- from here to the end of the path are at most that many nodes
abbrev pub nodes_left : List Node → Next → ℕ
nodes_left nodes (next.Node number) = length nodes - number
nodes_left nodes next.End = 0

-- from this place in this cycle to the end of the last cycle, at most that many rules are settled and cycles closed
abbrev pub steps_left : Opening → ℕ → Next → ℕ
steps_left o cycle at = (o.to + 1 - cycle) * (length o.design.nodes + 1) + nodes_left o.design.nodes at
