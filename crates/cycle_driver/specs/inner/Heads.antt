-- Where a board waits for an attempt at the rule of its head, as the walk of a cycle is at a node (Bourgeat et al.,
-- PLDI 2020). Who makes that attempt, and on which registers, isn't said.
use Rattle.std.specs.Prelude.{◌≡◌, ◌≤◌, None, Some}
use Rattle.typed_core.specs.declared.design.Node.{Node}
use Rattle.board_core.specs.Board.{head}
use Rattle.board_core.specs.Kept.{AtPlain, Kept}

-- the core is at a plain position up to its last cycle, the head is a node, and no attempt stands for it
pub record AwaitsHead (kept : Kept) : Type 0 where
  pub plain : AtPlain kept
  pub within : plain.board.cycle ≤ kept.opening.to
  pub node : Node
  pub here : head kept.opening plain.board ≡ Some node
  pub none : plain.board.slots plain.board.cycle node.rule ≡ None
