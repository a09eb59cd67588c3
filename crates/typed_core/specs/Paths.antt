-- How often the scheduler tries a rule on its paths: what the check that no rule occurs twice on a path counts.
use Rattle.std.specs.Prelude.{◌≡◌, ℕ, List, length, Some, slice_get}
use Rattle.typed_core.specs.Valid.{IsContinuation}
use Rattle.typed_core.specs.declared.design.Node.{Node}

-- the scheduler goes on to greater nodes alone
abbrev pub Ascends : List Node → Type 0
Ascends nodes = (number : ℕ) (node : Node) → slice_get nodes number ≡ Some node → IsContinuation (length nodes) number node.yes × IsContinuation (length nodes) number node.no
