-- What is marked from node to node, one node after another. It serves private functions alone.
use Rattle.std.specs.Prelude.{◌≡◌, ◌↔◌, ℕ, Bool, true, false, not, ◌==◌, ◌&&◌, ◌||◌, List, length, Some}
use Rattle.std.specs.Prelude.{slice_get, slice_index_or, slice_set, if◌then◌else◌}
use Rattle.typed_core.specs.declared.design.Next.{Next}
use Rattle.typed_core.specs.declared.design.Next.TheVariants as next
use Rattle.typed_core.specs.declared.design.Node.{Node}
use Rattle.lab_lint.specs.declared.order.Sweep.{Sweep}
use Rattle.lab_lint.specs.declared.order.Sweep.TheVariants.{After, Past}

-- whether the `yes` of a node is marked, by whether the node is, and whether it tries the rule
abbrev pub marks_yes : Sweep → (is_marked is_of_rule : Bool) → Bool
marks_yes After is_marked is_of_rule = is_marked || is_of_rule
marks_yes Past is_marked is_of_rule = is_marked && not is_of_rule

-- whether the `no` of a node is marked, by whether the node is, and whether it tries the rule
abbrev pub marks_no : Sweep → (is_marked is_of_rule : Bool) → Bool
marks_no After is_marked is_of_rule = is_marked
marks_no Past is_marked is_of_rule = is_marked && not is_of_rule

-- the number of a node, and that of the end
abbrev pub place_of : Next → (end : ℕ) → ℕ
place_of (next.Node number) end = number
place_of next.End end = end

-- the marks with this place marked, where it is to be
abbrev pub marked_if : Bool → (place : ℕ) → List Bool → List Bool
marked_if is_so place marks = if is_so then slice_set marks place true else marks

-- a node is passed
abbrev pub passed : Sweep → (rule end number : ℕ) → Node → List Bool → List Bool
passed sweep rule end number node marks =
    let is_marked = slice_index_or marks number false in
    marked_if (marks_no sweep is_marked (node.rule == rule)) (place_of node.no end)
    (marked_if (marks_yes sweep is_marked (node.rule == rule)) (place_of node.yes end) marks)

-- a place that is marked in the end: it is at the beginning, or a node marks it
pub data IsReached (sweep : Sweep) (nodes : List Node) (rule : ℕ) (begin : List Bool) : ℕ → Type 0 where
  Given : (place : ℕ) → slice_index_or begin place false ≡ true → IsReached sweep nodes rule begin place
  ByRule : (from : ℕ) (node : Node) → slice_get nodes from ≡ Some node
      → marks_yes sweep false (node.rule == rule) ≡ true
      → IsReached sweep nodes rule begin (place_of node.yes (length nodes))
  ByYes : (from : ℕ) (node : Node) → IsReached sweep nodes rule begin from → slice_get nodes from ≡ Some node
      → marks_yes sweep true (node.rule == rule) ≡ true
      → IsReached sweep nodes rule begin (place_of node.yes (length nodes))
  ByNo : (from : ℕ) (node : Node) → IsReached sweep nodes rule begin from → slice_get nodes from ≡ Some node
      → marks_no sweep true (node.rule == rule) ≡ true
      → IsReached sweep nodes rule begin (place_of node.no (length nodes))

-- what is marked in the end is what is reached
abbrev pub IsSwept : Sweep → List Node → (rule : ℕ) → (begin marks : List Bool) → Type 0
IsSwept sweep nodes rule begin marks =
    (place : ℕ) → (slice_index_or marks place false ≡ true) ↔ IsReached sweep nodes rule begin place
