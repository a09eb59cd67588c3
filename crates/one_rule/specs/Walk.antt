-- The scheduler's walk through its nodes, given what its rules make of some state: whole rules of registers, runs
-- against a scheduler log of that log. It says nothing of what a rule is.
use Rattle.std.specs.Prelude.{ℕ, ◌+◌, List, [], ◌∷◌, Option, Some, None, if◌then◌else◌}
use Rattle.typed_core.specs.Continuations.{is_at, root}
use Rattle.typed_core.specs.declared.design.Node.{Node}
use Rattle.typed_core.specs.declared.design.Next.{Next}

-- what the rule of a number makes of a state where it fires on it, and nothing where it doesn't
abbrev pub Firing : Type 0 → Type 0
Firing S = ℕ → S → Option S

-- a place in the walk: what the rules that fired so far made of the state, and where the walk goes on
pub record Walk (S : Type 0) : Type 0 where
  pub state : S
  pub at : Next

-- where the node's rule fires, the state is what it makes of it and the walk goes on at `yes`; else the state stays and
-- the walk goes on at `no`
abbrev pub goes_on : {S : Type 0} → Node → S → Option S → Walk S
goes_on node state (Some fired) = record { state = fired; at = node.yes }
goes_on node state None = record { state = state; at = node.no }

-- the scheduler tries the rule of the node
abbrev pub visit : {S : Type 0} → Firing S → Node → Walk S → Walk S
visit fire node walk = goes_on node walk.state (fire node.rule walk.state)

-- the walk past a node: it visits the node where it is at it
abbrev pub pass : {S : Type 0} → Firing S → ℕ → Node → Walk S → Walk S
pass fire number node walk = if is_at number walk.at then visit fire node walk else walk

-- The walk past these nodes, the first of them of this number. It visits the ones that it reaches, and ends,
-- since continuations are nodes of greater numbers.
abbrev pub walk_past : {S : Type 0} → Firing S → ℕ → List Node → Walk S → Walk S
walk_past fire number [] walk = walk
walk_past fire number (node ∷ nodes) walk = walk_past fire (number + 1) nodes (pass fire number node walk)

-- a walk that has tried no node yet
abbrev pub start : {S : Type 0} → List Node → S → Walk S
start nodes state = record { state = state; at = root nodes }

-- the end of the walk from a state
abbrev pub walk_from : {S : Type 0} → Firing S → List Node → S → Walk S
walk_from fire nodes state = walk_past fire 0 nodes (start nodes state)
