-- Plain positions lie on the cycle's walk: going on from one ends where the whole walk does.
use Rattle.std.proofs.Common.{◌≡◌, ℕ, zero, suc, ◌+◌, ◌<◌, Bool, true, false, List, [], ◌∷◌, length, Option, Some, None, refl, sym, ap, ◌∙◌, eq-eqb, arith}
use Rattle.std.specs.Prelude.{slice_get, if◌then◌else◌}
use Rattle.std.proofs.lemmas.Bool.{ne_eqb}
use Rattle.kw_bits.specs.BitVector.{BitVector}
use Rattle.typed_core.specs.Valid.{AreNodes, IsContinuation, IsNode}
use Rattle.typed_core.specs.declared.design.Next.{Next}
use Rattle.typed_core.specs.declared.design.Next.TheVariants as next
use Rattle.typed_core.specs.declared.design.Node.{Node}
use Rattle.one_rule.specs.Cycle.{System, fire, walk_of}
use Rattle.one_rule.specs.Walk.{Firing, Walk, goes_on, pass, visit, walk_past}
use Rattle.typed_core.specs.Continuations.{is_at, root}
use Rattle.one_rule.proofs.WalkLaws.{IsAhead}
use Rattle.board_core.specs.Board.{node_at}
use Rattle.board_core.specs.Position.{position, visit_if}

-- ---- nodes

-- a walk that is at a node is at its number
pub at_node : (nodes : List Node) (at : Next) (node : Node) → node_at nodes at ≡ Some node → (to : ℕ) × (at ≡ next.Node to) × (slice_get nodes to ≡ Some node)
at_node nodes (next.Node to) node h = (to, refl, h)
at_node nodes next.End node h = absurd cc

-- the walk isn't at a node that is behind it
not_at : (count number to : ℕ) (at : Next) → number < to → IsAhead count to at → is_at number at ≡ false
not_at count number to (next.Node n) less ahead = ne_eqb number n (λ e. absurd (omega (arith, less, ahead.0, e)))
not_at count number to next.End less ahead = refl

ahead_of : (count number : ℕ) (at : Next) → IsContinuation count number at → IsAhead count (number + 1) at
ahead_of count number (next.Node to) inside = (omega (arith, inside.0), inside.1)
ahead_of count number next.End inside = tt

module _ {S : Type 0} (f : Firing S) where
  passes_by : (number : ℕ) (node : Node) (walk : Walk S) → is_at number walk.at ≡ false → pass f number node walk ≡ walk
  passes_by number node walk h = ap (λ (b : Bool). if b then visit f node walk else walk) h

  passes : (number : ℕ) (node : Node) (walk : Walk S) → is_at number walk.at ≡ true → pass f number node walk ≡ visit f node walk
  passes number node walk h = ap (λ (b : Bool). if b then visit f node walk else walk) h

  -- a visit leads ahead
  pub visit_ahead : (rules count number : ℕ) (node : Node) (walk : Walk S) → IsNode rules count number node → IsAhead count (number + 1) (visit f node walk).at
  visit_ahead rules count number node walk inside = chosen (f node.rule walk.state)
    where
      chosen : (o : Option S) → IsAhead count (number + 1) (goes_on node walk.state o).at
      chosen (Some s) = ahead_of count number node.yes inside.yes
      chosen None = ahead_of count number node.no inside.no

  -- the walk from a visit on ends where the walk from before it does
  visit_same : (count number : ℕ) (nodes : List Node) (k to : ℕ) (node : Node) (walk : Walk S) → walk.at ≡ next.Node to → slice_get nodes k ≡ Some node → to ≡ number + k → IsAhead count (to + 1) (visit f node walk).at
      → walk_past f number nodes walk ≡ walk_past f number nodes (visit f node walk)
  visit_same count number [] k to node walk at is same ahead = absurd cc
  visit_same count number (n ∷ nodes) zero to node walk at is same ahead =
      let here : is_at number walk.at ≡ true = ap (is_at number) at ∙ eq-eqb number to (omega (arith, same)) in
      let that : n ≡ node = cc in
      let by = passes_by number n (visit f node walk) (not_at count number (to + 1) (visit f node walk).at (omega (arith, same)) ahead) in
      ap (walk_past f (number + 1) nodes) (passes number n walk here ∙ ap (λ (m : Node). visit f m walk) that ∙ sym by)
  visit_same count number (n ∷ nodes) (suc k) to node walk at is same ahead =
      let off : is_at number walk.at ≡ false = ap (is_at number) at ∙ ne_eqb number to (λ e. absurd (omega (arith, same, e))) in
      let by = passes_by number n (visit f node walk) (not_at count number (to + 1) (visit f node walk).at (omega (arith, same)) ahead) in
      ap (walk_past f (number + 1) nodes) (passes_by number n walk off)
      ∙ visit_same count (number + 1) nodes k to node walk at is (omega (arith, same)) ahead
      ∙ sym (ap (walk_past f (number + 1) nodes) by)

  -- a walk that is at the end stays
  pub ended : (number : ℕ) (nodes : List Node) (walk : Walk S) → walk.at ≡ next.End → walk_past f number nodes walk ≡ walk
  ended number [] walk h = refl
  ended number (node ∷ nodes) walk h =
      ap (walk_past f (number + 1) nodes) (passes_by number node walk (ap (is_at number) h)) ∙ ended (number + 1) nodes walk h

-- ---- positions

module _ (system : System) (valid : AreNodes system.rules system.nodes) (inputs regs : List BitVector) where
  -- what goes on from a position with its next visit
  next_same : (walk : Walk _) (o : Option Node) → node_at system.nodes walk.at ≡ o → walk_past (fire system inputs) 0 system.nodes walk ≡ walk_past (fire system inputs) 0 system.nodes (visit_if (fire system inputs) walk o)
  next_same walk None is = refl
  next_same walk (Some node) is =
      let (to, at, found) = at_node system.nodes walk.at node is in
      visit_same (fire system inputs) (length system.nodes) 0 system.nodes to to node walk at found (omega arith)
      (visit_ahead (fire system inputs) system.rules (length system.nodes) to node walk (valid to node found))

  -- the walk goes on from each position to the same end
  goes_to_end : (visits : ℕ) → walk_of system inputs regs ≡ walk_past (fire system inputs) 0 system.nodes (position system inputs regs visits)
  goes_to_end zero = refl
  goes_to_end (suc visits) =
      let before = position system inputs regs visits in
      goes_to_end visits ∙ next_same before (node_at system.nodes before.at) refl

  -- a position at the end is the end of the walk
  pub end_is_end : (visits : ℕ) → (position system inputs regs visits).at ≡ next.End → position system inputs regs visits ≡ walk_of system inputs regs
  end_is_end visits h = sym (goes_to_end visits ∙ ended (fire system inputs) 0 system.nodes (position system inputs regs visits) h)

  nearer : (count number : ℕ) (at : Next) → IsAhead count number at → IsAhead count 0 at
  nearer count number (next.Node to) h = (omega arith, h.1)
  nearer count number next.End h = tt

  begins_inside : (nodes : List Node) → IsAhead (length nodes) 0 (root nodes)
  begins_inside [] = tt
  begins_inside (n ∷ ns) = (omega arith, omega arith)

  -- a position is at a node that there is, or at the end
  pub position_inside : (visits : ℕ) → IsAhead (length system.nodes) 0 (position system inputs regs visits).at
  position_inside zero = begins_inside system.nodes
  position_inside (suc visits) = chosen (node_at system.nodes (position system inputs regs visits).at) refl (position_inside visits)
    where
      chosen : (o : Option Node) → node_at system.nodes (position system inputs regs visits).at ≡ o → IsAhead (length system.nodes) 0 (position system inputs regs visits).at → IsAhead (length system.nodes) 0 (visit_if (fire system inputs) (position system inputs regs visits) o).at
      chosen None is before = before
      chosen (Some node) is before =
          let walk = position system inputs regs visits in
          let (to, at, found) = at_node system.nodes walk.at node is in
          nearer (length system.nodes) (to + 1) (visit (fire system inputs) node walk).at (visit_ahead (fire system inputs) system.rules (length system.nodes) to node walk (valid to node found))

  -- so that where it is at no node it is at the end
  pub no_node_is_end : (visits : ℕ) → node_at system.nodes (position system inputs regs visits).at ≡ None → (position system inputs regs visits).at ≡ next.End
  no_node_is_end visits h = chosen (position system inputs regs visits).at (position_inside visits) h
    where
      chosen : (at : Next) → IsAhead (length system.nodes) 0 at → node_at system.nodes at ≡ None → at ≡ next.End
      chosen next.End inside none = refl
      chosen (next.Node to) inside none = absurd (found_not system.nodes to inside.1 none)
        where
          found_not : (nodes : List Node) (k : ℕ) → k < length nodes → slice_get nodes k ≡ None → ⊥
          found_not [] k less none = absurd (omega (arith, less))
          found_not (n ∷ nodes) zero less none = absurd cc
          found_not (n ∷ nodes) (suc k) less none = found_not nodes k (omega (arith, less)) none
