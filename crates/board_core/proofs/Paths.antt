-- The rules visited before a position are of nodes along a path from the root, and so other rules than the next.
use Rattle.std.proofs.Common.{◌≡◌, ◌⊎◌, inl, inr, ℕ, zero, suc, ◌+◌, ◌<◌, true, false, List, [], ◌∷◌, ◌++◌, length, Option, Some, None, All, refl, sym, ap, ◌∙◌, subst, eqb-true, arith, append-nil}
use Rattle.std.specs.Prelude.{slice_get, slice_index_or, ◌==◌}
use Rattle.std.proofs.lemmas.Bool.{cases_Bool}
use Rattle.std.proofs.lemmas.List.{get_or_append_left, get_or_at, length-append}
use Rattle.std.proofs.lemmas.List.Elements.{All-push}
use Rattle.std.proofs.lemmas.List.Folds.{Any-from_list_any}
use Rattle.kw_bits.specs.BitVector.{BitVector}
use Rattle.typed_core.specs.Valid.{IsContinuation, IsPath, LeadsTo}
use Rattle.typed_core.specs.declared.design.Next.{Next}
use Rattle.typed_core.specs.declared.design.Next.TheVariants as next
use Rattle.typed_core.specs.declared.design.Node.{Node}
use Rattle.one_rule.specs.Cycle.{System, fire, is_among}
use Rattle.one_rule.specs.Laws.{IsScheduled, Tries}
use Rattle.one_rule.specs.Walk.{Walk, goes_on}
use Rattle.typed_core.specs.Continuations.{root}
use Rattle.one_rule.specs.declared.cycle.State.{State}
use Rattle.board_core.specs.Board.{node_at}
use Rattle.board_core.specs.Position.{position, rule_if, visit_if, visited}
use Rattle.board_core.proofs.Positions.{at_node}

-- one of the first nodes along the path from the root tries the rule
abbrev IsTried : List Node → List ℕ → ℕ → ℕ → Type 0
IsTried nodes path count rule = (k : ℕ) × (k < count) × Tries nodes (slice_index_or (0 ∷ path) k 0) rule

-- a path from the root comes to this node, and these rules are of nodes before it
record Comes (nodes : List Node) (rules : List ℕ) (number : ℕ) : Type 0 where
  path : List ℕ
  is_path : IsPath nodes 0 path
  last : slice_index_or (0 ∷ path) (length path) 0 ≡ number
  tried : All (IsTried nodes path (length path)) rules

abbrev ComesAt : List Node → List ℕ → Next → Type 0
ComesAt nodes rules (next.Node to) = Comes nodes rules to
ComesAt nodes rules next.End = Unit {0}

IsPath-push : (nodes : List Node) (from : ℕ) (path : List ℕ) (to : ℕ) → IsPath nodes from path → LeadsTo nodes (slice_index_or (from ∷ path) (length path) 0) to → to < length nodes → IsPath nodes from (path ++ to ∷ [])
IsPath-push nodes from [] to p c h = (c, h)
IsPath-push nodes from (first ∷ path) to p c h = (p.0, IsPath-push nodes first path to p.1 c h)

-- the path goes on with a continuation of its last node, whose rule is visited too
path_goes_on : (nodes : List Node) (rules : List ℕ) (number : ℕ) (node : Node) (at : Next) → slice_get nodes number ≡ Some node → ((node.yes ≡ at) ⊎ (node.no ≡ at)) → IsContinuation (length nodes) number at → Comes nodes rules number → ComesAt nodes (rules ++ node.rule ∷ []) at
path_goes_on nodes rules number node next.End is side inside c = tt
path_goes_on nodes rules number node (next.Node to) is side inside c =
    record {
      path = c.path ++ to ∷ [];
      is_path = IsPath-push nodes 0 c.path to c.is_path (node, ap (slice_get nodes) c.last ∙ is, side) inside.1;
      last = get_or_at (0 ∷ c.path) to [] 0 (length (c.path ++ to ∷ [])) longer;
      tried = All-push (IsTried nodes (c.path ++ to ∷ []) (length (c.path ++ to ∷ []))) rules node.rule
          (λ k d h. let t = c.tried k d h in later (slice_index_or rules k d) (t.0, omega (arith, t.1), t.2))
          (later node.rule (length c.path, omega arith, (node, ap (slice_get nodes) c.last ∙ is, refl)));
    }
  where
    longer : length (0 ∷ c.path) ≡ length (c.path ++ to ∷ [])
    longer = let sum = length-append c.path (to ∷ []) in omega arith

    later : (rule : ℕ) → IsTried nodes c.path (length c.path + 1) rule → IsTried nodes (c.path ++ to ∷ []) (length (c.path ++ to ∷ [])) rule
    later rule t =
        let same = get_or_append_left (0 ∷ c.path) (to ∷ []) 0 t.0 (omega (arith, t.1)) in
        (t.0, omega (arith, t.1, longer), subst (λ n. Tries nodes n rule) (sym same) t.2)

begins : (nodes : List Node) → ComesAt nodes [] (root nodes)
begins [] = tt
begins (node ∷ nodes) = record { path = []; is_path = omega arith; last = refl; tried = λ k d h. absurd (omega (arith, h)) }

module _ (system : System) (valid : IsScheduled system) (inputs regs : List BitVector) where
  -- a path comes to each position
  comes : (visits : ℕ) → ComesAt system.nodes (visited system inputs regs visits) (position system inputs regs visits).at
  comes zero = begins system.nodes
  comes (suc visits) = chosen (node_at system.nodes walk.at) refl (comes visits)
    where
      walk : Walk State
      walk = position system inputs regs visits

      rules : List ℕ
      rules = visited system inputs regs visits

      chosen : (o : Option Node) → node_at system.nodes walk.at ≡ o → ComesAt system.nodes rules walk.at → ComesAt system.nodes (rules ++ rule_if o) (visit_if (fire system inputs) walk o).at
      chosen None is before = subst (λ (rs : List ℕ). ComesAt system.nodes rs walk.at) (sym (append-nil rules)) before
      chosen (Some node) is before = fired (fire system inputs node.rule walk.state)
        where
          found : (to : ℕ) × (walk.at ≡ next.Node to) × (slice_get system.nodes to ≡ Some node)
          found = at_node system.nodes walk.at node is

          here : Comes system.nodes rules found.0
          here = subst (ComesAt system.nodes rules) found.1 before

          fired : (s : Option State) → ComesAt system.nodes (rules ++ node.rule ∷ []) (goes_on node walk.state s).at
          fired (Some s) = path_goes_on system.nodes rules found.0 node node.yes found.2 (inl refl) (valid.nodes found.0 node found.2).yes here
          fired None = path_goes_on system.nodes rules found.0 node node.no found.2 (inr refl) (valid.nodes found.0 node found.2).no here

  -- the rule of the next node isn't among those that were visited
  pub next_is_new : (visits : ℕ) (node : Node) → node_at system.nodes (position system inputs regs visits).at ≡ Some node → is_among (visited system inputs regs visits) node.rule ≡ false
  next_is_new visits node is = chosen (cases_Bool (is_among rules node.rule))
    where
      walk : Walk State
      walk = position system inputs regs visits

      rules : List ℕ
      rules = visited system inputs regs visits

      found : (to : ℕ) × (walk.at ≡ next.Node to) × (slice_get system.nodes to ≡ Some node)
      found = at_node system.nodes walk.at node is

      c : Comes system.nodes rules found.0
      c = subst (ComesAt system.nodes rules) found.1 (comes visits)

      chosen : ((is_among rules node.rule ≡ true) ⊎ (is_among rules node.rule ≡ false)) → is_among rules node.rule ≡ false
      chosen (inl h) =
          let (k, n, inside, at, same) = Any-from_list_any (λ (n : ℕ). n == node.rule) rules h in
          let t = c.tried k n inside in
          let apart = valid.once c.path c.is_path t.0 (length c.path) 0 t.1 (omega arith) in
          absurd (apart t.2.0 node t.2.1 (ap (slice_get system.nodes) c.last ∙ found.2) (t.2.2 ∙ at ∙ eqb-true n node.rule same))
      chosen (inr h) = h
