-- What holds of walks, whatever their state is.
use Rattle.std.proofs.Common.{◌≡◌, ℕ, suc, ◌+◌, ◌<◌, ◌≤◌, ◌⊎◌, inl, inr, Bool, true, false, List, [], ◌∷◌, length, Option, Some, None, refl, subst, arith}
use Rattle.std.specs.Prelude.{slice_get, if◌then◌else◌}
use Rattle.std.proofs.lemmas.Bool.{cases_lt, eqb-false}
use Rattle.typed_core.specs.Valid.{AreNodes, IsContinuation, IsNode}
use Rattle.typed_core.specs.declared.design.Next.{Next}
use Rattle.typed_core.specs.declared.design.Next.TheVariants as next
use Rattle.typed_core.specs.declared.design.Node.{Node}
use Rattle.one_rule.specs.Walk.{Firing, Walk, goes_on, pass, start, visit, walk_from, walk_past}
use Rattle.typed_core.specs.Continuations.{is_at, root}

-- ---- two walks through one scheduler

-- what a rule makes of two states is related, or it makes nothing of both
abbrev pub BothFire : {S T : Type 0} → (S → T → Type 0) → Option S → Option T → Type 0
BothFire R None None = Unit {0}
BothFire R (Some s) (Some t) = R s t
BothFire R None (Some t) = ⊥
BothFire R (Some s) None = ⊥

-- the states are related, and both walks are at one place
pub record AreTogether {S T : Type 0} (R : S → T → Type 0) (a : Walk S) (b : Walk T) : Type 0 where
  pub states : R a.state b.state
  pub place : a.at ≡ b.at

module _ {S T : Type 0} (R : S → T → Type 0) (f : Firing S) (g : Firing T) (both : (rule : ℕ) (s : S) (t : T) → R s t → BothFire R (f rule s) (g rule t)) where
  gone_on : (node : Node) (s : S) (t : T) (s' : Option S) (t' : Option T) → R s t → BothFire R s' t' → AreTogether R (goes_on node s s') (goes_on node t t')
  gone_on node s t None None r h = record { states = r; place = refl }
  gone_on node s t (Some s') (Some t') r h = record { states = h; place = refl }
  gone_on node s t None (Some t') r h = absurd h
  gone_on node s t (Some s') None r h = absurd h

  passed_together : (is_here : Bool) (node : Node) (a : Walk S) (b : Walk T) → AreTogether R a b → AreTogether R (if is_here then visit f node a else a) (if is_here then visit g node b else b)
  passed_together true node a b h = gone_on node a.state b.state _ _ h.states (both node.rule a.state b.state h.states)
  passed_together false node a b h = h

  past_together : (number : ℕ) (nodes : List Node) (a : Walk S) (b : Walk T) → AreTogether R a b → AreTogether R (walk_past f number nodes a) (walk_past g number nodes b)
  past_together number [] a b h = h
  past_together number (node ∷ nodes) a b h =
      past_together (number + 1) nodes (pass f number node a) (pass g number node b)
      (subst (λ (at : Next). AreTogether R (pass f number node a) (if is_at number at then visit g node b else b)) h.place (passed_together (is_at number a.at) node a b h))

  -- two walks of which each rule makes related states of related ones stay together
  pub walks_together : (nodes : List Node) (s : S) (t : T) → R s t → AreTogether R (walk_from f nodes s) (walk_from g nodes t)
  walks_together nodes s t r = past_together 0 nodes (start nodes s) (start nodes t) (record { states = r; place = refl })

-- ---- what each rule that fires keeps

module _ {S : Type 0} (P : S → Type 0) (f : Firing S) (kept : (rule : ℕ) (s s' : S) → P s → f rule s ≡ Some s' → P s') where
  kept_going_on : (node : Node) (s : S) (o : Option S) → f node.rule s ≡ o → P s → P (goes_on node s o).state
  kept_going_on node s None is p = p
  kept_going_on node s (Some s') is p = kept node.rule s s' p is

  kept_passing : (is_here : Bool) (node : Node) (w : Walk S) → P w.state → P (if is_here then visit f node w else w).state
  kept_passing true node w p = kept_going_on node w.state (f node.rule w.state) refl p
  kept_passing false node w p = p

  -- what holds of the state stays so
  pub walk_past_keeps : (number : ℕ) (nodes : List Node) (w : Walk S) → P w.state → P (walk_past f number nodes w).state
  walk_past_keeps number [] w p = p
  walk_past_keeps number (node ∷ nodes) w p = walk_past_keeps (number + 1) nodes (pass f number node w) (kept_passing (is_at number w.at) node w p)

-- ---- the end

-- the walk is at the end, or at a node that there is, of this number or a greater one
abbrev pub IsAhead : ℕ → ℕ → Next → Type 0
IsAhead count number (next.Node to) = (number ≤ to) × (to < count)
IsAhead count number next.End = Unit {0}

continues : (count number : ℕ) (at : Next) → IsContinuation count number at → IsAhead count (number + 1) at
continues count number (next.Node to) inside = (omega (arith, inside.0), inside.1)
continues count number next.End inside = tt

-- a node that the walk isn't at is behind it
behind : (count number : ℕ) (at : Next) → is_at number at ≡ false → IsAhead count number at → IsAhead count (number + 1) at
behind count number (next.Node to) other ahead = (chosen (cases_lt number to), ahead.1)
  where
    chosen : ((number < to) ⊎ (to ≤ number)) → number + 1 ≤ to
    chosen (inl less) = omega (arith, less)
    chosen (inr more) = absurd (eqb-false number to other (omega (arith, more, ahead.0)))
behind count number next.End other ahead = tt

-- the nodes stand in the scheduler from this number on
abbrev pub StandFrom : List Node → ℕ → List Node → Type 0
StandFrom nodes number rest = (k : ℕ) (node : Node) → slice_get rest k ≡ Some node → slice_get nodes (number + k) ≡ Some node

-- all of them stand there from 0 on
pub StandFrom-all : (nodes : List Node) → StandFrom nodes 0 nodes
StandFrom-all nodes k node is = subst (λ n. slice_get nodes n ≡ Some node) (omega arith) is

pub StandFrom-first : (nodes : List Node) (number : ℕ) (node : Node) (rest : List Node) → StandFrom nodes number (node ∷ rest) → slice_get nodes number ≡ Some node
StandFrom-first nodes number node rest stand = subst (λ n. slice_get nodes n ≡ Some node) (omega arith) (stand 0 node refl)

pub StandFrom-rest : (nodes : List Node) (number : ℕ) (node : Node) (rest : List Node) → StandFrom nodes number (node ∷ rest) → StandFrom nodes (number + 1) rest
StandFrom-rest nodes number node rest stand k other is = subst (λ n. slice_get nodes n ≡ Some other) (omega arith) (stand (suc k) other is)

module _ {S : Type 0} (f : Firing S) (rules : ℕ) (nodes : List Node) (valid : AreNodes rules nodes) where
  gone_ahead : (number : ℕ) (node : Node) (s : S) (o : Option S) → IsNode rules (length nodes) number node → IsAhead (length nodes) (number + 1) (goes_on node s o).at
  gone_ahead number node s (Some s') inside = continues (length nodes) number node.yes inside.yes
  gone_ahead number node s None inside = continues (length nodes) number node.no inside.no

  pass_ahead : (number : ℕ) (node : Node) (w : Walk S) → slice_get nodes number ≡ Some node → IsAhead (length nodes) number w.at → IsAhead (length nodes) (number + 1) (pass f number node w).at
  pass_ahead number node w is ahead = chosen (is_at number w.at) refl
    where
      chosen : (is_here : Bool) → is_at number w.at ≡ is_here → IsAhead (length nodes) (number + 1) (if is_here then visit f node w else w).at
      chosen true here = gone_ahead number node w.state (f node.rule w.state) (valid number node is)
      chosen false other = behind (length nodes) number w.at other ahead

  past_ahead : (number : ℕ) (rest : List Node) (w : Walk S) → StandFrom nodes number rest → IsAhead (length nodes) number w.at → IsAhead (length nodes) (number + length rest) (walk_past f number rest w).at
  past_ahead number [] w stand ahead = subst (λ n. IsAhead (length nodes) n w.at) (omega arith) ahead
  past_ahead number (node ∷ rest) w stand ahead =
      let w' : Walk S = pass f number node w in
      subst (λ n. IsAhead (length nodes) n (walk_past f (number + 1) rest w').at) (omega arith)
      (past_ahead (number + 1) rest w' (StandFrom-rest nodes number node rest stand) (pass_ahead number node w (StandFrom-first nodes number node rest stand) ahead))

  -- the walk comes to the end of its path
  pub walk_ends : (state : S) → (walk_from f nodes state).at ≡ next.End
  walk_ends state =
      let begins : IsAhead (length nodes) 0 (root nodes) = begins_ahead nodes in
      let ahead = past_ahead 0 nodes (start nodes state) (StandFrom-all nodes) begins in
      is_end (length nodes) (walk_from f nodes state).at (subst (λ n. IsAhead (length nodes) n (walk_from f nodes state).at) (omega arith) ahead)
    where
      begins_ahead : (ns : List Node) → IsAhead (length ns) 0 (root ns)
      begins_ahead [] = tt
      begins_ahead (n ∷ ns) = (omega arith, omega arith)

      -- nothing is ahead of the last node but the end
      is_end : (count : ℕ) (at : Next) → IsAhead count count at → at ≡ next.End
      is_end count (next.Node to) ahead = absurd (omega (arith, ahead.0, ahead.1))
      is_end count next.End ahead = refl
