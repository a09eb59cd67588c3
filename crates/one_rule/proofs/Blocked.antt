-- What blocks a rule.
use Rattle.std.proofs.Common.{◌≡◌, ℕ, zero, suc, ◌+◌, ◌⊎◌, inl, inr, Bool, true, false, List, [], ◌∷◌, ◌++◌, take, Some, None, refl, sym, ap, ◌∙◌, subst, eq-eqb, arith}
use Rattle.std.specs.Prelude.{slice_get, if◌then◌else◌, not, ◌&&◌, ◌==◌}
use Rattle.std.proofs.lemmas.Bool.{cases_Bool}
use Rattle.std.proofs.lemmas.List.{map_push}
use Rattle.std.proofs.lemmas.List.Folds.{Any-from_list_any, list_any-from_Any, list_any-append}
use Rattle.kw_bits.specs.BitVector.{BitVector}
use Rattle.typed_core.specs.Clash.{clashes}
use Rattle.typed_core.specs.declared.access.Access.{Access}
use Rattle.typed_core.specs.declared.access.Event.{Event}
use Rattle.typed_core.specs.declared.design.Node.{Node}
use Rattle.typed_core.specs.declared.outcome.Alone.{Alone}
use Rattle.typed_core.specs.declared.outcome.Outcome.{Outcome}
use Rattle.typed_core.specs.declared.outcome.Outcome.TheVariants.{Done, Abort, OwnClash}
use Rattle.one_rule.specs.Cycle.{System, begin, clash_with, clash_with_access, clash_with_events, fire, fires, is_among, is_done, join, numbers}
use Rattle.one_rule.specs.Laws.{FiresUnblocked, FiresUnlessBlocked, HasClash, IsBlocked, VisitFiresUnlessBlocked, walk_to}
use Rattle.one_rule.specs.Walk.{Walk, goes_on, pass, start, visit, walk_past}
use Rattle.typed_core.specs.Continuations.{is_at}
use Rattle.one_rule.specs.declared.cycle.Fired.{Fired}
use Rattle.one_rule.specs.declared.cycle.State.{State}

-- the test of clashes tells of one, and each
clash_found : (events : List Event) (past : List Fired) → clash_with events past ≡ true → HasClash events past
clash_found events past h =
    let f = Any-from_list_any (λ (f : Fired). clash_with_events events f.events) past h in
    let earlier = Any-from_list_any (λ (e : Event). clash_with_access events e.access) f.1.events f.4 in
    let e = Any-from_list_any (λ (e : Event). clashes e.access earlier.1.access) events earlier.4 in
    (f.0, f.1, f.2, f.3, (earlier.0, earlier.1, earlier.2, earlier.3, e))

clash_told : (events : List Event) (past : List Fired) → HasClash events past → clash_with events past ≡ true
clash_told events past (i, f, in_past, is_f, (j, earlier, in_events, is_earlier, e)) =
    let one = list_any-from_Any (λ (e : Event). clashes e.access earlier.access) events e in
    let rule = list_any-from_Any (λ (e : Event). clash_with_access events e.access) f.events (j, earlier, in_events, is_earlier, one) in
    list_any-from_Any (λ (f : Fired). clash_with_events events f.events) past (i, f, in_past, is_f, rule)

unless_blocked : (past : List Fired) (events : List Event) (outcome : Outcome) → (is_done outcome && not (clash_with events past)) ≡ false → (outcome ≡ Abort) ⊎ ((access : Access) × (outcome ≡ OwnClash access)) ⊎ HasClash events past
unless_blocked past events Done h = inr (inr (clash_found events past (clashed (clash_with events past) h)))
  where
    clashed : (b : Bool) → (true && not b) ≡ false → b ≡ true
    clashed true e = refl
    clashed false e = absurd cc
unless_blocked past events Abort h = inl refl
unless_blocked past events (OwnClash access) h = inr (inl (access, refl))

pub fires_unless_blocked : FiresUnlessBlocked
fires_unless_blocked past run h = unless_blocked past run.events run.outcome h

unblocked : (past : List Fired) (events : List Event) (outcome : Outcome) → (is_done outcome && not (clash_with events past)) ≡ true → (outcome ≡ Abort) ⊎ ((access : Access) × (outcome ≡ OwnClash access)) ⊎ HasClash events past → ⊥
unblocked past events outcome h (inl e) = absurd (differs (ap (λ (o : Outcome). is_done o && not (clash_with events past)) (sym e) ∙ h))
  where
    differs : false ≡ true → ⊥
    differs e = cc
unblocked past events outcome h (inr (inl (access, e))) = absurd (differs (ap (λ (o : Outcome). is_done o && not (clash_with events past)) (sym e) ∙ h))
  where
    differs : false ≡ true → ⊥
    differs e = cc
unblocked past events outcome h (inr (inr c)) = clear (is_done outcome) (ap (λ b. is_done outcome && not b) (sym (clash_told events past c)) ∙ h)
  where
    clear : (b : Bool) → (b && not true) ≡ true → ⊥
    clear true e = cc
    clear false e = cc

pub fires_unblocked : FiresUnblocked
fires_unblocked past run h k = unblocked past run.events run.outcome h k

-- a rule that fired stays among those that fired
is_among_stays : (fired : List ℕ) (n rule : ℕ) → is_among fired rule ≡ true → is_among (fired ++ n ∷ []) rule ≡ true
is_among_stays fired n rule h =
    list_any-append (λ (m : ℕ). m == rule) fired (n ∷ []) ∙ grind (arith, h)

is_among_last : (fired : List ℕ) (n : ℕ) → is_among (fired ++ n ∷ []) n ≡ true
is_among_last fired n =
    let same : (n == n) ≡ true = eq-eqb n n refl in
    list_any-append (λ (m : ℕ). m == n) fired (n ∷ []) ∙ grind (arith, same)

-- the rule is one of those that fired
abbrev HasFired : ℕ → State → Type 0
HasFired rule state = is_among (numbers state.past) rule ≡ true

joined_stays : (state : State) (number rule : ℕ) (events : List Event) → HasFired rule state → HasFired rule (join state number events)
joined_stays state number rule events h = rw map_push (is_among_stays (numbers state.past) number rule h)

joined_last : (state : State) (rule : ℕ) (events : List Event) → HasFired rule (join state rule events)
joined_last state rule events = rw map_push (is_among_last (numbers state.past) rule)

module _ (system : System) (inputs : List BitVector) where
  went_on : (b : Bool) (node : Node) (state : State) (rule : ℕ) (events : List Event) → HasFired rule state → HasFired rule (goes_on node state (if b then Some (join state node.rule events) else None)).state
  went_on true node state rule events h = joined_stays state node.rule rule events h
  went_on false node state rule events h = h

  pass_stays : (number : ℕ) (node : Node) (walk : Walk State) (rule : ℕ) → HasFired rule walk.state → HasFired rule (pass (fire system inputs) number node walk).state
  pass_stays number node walk rule h = chosen (is_at number walk.at)
    where
      run : Alone
      run = system.alone node.rule inputs walk.state.regs

      chosen : (here : Bool) → HasFired rule (if here then visit (fire system inputs) node walk else walk).state
      chosen true = went_on (fires walk.state.past run) node walk.state rule run.events h
      chosen false = h

  past_stays : (number : ℕ) (nodes : List Node) (walk : Walk State) (rule : ℕ) → HasFired rule walk.state → HasFired rule (walk_past (fire system inputs) number nodes walk).state
  past_stays number [] walk rule h = h
  past_stays number (node ∷ nodes) walk rule h =
      past_stays (number + 1) nodes (pass (fire system inputs) number node walk) rule (pass_stays number node walk rule h)

  -- a rule that fires at a visit is among those that fired after it
  pass_fires : (number : ℕ) (node : Node) (walk : Walk State) → is_at number walk.at ≡ true → fires walk.state.past (system.alone node.rule inputs walk.state.regs) ≡ true → HasFired node.rule (pass (fire system inputs) number node walk).state
  pass_fires number node walk here f = chosen (is_at number walk.at) (fires walk.state.past run) here f
    where
      run : Alone
      run = system.alone node.rule inputs walk.state.regs

      chosen : (here fires : Bool) → here ≡ true → fires ≡ true → HasFired node.rule (if here then goes_on node walk.state (if fires then Some (join walk.state node.rule run.events) else None) else walk).state
      chosen true true h e = joined_last walk.state node.rule run.events
      chosen true false h e = absurd cc
      chosen false fires h e = absurd cc

  -- and at the end of the walk
  fires_at : (number : ℕ) (nodes : List Node) (k : ℕ) (node : Node) (walk : Walk State) → slice_get nodes k ≡ Some node
      → is_at (number + k) (walk_past (fire system inputs) number (take k nodes) walk).at ≡ true
      → fires (walk_past (fire system inputs) number (take k nodes) walk).state.past (system.alone node.rule inputs (walk_past (fire system inputs) number (take k nodes) walk).state.regs) ≡ true
      → HasFired node.rule (walk_past (fire system inputs) number nodes walk).state
  fires_at number [] k node walk is here f = absurd cc
  fires_at number (first ∷ nodes) zero node walk is here f =
      let same : first ≡ node = cc in
      let at_first = subst (λ n. is_at n walk.at ≡ true) (omega arith) here in
      past_stays (number + 1) nodes (pass (fire system inputs) number first walk) node.rule
      (subst (λ (n : Node). HasFired node.rule (pass (fire system inputs) number n walk).state) (sym same) (pass_fires number node walk at_first f))
  fires_at number (first ∷ nodes) (suc k) node walk is here f =
      let next = pass (fire system inputs) number first walk in
      fires_at (number + 1) nodes k node next is (subst (λ n. is_at n (walk_past (fire system inputs) (number + 1) (take k nodes) next).at ≡ true) (omega arith) here) f

pub visit_fires_unless_blocked : VisitFiresUnlessBlocked
visit_fires_unless_blocked system inputs regs number node is here idle = chosen (cases_Bool (fires walk.state.past run))
  where
    walk : Walk State
    walk = walk_to system inputs regs number

    run : Alone
    run = system.alone node.rule inputs walk.state.regs

    chosen : ((fires walk.state.past run ≡ true) ⊎ (fires walk.state.past run ≡ false)) → IsBlocked walk.state.past run
    chosen (inr h) = fires_unless_blocked walk.state.past run h
    chosen (inl h) =
        let fired = fires_at system inputs 0 system.nodes number node (start system.nodes (begin regs)) is (subst (λ n. is_at n walk.at ≡ true) (omega arith) here) h in
        absurd cc
