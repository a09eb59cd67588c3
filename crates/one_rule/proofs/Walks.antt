-- Where a cycle's walk comes from: a path of nodes from the root, each of which tried another rule.
use Rattle.std.proofs.Common.{◌≡◌, ℕ, ◌+◌, ◌<◌, ◌≤◌, ◌⊎◌, inl, inr, Bool, true, false, List, [], ◌∷◌, ◌++◌, length, Some, None, All, AllPairs, refl, sym, ap, ◌∙◌, subst, eqb-true, arith}
use Rattle.std.specs.Prelude.{slice_get, slice_index_or, if◌then◌else◌, ◌==◌}
use Rattle.std.proofs.lemmas.Bool.{cases_Bool, cases_lt}
use Rattle.std.proofs.lemmas.List.{get_or_append_left, get_or_at, get_or_default, get_or-map, get_or_past, length-append, length-map}
use Rattle.std.proofs.lemmas.List.Elements.{All-push}
use Rattle.std.proofs.lemmas.List.Folds.{Any-from_list_any}
use Rattle.std.proofs.lemmas.List.FromFn.{get_or-map-range_with_len, length-map-range_with_len}
use Rattle.std.proofs.lemmas.List.Quantifiers.{all_pairs_push}
use Rattle.kw_bits.specs.BitVector.{BitVector}
use Rattle.typed_core.specs.Valid.{LeadsTo, IsContinuation, IsNode, IsPath, TriesNoneTwice}
use Rattle.typed_core.specs.declared.design.Next.{Next}
use Rattle.typed_core.specs.declared.design.Next.TheVariants as next
use Rattle.typed_core.specs.declared.design.Node.{Node}
use Rattle.typed_core.specs.declared.outcome.Alone.{Alone}
use Rattle.one_rule.specs.Cycle.{System, begin, cycle, fire, fires, flags, is_among, join, numbers, walk_of}
use Rattle.one_rule.specs.Laws.{AreOfDifferentRules, FiresOnce, FiresOnPath, IsIdle, IsOnPath, IsScheduled, Tries, WalksEnd}
use Rattle.one_rule.specs.Walk.{Walk, goes_on, pass, start, visit, walk_past}
use Rattle.typed_core.specs.Continuations.{is_at}
use Rattle.one_rule.specs.declared.cycle.Fired.{Fired}
use Rattle.one_rule.specs.declared.cycle.State.{State}
use Rattle.one_rule.proofs.WalkLaws.{StandFrom, StandFrom-all, StandFrom-first, StandFrom-rest, walk_ends}

pub walks_end : WalksEnd
walks_end system inputs regs valid = walk_ends (fire system inputs) system.rules system.nodes valid.nodes (begin regs)

-- one of the first nodes along the path from the root tries the rule
abbrev IsTried : List Node → List ℕ → ℕ → Fired → Type 0
IsTried nodes path count f = (k : ℕ) × (k < count) × Tries nodes (slice_index_or (0 ∷ path) k 0) f.rule

-- a path from the root comes to this node, and the rules that fired are of nodes before it
record Comes (nodes : List Node) (past : List Fired) (number : ℕ) : Type 0 where
  path : List ℕ
  is_path : IsPath nodes 0 path
  last : slice_index_or (0 ∷ path) (length path) 0 ≡ number
  tried : All (IsTried nodes path (length path)) past

abbrev ComesAt : List Node → List Fired → Next → Type 0
ComesAt nodes past (next.Node to) = Comes nodes past to
ComesAt nodes past next.End = Unit {0}

abbrev OnPath : List Node → Fired → Type 0
OnPath nodes f = IsOnPath nodes f.rule

-- no rule fired twice, each is on a path, and so is the node that the walk is at
record Came (nodes : List Node) (past : List Fired) (at : Next) : Type 0 where
  others : AllPairs AreOfDifferentRules past
  on_path : All (OnPath nodes) past
  place : ComesAt nodes past at

IsPath-push : (nodes : List Node) (from : ℕ) (path : List ℕ) (to : ℕ) → IsPath nodes from path → LeadsTo nodes (slice_index_or (from ∷ path) (length path) 0) to → to < length nodes → IsPath nodes from (path ++ to ∷ [])
IsPath-push nodes from [] to p c h = (c, h)
IsPath-push nodes from (first ∷ path) to p c h = (p.0, IsPath-push nodes first path to p.1 c h)

comes_at : (nodes : List Node) (past : List Fired) (number : ℕ) (at : Next) → is_at number at ≡ true → ComesAt nodes past at → Comes nodes past number
comes_at nodes past number (next.Node to) h c = subst (Comes nodes past) (sym (eqb-true number to h)) c
comes_at nodes past number next.End h c = absurd cc

-- the walk goes on along the path
path_goes_on : (nodes : List Node) (past past' : List Fired) (number : ℕ) (node : Node) (at : Next) → slice_get nodes number ≡ Some node → ((node.yes ≡ at) ⊎ (node.no ≡ at)) → IsContinuation (length nodes) number at → (c : Comes nodes past number) → All (IsTried nodes c.path (length c.path + 1)) past' → ComesAt nodes past' at
path_goes_on nodes past past' number node next.End is side inside c tried = tt
path_goes_on nodes past past' number node (next.Node to) is side inside c tried =
    record {
      path = c.path ++ to ∷ [];
      is_path = IsPath-push nodes 0 c.path to c.is_path (node, ap (slice_get nodes) c.last ∙ is, side) inside.1;
      last = get_or_at (0 ∷ c.path) to [] 0 (length (c.path ++ to ∷ [])) longer;
      tried = λ k d h. later (slice_index_or past' k d) (tried k d h);
    }
  where
    longer : length (0 ∷ c.path) ≡ length (c.path ++ to ∷ [])
    longer = let sum = length-append c.path (to ∷ []) in omega arith

    later : (f : Fired) → IsTried nodes c.path (length c.path + 1) f → IsTried nodes (c.path ++ to ∷ []) (length (c.path ++ to ∷ [])) f
    later f t =
        let same = get_or_append_left (0 ∷ c.path) (to ∷ []) 0 t.0 (omega (arith, t.1)) in
        (t.0, omega (arith, t.1, longer), subst (λ n. Tries nodes n f.rule) (sym same) t.2)

-- one rule more that fired, at the node that the path comes to
fired_too : (nodes : List Node) (past : List Fired) (number : ℕ) (node : Node) → slice_get nodes number ≡ Some node → (c : Comes nodes past number) (f : Fired) → node.rule ≡ f.rule → All (IsTried nodes c.path (length c.path + 1)) (past ++ f ∷ [])
fired_too nodes past number node is c f same =
    let here : IsTried nodes c.path (length c.path + 1) f = (length c.path, omega arith, (node, ap (slice_get nodes) c.last ∙ is, same)) in
    All-push (IsTried nodes c.path (length c.path + 1)) past f (λ k d h. let t = c.tried k d h in (t.0, omega (arith, t.1), t.2)) here

-- which is another than those that fired before
another : (nodes : List Node) → TriesNoneTwice nodes → (past : List Fired) (number : ℕ) (node : Node) → slice_get nodes number ≡ Some node → (c : Comes nodes past number) (f g : Fired) → node.rule ≡ f.rule → IsTried nodes c.path (length c.path) g → AreOfDifferentRules g f
another nodes once past number node is c f g same t e =
    let apart = once c.path c.is_path t.0 (length c.path) 0 t.1 (omega arith) in
    apart t.2.0 node t.2.1 (ap (slice_get nodes) c.last ∙ is) (t.2.2 ∙ e ∙ sym same)

-- and is on a path
on_path : (nodes : List Node) (past : List Fired) (number : ℕ) (node : Node) → slice_get nodes number ≡ Some node → Comes nodes past number → IsOnPath nodes node.rule
on_path nodes past number node is c =
    let found = get_or_default (0 ∷ c.path) (length c.path) number 0 (omega arith) ∙ c.last in
    (c.path, number, c.is_path, (length c.path, omega arith, found), (node, is, refl))

-- the walk has come so
abbrev HasCome : List Node → Walk State → Type 0
HasCome nodes walk = Came nodes walk.state.past walk.at

-- the walk begins at the root
begins : (nodes : List Node) (regs : List BitVector) → HasCome nodes (start nodes (begin regs))
begins [] regs = record { others = λ i j d less inside. absurd (omega (arith, inside)); on_path = λ k d h. absurd (omega (arith, h)); place = tt }
begins (node ∷ nodes) regs =
    record {
      others = λ i j d less inside. absurd (omega (arith, inside));
      on_path = λ k d h. absurd (omega (arith, h));
      place = record { path = []; is_path = omega arith; last = refl; tried = λ k d h. absurd (omega (arith, h)) };
    }

module _ (system : System) (inputs : List BitVector) (valid : IsScheduled system) where
  visit_comes : (number : ℕ) (node : Node) (walk : Walk State) → slice_get system.nodes number ≡ Some node → is_at number walk.at ≡ true → HasCome system.nodes walk → HasCome system.nodes (visit (fire system inputs) node walk)
  visit_comes number node walk is here came = chosen (fires walk.state.past run)
    where
      run : Alone
      run = system.alone node.rule inputs walk.state.regs

      fired : Fired
      fired = record { rule = node.rule; events = run.events }

      past : List Fired
      past = walk.state.past

      c : Comes system.nodes past number
      c = comes_at system.nodes past number walk.at here came.place

      inside : IsNode system.rules (length system.nodes) number node
      inside = valid.nodes number node is

      chosen : (b : Bool) → HasCome system.nodes (goes_on node walk.state (if b then Some (join walk.state node.rule run.events) else None))
      chosen true =
          record {
            others = all_pairs_push AreOfDifferentRules past fired came.others (λ k d h. another system.nodes valid.once past number node is c fired (slice_index_or past k d) refl (c.tried k d h));
            on_path = All-push (OnPath system.nodes) past fired came.on_path (on_path system.nodes past number node is c);
            place = path_goes_on system.nodes past (past ++ fired ∷ []) number node node.yes is (inl refl) inside.yes c (fired_too system.nodes past number node is c fired refl);
          }
      chosen false =
          record {
            others = came.others;
            on_path = came.on_path;
            place = path_goes_on system.nodes past past number node node.no is (inr refl) inside.no c (λ k d h. let t = c.tried k d h in (t.0, omega (arith, t.1), t.2));
          }

  pass_comes : (number : ℕ) (node : Node) (walk : Walk State) → slice_get system.nodes number ≡ Some node → HasCome system.nodes walk → HasCome system.nodes (pass (fire system inputs) number node walk)
  pass_comes number node walk is came = chosen (is_at number walk.at) refl
    where
      chosen : (b : Bool) → is_at number walk.at ≡ b → HasCome system.nodes (if b then visit (fire system inputs) node walk else walk)
      chosen true h = visit_comes number node walk is h came
      chosen false h = came

  past_comes : (number : ℕ) (rest : List Node) (walk : Walk State) → StandFrom system.nodes number rest → HasCome system.nodes walk → HasCome system.nodes (walk_past (fire system inputs) number rest walk)
  past_comes number [] walk stand came = came
  past_comes number (node ∷ rest) walk stand came =
      past_comes (number + 1) rest (pass (fire system inputs) number node walk) (StandFrom-rest system.nodes number node rest stand)
      (pass_comes number node walk (StandFrom-first system.nodes number node rest stand) came)

  walk_comes : (regs : List BitVector) → HasCome system.nodes (walk_of system inputs regs)
  walk_comes regs = past_comes 0 system.nodes (start system.nodes (begin regs)) (StandFrom-all system.nodes) (begins system.nodes regs)

pub fires_once : FiresOnce
fires_once system inputs regs valid = (walk_comes system inputs valid regs).others

-- a rule that has fired is on a path
fired_on_path : (nodes : List Node) (past : List Fired) (rule : ℕ) → All (OnPath nodes) past → is_among (numbers past) rule ≡ true → IsOnPath nodes rule
fired_on_path nodes past rule all h =
    let (k, n, inside, found, same) = Any-from_list_any (λ (n : ℕ). n == rule) (numbers past) h in
    let within : k < length past = omega (arith, inside, length-map past (λ (f : Fired). f.rule)) in
    let d : Fired = record { rule = n; events = [] } in
    let here : (slice_index_or past k d).rule ≡ rule = sym (get_or-map (λ (f : Fired). f.rule) past k d n within) ∙ found ∙ eqb-true n rule same in
    subst (IsOnPath nodes) here (all k d within)

-- the flag of a rule that hasn't
flag_of : (rules : ℕ) (fired : List ℕ) (rule : ℕ) → is_among fired rule ≡ false → slice_index_or (flags rules fired) rule false ≡ false
flag_of rules fired rule h = chosen (cases_lt rule rules)
  where
    chosen : ((rule < rules) ⊎ (rules ≤ rule)) → slice_index_or (flags rules fired) rule false ≡ false
    chosen (inl inside) = get_or-map-range_with_len (is_among fired) 0 rules rule rule false inside (omega arith) ∙ h
    chosen (inr outside) = get_or_past (flags rules fired) rule false (omega (arith, outside, length-map-range_with_len (is_among fired) 0 rules))

pub fires_on_path : FiresOnPath
fires_on_path system inputs regs rule valid off = chosen (cases_Bool (is_among (numbers past) rule))
  where
    past : List Fired
    past = (walk_of system inputs regs).state.past

    chosen : ((is_among (numbers past) rule ≡ true) ⊎ (is_among (numbers past) rule ≡ false)) → IsIdle rule (cycle system inputs regs)
    chosen (inl h) = absurd (off (fired_on_path system.nodes past rule (walk_comes system inputs valid regs).on_path h))
    chosen (inr h) = flag_of system.rules (numbers past) rule h
