-- The nodes of a scheduler of the grammar are nodes of a design, and try no rule twice on a path.
use Rattle.std.proofs.Common.{◌≡◌, ◌≢◌, ℕ, zero, suc, ◌+◌, ◌<◌, ◌≤◌, ◌⊎◌, inl, inr, Bool, true, false, not, nat_eq, ◌||◌, List, [], ◌∷◌, ◌++◌, length, map, drop, slice_get, Option, Some, None, IfSome, arith, refl, ap, sym, subst, ◌∙◌, append_assoc, append-nil}
use Rattle.std.specs.List.{All}
use Rattle.std.specs.Prelude.{AllPairs}
use Rattle.std.proofs.lemmas.List.{length-append, length-map}
use Rattle.std.proofs.lemmas.List.Folds.{list_any-append}
use Rattle.std.proofs.lemmas.Option.{slice_get_within, same_Some}
use Rattle.std.proofs.lemmas.Bool.{not-true}
use Rattle.std.proofs.lemmas.List.Elements.{All-cons}
use Rattle.std.proofs.lemmas.List.Kept.{AllPairs-cons}
use Rattle.kw_base.specs.declared.fault_number.TheConstants.{RULE_TWICE_ON_A_PATH, UNKNOWN_NAME}
use Rattle.koika_syntax.specs.declared.tree.Choice.{Choice, Choice-F, map-Choice, out-Choice, roll-Choice, out-roll-Choice}
use Rattle.koika_syntax.specs.declared.tree.Name.{Name}
use Rattle.koika_syntax.specs.declared.tree.Scheduler.{Scheduler, Scheduler-F, ind-Scheduler, map-Scheduler, out-Scheduler, roll-Scheduler, out-roll-Scheduler}
use Rattle.typed_core.specs.Valid.{AreNodes, IsContinuation, IsNode, IsPath, TriesNoneTwice, TryOthers}
use Rattle.typed_core.specs.declared.design.Next.{Next}
use Rattle.typed_core.specs.declared.design.Next.TheVariants as next
use Rattle.typed_core.specs.declared.design.Node.{Node}
use Rattle.koika_check.specs.Checks.{places_if, places_of, scheduler_places}
use Rattle.koika_check.specs.inner.Checks.{choice_places}
use Rattle.koika_check.specs.Outcomes.{Gives, found, holds, where_all, wrong}
use Rattle.koika_check.specs.Schedule.{at_the_end, first_of, in_a_row, in_front, is_on, longer, path_behind, scheduler_nodes, tried}
use Rattle.koika_check.specs.inner.Schedule.{choice_nodes}
use Rattle.koika_check.specs.declared.checked.Checked.{Checked}
use Rattle.koika_check.specs.declared.checked.CheckedRule.{CheckedRule}
use Rattle.koika_check.specs.Kinds.{number_named}
use Rattle.koika_check.specs.declared.things.Kind.TheVariants as kind
use Rattle.koika_check.proofs.Answering.{bind-gives, found-some}
use Rattle.koika_check.proofs.Positions.{number_of-within}
use Rattle.koika_check.proofs.Schedules.{behind_names, behind_rule, behind_taken, end_of, node_of, nodes-choice, nodes-scheduler}
use Rattle.koika_check.proofs.Surplus.{last_places, places-choice, places-scheduler}
use Rattle.koika_check.proofs.Telling.{holds-true}
use Rattle.koika_syntax.proofs.TreeParts.{Such}
use Rattle.koika_check.proofs.TypedParts.{gives-same, where-all}

-- ---- ways through nodes

-- the node of this number, if there is one, tries no rule of the path
abbrev NotOn : List Node → (path : List ℕ) → ℕ → Type 0
NotOn all path n = (node : Node) → slice_get all n ≡ Some node → is_on node.rule path ≡ false

-- each way from a node tries no rule twice, and none of the path
abbrev Ways : List Node → (path : List ℕ) → (from : ℕ) → Type 0
Ways all path from = (way : List ℕ) → IsPath all from way → AllPairs (TryOthers all) (from ∷ way) × All (NotOn all path) (from ∷ way)

and_off : (a b : Bool) → (a || b) ≡ false → (a ≡ false) × (b ≡ false)
and_off true b e = absurd cc
and_off false b e = (refl, e)

off_both : (rule other : ℕ) (path : List ℕ) → is_on other (path ++ rule ∷ []) ≡ false → (is_on other path ≡ false) × (other ≢ rule)
off_both rule other path e =
    let both = and_off (is_on other path) (nat_eq other rule || false) (sym (list_any-append (nat_eq other) path (rule ∷ [])) ∙ e) in
    let off = (and_off (nat_eq other rule) false both.1).0 in
    (both.0, λ same. false_true (sym off ∙ is_true other rule same))
  where
    false_true : false ≡ true → ⊥
    false_true e = cc

    is_true : (a b : ℕ) → a ≡ b → nat_eq a b ≡ true
    is_true a b e = grind arith

-- a node in front of ways that try none of the path and its rule
front : (all : List Node) (path : List ℕ) (k : ℕ) (node : Node) → slice_get all k ≡ Some node → is_on node.rule path ≡ false →
    ((to : ℕ) → (node.yes ≡ next.Node to) ⊎ (node.no ≡ next.Node to) → Ways all (path ++ node.rule ∷ []) to) → Ways all path k
front all path k node at off behind way is = by_way way is
  where
    here : NotOn all path k
    here m e = subst (λ (n : Node). is_on n.rule path ≡ false) (same_Some node m (sym at ∙ e)) off

    by_way : (way : List ℕ) → IsPath all k way → AllPairs (TryOthers all) (k ∷ way) × All (NotOn all path) (k ∷ way)
    by_way [] is = (AllPairs-cons (TryOthers all) k [] (λ i d lt. absurd (omega (arith, lt))) (λ i j d lt within. absurd (omega (arith, within))), All-cons (NotOn all path) k [] here (λ i d lt. absurd (omega (arith, lt))))
    by_way (to ∷ way) is =
        let leads = is.0 in
        let same : leads.0 ≡ node = same_Some leads.0 node (sym leads.1 ∙ at) in
        let rest = behind to (subst (λ (n : Node). (n.yes ≡ next.Node to) ⊎ (n.no ≡ next.Node to)) same leads.2) way is.1 in (
          AllPairs-cons (TryOthers all) k (to ∷ way) (λ i d lt m n em en eq.
              let is_node = same_Some node m (sym at ∙ em) in
              (off_both node.rule n.rule path (rest.1 i d lt n en)).1 (sym eq ∙ sym (ap (λ (x : Node). x.rule) is_node))) rest.0,
          All-cons (NotOn all path) k (to ∷ way) here (λ i d lt n en. (off_both node.rule n.rule path (rest.1 i d lt n en)).0),
        )

-- ---- nodes behind a path

-- the nodes stand in a longer list, the first of them at this number
abbrev Stand : List Node → (k : ℕ) → List Node → Type 0
Stand all k nodes = (i : ℕ) (node : Node) → slice_get nodes i ≡ Some node → slice_get all (k + i) ≡ Some node

-- nodes of which the first has this number: they are nodes, and ways from the first try none of the path
pub record AreFine (rules : ℕ) (path : List ℕ) (k : ℕ) (nodes : List Node) : Type 0 where
  pub each : (i : ℕ) (node : Node) → slice_get nodes i ≡ Some node → IsNode rules (k + length nodes) (k + i) node
  pub ways : (all : List Node) → Stand all k nodes → 0 < length nodes → Ways all path k

no_nodes : (rules : ℕ) (path : List ℕ) (k : ℕ) → AreFine rules path k []
no_nodes rules path k = record { each = λ i node e. absurd cc; ways = λ all stand some. absurd (omega (arith, some)) }

-- a continuation within wider bounds
wider : (high low high' low' : ℕ) (n : Next) → high ≤ high' → low' ≤ low → IsContinuation high low n → IsContinuation high' low' n
wider high low high' low' next.End h l is = tt
wider high low high' low' (next.Node to) h l is = (omega (arith, l, is.0), omega (arith, h, is.1))

wider_node : (rules high low high' low' : ℕ) (node : Node) → high ≤ high' → low' ≤ low → IsNode rules high low node → IsNode rules high' low' node
wider_node rules high low high' low' node h l is = record { rule = is.rule; yes = wider high low high' low' node.yes h l is.yes; no = wider high low high' low' node.no h l is.no }

-- the first of nodes is behind this one
first_within : (nodes : List Node) (number high low : ℕ) → low < number → number + length nodes ≤ high → IsContinuation high low (first_of nodes number)
first_within [] number high low l h = tt
first_within (node ∷ nodes) number high low l h = (l, omega (arith, h))

first_leads : (nodes : List Node) (number to : ℕ) → first_of nodes number ≡ next.Node to → (0 < length nodes) × (number ≡ to)
first_leads [] number to e = absurd cc
first_leads (node ∷ nodes) number to e = (omega arith, number_same number to e)
  where
    number_same : (a b : ℕ) → next.Node a ≡ next.Node b → a ≡ b
    number_same a b e = cc

found_in_append : {X : Type 0} (xs ys : List X) (i : ℕ) (x : X) → slice_get (xs ++ ys) i ≡ Some x → (slice_get xs i ≡ Some x) ⊎ ((j : ℕ) × (i ≡ length xs + j) × (slice_get ys j ≡ Some x))
found_in_append [] ys i x e = inr (i, omega arith, e)
found_in_append (z ∷ xs) ys zero x e = inl e
found_in_append (z ∷ xs) ys (suc i) x e = further (found_in_append xs ys i x e)
  where
    further : (slice_get xs i ≡ Some x) ⊎ ((j : ℕ) × (i ≡ length xs + j) × (slice_get ys j ≡ Some x)) → (slice_get xs i ≡ Some x) ⊎ ((j : ℕ) × (suc i ≡ suc (length xs) + j) × (slice_get ys j ≡ Some x))
    further (inl e) = inl e
    further (inr e) = inr (e.0, omega (arith, e.1), e.2)

in_front_part : {X : Type 0} (xs ys : List X) (i : ℕ) (x : X) → slice_get xs i ≡ Some x → slice_get (xs ++ ys) i ≡ Some x
in_front_part [] ys i x e = absurd cc
in_front_part (z ∷ xs) ys zero x e = e
in_front_part (z ∷ xs) ys (suc i) x e = in_front_part xs ys i x e

behind_part : {X : Type 0} (xs ys : List X) (i : ℕ) (x : X) → slice_get ys i ≡ Some x → slice_get (xs ++ ys) (length xs + i) ≡ Some x
behind_part [] ys i x e = let same : i ≡ 0 + i = omega arith in subst (λ k. slice_get ys k ≡ Some x) same e
behind_part (z ∷ xs) ys i x e = let same : suc (length xs + i) ≡ suc (length xs) + i = omega arith in subst (λ k. slice_get (z ∷ xs ++ ys) k ≡ Some x) same (behind_part xs ys i x e)

drop_seam : {X : Type 0} (xs ys : List X) → drop (length xs) (xs ++ ys) ≡ ys
drop_seam [] ys = refl
drop_seam (x ∷ xs) ys = drop_seam xs ys

-- a choice between nodes
choice_fine : (rules : ℕ) (path : List ℕ) (k rule : ℕ) (taken other : List Node) → rule < rules → is_on rule path ≡ false → AreFine rules (path ++ rule ∷ []) (k + 1) taken →
    AreFine rules (path ++ rule ∷ []) (k + 1 + length taken) other → AreFine rules path k (node_of k rule taken other ∷ taken ++ other)
choice_fine rules path k rule taken other lt off first second = record { each = each; ways = ways }
  where
    long : length (taken ++ other) ≡ length taken + length other
    long = length-append taken other

    each : (i : ℕ) (n : Node) → slice_get (node_of k rule taken other ∷ taken ++ other) i ≡ Some n → IsNode rules (k + length (node_of k rule taken other ∷ taken ++ other)) (k + i) n
    each zero n e = subst (IsNode rules (k + suc (length (taken ++ other))) (k + 0)) (same_Some (node_of k rule taken other) n e)
        (record {
          rule = lt;
          yes = first_within taken (k + 1) _ _ (omega arith) (omega (arith, long));
          no = first_within other (k + 1 + length taken) _ _ (omega arith) (omega (arith, long));
        })
    each (suc i) n e = by_part (found_in_append taken other i n e)
      where
        by_part : (slice_get taken i ≡ Some n) ⊎ ((j : ℕ) × (i ≡ length taken + j) × (slice_get other j ≡ Some n)) → IsNode rules (k + suc (length (taken ++ other))) (k + suc i) n
        by_part (inl e) = wider_node rules _ _ _ _ n (omega (arith, long)) (omega arith) (first.each i n e)
        by_part (inr e) = wider_node rules _ _ _ _ n (omega (arith, long)) (omega (arith, e.1)) (second.each e.0 n e.2)

    ways : (all : List Node) → Stand all k (node_of k rule taken other ∷ taken ++ other) → 0 < length (node_of k rule taken other ∷ taken ++ other) → Ways all path k
    ways all stand some = front all path k (node_of k rule taken other) (subst (λ n. slice_get all n ≡ Some (node_of k rule taken other)) (omega arith) (stand 0 (node_of k rule taken other) refl)) off leads
      where
        stand_first : Stand all (k + 1) taken
        stand_first i n e = subst (λ m. slice_get all m ≡ Some n) (omega arith) (stand (suc i) n (in_front_part taken other i n e))

        stand_second : Stand all (k + 1 + length taken) other
        stand_second i n e = subst (λ m. slice_get all m ≡ Some n) (omega arith) (stand (suc (length taken + i)) n (behind_part taken other i n e))

        leads : (to : ℕ) → (first_of taken (k + 1) ≡ next.Node to) ⊎ (first_of other (k + 1 + length taken) ≡ next.Node to) → Ways all (path ++ rule ∷ []) to
        leads to (inl e) = let it = first_leads taken (k + 1) to e in subst (Ways all (path ++ rule ∷ [])) it.1 (first.ways all stand_first it.0)
        leads to (inr e) = let it = first_leads other (k + 1 + length taken) to e in subst (Ways all (path ++ rule ∷ [])) it.1 (second.ways all stand_second it.0)

abbrev row_node : (k rule : ℕ) → List Node → Node
row_node k rule behind = record { rule = rule; yes = first_of behind (k + 1); no = first_of behind (k + 1) }

-- a node in front of nodes
front_fine : (rules : ℕ) (path : List ℕ) (k rule : ℕ) (behind : List Node) → rule < rules → is_on rule path ≡ false → AreFine rules (path ++ rule ∷ []) (k + 1) behind → AreFine rules path k (in_front k rule behind)
front_fine rules path k rule behind lt off h = record { each = each; ways = ways }
  where
    each : (i : ℕ) (n : Node) → slice_get (in_front k rule behind) i ≡ Some n → IsNode rules (k + length (in_front k rule behind)) (k + i) n
    each zero n e = subst (IsNode rules (k + suc (length behind)) (k + 0)) (same_Some (row_node k rule behind) n e)
        (record { rule = lt; yes = first_within behind (k + 1) _ _ (omega arith) (omega arith); no = first_within behind (k + 1) _ _ (omega arith) (omega arith) })
    each (suc i) n e = wider_node rules _ _ _ _ n (omega arith) (omega arith) (h.each i n e)

    ways : (all : List Node) → Stand all k (in_front k rule behind) → 0 < length (in_front k rule behind) → Ways all path k
    ways all stand some = front all path k (row_node k rule behind) (subst (λ n. slice_get all n ≡ Some (row_node k rule behind)) (omega arith) (stand 0 (row_node k rule behind) refl)) off leads
      where
        stand_behind : Stand all (k + 1) behind
        stand_behind i n e = subst (λ m. slice_get all m ≡ Some n) (omega arith) (stand (suc i) n e)

        ways_behind : (to : ℕ) → first_of behind (k + 1) ≡ next.Node to → Ways all (path ++ rule ∷ []) to
        ways_behind to e = let it = first_leads behind (k + 1) to e in subst (Ways all (path ++ rule ∷ [])) it.1 (h.ways all stand_behind it.0)

        leads : (to : ℕ) → (first_of behind (k + 1) ≡ next.Node to) ⊎ (first_of behind (k + 1) ≡ next.Node to) → Ways all (path ++ rule ∷ []) to
        leads to (inl e) = ways_behind to e
        leads to (inr e) = ways_behind to e

-- ---- names

-- a rule that may be tried behind a path
tried_is : (d : Checked) (path : List ℕ) (n : Name) (rule : ℕ) → tried d path n ≡ Gives rule → (rule < length d.rules) × (is_on rule path ≡ false)
tried_is d path n rule e =
    let number = bind-gives (found (number_named kind.Rule d n.text) (wrong UNKNOWN_NAME n.place)) (λ r. where_all (holds (not (is_on r path)) (wrong RULE_TWICE_ON_A_PATH n.place) ∷ []) r) rule e in
    let all = where-all (holds (not (is_on number.0 path)) (wrong RULE_TWICE_ON_A_PATH n.place) ∷ []) number.0 rule number.2 in
    let within = (number_of-within (map (λ (r : CheckedRule). r.name) d.rules) n.text number.0 (found-some (number_named kind.Rule d n.text) (wrong UNKNOWN_NAME n.place) number.0 number.1)).0 in
    subst (λ r. (r < length d.rules) × (is_on r path ≡ false)) all.0
    (omega (arith, within, length-map d.rules (λ (r : CheckedRule). r.name)), not-true (is_on number.0 path) (holds-true (not (is_on number.0 path)) (wrong RULE_TWICE_ON_A_PATH n.place) all.1.0))

-- rules in a row, in front of nodes behind the longer path
row_fine : (d : Checked) (names : List Name) (path behind : List ℕ) → path_behind d names path ≡ Gives behind →
    (more : List ℕ) × (behind ≡ path ++ more) × (length more ≡ length names) ×
    ((k : ℕ) (nodes : List Node) → AreFine (length d.rules) behind (k + length names) nodes → AreFine (length d.rules) path k (in_a_row k more nodes) × (length (in_a_row k more nodes) ≡ length names + length nodes))
row_fine d [] path behind e = (
  [],
  sym (gives-same path behind e) ∙ sym (append-nil path),
  refl,
  λ k nodes h.
      (subst (λ (p : List ℕ). AreFine (length d.rules) p k nodes) (sym (gives-same path behind e)) (subst (λ n. AreFine (length d.rules) behind n nodes) (omega arith) h), omega arith),
)
row_fine d (n ∷ names) path behind e =
    let first = bind-gives (longer d n path) (path_behind d names) behind e in
    let rule = bind-gives (tried d path n) (λ r. Gives (path ++ r ∷ [])) first.0 first.1 in
    let it = tried_is d path n rule.0 rule.1 in
    let same : path ++ rule.0 ∷ [] ≡ first.0 = gives-same (path ++ rule.0 ∷ []) first.0 rule.2 in
    let rest = row_fine d names first.0 behind first.2 in (
      rule.0 ∷ rest.0,
      rest.1 ∙ ap (λ p. p ++ rest.0) (sym same) ∙ append_assoc path (rule.0 ∷ []) rest.0,
      ap suc rest.2,
      λ k nodes h.
          let row = rest.3 (k + 1) nodes (subst (λ n. AreFine (length d.rules) behind n nodes) (omega arith) h) in (
            front_fine (length d.rules) path k rule.0 (in_a_row (k + 1) rest.0 nodes) it.0 it.1 (subst (λ (p : List ℕ). AreFine (length d.rules) p (k + 1) (in_a_row (k + 1) rest.0 nodes)) (sym same) row.0),
            omega (arith, row.1),
          ),
    )

-- ---- the cycle

abbrev FineChoice : Choice → Type 0
FineChoice c = (d : Checked) (path : List ℕ) (k : ℕ) (nodes : List Node) → choice_nodes c d path k ≡ Gives nodes → AreFine (length d.rules) path k nodes × (length nodes ≡ length (choice_places c))

abbrev FineScheduler : Scheduler → Type 0
FineScheduler s = (d : Checked) (path : List ℕ) (k : ℕ) (nodes : List Node) → scheduler_nodes s d path k ≡ Gives nodes → AreFine (length d.rules) path k nodes × (length nodes ≡ length (scheduler_places s))

abbrev LastFine : Option Choice → Type 0
LastFine last = IfSome last FineChoice

end_fine : (last : Option Choice) → LastFine last → (d : Checked) (path : List ℕ) (k : ℕ) (nodes : List Node) → at_the_end (end_of last) d path k ≡ Gives nodes →
    AreFine (length d.rules) path k nodes × (length nodes ≡ length (places_if (last_places last)))
end_fine None fine d path k nodes e = subst (λ ns. AreFine (length d.rules) path k ns × (length ns ≡ 0)) (gives-same [] nodes e) (no_nodes (length d.rules) path k, refl)
end_fine (Some choice) fine d path k nodes e = fine d path k nodes e

scheduler_is_fine : (s : Scheduler) → LastFine (out-Scheduler s).last → FineScheduler s
scheduler_is_fine s fine d path k nodes e =
    let names = (out-Scheduler s).rules in
    let last = (out-Scheduler s).last in
    let behind = bind-gives (path_behind d names path) (behind_names d path k names last) nodes (sym (nodes-scheduler s d path k) ∙ e) in
    let end = bind-gives (at_the_end (end_of last) d behind.0 (k + length names)) (λ ns. Gives (in_a_row k (drop (length path) behind.0) ns)) nodes behind.2 in
    let row = row_fine d names path behind.0 behind.1 in
    let fine_end = end_fine last fine d behind.0 (k + length names) end.0 end.1 in
    let all = row.3 k end.0 fine_end.0 in
    let more : drop (length path) behind.0 ≡ row.0 = ap (drop (length path)) row.1 ∙ drop_seam path row.0 in
    let made : in_a_row k row.0 end.0 ≡ nodes = ap (λ rs. in_a_row k rs end.0) (sym more) ∙ gives-same (in_a_row k (drop (length path) behind.0) end.0) nodes end.2 in
    let places : length (scheduler_places s) ≡ length names + length (places_if (last_places last)) =
    ap length (places-scheduler s) ∙ length-append (places_of names) (places_if (last_places last)) ∙ ap (λ n. n + length (places_if (last_places last))) (length-map names (λ (n : Name). n.place)) in
    subst (λ ns. AreFine (length d.rules) path k ns × (length ns ≡ length (scheduler_places s))) {x = in_a_row k row.0 end.0} made (all.0, omega (arith, all.1, fine_end.1, places))

choice_is_fine : (c : Choice) → FineScheduler (out-Choice c).then → FineScheduler (out-Choice c).otherwise → FineChoice c
choice_is_fine c then_fine otherwise_fine d path k nodes e =
    let rule = bind-gives (tried d path (out-Choice c).rule) (behind_rule d path k c) nodes (sym (nodes-choice c d path k) ∙ e) in
    let p = path ++ rule.0 ∷ [] in
    let taken = bind-gives (scheduler_nodes (out-Choice c).then d p (k + 1)) (behind_taken d path k (out-Choice c).otherwise rule.0) nodes rule.2 in
    let other = bind-gives (scheduler_nodes (out-Choice c).otherwise d p (k + 1 + length taken.0)) (λ ns. Gives (node_of k rule.0 taken.0 ns ∷ taken.0 ++ ns)) nodes taken.2 in
    let it = tried_is d path (out-Choice c).rule rule.0 rule.1 in
    let first = then_fine d p (k + 1) taken.0 taken.1 in
    let second = otherwise_fine d p (k + 1 + length taken.0) other.0 other.1 in
    let places : length (choice_places c) ≡ suc (length (scheduler_places (out-Choice c).then ++ scheduler_places (out-Choice c).otherwise)) = ap length (places-choice c) in
    subst (λ ns. AreFine (length d.rules) path k ns × (length ns ≡ length (choice_places c))) {x = node_of k rule.0 taken.0 other.0 ∷ taken.0 ++ other.0} (gives-same (node_of k rule.0 taken.0 other.0 ∷ taken.0 ++ other.0) nodes other.2) (
      choice_fine (length d.rules) path k rule.0 taken.0 other.0 it.0 it.1 first.0 second.0,
      omega (arith, places, first.1, second.1, length-append taken.0 other.0, length-append (scheduler_places (out-Choice c).then) (scheduler_places (out-Choice c).otherwise)),
    )

each_last : (y : Scheduler-F (Such FineChoice) (Such FineScheduler)) → LastFine (map-Scheduler (Such FineChoice) (Such FineScheduler) Choice Scheduler (λ e. e.0) (λ e. e.0) y).last
each_last y = of_parts y.rules y.last
  where
    of_parts : (rules : List Name) (last : Option (Such FineChoice)) → LastFine (map-Scheduler (Such FineChoice) (Such FineScheduler) Choice Scheduler (λ e. e.0) (λ e. e.0) (record { rules = rules; last = last })).last
    of_parts rules None = tt
    of_parts rules (Some b) = b.1

scheduler_of_layer : (x : Scheduler-F Choice Scheduler) (y : Scheduler-F (Such FineChoice) (Such FineScheduler)) → map-Scheduler (Such FineChoice) (Such FineScheduler) Choice Scheduler (λ e. e.0) (λ e. e.0) y ≡ x → FineScheduler (roll-Scheduler x)
scheduler_of_layer x y same =
    scheduler_is_fine (roll-Scheduler x) (subst (λ (x : Scheduler-F Choice Scheduler). LastFine x.last) (same ∙ sym (out-roll-Scheduler x)) (each_last y))

choice_of_layer : (x : Choice-F Choice Scheduler) (y : Choice-F (Such FineChoice) (Such FineScheduler)) → map-Choice (Such FineChoice) (Such FineScheduler) Choice Scheduler (λ e. e.0) (λ e. e.0) y ≡ x → FineChoice (roll-Choice x)
choice_of_layer x y same =
    choice_is_fine (roll-Choice x) (subst (λ (x : Choice-F Choice Scheduler). FineScheduler x.then) (same ∙ sym (out-roll-Choice x)) y.then.1)
    (subst (λ (x : Choice-F Choice Scheduler). FineScheduler x.otherwise) (same ∙ sym (out-roll-Choice x)) y.otherwise.1)

scheduler_fine : (s : Scheduler) → FineScheduler s
scheduler_fine = ind-Scheduler FineChoice FineScheduler choice_of_layer scheduler_of_layer

-- the nodes of a whole scheduler, as many as names of rules stand in it
pub nodes-fine : (s : Scheduler) (d : Checked) (nodes : List Node) → scheduler_nodes s d [] 0 ≡ Gives nodes →
    AreNodes (length d.rules) nodes × TriesNoneTwice nodes × (length nodes ≡ length (scheduler_places s))
nodes-fine s d nodes e =
    let it = scheduler_fine s d [] 0 nodes e in
    (λ number node at. wider_node (length d.rules) _ _ _ _ node (omega arith) (omega arith) (it.0.each number node at), once nodes it.0, it.1)
  where
    stand_alone : (nodes : List Node) → Stand nodes 0 nodes
    stand_alone nodes i node at = subst (λ m. slice_get nodes m ≡ Some node) (omega arith) at

    some_node : (nodes : List Node) (way : List ℕ) → IsPath nodes 0 way → 0 < length nodes
    some_node nodes [] is = is
    some_node nodes (to ∷ way) is = slice_get_within nodes 0 is.0.0 is.0.1

    once : (nodes : List Node) → AreFine (length d.rules) [] 0 nodes → TriesNoneTwice nodes
    once nodes fine way is = (fine.ways nodes (stand_alone nodes) (some_node nodes way is) way is).0
