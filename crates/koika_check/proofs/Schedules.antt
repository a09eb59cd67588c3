-- The nodes of schedulers, and the paths to them.
use Rattle.std.proofs.Common.{◌≡◌, ℕ, suc, ◌+◌, ◌<◌, Bool, true, false, not, List, [], ◌∷◌, ◌++◌, length, drop, take, set, get_or, Option, Some, None, refl, ap, ap₂, sym, ◌∙◌, append_assoc, append-nil, arith, nat_eq, nat_lt, ◌&&◌, length-append}
use Rattle.std.specs.Option.{option_map}
use Rattle.std.specs.Prelude.{is_none, is_some}
use Rattle.std.proofs.Math.Seq.{drop-cons, set-append_seam, take-append_seam}
use Rattle.std.proofs.lemmas.Bool.{eqb-true, eqb-false}
use Rattle.std.proofs.lemmas.List.{drop_all}
use Rattle.koika_syntax.specs.declared.tree.Choice.{Choice, out-Choice, fold_out-Choice}
use Rattle.koika_syntax.specs.declared.tree.Name.{Name}
use Rattle.koika_syntax.specs.declared.tree.Scheduler.{Scheduler, out-Scheduler, roll-Scheduler, roll-out-Scheduler, fold-roll-Scheduler}
use Rattle.kw_base.specs.declared.fault_number.TheConstants.{RULE_TWICE_ON_A_PATH, UNKNOWN_NAME}
use Rattle.typed_core.specs.declared.design.Next.{Next}
use Rattle.typed_core.specs.declared.design.Node.{Node}
use Rattle.koika_check.specs.Outcomes.{Gives, CheckResult, ◌>>=◌, found, holds, where_all, wrong}
use Rattle.koika_check.specs.inner.Paths.{is_end, next_at}
use Rattle.koika_check.specs.Schedule.{Nodes, at_the_end, nodes_of_choice, first_of, in_a_row, is_on, longer, path_behind, scheduler_nodes, nodes_of_scheduler, tried}
use Rattle.koika_check.specs.inner.Schedule.{choice_nodes}
use Rattle.koika_check.specs.declared.checked.Checked.{Checked}
use Rattle.koika_check.specs.Kinds.{number_named}
use Rattle.koika_check.specs.declared.things.Kind.TheVariants as kind
use Rattle.koika_check.proofs.Answering.{bind-gives, next-drop}

-- ---- schedulers by their parts

abbrev pub end_of : Option Choice → Option Nodes
end_of last = option_map choice_nodes last

-- what comes behind the path behind a scheduler's names
abbrev pub behind_names : Checked → (path : List ℕ) → (number : ℕ) → List Name → Option Choice → List ℕ → CheckResult (List Node)
behind_names d path number rules last behind = at_the_end (end_of last) d behind (number + length rules) >>= λ nodes. Gives (in_a_row number (drop (length path) behind) nodes)

scheduler_at : (rules : List Name) (last : Option Choice) (d : Checked) (path : List ℕ) (number : ℕ) →
    scheduler_nodes (roll-Scheduler (record { rules = rules; last = last })) d path number ≡ (path_behind d rules path >>= behind_names d path number rules last)
unfolding scheduler_nodes choice_nodes
scheduler_at rules None d path number = ap (λ (m : Nodes). m d path number) (fold-roll-Scheduler Nodes Nodes nodes_of_choice nodes_of_scheduler (record { rules = rules; last = None }))
scheduler_at rules (Some choice) d path number = ap (λ (m : Nodes). m d path number) (fold-roll-Scheduler Nodes Nodes nodes_of_choice nodes_of_scheduler (record { rules = rules; last = Some choice }))

pub nodes-scheduler : (s : Scheduler) (d : Checked) (path : List ℕ) (number : ℕ) →
    scheduler_nodes s d path number ≡ (path_behind d (out-Scheduler s).rules path >>= behind_names d path number (out-Scheduler s).rules (out-Scheduler s).last)
nodes-scheduler s d path number = ap (λ t. scheduler_nodes t d path number) (sym (roll-out-Scheduler s)) ∙ scheduler_at (out-Scheduler s).rules (out-Scheduler s).last d path number

-- a choice's node, and what comes behind its rule and behind its first nodes
abbrev pub node_of : (number rule : ℕ) → (taken other : List Node) → Node
node_of number rule taken other = record { rule = rule; yes = first_of taken (number + 1); no = first_of other (number + 1 + length taken) }

abbrev pub behind_taken : Checked → (path : List ℕ) → (number : ℕ) → Scheduler → (rule : ℕ) → List Node → CheckResult (List Node)
behind_taken d path number otherwise rule taken =
    scheduler_nodes otherwise d (path ++ rule ∷ []) (number + 1 + length taken) >>= λ other. Gives (node_of number rule taken other ∷ taken ++ other)

abbrev pub behind_rule : Checked → (path : List ℕ) → (number : ℕ) → Choice → (rule : ℕ) → CheckResult (List Node)
behind_rule d path number c rule = scheduler_nodes (out-Choice c).then d (path ++ rule ∷ []) (number + 1) >>= behind_taken d path number (out-Choice c).otherwise rule

pub nodes-choice : (c : Choice) (d : Checked) (path : List ℕ) (number : ℕ) → choice_nodes c d path number ≡ (tried d path (out-Choice c).rule >>= behind_rule d path number c)
unfolding scheduler_nodes choice_nodes
nodes-choice c d path number = ap (λ (m : Nodes). m d path number) (fold_out-Choice Nodes Nodes nodes_of_choice nodes_of_scheduler c)

-- a scheduler, as far as its names are on the path, and as far as the nodes at its end are made
pub scheduler-names : (s : Scheduler) (d : Checked) (path : List ℕ) (number : ℕ) (names : List Name) → names ≡ (out-Scheduler s).rules →
    scheduler_nodes s d path number ≡ (path_behind d names path >>= behind_names d path number names (out-Scheduler s).last)
scheduler-names s d path number names e = nodes-scheduler s d path number ∙ ap (λ ns. path_behind d ns path >>= behind_names d path number ns (out-Scheduler s).last) (sym e)

pub scheduler-last : (s : Scheduler) (d : Checked) (path : List ℕ) (number : ℕ) (names : List Name) (behind path' : List ℕ) (number' : ℕ) → names ≡ (out-Scheduler s).rules → path_behind d names path ≡ Gives behind →
    path' ≡ behind → number' ≡ number + length names →
    scheduler_nodes s d path number ≡ (at_the_end (end_of (out-Scheduler s).last) d path' number' >>= λ nodes. Gives (in_a_row number (drop (length path) path') nodes))
scheduler-last s d path number names behind path' number' e gives pe ne =
    scheduler-names s d path number names e ∙ ap (λ o. o >>= behind_names d path number names (out-Scheduler s).last) gives
    ∙ ap₂ (λ p n. at_the_end (end_of (out-Scheduler s).last) d p n >>= λ nodes. Gives (in_a_row number (drop (length path) p) nodes)) (sym pe) (sym ne)

-- a choice, as far as its rule is on the path, and as far as its first and its second nodes are made
pub choice-then : (c : Choice) (d : Checked) (path : List ℕ) (number rule : ℕ) (path' : List ℕ) (number' : ℕ) → tried d path (out-Choice c).rule ≡ Gives rule → path' ≡ path ++ rule ∷ [] → number' ≡ number + 1 →
    choice_nodes c d path number ≡ (scheduler_nodes (out-Choice c).then d path' number' >>= behind_taken d path number (out-Choice c).otherwise rule)
choice-then c d path number rule path' number' gives pe ne =
    nodes-choice c d path number ∙ ap (λ o. o >>= behind_rule d path number c) gives
    ∙ ap₂ (λ p n. scheduler_nodes (out-Choice c).then d p n >>= behind_taken d path number (out-Choice c).otherwise rule) (sym pe) (sym ne)

pub choice-otherwise : (c : Choice) (d : Checked) (path : List ℕ) (number rule : ℕ) (path' : List ℕ) (number' : ℕ) (taken : List Node) (path'' : List ℕ) (number'' : ℕ) → tried d path (out-Choice c).rule ≡ Gives rule → path' ≡ path ++ rule ∷ [] → number' ≡ number + 1 →
    scheduler_nodes (out-Choice c).then d path' number' ≡ Gives taken → path'' ≡ path' → number'' ≡ number' + length taken →
    choice_nodes c d path number ≡ (scheduler_nodes (out-Choice c).otherwise d path'' number'' >>= λ other. Gives (node_of number rule taken other ∷ taken ++ other))
choice-otherwise c d path number rule path' number' taken path'' number'' gives pe ne then_gives pe' ne' =
    choice-then c d path number rule path' number' gives pe ne ∙ ap (λ o. o >>= behind_taken d path number (out-Choice c).otherwise rule) then_gives
    ∙ ap₂ (λ p n. scheduler_nodes (out-Choice c).otherwise d p n >>= λ other. Gives (node_of number rule taken other ∷ taken ++ other)) (sym (pe' ∙ pe)) (sym (ne' ∙ ap (λ n. n + length taken) ne))

-- ---- whether there are nodes

choice-some : (c : Choice) (d : Checked) (path : List ℕ) (number : ℕ) (nodes : List Node) → choice_nodes c d path number ≡ Gives nodes → is_end nodes ≡ false
choice-some c d path number nodes e =
    let rule = bind-gives (tried d path (out-Choice c).rule) (behind_rule d path number c) nodes (sym (nodes-choice c d path number) ∙ e) in
    let taken = bind-gives (scheduler_nodes (out-Choice c).then d (path ++ rule.0 ∷ []) (number + 1)) (behind_taken d path number (out-Choice c).otherwise rule.0) nodes rule.2 in
    let other = bind-gives (scheduler_nodes (out-Choice c).otherwise d (path ++ rule.0 ∷ []) (number + 1 + length taken.0)) (λ ns. Gives (node_of number rule.0 taken.0 ns ∷ taken.0 ++ ns)) nodes taken.2 in
    not_end (node_of number rule.0 taken.0 other.0) (taken.0 ++ other.0) nodes other.2
  where
    not_end : (node : Node) (rest nodes : List Node) → ◌≡◌ {A = CheckResult (List Node)} (Gives (node ∷ rest)) (Gives nodes) → is_end nodes ≡ false
    not_end node rest nodes e = sym (ap is_end (same (node ∷ rest) nodes e))
      where
        same : (a b : List Node) → ◌≡◌ {A = CheckResult (List Node)} (Gives a) (Gives b) → a ≡ b
        same a b e = cc

-- nodes stand at the end of a scheduler where a choice does
end-is : (last : Option Choice) (d : Checked) (path : List ℕ) (number : ℕ) (nodes : List Node) → at_the_end (end_of last) d path number ≡ Gives nodes → is_end nodes ≡ is_none last
end-is None d path number nodes e = ap is_end (sym (same [] nodes e))
  where
    same : (a b : List Node) → ◌≡◌ {A = CheckResult (List Node)} (Gives a) (Gives b) → a ≡ b
    same a b e = cc
end-is (Some choice) d path number nodes e = choice-some choice d path number nodes e

pub end-known : (last : Option Choice) (d : Checked) (path : List ℕ) (number : ℕ) (nodes : List Node) (b : Bool) → at_the_end (end_of last) d path number ≡ Gives nodes → not b ≡ is_some last → is_end nodes ≡ b
end-known last d path number nodes b e f = end-is last d path number nodes e ∙ none_is last b f
  where
    none_is : (o : Option Choice) (b : Bool) → not b ≡ is_some o → is_none o ≡ b
    none_is None true f = refl
    none_is None false f = absurd cc
    none_is (Some c) true f = absurd cc
    none_is (Some c) false f = refl

pub first-is : (nodes : List Node) (number : ℕ) → first_of nodes number ≡ next_at (not (is_end nodes)) number
first-is [] number = refl
first-is (node ∷ nodes) number = refl

pub end-length : (nodes : List Node) (number : ℕ) → nat_lt number (number + length nodes) ≡ not (is_end nodes)
end-length [] number = grind arith
end-length (node ∷ nodes) number = grind arith

-- ---- rules in a row

-- nothing stands behind a rule that is the last of them, where nothing stands behind them
pub row-end : (number : ℕ) (rules : List ℕ) (i : ℕ) (behind : List Node) → i < length rules → is_end (in_a_row number (drop (i + 1) rules) behind) ≡ (is_end behind && nat_eq (i + 1) (length rules))
row-end number rules i behind lt = by_test (nat_eq (i + 1) (length rules)) refl
  where
    and_true : (b : Bool) → b ≡ (b && true)
    and_true true = refl
    and_true false = refl

    and_false : (b : Bool) → false ≡ (b && false)
    and_false true = refl
    and_false false = refl

    by_test : (t : Bool) → nat_eq (i + 1) (length rules) ≡ t → is_end (in_a_row number (drop (i + 1) rules) behind) ≡ (is_end behind && t)
    by_test true t = ap (λ rs. is_end (in_a_row number rs behind)) (drop_all (i + 1) rules (omega (arith, eqb-true (i + 1) (length rules) t))) ∙ and_true (is_end behind)
    by_test false t =
        let within : i + 1 < length rules = omega (arith, lt, eqb-false (i + 1) (length rules) t) in
        ap (λ rs. is_end (in_a_row number rs behind)) (drop-cons rules (i + 1) 0 within) ∙ and_false (is_end behind)

-- one more node in front of the rest of a row
pub row-more : (made start : List Node) (rules : List ℕ) (i rule : ℕ) (n : Next) (behind : List Node) → i < length rules → rule ≡ get_or rules i 0 →
    n ≡ next_at (not (is_end behind && nat_eq (i + 1) (length rules))) (length made + 1) →
    made ++ in_a_row (length made) (drop i rules) behind ≡ start ++ in_a_row (length start) rules behind →
    (made ++ record { rule = rule; yes = n; no = n } ∷ []) ++ in_a_row (length (made ++ record { rule = rule; yes = n; no = n } ∷ [])) (drop (i + 1) rules) behind ≡ start ++ in_a_row (length start) rules behind
row-more made start rules i rule n behind lt item next_is before =
    let node : Node = record { rule = rule; yes = n; no = n } in
    let rest = in_a_row (length made + 1) (drop (i + 1) rules) behind in
    let here : n ≡ first_of rest (length made + 1) = next_is ∙ ap (λ b. next_at (not b) (length made + 1)) (sym (row-end (length made + 1) rules i behind lt)) ∙ sym (first-is rest (length made + 1)) in
    append_assoc made (node ∷ []) (in_a_row (length (made ++ node ∷ [])) (drop (i + 1) rules) behind)
    ∙ ap (λ k. made ++ node ∷ in_a_row k (drop (i + 1) rules) behind) (length-append made (node ∷ []))
    ∙ ap (λ m. made ++ (let one : Node = record { rule = rule; yes = m; no = m } in one) ∷ rest) here
    ∙ ap (λ rs. made ++ in_a_row (length made) rs behind) (sym (next-drop rules i 0 rule lt item))
    ∙ before

-- ---- paths

-- names put rules at the end of a path, as many as there are
pub path-more : (d : Checked) (names : List Name) (path behind : List ℕ) → path_behind d names path ≡ Gives behind → (more : List ℕ) × (behind ≡ path ++ more) × (length more ≡ length names)
path-more d [] path behind e = ([], sym (same path behind e) ∙ sym (append-nil path), refl)
  where
    same : (a b : List ℕ) → ◌≡◌ {A = CheckResult (List ℕ)} (Gives a) (Gives b) → a ≡ b
    same a b e = cc
path-more d (n ∷ names) path behind e =
    let first = bind-gives (longer d n path) (path_behind d names) behind e in
    let rule = bind-gives (tried d path n) (λ r. Gives (path ++ r ∷ [])) first.0 first.1 in
    let rest = path-more d names first.0 behind first.2 in
    (rule.0 ∷ rest.0, rest.1 ∙ ap (λ p. p ++ rest.0) (sym (same (path ++ rule.0 ∷ []) first.0 rule.2)) ∙ append_assoc path (rule.0 ∷ []) rest.0, ap suc rest.2)
  where
    same : (a b : List ℕ) → ◌≡◌ {A = CheckResult (List ℕ)} (Gives a) (Gives b) → a ≡ b
    same a b e = cc

-- a name of a rule, by whether the rule is on the path
pub tried-is : (d : Checked) (path : List ℕ) (n : Name) (rule : ℕ) (on : Bool) → number_named kind.Rule d n.text ≡ Some rule → is_on rule path ≡ on →
    tried d path n ≡ where_all (holds (not on) (wrong RULE_TWICE_ON_A_PATH n.place) ∷ []) rule
tried-is d path n rule on e h =
    ap (λ o. found o (wrong UNKNOWN_NAME n.place) >>= λ r. where_all (holds (not (is_on r path)) (wrong RULE_TWICE_ON_A_PATH n.place) ∷ []) r) e
    ∙ ap (λ b. where_all (holds (not b) (wrong RULE_TWICE_ON_A_PATH n.place) ∷ []) rule) h

-- where a node goes on, by the counts of nodes before and behind those that it goes on to
pub next-first : (n : Next) (nodes : List Node) (first middle number : ℕ) → n ≡ next_at (nat_lt first middle) first → first ≡ number → middle ≡ number + length nodes → n ≡ first_of nodes number
next-first n nodes first middle number is fe me =
    is ∙ ap₂ (λ f m. next_at (nat_lt f m) f) fe me ∙ ap (λ b. next_at b number) (end-length nodes number) ∙ sym (first-is nodes number)

-- a node that is put in its place behind the others
pub choice-made : (made m0 m1 m2 m3 : List Node) (blank node : Node) (taken other : List Node) (k : ℕ) → m0 ≡ made ++ blank ∷ [] → m1 ≡ m0 ++ taken → m2 ≡ m1 ++ other → k ≡ length made → m3 ≡ set m2 k node → m3 ≡ made ++ (node ∷ taken ++ other)
choice-made made m0 m1 m2 m3 blank node taken other k e0 e1 e2 ek e3 =
    e3 ∙ ap₂ (λ m i. set m i node) (e2 ∙ ap (λ m. m ++ other) (e1 ∙ ap (λ m. m ++ taken) e0 ∙ append_assoc made (blank ∷ []) taken) ∙ append_assoc made (blank ∷ taken) other) ek
    ∙ set-append_seam made blank (taken ++ other) node

-- the rules before those of names
pub path-before : (d : Checked) (names : List Name) (path behind : List ℕ) → path_behind d names path ≡ Gives behind → take (length path) behind ≡ path
path-before d names path behind e = let more = path-more d names path behind e in ap (take (length path)) more.1 ∙ take-append_seam path more.0
