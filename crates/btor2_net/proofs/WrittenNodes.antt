-- The nodes of a circuit on its page.
use Rattle.std.proofs.Common.{◌≡◌, ℕ, suc, ◌+◌, ◌<◌, ◌≤◌, ◌⊎◌, inl, inr, nat_eq, nat_le, Bool, true, false, ◌&&◌, cond, List, [], ◌∷◌, ◌++◌, None, Some, length, get_or, take, refl, sym, ap, ap₂, ◌∙◌, subst, arith, append-nil, length-append}
use Rattle.std.specs.Prelude.{slice_get}
use Rattle.std.proofs.lemmas.Bool.{cases_lt, eq-eqb, le-leb, lt-ltb}
use Rattle.std.proofs.lemmas.List.{get_or-take, get_or_append_left, get_or_at, length-take-le}
use Rattle.std.proofs.lemmas.Option.{get_or_from_slice_get, slice_get_within}
use Rattle.kw_bits.specs.BitVector.{BitVector}
use Rattle.kw_bits.specs.Operators as vector
use Rattle.net_graph.specs.Nets.{HoldsBits, IsNet, Stands, op_width, width_at, widths_of}
use Rattle.net_graph.specs.Operators.{TakesTwo, ite_value, one_value, sext_value, two_value, uext_value}
use Rattle.net_graph.specs.Values.{AllRead, Reads, Sources, node_value, op_value, values_of}
use Rattle.net_graph.specs.declared.node.NetOne.{NetOne}
use Rattle.net_graph.specs.declared.node.NetOp.{NetOp}
use Rattle.net_graph.specs.declared.node.NetOp.TheVariants.{Const, Input, State, One, Two, Slice, Uext, Sext, Ite}
use Rattle.net_graph.specs.declared.node.NetTwo.{NetTwo}
use Rattle.net_graph.proofs.OneByOne.{length-one_by_one}
use Rattle.net_graph.proofs.NodeWidths.{widths_of-Wide}
use Rattle.net_graph.proofs.Standing.{stands_at}
use Rattle.btor2_text.specs.declared.keyword.Keyword.{Keyword}
use Rattle.btor2_text.specs.declared.keyword.Keyword.TheVariants as keywords
use Rattle.btor2_text.specs.declared.kind.ArgumentKind.TheVariants as kinds
use Rattle.btor2_text.specs.declared.line.Argument.TheVariants as arguments
use Rattle.btor2_text.specs.declared.line.Line.{Line}
use Rattle.btor2_model.specs.Rules.{is_init, role_of, rule_of, width_given}
use Rattle.btor2_model.specs.Run.{StepValues, Values, extended, lines_by_rule, operator_value, value_by, values_at}
use Rattle.btor2_model.specs.Scope.{DeclaredIds, value_width, width_wanted}
use Rattle.btor2_model.specs.inner.SlowRun.{computes}
use Rattle.btor2_model.specs.declared.rule.Measures.{Measures}
use Rattle.btor2_model.specs.declared.rule.FormRule.{FormRule}
use Rattle.btor2_model.specs.declared.rule.FormRule.TheVariants as forms
use Rattle.btor2_net.specs.Pages.{Draft, Page, arguments_of, id_in, id_of_line, keyword_of_one, keyword_of_two, line_on, sort_id, with_node, with_node_line, with_nodes, with_sort}
use Rattle.btor2_net.specs.inner.Values.{AreGiven}
use Rattle.btor2_net.proofs.Adding.{Asked, scope_of}
use Rattle.btor2_net.proofs.Asking.{Agrees, asked-four, asked-three, asked-two, four, number-given, sort-given, value-given}
use Rattle.btor2_net.proofs.Growth.{node-follows}
use Rattle.net_graph.proofs.NodeWidths.{node_width}
use Rattle.btor2_net.proofs.Keeping.{Good, Keeps, Names, keeps-all, keeps-both, names-keep, value-keep}
use Rattle.btor2_net.proofs.OperatorKeywords.{Computes, chosen-computes, extended-computes, one-keyword, sliced-computes, two-keyword}
use Rattle.btor2_net.proofs.WrittenLines.{HasLine, has-line}
use Rattle.btor2_net.proofs.WrittenSorts.{HasSort, Quiet, has-constant, has-sort}

-- a rule that computes has a value of its first measure, which is its operator's
computed-width : (rule : FormRule) (m : Measures) → computes rule ≡ true → value_width (role_of rule) (width_given rule m) ≡ Some m.first
computed-width forms.Sort m computed = absurd (cc)
computed-width forms.Input m computed = absurd (cc)
computed-width forms.State m computed = absurd (cc)
computed-width forms.Init m computed = absurd (cc)
computed-width forms.Next m computed = absurd (cc)
computed-width forms.Output m computed = absurd (cc)
computed-width forms.Bad m computed = absurd (cc)
computed-width other m computed = refl

computed-value : (rule : FormRule) (step : StepValues) (scope : DeclaredIds) (values : Values) (line : Line) → computes rule ≡ true → value_by rule step scope values line ≡ operator_value scope values line.keyword line.arguments
computed-value forms.Input step scope values line computed = absurd (cc)
computed-value forms.State step scope values line computed = absurd (cc)
computed-value other step scope values line computed = refl

no-init : (rule : FormRule) → computes rule ≡ true → is_init rule ≡ true → ⊥
no-init forms.Init computed is = cc
no-init other computed is = cc

module _ (net : List NetOp) (is_net : IsNet net) (inputs states : List ℕ) where
  abbrev ws : List ℕ
  ws = widths_of net

  -- the id is that of a value that has the width and the values of a node
  pub record IsNodeOn (p : Page) (id node : ℕ) : Type 0 where
    pub named : Names kinds.Value p id (width_at ws node)
    pub value : (step : StepValues) (s : Sources) → AreGiven inputs step.inputs s.inputs → AreGiven states step.states s.states → values_at p.lines step id ≡ node_value s net node

  pub node-stays : (p q : Page) (id node : ℕ) → Keeps p q → IsNodeOn p id node → IsNodeOn q id node
  node-stays p q id node keeps on = record {
    named = names-keep kinds.Value p q id (width_at ws node) keeps on.named;
    value = λ step s by_inputs by_states. value-keep kinds.Value p q step id (width_at ws node) keeps on.named ∙ on.value step s by_inputs by_states;
  }

  -- the first nodes have their ids
  abbrev AreNodesOn : Page → List ℕ → Type 0
  AreNodesOn p ids = (node : ℕ) → node < length ids → IsNodeOn p (id_in ids node) node

  nodes-push : (p q : Page) (ids : List ℕ) (id : ℕ) → Keeps p q → AreNodesOn p ids → IsNodeOn q id (length ids) → AreNodesOn q (ids ++ id ∷ [])
  nodes-push p q ids id keeps all own node within = by (cases_lt node (length ids))
    where
      by : (node < length ids) ⊎ (length ids ≤ node) → IsNodeOn q (id_in (ids ++ id ∷ []) node) node
      by (inl before) = subst (λ (k : ℕ). IsNodeOn q k node) (sym (get_or_append_left ids (id ∷ []) 0 node before)) (node-stays p q (id_in ids node) node keeps (all node before))
      by (inr behind) =
          let here : length ids ≡ node = omega (arith, within, behind, length-append ids (id ∷ [])) in
          subst (λ (n : ℕ). IsNodeOn q (id_in (ids ++ id ∷ []) n) n) here (subst (λ (k : ℕ). IsNodeOn q k (length ids)) (sym (get_or_at ids id [] 0 (length ids) refl)) own)

  -- a draft with one more node
  pub record HasNode (d next : Draft) : Type 0 where
    pub good : Good next.page
    pub keeps : Keeps d.page next.page
    pub same : (test : FormRule → Bool) → Quiet test → lines_by_rule test next.page.lines ≡ lines_by_rule test d.page.lines
    pub id : ℕ
    pub ids : next.ids ≡ d.ids ++ id ∷ []
    pub node : IsNodeOn next.page id (length d.ids)

  module _ (d : Draft) (op : NetOp) (g : Good d.page) (all : AreNodesOn d.page d.ids) (at : slice_get net (length d.ids) ≡ Some op) where
    abbrev k : ℕ
    k = length d.ids

    abbrev w : ℕ
    w = width_at ws k

    abbrev one : Page
    one = with_sort d.page w

    abbrev sort : ℕ
    sort = sort_id one w

    inside : k < length net
    inside = slice_get_within net k op at

    count : length ws ≡ length net
    count = omega (arith, length-one_by_one op_width [] net)

    wide : (1 ≤ w) × (w ≤ 128)
    wide = widths_of-Wide net is_net k 0 (omega (arith, inside, count))

    h : HasSort d.page one w
    h = has-sort d.page w g wide.0 wide.1

    width-is : w ≡ op_width ws op
    width-is = node_width net k op is_net at

    here : get_or net k op ≡ op
    here = get_or_from_slice_get net k op op at

    stands : Stands (take k ws) op
    stands = subst (Stands (take k ws)) here (stands_at net k op inside is_net.stand)

    few : length (take k ws) ≡ k
    few = omega (arith, length-take-le k ws (omega (arith, inside, count)))

    taken : (a : ℕ) → a < k → width_at (take k ws) a ≡ width_at ws a
    taken a before = get_or-take k ws a 0 before

    -- an operand on the page with the sort
    operand : (a : ℕ) → a < k → IsNodeOn one (id_in d.ids a) a
    operand a before = node-stays d.page one (id_in d.ids a) a h.keeps (all a before)

    sort-named : Names kinds.Sort one sort w
    sort-named = ap (width_wanted kinds.Sort) h.sort

    -- a node that is a line
    line-node : (keyword : Keyword) (ids numbers : List ℕ) (rule : FormRule) (m : Measures) → Computes rule → m.first ≡ w → rule_of keyword ≡ rule → Asked one rule keyword (arguments_of sort ids numbers) m
        → ((step : StepValues) (s : Sources) → AreGiven inputs step.inputs s.inputs → AreGiven states step.states s.states
        → operator_value (scope_of one) (values_at one.lines step) keyword (arguments_of sort ids numbers) ≡ op_value s (values_of s net) op)
        → HasNode d (with_node_line d w keyword ids numbers)
    line-node keyword ids numbers rule m is first of asked value =
        let line : Line = line_on one keyword (arguments_of sort ids numbers) None in
        let next : Draft = with_node_line d w keyword ids numbers in
        let l : HasLine d.page one next.page w line rule m = has-line d.page w keyword ids numbers None rule m g wide.0 wide.1 (λ sorted. asked) tt (λ init. absurd (no-init rule is.computed init)) in
        record {
          good = l.good;
          keeps = l.keeps;
          same = λ test quiet. l.picked test ∙ ap (λ (b : Bool). lines_by_rule test one.lines ++ cond b (line ∷ []) []) (is.quiet test quiet) ∙ append-nil (lines_by_rule test one.lines) ∙ h.same test quiet.sort;
          id = line.id;
          ids = refl;
          node = record {
            named = ap (width_wanted kinds.Value) l.means ∙ computed-width rule m is.computed ∙ ap Some first;
            value = λ step s by_inputs by_states. l.value step ∙ computed-value rule step (scope_of one) (values_at one.lines step) line is.computed ∙ value step s by_inputs by_states
                ∙ sym (node-follows s net k op is_net at);
          };
        }

    -- and one that isn't
    there-node : (id : ℕ) → Names kinds.Value d.page id w
        → ((step : StepValues) (s : Sources) → AreGiven inputs step.inputs s.inputs → AreGiven states step.states s.states → values_at d.page.lines step id ≡ op_value s (values_of s net) op)
        → HasNode d (record { page = d.page; ids = d.ids ++ id ∷ [] })
    there-node id named value = record {
      good = g;
      keeps = keeps-all d.page;
      same = λ test quiet. refl;
      id = id;
      ids = refl;
      node = record { named = named; value = λ step s by_inputs by_states. value step s by_inputs by_states ∙ sym (node-follows s net k op is_net at) };
    }

  const-node : (d : Draft) (value : BitVector) → Good d.page → AreNodesOn d.page d.ids → slice_get net (length d.ids) ≡ Some (Const value) → HasNode d (with_node inputs states d (width_at ws (length d.ids)) (Const value))
  const-node d value g all at =
      let k = length d.ids in
      let bits : HoldsBits (Const value) = subst HoldsBits (here d (Const value) g all at) (is_net.constants k (Const value) (inside d (Const value) g all at)) in
      let c = has-constant d.page value g bits in
      record {
        good = c.good;
        keeps = c.keeps;
        same = λ test quiet. c.same test quiet.sort quiet.numeral;
        id = id_of_line d.page value.width;
        ids = refl;
        node = record {
          named = ap (width_wanted kinds.Value) c.means ∙ ap Some (sym (width-is d (Const value) g all at));
          value = λ step s by_inputs by_states. c.gives step ∙ sym (node-follows s net k (Const value) is_net at);
        };
      }

  one-node : (d : Draft) (operator : NetOne) (a : ℕ) → Good d.page → AreNodesOn d.page d.ids → slice_get net (length d.ids) ≡ Some (One operator a)
      → HasNode d (with_node inputs states d (width_at ws (length d.ids)) (One operator a))
  one-node d operator a g all at =
      let op = One operator a in
      let w = width_at ws (length d.ids) in
      let page = with_sort d.page w in
      let sort = sort_id page w in
      let before : a < length d.ids = omega (arith, stands d op g all at, few d op g all at) in
      let x = operand d op g all at a before in
      let v = width_at ws a in
      let key = one-keyword operator in
      let sound = (h d op g all at).good.sound in
      line-node d op g all at (keyword_of_one operator) (id_in d.ids a ∷ []) [] key.rule (four w v 0 0) key.computes refl key.of
      (asked-two page key.rule (keyword_of_one operator) key.of kinds.Sort kinds.Value (arguments.Id sort) (arguments.Id (id_in d.ids a)) w v key.form (sort-given page sort w sound (sort-named d op g all at))
      (value-given page (id_in d.ids a) v sound x.named) (key.computes.plain page (arguments_of sort (id_in d.ids a ∷ []) [])) (subst (λ (y : ℕ). Agrees key.rule (four y v 0 0)) (sym (width-is d op g all at)) (key.agrees v)))
      (λ step s by_inputs by_states. key.value (values_at page.lines step (id_in d.ids a)) ∙ ap (one_value operator) (x.value step s by_inputs by_states))

  two-node : (d : Draft) (operator : NetTwo) (a b : ℕ) → Good d.page → AreNodesOn d.page d.ids → slice_get net (length d.ids) ≡ Some (Two operator a b)
      → HasNode d (with_node inputs states d (width_at ws (length d.ids)) (Two operator a b))
  two-node d operator a b g all at =
      let op = Two operator a b in
      let w = width_at ws (length d.ids) in
      let page = with_sort d.page w in
      let sort = sort_id page w in
      let stand = stands d op g all at in
      let first : a < length d.ids = omega (arith, stand.0, few d op g all at) in
      let second : b < length d.ids = omega (arith, stand.1, few d op g all at) in
      let x = operand d op g all at a first in
      let y = operand d op g all at b second in
      let v = width_at ws a in
      let u = width_at ws b in
      let takes : TakesTwo operator v u = subst (λ (i : ℕ). TakesTwo operator v i) (taken d op g all at b second)
      (subst (λ (i : ℕ). TakesTwo operator i (width_at (take (length d.ids) ws) b)) (taken d op g all at a first) stand.2) in
      let key = two-keyword operator in
      let sound = (h d op g all at).good.sound in
      line-node d op g all at (keyword_of_two operator) (id_in d.ids a ∷ id_in d.ids b ∷ []) [] key.rule (four w v u 0) key.computes refl key.of
      (asked-three page key.rule (keyword_of_two operator) key.of kinds.Sort kinds.Value kinds.Value (arguments.Id sort) (arguments.Id (id_in d.ids a)) (arguments.Id (id_in d.ids b)) w v u key.form
      (sort-given page sort w sound (sort-named d op g all at)) (value-given page (id_in d.ids a) v sound x.named) (value-given page (id_in d.ids b) u sound y.named)
      (key.computes.plain page (arguments_of sort (id_in d.ids a ∷ id_in d.ids b ∷ []) [])) (subst (λ (i : ℕ). Agrees key.rule (four i v u 0)) (sym (width-is d op g all at)) (key.agrees v u takes)))
      (λ step s by_inputs by_states. key.value (values_at page.lines step (id_in d.ids a)) (values_at page.lines step (id_in d.ids b))
      ∙ ap₂ (two_value operator) (x.value step s by_inputs by_states) (y.value step s by_inputs by_states))

  both-true : (a b : Bool) → a ≡ true → b ≡ true → (a && b) ≡ true
  both-true true b p q = q
  both-true false b p q = absurd (cc)

  slice-node : (d : Draft) (a upper lower : ℕ) → Good d.page → AreNodesOn d.page d.ids → slice_get net (length d.ids) ≡ Some (Slice a upper lower)
      → HasNode d (with_node inputs states d (width_at ws (length d.ids)) (Slice a upper lower))
  slice-node d a upper lower g all at =
      let op = Slice a upper lower in
      let w = width_at ws (length d.ids) in
      let page = with_sort d.page w in
      let sort = sort_id page w in
      let stand = stands d op g all at in
      let before : a < length d.ids = omega (arith, stand.0, few d op g all at) in
      let x = operand d op g all at a before in
      let v = width_at ws a in
      let sound = (h d op g all at).good.sound in
      let narrow : v ≤ 128 = (widths_of-Wide net is_net a 0 (omega (arith, before, inside d op g all at, count d op g all at))).1 in
      let bound : upper < v = subst (λ (i : ℕ). upper < i) (taken d op g all at a before) stand.2 in
      let order : lower ≤ upper = stand.1 in
      let sum : w + lower ≡ upper + 1 = omega (arith, width-is d op g all at, order) in
      line-node d op g all at keywords.Slice (id_in d.ids a ∷ []) (upper ∷ lower ∷ []) forms.Sliced (four w v upper lower) sliced-computes refl refl
      (asked-four page forms.Sliced keywords.Slice refl kinds.Sort kinds.Value kinds.Number kinds.Number (arguments.Id sort) (arguments.Id (id_in d.ids a)) (arguments.Number upper) (arguments.Number lower) w v upper lower refl
      (sort-given page sort w sound (sort-named d op g all at)) (value-given page (id_in d.ids a) v sound x.named) (number-given page upper (omega (arith, bound, narrow))) (number-given page lower (omega (arith, bound, narrow, order)))
      (sliced-computes.plain page (arguments_of sort (id_in d.ids a ∷ []) (upper ∷ lower ∷ [])))
      (record { widths = both-true (nat_le lower upper) (nat_eq (w + lower) (upper + 1)) (le-leb lower upper order) (eq-eqb (w + lower) (upper + 1) sum); bounds = lt-ltb upper v bound }))
      (λ step s by_inputs by_states. ap (λ (y : BitVector). vector.slice y upper lower) (x.value step s by_inputs by_states))

  -- more bits
  extended-node : (d : Draft) (op : NetOp) (keyword : Keyword) (a added : ℕ) → Good d.page → AreNodesOn d.page d.ids → slice_get net (length d.ids) ≡ Some op
      → a < length (take (length d.ids) ws) → width_at (take (length d.ids) ws) a + added ≤ 128 → rule_of keyword ≡ forms.Extended → op_width ws op ≡ width_at ws a + added
      → ((s : Sources) → op_value s (values_of s net) op ≡ extended keyword (node_value s net a) added) → HasNode d (with_node_line d (width_at ws (length d.ids)) keyword (id_in d.ids a ∷ []) (added ∷ []))
  extended-node d op keyword a added g all at within most of sum value =
      let w = width_at ws (length d.ids) in
      let page = with_sort d.page w in
      let sort = sort_id page w in
      let before : a < length d.ids = omega (arith, within, few d op g all at) in
      let x = operand d op g all at a before in
      let v = width_at ws a in
      let sound = (h d op g all at).good.sound in
      line-node d op g all at keyword (id_in d.ids a ∷ []) (added ∷ []) forms.Extended (four w v added 0) extended-computes refl of
      (asked-three page forms.Extended keyword of kinds.Sort kinds.Value kinds.Number (arguments.Id sort) (arguments.Id (id_in d.ids a)) (arguments.Number added) w v added refl
      (sort-given page sort w sound (sort-named d op g all at)) (value-given page (id_in d.ids a) v sound x.named) (number-given page added (omega (arith, most)))
      (extended-computes.plain page (arguments_of sort (id_in d.ids a ∷ []) (added ∷ []))) (record { widths = eq-eqb w (v + added) (width-is d op g all at ∙ sum); bounds = refl }))
      (λ step s by_inputs by_states. ap (λ (y : BitVector). extended keyword y added) (x.value step s by_inputs by_states) ∙ sym (value s))

  ite-node : (d : Draft) (c a b : ℕ) → Good d.page → AreNodesOn d.page d.ids → slice_get net (length d.ids) ≡ Some (Ite c a b) → HasNode d (with_node inputs states d (width_at ws (length d.ids)) (Ite c a b))
  unfolding ite_value
  ite-node d c a b g all at =
      let op = Ite c a b in
      let w = width_at ws (length d.ids) in
      let page = with_sort d.page w in
      let sort = sort_id page w in
      let stand = stands d op g all at in
      let zeroth : c < length d.ids = omega (arith, stand.0, few d op g all at) in
      let first : a < length d.ids = omega (arith, stand.1, few d op g all at) in
      let second : b < length d.ids = omega (arith, stand.2, few d op g all at) in
      let z = operand d op g all at c zeroth in
      let x = operand d op g all at a first in
      let y = operand d op g all at b second in
      let t = width_at ws c in
      let v = width_at ws a in
      let u = width_at ws b in
      let bit : t ≡ 1 = sym (taken d op g all at c zeroth) ∙ stand.3 in
      let same : v ≡ u = sym (taken d op g all at a first) ∙ stand.4 ∙ taken d op g all at b second in
      let own : w ≡ v = width-is d op g all at in
      let sound = (h d op g all at).good.sound in
      line-node d op g all at keywords.Ite (id_in d.ids c ∷ id_in d.ids a ∷ id_in d.ids b ∷ []) [] forms.Chosen (four w t v u) chosen-computes refl refl
      (asked-four page forms.Chosen keywords.Ite refl kinds.Sort kinds.Value kinds.Value kinds.Value (arguments.Id sort) (arguments.Id (id_in d.ids c)) (arguments.Id (id_in d.ids a)) (arguments.Id (id_in d.ids b)) w t v u refl
      (sort-given page sort w sound (sort-named d op g all at)) (value-given page (id_in d.ids c) t sound z.named) (value-given page (id_in d.ids a) v sound x.named) (value-given page (id_in d.ids b) u sound y.named)
      (chosen-computes.plain page (arguments_of sort (id_in d.ids c ∷ id_in d.ids a ∷ id_in d.ids b ∷ []) []))
      (record { widths = both-true (nat_eq t 1) (nat_eq v w && nat_eq u w) (eq-eqb t 1 bit) (both-true (nat_eq v w) (nat_eq u w) (eq-eqb v w (sym own)) (eq-eqb u w (sym same ∙ sym own))); bounds = refl }))
      (λ step s by_inputs by_states. ap₂ (λ (i j : BitVector). ite_value i j (values_at page.lines step (id_in d.ids b))) (z.value step s by_inputs by_states) (x.value step s by_inputs by_states)
      ∙ ap (ite_value (node_value s net c) (node_value s net a)) (y.value step s by_inputs by_states))

  -- the id of what is read from outside
  pub record HasSource (p : Page) (ids : List ℕ) (source : StepValues → Values) (number width : ℕ) : Type 0 where
    pub at : slice_get ids number ≡ Some (id_in ids number)
    pub named : Names kinds.Value p (id_in ids number) width
    pub value : (step : StepValues) → values_at p.lines step (id_in ids number) ≡ source step (id_in ids number)

  abbrev pub AreSources : Page → List ℕ → (StepValues → Values) → List ℕ → Type 0
  AreSources p ids source widths = (number width : ℕ) → slice_get widths number ≡ Some width → HasSource p ids source number width

  sources-stay : (p q : Page) (ids : List ℕ) (source : StepValues → Values) (widths : List ℕ) → Keeps p q → AreSources p ids source widths → AreSources q ids source widths
  sources-stay p q ids source widths keeps all number width reads =
      let one = all number width reads in
      record {
        at = one.at;
        named = names-keep kinds.Value p q (id_in ids number) width keeps one.named;
        value = λ step. value-keep kinds.Value p q step (id_in ids number) width keeps one.named ∙ one.value step;
      }

  module _ (in_widths state_widths : List ℕ) where
    has-node : (d : Draft) (op : NetOp) → Good d.page → AreNodesOn d.page d.ids → slice_get net (length d.ids) ≡ Some op → Reads in_widths state_widths op
        → AreSources d.page inputs (λ (step : StepValues). step.inputs) in_widths → AreSources d.page states (λ (step : StepValues). step.states) state_widths
        → HasNode d (with_node inputs states d (width_at ws (length d.ids)) op)
    unfolding uext_value sext_value
    has-node d (Const value) g all at reads ins outs = const-node d value g all at
    has-node d (Input number width) g all at reads ins outs =
        let i = ins number width reads in
        there-node d (Input number width) g all at (id_in inputs number) (i.named ∙ ap Some (sym (width-is d (Input number width) g all at)))
        (λ step s by_inputs by_states. i.value step ∙ by_inputs number (id_in inputs number) i.at)
    has-node d (State number width) g all at reads ins outs =
        let i = outs number width reads in
        there-node d (State number width) g all at (id_in states number) (i.named ∙ ap Some (sym (width-is d (State number width) g all at)))
        (λ step s by_inputs by_states. i.value step ∙ by_states number (id_in states number) i.at)
    has-node d (One operator a) g all at reads ins outs = one-node d operator a g all at
    has-node d (Two operator a b) g all at reads ins outs = two-node d operator a b g all at
    has-node d (Slice a upper lower) g all at reads ins outs = slice-node d a upper lower g all at
    has-node d (Uext a added) g all at reads ins outs =
        let stand = stands d (Uext a added) g all at in
        extended-node d (Uext a added) keywords.Uext a added g all at stand.0 stand.1 refl refl (λ s. refl)
    has-node d (Sext a added) g all at reads ins outs =
        let stand = stands d (Sext a added) g all at in
        extended-node d (Sext a added) keywords.Sext a added g all at stand.0 stand.1 refl refl (λ s. refl)
    has-node d (Ite c a b) g all at reads ins outs = ite-node d c a b g all at

    -- a page with these nodes behind another
    pub record HasNodes (p : Page) (d : Draft) : Type 0 where
      pub good : Good d.page
      pub keeps : Keeps p d.page
      pub same : (test : FormRule → Bool) → Quiet test → lines_by_rule test d.page.lines ≡ lines_by_rule test p.lines
      pub nodes : AreNodesOn d.page d.ids

    pub has-nodes : (p : Page) (d : Draft) (ops : List NetOp) → HasNodes p d → ((j : ℕ) (op : NetOp) → slice_get ops j ≡ Some op → slice_get net (length d.ids + j) ≡ Some op) → AllRead in_widths state_widths net
        → AreSources p inputs (λ (step : StepValues). step.inputs) in_widths → AreSources p states (λ (step : StepValues). step.states) state_widths
        → HasNodes p (with_nodes inputs states ws d ops) × (length (with_nodes inputs states ws d ops).ids ≡ length d.ids + length ops)
    has-nodes p d [] h rest reads ins outs = (h, omega arith)
    has-nodes p d (op ∷ ops) h rest reads ins outs =
        let w = width_at ws (length d.ids) in
        let next : Draft = with_node inputs states d w op in
        let zero : length d.ids + 0 ≡ length d.ids = omega arith in
        let at : slice_get net (length d.ids) ≡ Some op = subst (λ (i : ℕ). slice_get net i ≡ Some op) zero (rest 0 op refl) in
        let own : Reads in_widths state_widths op = subst (Reads in_widths state_widths) (get_or_from_slice_get net (length d.ids) op op at) (reads (length d.ids) op (slice_get_within net (length d.ids) op at)) in
        let n : HasNode d next =
        has-node d op h.good h.nodes at own (sources-stay p d.page inputs (λ (step : StepValues). step.inputs) in_widths h.keeps ins) (sources-stay p d.page states (λ (step : StepValues). step.states) state_widths h.keeps outs) in
        let more : length next.ids ≡ length d.ids + 1 = omega (arith, ap length n.ids, length-append d.ids (n.id ∷ [])) in
        let others = has-nodes p next ops
        (record {
          good = n.good;
          keeps = keeps-both p d.page next.page h.keeps n.keeps;
          same = λ test quiet. n.same test quiet ∙ h.same test quiet;
          nodes = subst (AreNodesOn next.page) (sym n.ids) (nodes-push d.page next.page d.ids n.id n.keeps h.nodes n.node);
        })
        (λ j o found. let turn : length d.ids + suc j ≡ length next.ids + j = omega (arith, more) in subst (λ (i : ℕ). slice_get net i ≡ Some o) turn (rest (suc j) o found)) reads ins outs in
        (others.0, omega (arith, others.1, more))

    pub no-nodes : (p : Page) → Good p → HasNodes p (record { page = p; ids = [] })
    no-nodes p g = record { good = g; keeps = keeps-all p; same = λ test quiet. refl; nodes = λ node within. absurd (omega arith) }
