-- The lines that a tidy circuit is written as are tidy.
use Rattle.std.proofs.Common.{◌≡◌, ◌≢◌, ℕ, zero, suc, ◌<◌, ◌≤◌, ◌⊎◌, inl, inr, Bool, true, false, cond, List, [], ◌∷◌, Option, None, Some, length, map, get_or, take, refl, sym, ap, ◌∙◌, subst, arith, All}
use Rattle.std.specs.Prelude.{AllPairs, Contains, IfOk, Result, slice_get}
use Rattle.std.specs.List.{filter, find}
use Rattle.std.specs.Option.{option_map, unwrap_or}
use Rattle.std.proofs.lemmas.Bool.{cases_lt}
use Rattle.std.proofs.lemmas.List.{get_or-map, length-map, length-take-le}
use Rattle.std.proofs.lemmas.List.Elements.{All-contains, All-contains_itself, All-filter, Contains-append_cases, Contains-get_or, Contains-push_cases, filter_passes}
use Rattle.std.proofs.lemmas.Option.{get_or_from_slice_get, slice_get-get_or, slice_get-map, slice_get_within, unwrap_or-slice_get}
use Rattle.std.proofs.lemmas.Result.{IfOk-weaker}
use Rattle.net_graph.specs.Nets.{Stands, op_width, widths_of}
use Rattle.net_graph.specs.Values.{Reads}
use Rattle.net_graph.specs.declared.node.NetOne.TheVariants as ones
use Rattle.net_graph.specs.declared.node.NetOp.{NetOp}
use Rattle.net_graph.specs.declared.node.NetOp.TheVariants.{Const, Input, State, One, Two, Slice, Uext, Sext, Ite}
use Rattle.net_graph.specs.declared.node.NetTwo.TheVariants as twos
use Rattle.net_graph.proofs.OneByOne.{length-one_by_one}
use Rattle.net_graph.proofs.Standing.{stands_at}
use Rattle.circuit_eval.specs.Circuits.{IsCircuit, input_widths, state_widths}
use Rattle.circuit_eval.specs.Tidy.{IsConstant, IsNeeded, IsOpen, IsTidy, operands, Serves, next, output, operand}
use Rattle.circuit_eval.specs.declared.circuit.OutputWire.{OutputWire}
use Rattle.circuit_eval.specs.declared.circuit.Wires.{Wires}
use Rattle.btor2_text.specs.declared.keyword.Keyword.{Keyword}
use Rattle.btor2_text.specs.declared.keyword.Keyword.TheVariants as keywords
use Rattle.btor2_text.specs.declared.kind.ArgumentKind.TheVariants as kinds
use Rattle.btor2_text.specs.declared.line.Argument.{Argument}
use Rattle.btor2_text.specs.declared.line.Line.{Line}
use Rattle.btor2_model.specs.Rules.{is_input, is_next, is_output, is_state, rule_of}
use Rattle.btor2_model.specs.Run.{ids_of, lines_by_rule}
use Rattle.btor2_model.specs.Scope.{id_at, no_lines}
use Rattle.btor2_model.specs.declared.rule.FormRule.{FormRule}
use Rattle.btor2_model.specs.declared.rule.FormRule.TheVariants as forms
use Rattle.btor2_net.specs.Pages as pages
use Rattle.btor2_net.specs.Pages.{Draft, Page, arguments_of, id_in}
use Rattle.btor2_net.specs.TidyLines as tidy
use Rattle.btor2_net.specs.TidyLines.{AreTidy, Differ, IdServes, IsNeededBy, IsNeededLine, IsOpenLine, is_any_constant, is_operator, operand_ids}
use Rattle.btor2_net.specs.Translations.{HasTokens}
use Rattle.btor2_net.proofs.Adding.{known-within, scope_of}
use Rattle.btor2_net.proofs.Distinct.{AreDistinct, ids-distinct}
use Rattle.btor2_net.proofs.Keeping.{known-by, set_of}
use Rattle.btor2_net.proofs.OperatorLines.{ids-of-arguments, is-not, is_op, keyword_of, numbers_of, operator-rule, same-ids, same-numbers, same-op}
use Rattle.btor2_net.proofs.TidyNodes.{HasNodeLines, IsLineOf, IsNodeLine, StandBehind, has-node-lines, has_line}
use Rattle.btor2_net.proofs.Written as written
use Rattle.btor2_net.proofs.WrittenInputs as ins
use Rattle.btor2_net.proofs.WrittenLines.{mapped, one-of-all, pairs-at, pairs-first}
use Rattle.btor2_net.proofs.WrittenStates.{IsStateOn, state_meaning}

-- ---- items of lists

at-place : {X : Type 0} (xs : List X) (x : X) → Contains xs x → (k : ℕ) × (slice_get xs k ≡ Some x)
at-place {X} xs x there = (there.0, slice_get-get_or xs there.0 x there.1 ∙ ap Some there.2)

there-at : {X : Type 0} (xs : List X) (k : ℕ) (x : X) → slice_get xs k ≡ Some x → Contains xs x
there-at {X} xs k x at = (k, slice_get_within xs k x at, get_or_from_slice_get xs k x x at)

contains-map : {X Y : Type 0} (f : X → Y) (xs : List X) (x : X) → Contains xs x → Contains (map f xs) (f x)
contains-map {X} {Y} f xs x there = (there.0, omega (arith, there.1, length-map xs f), get_or-map f xs there.0 x (f x) there.1 ∙ ap f there.2)

some-first : {X : Type 0} (x y : X) → Some x ≡ Some y → x ≡ y
some-first {X} x y same = cc

-- what a filter keeps
kept-at : {X : Type 0} (p : X → Bool) (xs : List X) (k : ℕ) (x : X) → slice_get xs k ≡ Some x → p x ≡ true → Contains (filter p xs) x
kept-at {X} p [] k x at is = absurd (cc)
kept-at {X} p (y ∷ ys) zero x at is =
    let same : y ≡ x = some-first y x at in subst (λ (b : Bool). Contains (cond b (y ∷ filter p ys) (filter p ys)) x) (sym (ap p same ∙ is)) (0, omega arith, same)
kept-at {X} p (y ∷ ys) (suc k) x at is = by (p y) (kept-at p ys k x at is)
  where
    by : (b : Bool) → Contains (filter p ys) x → Contains (cond b (y ∷ filter p ys) (filter p ys)) x
    by true there = (suc there.0, omega (arith, there.1), there.2)
    by false there = there

kept : {X : Type 0} (p : X → Bool) (xs : List X) (x : X) → Contains xs x → p x ≡ true → Contains (filter p xs) x
kept {X} p xs x there is = let at = at-place xs x there in kept-at p xs at.0 x at.1 is

was-there : {X : Type 0} (p : X → Bool) (xs : List X) (x : X) → Contains (filter p xs) x → Contains xs x × (p x ≡ true)
was-there {X} p xs x there =
    (All-contains (Contains xs) (filter p xs) x (All-filter p (Contains xs) xs (All-contains_itself xs)) there, All-contains (λ (y : X). p y ≡ true) (filter p xs) x (filter_passes p xs) there)

found-there : {X : Type 0} (p : X → Bool) (xs : List X) (x : X) → find p xs ≡ Some x → Contains xs x
found-there {X} p [] x found = absurd (cc)
found-there {X} p (y ∷ ys) x found = by (p y) refl (found-there p ys x)
  where
    by : (b : Bool) → p y ≡ b → (find p ys ≡ Some x → Contains ys x) → Contains (y ∷ ys) x
    by true is rest = let same : y ≡ x = some-first y x (sym (ap (λ (b : Bool). cond b (Some y) (find p ys)) is) ∙ found) in (0, omega arith, same)
    by false is rest = let there = rest (sym (ap (λ (b : Bool). cond b (Some y) (find p ys)) is) ∙ found) in (suc there.0, omega (arith, there.1), there.2)

-- a list is told by a map of it that tells its items apart
same-list : (f : ℕ → ℕ) (xs ys : List ℕ) → map f xs ≡ map f ys → ((a b : ℕ) → Contains xs a → Contains ys b → f a ≡ f b → a ≡ b) → xs ≡ ys
same-list f [] [] same apart = refl
same-list f [] (y ∷ ys) same apart = absurd (cc)
same-list f (x ∷ xs) [] same apart = absurd (cc)
same-list f (x ∷ xs) (y ∷ ys) same apart =
    let first : f x ≡ f y = cc in
    let rest : map f xs ≡ map f ys = cc in
    let one : x ≡ y = apart x y (0, omega arith, refl) (0, omega arith, refl) first in
    let others : xs ≡ ys = same-list f xs ys rest (λ a b there here. apart a b (suc there.0, omega (arith, there.1), there.2) (suc here.0, omega (arith, here.1), here.2)) in
    cc

-- ---- operators

one-there : (x a : ℕ) → Contains (x ∷ []) a → x ≡ a
one-there x a there = by (Contains-push_cases [] x a there)
  where
    by : Contains [] a ⊎ (x ≡ a) → x ≡ a
    by (inl none) = absurd (omega (arith, none.1))
    by (inr same) = same

first-or : (P : ℕ → Type 0) (x a : ℕ) (xs : List ℕ) → P x → (Contains xs a → P a) → Contains (x ∷ xs) a → P a
first-or P x a xs first rest there = by (Contains-append_cases (x ∷ []) xs a there)
  where
    by : Contains (x ∷ []) a ⊎ Contains xs a → P a
    by (inl here) = subst P (one-there x a here) first
    by (inr later) = rest later

none-of : (P : ℕ → Type 0) (a : ℕ) → Contains [] a → P a
none-of P a there = absurd (omega (arith, there.1))

-- operands are among the nodes that an operator stands over
operand-stands : (ws : List ℕ) (op : NetOp) (a : ℕ) → Stands ws op → Contains (operands op) a → a < length ws
operand-stands ws (Const value) a stands there = none-of (λ b. b < length ws) a there
operand-stands ws (Input number width) a stands there = none-of (λ b. b < length ws) a there
operand-stands ws (State number width) a stands there = none-of (λ b. b < length ws) a there
operand-stands ws (One operator x) a stands there = first-or (λ b. b < length ws) x a [] stands (none-of (λ b. b < length ws) a) there
operand-stands ws (Two operator x y) a stands there = first-or (λ b. b < length ws) x a (y ∷ []) stands.0 (first-or (λ b. b < length ws) y a [] stands.1 (none-of (λ b. b < length ws) a)) there
operand-stands ws (Slice x upper lower) a stands there = first-or (λ b. b < length ws) x a [] stands.0 (none-of (λ b. b < length ws) a) there
operand-stands ws (Uext x added) a stands there = first-or (λ b. b < length ws) x a [] stands.0 (none-of (λ b. b < length ws) a) there
operand-stands ws (Sext x added) a stands there = first-or (λ b. b < length ws) x a [] stands.0 (none-of (λ b. b < length ws) a) there
operand-stands ws (Ite condition x y) a stands there =
    first-or (λ b. b < length ws) condition a (x ∷ y ∷ []) stands.0 (first-or (λ b. b < length ws) x a (y ∷ []) stands.1 (first-or (λ b. b < length ws) y a [] stands.2 (none-of (λ b. b < length ws) a))) there

has-operand : (op : NetOp) (a : ℕ) → Contains (operands op) a → is_op op ≡ true
has-operand (Const value) a there = absurd (omega (arith, there.1))
has-operand (Input number width) a there = absurd (omega (arith, there.1))
has-operand (State number width) a there = absurd (omega (arith, there.1))
has-operand other a there = refl

some-operand : (op : NetOp) → is_op op ≡ true → operands op ≢ []
some-operand (Const value) is none = cc
some-operand (Input number width) is none = cc
some-operand (State number width) is none = cc
some-operand other is none = cc

op-has-line : (op : NetOp) → is_op op ≡ true → has_line op ≡ true
op-has-line (Const value) is = cc
op-has-line (Input number width) is = is
op-has-line (State number width) is = is
op-has-line other is = refl

-- ---- rules

input-state : (rule : FormRule) → is_input rule ≡ true → is_state rule ≡ true → ⊥
input-state forms.Input is other = cc
input-state rule is other = cc

input-constant : (rule : FormRule) → is_input rule ≡ true → is_any_constant rule ≡ true → ⊥
input-constant forms.Input is other = cc
input-constant rule is other = cc

state-constant : (rule : FormRule) → is_state rule ≡ true → is_any_constant rule ≡ true → ⊥
state-constant forms.State is other = cc
state-constant rule is other = cc

operator-constant : (rule : FormRule) → is_operator rule ≡ true → is_any_constant rule ≡ true → ⊥
operator-constant forms.Constant is other = cc
operator-constant (forms.Numeral base) is other = cc
operator-constant rule is other = cc

-- a line of no operator is needed
other-needed : (lines : List Line) (keyword : Keyword) (given : List Argument) → is_operator (rule_of keyword) ≡ false → IsNeededBy lines keyword given
other-needed lines keywords.Ite given is = absurd (cc)
other-needed lines keywords.And given is = absurd (cc)
other-needed lines keywords.Or given is = absurd (cc)
other-needed lines keywords.Not given is = absurd (cc)
other-needed lines keyword given is = tt

low-at : (ids : List ℕ) (bound number : ℕ) → ((k id : ℕ) → slice_get ids k ≡ Some id → id ≤ bound) → id_in ids number ≤ bound
low-at ids bound number low = subst (λ (id : ℕ). id ≤ bound) (unwrap_or-slice_get ids number 0) (by (slice_get ids number) refl)
  where
    by : (o : Option ℕ) → slice_get ids number ≡ o → unwrap_or (slice_get ids number) 0 ≤ bound
    by None none = subst (λ (o : Option ℕ). unwrap_or o 0 ≤ bound) (sym none) (omega arith)
    by (Some id) at = subst (λ (o : Option ℕ). unwrap_or o 0 ≤ bound) (sym at) (low number id at)

module _ (c : Wires) (is : IsCircuit c) (tokens : HasTokens c) where
  abbrev s : Draft
  s = pages.states_of c

  abbrev i : Draft
  i = pages.inputs_of c

  abbrev n : Draft
  n = pages.nodes_of c

  abbrev x : Page
  x = pages.with_nexts n.ids s.ids n.page 0 c.states

  abbrev e : Page
  e = pages.with_outputs n.ids x c.outputs

  -- ---- the nodes' lines

  low-input : (k id : ℕ) → slice_get i.ids k ≡ Some id → id ≤ length i.page.lines
  low-input k id at =
      let has = written.has-i c is tokens in
      let on = pairs-first (ins.IsInputOn i.page) i.ids c.inputs k id has.inputs at in
      let m = known-by kinds.Value ((scope_of i.page).meanings id) on.0.width on.1.named in (known-within i.page id m.0 has.good.sound m.1).1

  low-state : (k id : ℕ) → slice_get s.ids k ≡ Some id → id ≤ length i.page.lines
  low-state k id at =
      let on = pairs-first (IsStateOn i.page) s.ids c.states k id (written.states-i c is tokens) at in
      (known-within i.page id (state_meaning on.0.width) (written.has-i c is tokens).good.sound on.1.means).1

  low-inputs : (number : ℕ) → id_in i.ids number ≤ length i.page.lines
  low-inputs number = low-at i.ids (length i.page.lines) number low-input

  low-states : (number : ℕ) → id_in s.ids number ≤ length i.page.lines
  low-states number = low-at s.ids (length i.page.lines) number low-state

  behind : StandBehind 0 c.net
  behind k a op at there =
      let ws : List ℕ = widths_of c.net in
      let inside : k < length c.net = slice_get_within c.net k op at in
      let stands : Stands (take k ws) op = subst (Stands (take k ws)) (get_or_from_slice_get c.net k op op at) (stands_at c.net k op inside is.net.stand) in
      let within = operand-stands (take k ws) op a stands there in
      omega (arith, within, inside, length-take-le k ws (omega (arith, inside, length-one_by_one op_width [] c.net)), length-one_by_one op_width [] c.net)

  h : HasNodeLines i.ids s.ids (record { page = i.page; ids = [] }) n c.net
  h = has-node-lines i.ids s.ids (widths_of c.net) (record { page = i.page; ids = [] }) c.net behind (λ number. (low-inputs number, low-states number))

  abbrev id_of : ℕ → ℕ
  id_of node = id_in n.ids node

  id-at : (node : ℕ) (op : NetOp) → slice_get c.net node ≡ Some op → slice_get h.new node ≡ Some (id_of node)
  id-at node op at =
      let inside : node < length n.ids = omega (arith, slice_get_within c.net node op at, h.count, ap length h.ids) in
      subst (λ (ids : List ℕ). slice_get ids node ≡ Some (id_of node)) h.ids (slice_get-get_or n.ids node 0 inside)

  inside-at : (node : ℕ) → node < length c.net → (op : NetOp) × (slice_get c.net node ≡ Some op)
  inside-at node inside = (get_or c.net node (Input 0 0), slice_get-get_or c.net node (Input 0 0) inside)

  operand-inside : (node a : ℕ) (op : NetOp) → slice_get c.net node ≡ Some op → Contains (operands op) a → a < length c.net
  operand-inside node a op at there = omega (arith, behind node a op at there, slice_get_within c.net node op at)

  -- ---- the lines at the end

  abbrev lines_by : (FormRule → Bool) → List Line
  lines_by test = lines_by_rule test e.lines

  from-nodes : (test : FormRule → Bool) → test forms.Sort ≡ false → test forms.Next ≡ false → test forms.Output ≡ false → lines_by test ≡ lines_by_rule test n.page.lines
  from-nodes test no_sort no_next no_output = (written.has-e c is tokens).same test no_output ∙ (written.has-x c is tokens).same test no_sort no_next

  -- a line of this rule and id
  record HasIdOf (test : FormRule → Bool) (id : ℕ) : Type 0 where
    line : Line
    there : Contains e.lines line
    id_is : line.id ≡ id
    passes : test (rule_of line.keyword) ≡ true

  id-there : (test : FormRule → Bool) (id : ℕ) → Contains (ids_of test e.lines) id → HasIdOf test id
  id-there test id there =
      let at = at-place (ids_of test e.lines) id there in
      let line = mapped (λ (l : Line). l.id) (lines_by test) at.0 id at.1 in
      let was = was-there (λ (l : Line). test (rule_of l.keyword)) e.lines line.0 (there-at (lines_by test) at.0 line.0 line.1) in
      record { line = line.0; there = was.0; id_is = line.2; passes = was.1 }

  -- no two lines have one id
  unique : (a b : Line) → Contains e.lines a → Contains e.lines b → a.id ≡ b.id → a ≡ b
  unique a b one other same =
      let counted = (written.has-e c is tokens).good.counted in
      let first = at-place e.lines a one in
      let second = at-place e.lines b other in
      let places : first.0 ≡ second.0 = omega (arith, counted first.0 a first.1, counted second.0 b second.1, same) in
      some-first a b (sym first.1 ∙ ap (slice_get e.lines) places ∙ second.1)

  not-both : (test other : FormRule → Bool) (id : ℕ) → ((rule : FormRule) → test rule ≡ true → other rule ≡ true → ⊥) → HasIdOf test id → HasIdOf other id → ⊥
  not-both test other id apart one two =
      let same = unique one.line two.line one.there two.there (one.id_is ∙ sym two.id_is) in
      apart (rule_of one.line.keyword) one.passes (ap (λ (l : Line). other (rule_of l.keyword)) same ∙ two.passes)

  -- a node's own line
  record HasOperatorLine (node : ℕ) (op : NetOp) : Type 0 where
    line : Line
    there : Contains (lines_by is_operator) line
    id_is : line.id ≡ id_of node
    of : IsLineOf n.ids op line

  operator-at : (node : ℕ) (op : NetOp) → slice_get c.net node ≡ Some op → is_op op ≡ true → HasOperatorLine node op
  operator-at node op at one =
      let own = (h.own node (id_of node) op (id-at node op at) at (op-has-line op one)).0 in
      let rule : is_operator (rule_of own.line.keyword) ≡ true = ap (λ (k : Keyword). is_operator (rule_of k)) own.of.keyword ∙ operator-rule op one in
      record {
        line = own.line;
        there = subst (λ (ls : List Line). Contains ls own.line) (sym (from-nodes is_operator refl refl refl)) (kept (λ (l : Line). is_operator (rule_of l.keyword)) n.page.lines own.line own.there rule);
        id_is = own.id_is;
        of = own.of;
      }

  operator-id : (node : ℕ) (op : NetOp) → slice_get c.net node ≡ Some op → is_op op ≡ true → HasIdOf is_operator (id_of node)
  operator-id node op at one =
      let own = operator-at node op at one in
      let was = was-there (λ (l : Line). is_operator (rule_of l.keyword)) e.lines own.line own.there in
      record { line = own.line; there = was.0; id_is = own.id_is; passes = was.1 }

  input-read : (node number width : ℕ) → slice_get c.net node ≡ Some (Input number width) → slice_get (input_widths c.inputs) number ≡ Some width
  input-read node number width at = one-of-all (Reads (input_widths c.inputs) (state_widths c.states)) c.net node (Input number width) is.reads at

  state-read : (node number width : ℕ) → slice_get c.net node ≡ Some (State number width) → slice_get (state_widths c.states) number ≡ Some width
  state-read node number width at = one-of-all (Reads (input_widths c.inputs) (state_widths c.states)) c.net node (State number width) is.reads at

  input-at : (node number width : ℕ) → slice_get c.net node ≡ Some (Input number width) → slice_get i.ids number ≡ Some (id_of node)
  input-at node number width at =
      (written.input-sources c is tokens number width (input-read node number width at)).at ∙ ap Some (sym (h.read node (id_of node) (Input number width) (id-at node (Input number width) at) at))

  state-at : (node number width : ℕ) → slice_get c.net node ≡ Some (State number width) → slice_get s.ids number ≡ Some (id_of node)
  state-at node number width at =
      (written.state-sources c is tokens number width (state-read node number width at)).at ∙ ap Some (sym (h.read node (id_of node) (State number width) (id-at node (State number width) at) at))

  input-id : (node number width : ℕ) → slice_get c.net node ≡ Some (Input number width) → HasIdOf is_input (id_of node)
  input-id node number width at =
      id-there is_input (id_of node) (subst (λ (ids : List ℕ). Contains ids (id_of node)) (sym (written.input-ids c is tokens)) (there-at i.ids number (id_of node) (input-at node number width at)))

  state-id : (node number width : ℕ) → slice_get c.net node ≡ Some (State number width) → HasIdOf is_state (id_of node)
  state-id node number width at =
      id-there is_state (id_of node) (subst (λ (ids : List ℕ). Contains ids (id_of node)) (sym (written.state-ids c is tokens)) (there-at s.ids number (id_of node) (state-at node number width at)))

  -- ---- no two nodes have one id

  ids-apart : (test : FormRule → Bool) → AreDistinct (ids_of test e.lines)
  ids-apart test = ids-distinct test e.lines no_lines (written.fine c is tokens)

  one-input : (first other id : ℕ) → slice_get i.ids first ≡ Some id → slice_get i.ids other ≡ Some id → first ≡ other
  unfolding AreDistinct
  one-input = subst AreDistinct (written.input-ids c is tokens) (ids-apart is_input)

  one-state : (first other id : ℕ) → slice_get s.ids first ≡ Some id → slice_get s.ids other ≡ Some id → first ≡ other
  unfolding AreDistinct
  one-state = written.distinct c is tokens

  early-line : (j k id : ℕ) → j < k → slice_get (ids_of is_operator e.lines) j ≡ Some id → slice_get (ids_of is_operator e.lines) k ≡ Some id → ⊥
  unfolding AreDistinct
  early-line j k id early one other = let same : j ≡ k = ids-apart is_operator j k id one other in omega (arith, early, same)

  one-place : (node other : ℕ) (op : NetOp) → slice_get c.net node ≡ Some op → slice_get c.net other ≡ Some op → node < other → ⊥
  one-place node other op at there before =
      is.net.distinct node other op before (slice_get_within c.net other op there) (get_or_from_slice_get c.net node op op at ∙ sym (get_or_from_slice_get c.net other op op there))

  line-first : (node id : ℕ) (op : NetOp) → slice_get c.net node ≡ Some op → has_line op ≡ true → id ≤ length i.page.lines → id_of node ≡ id → ⊥
  line-first node id op at line low same = omega (arith, (h.own node (id_of node) op (id-at node op at) at line).1, low, same)

  -- a later node that is no line
  late-input : (node other number width : ℕ) (op : NetOp) → node < other → slice_get c.net node ≡ Some op → slice_get c.net other ≡ Some (Input number width) → id_of node ≡ id_of other → ⊥
  late-input node other number width op before at there same =
      by op at (h.read other (id_of other) (Input number width) (id-at other (Input number width) there) there)
    where
      by : (op : NetOp) → slice_get c.net node ≡ Some op → id_of other ≡ id_in i.ids number → ⊥
      by (Input first w) at read =
          let one : first ≡ number = one-input first number (id_of other) (input-at node first w at ∙ ap Some same) (input-at other number width there) in
          let wide : w ≡ width = some-first w width (sym (input-read node first w at) ∙ ap (slice_get (input_widths c.inputs)) one ∙ input-read other number width there) in
          let ops : Input first w ≡ Input number width = cc in
          one-place node other (Input number width) (at ∙ ap Some ops) there before
      by (State first w) at read = not-both is_input is_state (id_of other) input-state (input-id other number width there) (subst (HasIdOf is_state) same (state-id node first w at))
      by op at read = line-first node (id_in i.ids number) op at refl (low-inputs number) (same ∙ read)

  late-state : (node other number width : ℕ) (op : NetOp) → node < other → slice_get c.net node ≡ Some op → slice_get c.net other ≡ Some (State number width) → id_of node ≡ id_of other → ⊥
  late-state node other number width op before at there same =
      by op at (h.read other (id_of other) (State number width) (id-at other (State number width) there) there)
    where
      by : (op : NetOp) → slice_get c.net node ≡ Some op → id_of other ≡ id_in s.ids number → ⊥
      by (Input first w) at read = not-both is_input is_state (id_of node) input-state (input-id node first w at) (subst (HasIdOf is_state) (sym same) (state-id other number width there))
      by (State first w) at read =
          let one : first ≡ number = one-state first number (id_of other) (state-at node first w at ∙ ap Some same) (state-at other number width there) in
          let wide : w ≡ width = some-first w width (sym (state-read node first w at) ∙ ap (slice_get (state_widths c.states)) one ∙ state-read other number width there) in
          let ops : State first w ≡ State number width = cc in
          one-place node other (State number width) (at ∙ ap Some ops) there before
      by op at read = line-first node (id_in s.ids number) op at refl (low-states number) (same ∙ read)

  late : (node other : ℕ) (op last : NetOp) → node < other → slice_get c.net node ≡ Some op → slice_get c.net other ≡ Some last → id_of node ≡ id_of other → ⊥
  late node other op (Input number width) before at there same = late-input node other number width op before at there same
  late node other op (State number width) before at there same = late-state node other number width op before at there same
  late node other op last before at there same =
      let rise = h.rise node other (id_of node) (id_of other) last before (id-at node op at) (id-at other last there) there refl in
      omega (arith, rise, same)

  one-node : (node other : ℕ) → node < length c.net → other < length c.net → id_of node ≡ id_of other → node ≡ other
  one-node node other inside within same = by (cases_lt node other) (cases_lt other node)
    where
      by : (node < other) ⊎ (other ≤ node) → (other < node) ⊎ (node ≤ other) → node ≡ other
      by (inl before) after = let at = inside-at node inside in let there = inside-at other within in absurd (late node other at.0 there.0 before at.1 there.1 same)
      by (inr not_before) (inl before) = let at = inside-at node inside in let there = inside-at other within in absurd (late other node there.0 at.0 before there.1 at.1 (sym same))
      by (inr not_before) (inr not_after) = omega (arith, not_before, not_after)

  -- the id of a constant's line is that of a constant
  constant-node : (node : ℕ) → node < length c.net → Contains (ids_of is_any_constant e.lines) (id_of node) → IsConstant c.net node
  constant-node node inside there = let at = inside-at node inside in by at.0 at.1 (id-there is_any_constant (id_of node) there)
    where
      by : (op : NetOp) → slice_get c.net node ≡ Some op → HasIdOf is_any_constant (id_of node) → IsConstant c.net node
      by (Const value) at constant = (value, at)
      by (Input number width) at constant = absurd (not-both is_input is_any_constant (id_of node) input-constant (input-id node number width at) constant)
      by (State number width) at constant = absurd (not-both is_state is_any_constant (id_of node) state-constant (state-id node number width at) constant)
      by op at constant = absurd (not-both is_operator is_any_constant (id_of node) operator-constant (operator-id node op at refl) constant)

  -- ---- each operator's line is that of a node

  none-before : lines_by_rule is_operator i.page.lines ≡ []
  none-before = (written.has-i c is tokens).same is_operator refl refl ∙ (written.has-s c is tokens).none is_operator (record { sort = refl; numeral = refl; state = refl; init = refl })

  node-of : (line : Line) → Contains (lines_by is_operator) line → IsNodeLine n.ids h.new c.net line
  node-of line there =
      let was = was-there (λ (l : Line). is_operator (rule_of l.keyword)) n.page.lines line (subst (λ (ls : List Line). Contains ls line) (from-nodes is_operator refl refl refl) there) in
      by was.1 (Contains-append_cases i.page.lines h.more line (subst (λ (ls : List Line). Contains ls line) h.lines was.0))
    where
      by : is_operator (rule_of line.keyword) ≡ true → Contains i.page.lines line ⊎ Contains h.more line → IsNodeLine n.ids h.new c.net line
      by rule (inl first) =
          let none = subst (λ (ls : List Line). Contains ls line) none-before (kept (λ (l : Line). is_operator (rule_of l.keyword)) i.page.lines line first rule) in absurd (omega (arith, none.1))
      by rule (inr last) = h.back line last rule

  line-id : (line : Line) (node : IsNodeLine n.ids h.new c.net line) → line.id ≡ id_of node.node
  line-id line node = some-first line.id (id_of node.node) (sym node.id_at ∙ id-at node.node node.op node.at)

  node-inside : (line : Line) (node : IsNodeLine n.ids h.new c.net line) → node.node < length c.net
  node-inside line node = slice_get_within c.net node.node node.op node.at

  line-operands : (line : Line) (op : NetOp) → is_op op ≡ true → IsLineOf n.ids op line → operand_ids line.arguments ≡ map id_of (operands op)
  line-operands line op is_one of = ap operand_ids (of.given is_one) ∙ ids-of-arguments of.sort (map id_of (operands op)) (numbers_of op)

  same-node : (a b : Line) (one : IsNodeLine n.ids h.new c.net a) (other : IsNodeLine n.ids h.new c.net b) → a.keyword ≡ b.keyword → a.arguments ≡ b.arguments → one.op ≡ other.op
  same-node a b one other keyword given =
      let args = sym (one.of.given one.is) ∙ given ∙ other.of.given other.is in
      let ids = same-ids one.of.sort other.of.sort (map id_of (operands one.op)) (map id_of (operands other.op)) (numbers_of one.op) (numbers_of other.op) args in
      let numbers = same-numbers one.of.sort other.of.sort (map id_of (operands one.op)) (map id_of (operands other.op)) (numbers_of one.op) (numbers_of other.op) args in
      same-op one.op other.op one.is other.is (sym one.of.keyword ∙ keyword ∙ other.of.keyword)
      (same-list id_of (operands one.op) (operands other.op) ids
      (λ j k there here same. one-node j k (operand-inside one.node j one.op one.at there) (operand-inside other.node k other.op other.at here) same)) numbers

  -- ---- the lines are tidy

  lines-differ : AllPairs Differ (lines_by is_operator)
  lines-differ j k d before within alike =
      let lines = lines_by is_operator in
      let a = get_or lines j d in
      let b = get_or lines k d in
      let first : j < length lines = omega (arith, before, within) in
      let one = node-of a (Contains-get_or lines j d first) in
      let other = node-of b (Contains-get_or lines k d within) in
      let ops : one.op ≡ other.op = same-node a b one other alike.0 alike.1 in
      let nodes : one.node ≡ other.node = node-apart one.node other.node one.op one.at (other.at ∙ ap Some (sym ops)) in
      let ids : a.id ≡ b.id = line-id a one ∙ ap id_of nodes ∙ sym (line-id b other) in
      early-line j k a.id before (slice_get-map (λ (l : Line). l.id) lines j ∙ ap (option_map (λ (l : Line). l.id)) (slice_get-get_or lines j d first))
      (slice_get-map (λ (l : Line). l.id) lines k ∙ ap (option_map (λ (l : Line). l.id)) (slice_get-get_or lines k d within) ∙ ap Some (sym ids))
    where
      node-apart : (node other : ℕ) (op : NetOp) → slice_get c.net node ≡ Some op → slice_get c.net other ≡ Some op → node ≡ other
      node-apart node other op at there = by (cases_lt node other) (cases_lt other node)
        where
          by : (node < other) ⊎ (other ≤ node) → (other < node) ⊎ (node ≤ other) → node ≡ other
          by (inl early) after = absurd (one-place node other op at there early)
          by (inr not_early) (inl early) = absurd (one-place other node op there at early)
          by (inr not_early) (inr not_late) = omega (arith, not_early, not_late)

  served : (node : ℕ) → Serves c node → IdServes e.lines (id_of node)
  served node (next wire there) =
      let at = at-place c.states wire there in
      let state = pairs-at (written.GoesOn c is tokens) s.ids c.states at.0 wire (written.nexts-e c is tokens) at.1 in
      let on = state.2.next in subst (IdServes e.lines) on.named (tidy.next on.set (found-there (set_of state.0) (lines_by is_next) on.set on.found))
  served node (output wire there) =
      let at = at-place c.outputs wire there in
      let line = mapped (λ (l : Line). id_at l.arguments 0) (lines_by is_output) at.0 (id_of node)
      (ap (λ (ids : List ℕ). slice_get ids at.0) (written.has-e c is tokens).ids ∙ slice_get-map (λ (w : OutputWire). id_in n.ids w.id) c.outputs at.0 ∙ ap (option_map (λ (w : OutputWire). id_in n.ids w.id)) at.1) in
      subst (IdServes e.lines) line.2 (tidy.output line.0 (there-at (lines_by is_output) at.0 line.0 line.1))
  served node (operand a user op at there serves) =
      let one = has-operand op node there in
      let own = operator-at user op at one in
      tidy.operand (id_of node) own.line own.there (subst (λ (ids : List ℕ). Contains ids (id_of node)) (sym (line-operands own.line op one own.of)) (contains-map id_of (operands op) node there))
      (subst (IdServes e.lines) (sym own.id_is) (served user serves))

  module _ (circuit : IsTidy c) where
    lines-serve : All (λ (line : Line). IdServes e.lines line.id) (lines_by is_operator)
    lines-serve j d within =
        let line = get_or (lines_by is_operator) j d in
        let node = node-of line (Contains-get_or (lines_by is_operator) j d within) in
        subst (IdServes e.lines) (sym (line-id line node)) (served node.node (circuit.serve node.node (node-inside line node)))

    lines-open : All (IsOpenLine e.lines) (lines_by is_operator)
    lines-open j d within constants =
        let line = get_or (lines_by is_operator) j d in
        let node = node-of line (Contains-get_or (lines_by is_operator) j d within) in
        let ids = line-operands line node.op node.is node.of in
        one-of-all (IsOpen c.net) c.net node.node node.op circuit.are_open node.at (some-operand node.op node.is)
        (λ k o inside.
        let a = get_or (operands node.op) k o in
        let there = Contains-get_or (operands node.op) k o inside in
        constant-node a (operand-inside node.node a node.op node.at there)
        (All-contains (Contains (ids_of is_any_constant e.lines)) (operand_ids line.arguments) (id_of a) constants (subst (λ (xs : List ℕ). Contains xs (id_of a)) (sym ids) (contains-map id_of (operands node.op) a there))))

    -- operands that differ have different ids
    ids-differ : (node a b : ℕ) (op : NetOp) → slice_get c.net node ≡ Some op → Contains (operands op) a → Contains (operands op) b → a ≢ b → id_of a ≢ id_of b
    ids-differ node a b op at one other apart same = apart (one-node a b (operand-inside node a op at one) (operand-inside node b op at other) same)

    -- what a `not` stands on is no `not`
    not-needed : (node a : ℕ) → slice_get c.net node ≡ Some (One ones.Not a) → ((b : ℕ) → slice_get c.net a ≢ Some (One ones.Not b)) → (other : Line) → Contains e.lines other → other.keyword ≡ keywords.Not → other.id ≢ id_of a
    not-needed node a at needed other there keyword same =
        let rule : is_operator (rule_of other.keyword) ≡ true = ap (λ (k : Keyword). is_operator (rule_of k)) keyword in
        let user = node-of other (kept (λ (l : Line). is_operator (rule_of l.keyword)) e.lines other there rule) in
        let op = is-not user.op user.is (sym user.of.keyword ∙ keyword) in
        let nodes : user.node ≡ a =
        one-node user.node a (node-inside other user) (operand-inside node a (One ones.Not a) at (0, omega arith, refl)) (sym (line-id other user) ∙ same) in
        needed op.0 (sym (ap (slice_get c.net) nodes) ∙ user.at ∙ ap Some op.1)

    node-needed : (node : ℕ) (op : NetOp) (sort : ℕ) → slice_get c.net node ≡ Some op → IsNeeded c.net op → IsNeededBy e.lines (keyword_of op) (arguments_of sort (map id_of (operands op)) (numbers_of op))
    node-needed node (Ite condition a b) sort at needed = ids-differ node a b (Ite condition a b) at (1, omega arith, refl) (2, omega arith, refl) needed
    node-needed node (Two twos.And a b) sort at needed = ids-differ node a b (Two twos.And a b) at (0, omega arith, refl) (1, omega arith, refl) needed
    node-needed node (Two twos.Or a b) sort at needed = ids-differ node a b (Two twos.Or a b) at (0, omega arith, refl) (1, omega arith, refl) needed
    node-needed node (One ones.Not a) sort at needed = not-needed node a at needed
    node-needed node (Two operator a b) sort at needed = tt
    node-needed node (One operator a) sort at needed = tt
    node-needed node op sort at needed = tt

    lines-needed : All (IsNeededLine e.lines) e.lines
    lines-needed k d within = by (get_or e.lines k d) (Contains-get_or e.lines k d within) (is_operator (rule_of (get_or e.lines k d).keyword)) refl
      where
        by : (line : Line) → Contains e.lines line → (b : Bool) → is_operator (rule_of line.keyword) ≡ b → IsNeededLine e.lines line
        by line there true rule =
            let node = node-of line (kept (λ (l : Line). is_operator (rule_of l.keyword)) e.lines line there rule) in
            let needed = node-needed node.node node.op node.of.sort node.at (one-of-all (IsNeeded c.net) c.net node.node node.op circuit.needed node.at) in
            subst (λ (keyword : Keyword). IsNeededBy e.lines keyword line.arguments) (sym node.of.keyword) (subst (IsNeededBy e.lines (keyword_of node.op)) (sym (node.of.given node.is)) needed)
        by line there false rule = other-needed e.lines line.keyword line.arguments rule

    pub lines-tidy : AreTidy (pages.lines_of c)
    unfolding pages.lines_of
    lines-tidy = record { distinct = lines-differ; serve = lines-serve; are_open = lines-open; needed = lines-needed }

-- the same of what a call gives, where it gives the lines
pub are-tidy : {E : Type 0} (r : Result (List Line) E) (c : Wires) → IsCircuit c → HasTokens c → IfOk r (λ (lines : List Line). lines ≡ pages.lines_of c) → IfOk r (λ (lines : List Line). IsTidy c → AreTidy lines)
are-tidy {E} r c is tokens lines =
    IfOk-weaker r (λ (ls : List Line). ls ≡ pages.lines_of c) (λ (ls : List Line). IsTidy c → AreTidy ls) (λ ls at circuit. subst AreTidy (sym at) (lines-tidy c is tokens circuit)) lines
