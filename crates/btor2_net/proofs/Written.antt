-- What a circuit is written as is an accepted text with the circuit's names, widths and run.
use Rattle.std.proofs.Common.{◌≡◌, ℕ, suc, ◌+◌, ◌<◌, ◌≤◌, ◌^◌, not, Bool, true, false, ◌&&◌, cond, List, [], ◌∷◌, ◌++◌, Option, None, Some, length, map, refl, sym, ap, ap₂, ◌∙◌, subst, arith, append-nil}
use Rattle.std.specs.Prelude.{IfOk, Result, Ok, Err, slice_get}
use Rattle.std.proofs.lemmas.Result.{IfOk-weaker}
use Rattle.std.specs.List.{find}
use Rattle.std.specs.Option.{option_map, option_or, unwrap_or}
use Rattle.std.proofs.lemmas.Option.{get_or_from_slice_get, slice_get_within}
use Rattle.std.proofs.lemmas.Simd.{map-map}
use Rattle.kw_bits.specs.BitVector.{zero_at}
use Rattle.net_graph.specs.Nets.{width_at, widths_of}
use Rattle.net_graph.specs.Values.{Sources, node_value, value_at, values_of}
use Rattle.circuit_eval.specs.Circuits.{IsCircuit, IsInput, IsOutput, IsState, input_widths, state_widths}
use Rattle.circuit_eval.specs.declared.circuit.InputWire.{InputWire}
use Rattle.circuit_eval.specs.declared.circuit.OutputWire.{OutputWire}
use Rattle.circuit_eval.specs.declared.circuit.StateWire.{StateWire}
use Rattle.circuit_eval.specs.declared.circuit.Wires.{Wires}
use Rattle.kw_base.specs.declared.fault.Fault.{Fault}
use Rattle.btor2_text.specs.Printable.{IsPlainToken}
use Rattle.btor2_text.specs.declared.kind.ArgumentKind.TheVariants as kinds
use Rattle.btor2_text.specs.declared.line.Line.{Line}
use Rattle.btor2_model.specs.Acceptance.{IsAccepted, fault_in, first_fault, lacks_next, lines_fault}
use Rattle.btor2_model.specs.Rules.{is_init, is_input, is_next, is_output, is_state, rule_of}
use Rattle.btor2_model.specs.Run as text
use Rattle.btor2_model.specs.Scope.{DeclaredIds, id_at, no_lines, width_wanted}
use Rattle.btor2_net.specs.Pages as pages
use Rattle.btor2_net.specs.Pages.{Draft, Page, id_in}
use Rattle.btor2_net.specs.Translations.{AreCounted, GivesOutputs, HasLines, HasTokens, RunsAs, line_name}
use Rattle.btor2_net.specs.inner.Values.{AreGiven, SameStep}
use Rattle.btor2_net.proofs.Adding.{scope_of}
use Rattle.btor2_model.proofs.Declared.{width-is}
use Rattle.btor2_net.proofs.Distinct.{AreDistinct, ids-distinct}
use Rattle.btor2_net.proofs.Keeping.{Keeps, Names, continued-by, keeps-both, names-keep, was-set}
use Rattle.btor2_net.proofs.Runs.{Matches, gives-outputs, runs-as}
use Rattle.btor2_net.proofs.WrittenEnds as ends
use Rattle.btor2_net.proofs.WrittenInputs as ins
use Rattle.btor2_net.proofs.WrittenLines.{Pairs, map-each, mapped, one-of-all, pairs-at, pairs-count, pairs-first, pairs-map, pairs-weaker}
use Rattle.btor2_net.proofs.WrittenNodes as nodes
use Rattle.btor2_net.proofs.WrittenSorts.{Quiet}
use Rattle.btor2_net.proofs.WrittenStates as states
use Rattle.btor2_net.proofs.WrittenStates.{IsStateOn, NoState, state_meaning}

quiet-input : Quiet is_input
quiet-input = record { sort = refl; numeral = refl; unary = refl; reduced = refl; binary = refl; compared = refl; boolean = refl; joined = refl; sliced = refl; extended = refl; chosen = refl }

quiet-next : Quiet is_next
quiet-next = record { sort = refl; numeral = refl; unary = refl; reduced = refl; binary = refl; compared = refl; boolean = refl; joined = refl; sliced = refl; extended = refl; chosen = refl }

quiet-output : Quiet is_output
quiet-output = record { sort = refl; numeral = refl; unary = refl; reduced = refl; binary = refl; compared = refl; boolean = refl; joined = refl; sliced = refl; extended = refl; chosen = refl }

pairs-from : {A B : Type 0} (P : A → B → Type 0) (xs : List A) (ys : List B) → length xs ≡ length ys → ((k : ℕ) (x : A) (y : B) → slice_get xs k ≡ Some x → slice_get ys k ≡ Some y → P x y) → Pairs P xs ys
pairs-from {A} {B} P [] [] count each = tt
pairs-from {A} {B} P [] (y ∷ ys) count each = absurd (omega (arith, count))
pairs-from {A} {B} P (x ∷ xs) [] count each = absurd (omega (arith, count))
pairs-from {A} {B} P (x ∷ xs) (y ∷ ys) count each = (each 0 x y refl refl, pairs-from P xs ys (omega (arith, count)) (λ k a b one two. each (suc k) a b one two))

-- the ids of states where one more line is looked at
ids-with : Line → List Line → Bool → List ℕ
ids-with line lines b = map (λ (l : Line). l.id) (cond b (line ∷ text.lines_by_rule is_state lines) (text.lines_by_rule is_state lines))

passes : (continued : Bool) → continued ≡ true → (true && not continued) ≡ false
passes true is = refl
passes false is = absurd (cc)

-- each state of the lines has a `next`
none-lacks : (end : DeclaredIds) (lines : List Line) → ((k id : ℕ) → slice_get (text.ids_of is_state lines) k ≡ Some id → end.continued id ≡ true) → find (lacks_next end) lines ≡ None
unfolding ids-with
none-lacks end [] all = refl
none-lacks end (line ∷ lines) all = by (is_state (rule_of line.keyword)) refl (none-lacks end lines)
  where
    by : (b : Bool) → is_state (rule_of line.keyword) ≡ b
        → (((k id : ℕ) → slice_get (text.ids_of is_state lines) k ≡ Some id → end.continued id ≡ true) → find (lacks_next end) lines ≡ None) → find (lacks_next end) (line ∷ lines) ≡ None
    by true is rest =
        let one : end.continued line.id ≡ true = all 0 line.id (ap (λ (b : Bool). slice_get (ids-with line lines b) 0) is) in
        ap (λ (b : Bool). cond (b && not (end.continued line.id)) (Some line) (find (lacks_next end) lines)) is
        ∙ ap (λ (b : Bool). cond b (Some line) (find (lacks_next end) lines)) (passes (end.continued line.id) one)
        ∙ rest (λ k id at. all (suc k) id (ap (λ (b : Bool). slice_get (ids-with line lines b) (suc k)) is ∙ at))
    by false is rest =
        ap (λ (b : Bool). cond (b && not (end.continued line.id)) (Some line) (find (lacks_next end) lines)) is
        ∙ rest (λ k id at. all k id (ap (λ (b : Bool). slice_get (ids-with line lines b) k) is ∙ at))

module _ (c : Wires) (is : IsCircuit c) (tokens : HasTokens c) where
  abbrev ws : List ℕ
  ws = widths_of c.net

  -- the states
  abbrev s : Draft
  s = pages.states_of c

  pub has-s : states.HasStates s c.states
  has-s =
      states.has-states (record { page = pages.blank; ids = [] }) [] c.states states.no-states
      (λ k wire at. ((one-of-all (IsState c.net) c.states k wire is.states at).first, one-of-all (λ (w : StateWire). IsPlainToken w.name) c.states k wire tokens.states at))

  -- the inputs
  abbrev i : Draft
  i = pages.inputs_of c

  no-input : NoState is_input
  no-input = record { sort = refl; numeral = refl; state = refl; init = refl }

  pub has-i : ins.HasInputs s.page i c.inputs
  has-i =
      ins.has-inputs s.page (record { page = s.page; ids = [] }) [] c.inputs (ins.no-inputs s.page has-s.good (has-s.none is_input no-input))
      (λ k wire at. let bounds = one-of-all IsInput c.inputs k wire is.inputs at in record { some = bounds.0; most = bounds.1; token = one-of-all (λ (w : InputWire). IsPlainToken w.name) c.inputs k wire tokens.inputs at })

  inits-i : text.lines_by_rule is_init i.page.lines ≡ text.lines_by_rule is_init s.page.lines ++ []
  inits-i = has-i.same is_init refl refl ∙ sym (append-nil (text.lines_by_rule is_init s.page.lines))

  pub states-i : Pairs (IsStateOn i.page) s.ids c.states
  states-i = pairs-weaker (IsStateOn s.page) (IsStateOn i.page) s.ids c.states (λ id wire on. states.state-stays s.page i.page [] id wire has-i.keeps inits-i on) has-s.states

  -- the nodes
  abbrev n : Draft
  n = pages.nodes_of c

  pub input-sources : nodes.AreSources c.net is.net i.ids s.ids i.page i.ids (λ (step : text.StepValues). step.inputs) (input_widths c.inputs)
  input-sources number width reads =
      let w = mapped (λ (wire : InputWire). wire.width) c.inputs number width reads in
      let p = pairs-at (ins.IsInputOn i.page) i.ids c.inputs number w.0 has-i.inputs w.1 in
      let id : p.0 ≡ id_in i.ids number = sym (get_or_from_slice_get i.ids number p.0 0 p.1) in
      record {
        at = p.1 ∙ ap Some id;
        named = subst (λ (k : ℕ). Names kinds.Value i.page k width) id (p.2.named ∙ ap Some w.2);
        value = λ step. subst (λ (k : ℕ). text.values_at i.page.lines step k ≡ step.inputs k) id (p.2.value step);
      }

  pub state-sources : nodes.AreSources c.net is.net i.ids s.ids i.page s.ids (λ (step : text.StepValues). step.states) (state_widths c.states)
  state-sources number width reads =
      let w = mapped (λ (wire : StateWire). wire.width) c.states number width reads in
      let p = pairs-at (IsStateOn i.page) s.ids c.states number w.0 states-i w.1 in
      let id : p.0 ≡ id_in s.ids number = sym (get_or_from_slice_get s.ids number p.0 0 p.1) in
      record {
        at = p.1 ∙ ap Some id;
        named = subst (λ (k : ℕ). Names kinds.Value i.page k width) id (ap (width_wanted kinds.Value) p.2.means ∙ ap Some w.2);
        value = λ step. subst (λ (k : ℕ). text.values_at i.page.lines step k ≡ step.states k) id (p.2.value step);
      }

  all-n : nodes.HasNodes c.net is.net i.ids s.ids (input_widths c.inputs) (state_widths c.states) i.page n × (length n.ids ≡ 0 + length c.net)
  all-n =
      nodes.has-nodes c.net is.net i.ids s.ids (input_widths c.inputs) (state_widths c.states) i.page (record { page = i.page; ids = [] }) c.net
      (nodes.no-nodes c.net is.net i.ids s.ids (input_widths c.inputs) (state_widths c.states) i.page has-i.good)
      (λ j op at. let same : j ≡ 0 + j = omega arith in subst (λ (k : ℕ). slice_get c.net k ≡ Some op) same at) is.reads input-sources state-sources

  has-n : nodes.HasNodes c.net is.net i.ids s.ids (input_widths c.inputs) (state_widths c.states) i.page n
  has-n = all-n.0

  node-n : (node : ℕ) → node < length c.net → nodes.IsNodeOn c.net is.net i.ids s.ids n.page (id_in n.ids node) node
  node-n node within = has-n.nodes node (omega (arith, within, all-n.1))

  -- the `next`s
  abbrev x : Page
  x = pages.with_nexts n.ids s.ids n.page 0 c.states

  pub distinct : AreDistinct s.ids
  distinct = subst AreDistinct has-s.ids (ids-distinct is_state s.page.lines no_lines has-s.good.sound.fine)

  pub states-count : length s.ids ≡ length c.states
  states-count = pairs-count (IsStateOn s.page) s.ids c.states has-s.states

  may : (j : ℕ) (wire : StateWire) → slice_get c.states j ≡ Some wire → ends.MayGoOn n.ids s.ids distinct n.page j wire
  may j wire at =
      let p = pairs-at (IsStateOn s.page) s.ids c.states j wire has-s.states at in
      let id : p.0 ≡ id_in s.ids j = sym (get_or_from_slice_get s.ids j p.0 0 p.1) in
      let state = one-of-all (IsState c.net) c.states j wire is.states at in
      let keeps = keeps-both s.page i.page n.page has-i.keeps has-n.keeps in
      record {
        some = subst (λ (k : ℕ). 1 ≤ k) state.first.1 state.first.0.some_bit;
        most = subst (λ (k : ℕ). k ≤ 128) state.first.1 state.first.0.no_wider;
        at = p.1 ∙ ap Some id;
        state = subst (λ (k : ℕ). (scope_of n.page).meanings k ≡ Some (state_meaning wire.width)) id (keeps.means p.0 (state_meaning wire.width) p.2.means);
        value = (node-n wire.next state.next).named ∙ ap Some state.next_width;
      }

  no-next : NoState is_next
  no-next = record { sort = refl; numeral = refl; state = refl; init = refl }

  pub nexts-before : text.lines_by_rule is_next n.page.lines ≡ []
  nexts-before = has-n.same is_next quiet-next ∙ has-i.same is_next refl refl ∙ has-s.none is_next no-next

  pub has-x : ends.HasNexts n.ids s.ids distinct c.states n.page x (0 + length c.states)
  has-x =
      ends.has-nexts n.ids s.ids distinct c.states n.page n.page 0 c.states
      (ends.no-nexts n.ids s.ids distinct c.states n.page has-n.good nexts-before)
      (λ j wire at. let same : j ≡ 0 + j = omega arith in subst (λ (k : ℕ). slice_get c.states k ≡ Some wire) same at) may

  -- the outputs
  abbrev e : Page
  e = pages.with_outputs n.ids x c.outputs

  no-output : NoState is_output
  no-output = record { sort = refl; numeral = refl; state = refl; init = refl }

  pub has-e : ends.HasOutputs n.ids x e c.outputs
  has-e =
      ends.has-outputs n.ids x x [] c.outputs
      (ends.no-outputs n.ids x has-x.good (has-x.same is_output refl refl ∙ has-n.same is_output quiet-output ∙ has-i.same is_output refl refl ∙ has-s.none is_output no-output))
      (λ k wire at.
      let node = node-n wire.id (one-of-all (IsOutput c.net) c.outputs k wire is.outputs at) in
      record { width = width_at ws wire.id; value = names-keep kinds.Value n.page x (id_in n.ids wire.id) (width_at ws wire.id) has-x.keeps node.named; token = one-of-all (λ (w : OutputWire). IsPlainToken w.name) c.outputs k wire tokens.outputs at })

  -- what stands at the end
  from-n : Keeps n.page e
  from-n = keeps-both n.page x e has-x.keeps has-e.keeps

  from-i : Keeps i.page e
  from-i = keeps-both i.page n.page e has-n.keeps from-n

  from-s : Keeps s.page e
  from-s = keeps-both s.page i.page e has-i.keeps from-i

  node-e : (node : ℕ) → node < length c.net → nodes.IsNodeOn c.net is.net i.ids s.ids e (id_in n.ids node) node
  node-e node within = nodes.node-stays c.net is.net i.ids s.ids n.page e (id_in n.ids node) node from-n (node-n node within)

  inits-e : text.lines_by_rule is_init e.lines ≡ text.lines_by_rule is_init s.page.lines ++ []
  inits-e = has-e.same is_init refl ∙ has-x.same is_init refl refl ∙ has-n.same is_init states.quiet-init ∙ inits-i

  states-are : text.lines_by_rule is_state e.lines ≡ text.lines_by_rule is_state s.page.lines
  states-are = has-e.same is_state refl ∙ has-x.same is_state refl refl ∙ has-n.same is_state states.quiet-state ∙ has-i.same is_state refl refl

  inputs-are : text.lines_by_rule is_input e.lines ≡ text.lines_by_rule is_input i.page.lines
  inputs-are = has-e.same is_input refl ∙ has-x.same is_input refl refl ∙ has-n.same is_input quiet-input

  pub state-ids : text.ids_of is_state e.lines ≡ s.ids
  state-ids = ap (map (λ (l : Line). l.id)) states-are ∙ has-s.ids

  pub input-ids : text.ids_of is_input e.lines ≡ i.ids
  input-ids = ap (map (λ (l : Line). l.id)) inputs-are ∙ has-i.ids

  states-e : Pairs (IsStateOn e) s.ids c.states
  states-e = pairs-weaker (IsStateOn s.page) (IsStateOn e) s.ids c.states (λ id wire on. states.state-stays s.page e [] id wire from-s inits-e on) has-s.states

  inputs-e : Pairs (ins.IsInputOn e) i.ids c.inputs
  inputs-e = pairs-weaker (ins.IsInputOn i.page) (ins.IsInputOn e) i.ids c.inputs (λ id wire on. ins.input-stays i.page e id wire from-i on) has-i.inputs

  -- a state with its `next`
  pub record GoesOn (id : ℕ) (wire : StateWire) : Type 0 where
    pub next : ends.IsNextOn e id (id_in n.ids wire.next)
    pub within : wire.next < length c.net

  pub nexts-e : Pairs GoesOn s.ids c.states
  nexts-e =
      pairs-from GoesOn s.ids c.states states-count
      (λ k id wire one two.
      let inside : k < 0 + length c.states = omega (arith, slice_get_within c.states k wire two) in
      let same : id_in s.ids k ≡ id = get_or_from_slice_get s.ids k id 0 one in
      let all : text.lines_by_rule is_next e.lines ≡ text.lines_by_rule is_next x.lines ++ [] = has-e.same is_next refl ∙ sym (append-nil (text.lines_by_rule is_next x.lines)) in
      record {
        next = subst (λ (j : ℕ). ends.IsNextOn e j (id_in n.ids wire.next)) same (ends.next-stays x e [] (id_in s.ids k) (id_in n.ids wire.next) all (has-x.before k wire inside two));
        within = (one-of-all (IsState c.net) c.states k wire is.states two).next;
      })

  pub fine : lines_fault no_lines e.lines ≡ None
  fine = has-e.good.sound.fine

  goes-on : (k id : ℕ) → slice_get (text.ids_of is_state e.lines) k ≡ Some id → (scope_of e).continued id ≡ true
  goes-on k id at =
      let here : slice_get s.ids k ≡ Some id = sym (ap (λ (ids : List ℕ). slice_get ids k) state-ids) ∙ at in
      let on = pairs-first GoesOn s.ids c.states k id nexts-e here in
      ap (λ (f : ℕ → Bool). f id) (continued-by e.lines no_lines) ∙ was-set (text.lines_by_rule is_next e.lines) (λ _. false) id on.1.next.set on.1.next.found

  no-fault : first_fault e.lines ≡ None
  no-fault =
      ap₂ (λ (a : Option Fault) (b : Option Line). option_or a (option_map (λ (line : Line). fault_in line 56) b)) fine (none-lacks (scope_of e) e.lines goes-on)

  -- the text is accepted where its ids can be written
  accepted : length e.lines < 2 ^ 64 → IsAccepted e.lines
  accepted few = record { forms = has-e.good.sound.forms few; no_fault = no-fault }

  width-e : (id w : ℕ) → Names kinds.Value e id w → text.width_in e.lines id ≡ w
  width-e id w named = width-is (scope_of e) id w named

  -- names and widths
  has-lines : HasLines e.lines c
  has-lines = record {
    inputs = sym (ap (map line_name) inputs-are ∙ has-i.names);
    input_widths = sym (ap (map (text.width_in e.lines)) input-ids
        ∙ pairs-map (ins.IsInputOn e) (text.width_in e.lines) (λ (wire : InputWire). wire.width) i.ids c.inputs (λ id wire on. width-e id wire.width on.named) inputs-e);
    states = sym (ap (map line_name) states-are ∙ has-s.names);
    state_widths = sym (ap (map (text.width_in e.lines)) state-ids
        ∙ pairs-map (IsStateOn e) (text.width_in e.lines) (λ (wire : StateWire). wire.width) s.ids c.states (λ id wire on. width-e id wire.width (ap (width_wanted kinds.Value) on.means)) states-e);
    outputs = sym has-e.names;
    output_widths = sym (sym (map-map (text.width_in e.lines) (λ (line : Line). id_at line.arguments 0) (text.lines_by_rule is_output e.lines)) ∙ ap (map (text.width_in e.lines)) has-e.ids
        ∙ map-map (text.width_in e.lines) (λ (wire : OutputWire). id_in n.ids wire.id) c.outputs
        ∙ map-each (λ (wire : OutputWire). text.width_in e.lines (id_in n.ids wire.id)) (λ (wire : OutputWire). width_at ws wire.id) c.outputs
        (λ k wire at. width-e (id_in n.ids wire.id) (width_at ws wire.id) (node-e wire.id (one-of-all (IsOutput c.net) c.outputs k wire is.outputs at)).named));
  }

  -- what a step gives the ids
  given-inputs : (step : text.StepValues) (sources : Sources) → SameStep e.lines step sources → AreGiven i.ids step.inputs sources.inputs
  given-inputs step sources same = subst (λ (ids : List ℕ). AreGiven ids step.inputs sources.inputs) input-ids same.inputs

  given-states : (step : text.StepValues) (sources : Sources) → SameStep e.lines step sources → AreGiven s.ids step.states sources.states
  given-states step sources same = subst (λ (ids : List ℕ). AreGiven ids step.states sources.states) state-ids same.states

  -- a node's value
  value-e : (step : text.StepValues) (sources : Sources) → SameStep e.lines step sources → (node : ℕ) → node < length c.net → text.values_at e.lines step (id_in n.ids node) ≡ node_value sources c.net node
  value-e step sources same node within = (node-e node within).value step sources (given-inputs step sources same) (given-states step sources same)

  abbrev nothing : text.Values
  nothing = text.values_at e.lines (record { inputs = λ _. text.no_bits; states = λ _. text.no_bits })

  first-of : (id : ℕ) (wire : StateWire) → IsStateOn e id wire → text.first_state_values e.lines id ≡ wire.first
  first-of id wire on =
      ap (λ (o : Option Line). unwrap_or (option_map (λ (line : Line). nothing (id_at line.arguments 2)) o) (zero_at (text.width_in e.lines id))) on.found
      ∙ on.gives (record { inputs = λ _. text.no_bits; states = λ _. text.no_bits })

  next-of : (step : text.StepValues) (sources : Sources) → SameStep e.lines step sources → (id : ℕ) (wire : StateWire) → GoesOn id wire
      → text.next_values e.lines (text.values_at e.lines step) id ≡ value_at (values_of sources c.net) wire.next
  next-of step sources same id wire on =
      ap (λ (o : Option Line). unwrap_or (option_map (λ (line : Line). text.values_at e.lines step (id_at line.arguments 2)) o) text.no_bits) on.next.found
      ∙ ap (text.values_at e.lines step) on.next.named ∙ value-e step sources same wire.next on.within

  matches : Matches e.lines c
  matches = record {
    firsts = sym (ap (map (text.first_state_values e.lines)) state-ids ∙ pairs-map (IsStateOn e) (text.first_state_values e.lines) (λ (wire : StateWire). wire.first) s.ids c.states first-of states-e);
    nexts = λ step sources same. sym (ap (map (text.next_values e.lines (text.values_at e.lines step))) state-ids
        ∙ pairs-map GoesOn (text.next_values e.lines (text.values_at e.lines step)) (λ (wire : StateWire). value_at (values_of sources c.net) wire.next) s.ids c.states (next-of step sources same) nexts-e);
    outputs = λ step sources same. sym (sym (map-map (text.values_at e.lines step) (λ (line : Line). id_at line.arguments 0) (text.lines_by_rule is_output e.lines)) ∙ ap (map (text.values_at e.lines step)) has-e.ids
        ∙ map-map (text.values_at e.lines step) (λ (wire : OutputWire). id_in n.ids wire.id) c.outputs
        ∙ map-each (λ (wire : OutputWire). text.values_at e.lines step (id_in n.ids wire.id)) (λ (wire : OutputWire). value_at (values_of sources c.net) wire.id) c.outputs
        (λ k wire at. value-e step sources same wire.id (one-of-all (IsOutput c.net) c.outputs k wire is.outputs at)));
  }

  -- what holds of the lines of the circuit
  pub lines-accepted : length (pages.lines_of c) < 2 ^ 64 → IsAccepted (pages.lines_of c)
  unfolding pages.lines_of
  lines-accepted few = accepted few

  pub lines-have : HasLines (pages.lines_of c) c
  unfolding pages.lines_of
  lines-have = has-lines

  pub lines-run : RunsAs (pages.lines_of c) c
  unfolding pages.lines_of
  lines-run = runs-as e.lines c fine is has-lines matches

  pub lines-give : GivesOutputs (pages.lines_of c) c
  unfolding pages.lines_of
  lines-give = gives-outputs e.lines c fine is has-lines matches

  pub lines-counted : AreCounted (pages.lines_of c)
  unfolding pages.lines_of
  lines-counted = has-e.good.counted

-- the same of what a call gives, where it gives the lines
pub record AreWritten {E : Type 0} (r : Result (List Line) E) (c : Wires) : Type 0 where
  pub lines : IfOk r (λ (lines : List Line). lines ≡ pages.lines_of c)
  pub accepted : IfOk r IsAccepted
  pub names : IfOk r (λ (lines : List Line). HasLines lines c)
  pub run : IfOk r (λ (lines : List Line). RunsAs lines c)
  pub outputs : IfOk r (λ (lines : List Line). GivesOutputs lines c)
  pub ids : IfOk r AreCounted

pub are-written : {E : Type 0} (r : Result (List Line) E) (given c : Wires) → given ≡ c → IsCircuit c → HasTokens c → IfOk r (λ (lines : List Line). lines ≡ pages.lines_of given) → IfOk r (λ (lines : List Line). length lines < 2 ^ 64)
    → AreWritten r c
are-written {E} r given c same is tokens lines few =
    let lines_are : IfOk r (λ (ls : List Line). ls ≡ pages.lines_of c) = IfOk-weaker r (λ (ls : List Line). ls ≡ pages.lines_of given) (λ (ls : List Line). ls ≡ pages.lines_of c) (λ ls at. at ∙ ap pages.lines_of same) lines in
    record {
      lines = lines_are;
      accepted = both r (λ (ls : List Line). ls ≡ pages.lines_of c) (λ (ls : List Line). length ls < 2 ^ 64) IsAccepted
          (λ ls at small. subst IsAccepted (sym at) (lines-accepted c is tokens (subst (λ (ks : List Line). length ks < 2 ^ 64) at small))) lines_are few;
      names = IfOk-weaker r (λ (ls : List Line). ls ≡ pages.lines_of c) (λ (ls : List Line). HasLines ls c) (λ ls at. subst (λ (ks : List Line). HasLines ks c) (sym at) (lines-have c is tokens)) lines_are;
      run = IfOk-weaker r (λ (ls : List Line). ls ≡ pages.lines_of c) (λ (ls : List Line). RunsAs ls c) (λ ls at. subst (λ (ks : List Line). RunsAs ks c) (sym at) (lines-run c is tokens)) lines_are;
      outputs = IfOk-weaker r (λ (ls : List Line). ls ≡ pages.lines_of c) (λ (ls : List Line). GivesOutputs ls c) (λ ls at. subst (λ (ks : List Line). GivesOutputs ks c) (sym at) (lines-give c is tokens)) lines_are;
      ids = IfOk-weaker r (λ (ls : List Line). ls ≡ pages.lines_of c) AreCounted (λ ls at. subst AreCounted (sym at) (lines-counted c is tokens)) lines_are;
    }
  where
    both : (r : Result (List Line) E) (P Q R : List Line → Type 0) → ((ls : List Line) → P ls → Q ls → R ls) → IfOk r P → IfOk r Q → IfOk r R
    both (Ok ls) P Q R more p q = more ls p q
    both (Err e) P Q R more p q = p
