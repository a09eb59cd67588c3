-- What was made of an accepted text's lines is a circuit, which is the text's.
use Rattle.std.proofs.Common.{rules, ◌≡◌, ℕ, suc, ◌<◌, ◌≤◌, Bool, true, false, List, [], ◌∷◌, Option, None, Some, length, get_or, map, refl, sym, ap, ap₂, ◌∙◌, subst, arith, All}
use Rattle.std.specs.List.{find}
use Rattle.std.specs.Option.{option_map, unwrap_or}
use Rattle.std.proofs.lemmas.List.Elements.{All-map}
use Rattle.std.proofs.lemmas.Simd.{map-map}
use Rattle.kw_bits.specs.BitVector.{BitVector, IsBits, zero_at}
use Rattle.kw_bits.specs.Laws.{HasWidth}
use Rattle.net_graph.specs.Laws.{Feeds}
use Rattle.net_graph.specs.Nets.{op_width, width_at, widths_of}
use Rattle.net_graph.specs.Values.{AllRead, Sources, no_bits, node_value, op_value, value_at, values_of, widths}
use Rattle.net_graph.proofs.NodeWidths.{widths_of-Wide}
use Rattle.net_graph.proofs.OneByOne.{length-one_by_one}
use Rattle.net_graph.proofs.OperatorWidths.{width-value_at}
use Rattle.net_graph.proofs.Values.{values-widths}
use Rattle.circuit_eval.specs.Circuits.{IsCircuit, IsInput, IsOutput, IsState, input_widths, state_widths}
use Rattle.circuit_eval.specs.declared.circuit.InputWire.{InputWire}
use Rattle.circuit_eval.specs.declared.circuit.OutputWire.{OutputWire}
use Rattle.circuit_eval.specs.declared.circuit.StateWire.{StateWire}
use Rattle.circuit_eval.specs.declared.circuit.Wires.{Wires}
use Rattle.btor2_text.specs.declared.line.Line.{Line}
use Rattle.btor2_model.specs.Acceptance.{IsAccepted}
use Rattle.btor2_model.specs.Rules.{is_init, is_input, is_next, is_output, is_state, rule_of}
use Rattle.btor2_model.specs.Run as text
use Rattle.btor2_model.specs.Scope.{DeclaredIds, behind_all, id_at, meaning_depends, no_lines}
use Rattle.btor2_model.specs.inner.SlowRun.{sets}
use Rattle.btor2_model.specs.Table.{value_in}
use Rattle.btor2_model.specs.declared.rule.FormRule.{FormRule}
use Rattle.btor2_model.proofs.Ends.{SameWidth, init-found}
use Rattle.btor2_model.proofs.Selections.{set-by}
use Rattle.btor2_net.specs.inner.Nodes.{numbering_of}
use Rattle.btor2_net.specs.Translations.{HasLines, widths_in}
use Rattle.btor2_net.specs.inner.Values.{AreNodesOf, SameStep}
use Rattle.btor2_net.specs.inner.Wires.{AreWiresOf, Stand, first_of, input_wire, node_of, output_wire, set_by, state_wire, width_of, zero_of}
use Rattle.btor2_net.specs.declared.form.Form.TheVariants as forms
use Rattle.btor2_net.specs.declared.nodes.Nodes.{Nodes}
use Rattle.btor2_model.proofs.Declared.{IsValue, all-passing, fine-lines, input-values, next-of, output-value, own-value, state-values}
use Rattle.btor2_net.proofs.Distinct.{states-given}
use Rattle.btor2_net.proofs.Independent.{same-in-all-steps}
use Rattle.btor2_net.proofs.Runs.{Matches, gives-outputs, runs-as}
use Rattle.btor2_net.proofs.Tokens.{has-tokens}

-- functions that agree on each line give the same list
pub alike : {X : Type 0} (f g : Line → X) (lines : List Line) → All (λ (line : Line). f line ≡ g line) lines → map f lines ≡ map g lines
alike {X} f g [] all = refl
alike {X} f g (line ∷ lines) all = ap₂ (λ (x : X) (xs : List X). x ∷ xs) (all 0 line (omega arith)) (alike f g lines (λ k d within. all (suc k) d (omega (arith, within))))

same-node : (o : Option ℕ) (node : ℕ) → o ≡ Some node → unwrap_or o 0 ≡ node
same-node o node is = ap (λ (p : Option ℕ). unwrap_or p 0) is

zero-bits : (w : ℕ) → 1 ≤ w → w ≤ 128 → HasWidth (zero_at w) w
zero-bits w some most = (record { some_bit = some; no_wider = most; in_range = search rules }, refl)

map-none : (o : Option Line) → option_map (λ (l : Line). id_at l.arguments 2) o ≡ None → o ≡ None
map-none None none = refl
map-none (Some line) none = absurd (cc)

some-nat : (a b : ℕ) → Some a ≡ Some b → a ≡ b
some-nat a b is = cc

module _ (lines : List Line) (accepted : IsAccepted lines) (n : Nodes) (nodes : AreNodesOf lines (numbering_of n) n.net) where
  abbrev end : DeclaredIds
  end = behind_all no_lines lines

  -- the node of a value
  node-at : (id w : ℕ) → IsValue end id w → (node_of n id < length n.net) × (width_of n id ≡ w)
  node-at id w is =
      let h = nodes.widths id w is in
      let same = same-node (value_in n.nodes id) h.node h.is in
      (subst (λ (k : ℕ). k < length n.net) (sym same) h.stands, ap (λ (k : ℕ). width_at (widths_of n.net) k) same ∙ h.width_is)

  node-value-at : (id w : ℕ) (step : text.StepValues) (s : Sources) → IsValue end id w → SameStep lines step s → node_value s n.net (node_of n id) ≡ text.values_at lines step id
  node-value-at id w step s is same =
      let h = nodes.widths id w is in
      ap (node_value s n.net) (same-node (value_in n.nodes id) h.node h.is) ∙ nodes.values step s same id h.node h.is

  -- the lines of a form stand
  inputs-own : All (λ (line : Line). is_input (rule_of line.keyword) ≡ true → IsValue end line.id (text.width_in lines line.id)) lines
  inputs-own = own-value is_input input-values lines (fine-lines lines accepted) accepted.forms

  states-own : All (λ (line : Line). is_state (rule_of line.keyword) ≡ true → IsValue end line.id (text.width_in lines line.id)) lines
  states-own = own-value is_state state-values lines (fine-lines lines accepted) accepted.forms

  outputs-own : All (λ (line : Line). is_output (rule_of line.keyword) ≡ true → IsValue end (id_at line.arguments 0) (text.width_in lines (id_at line.arguments 0))) lines
  outputs-own = output-value lines (fine-lines lines accepted) accepted.forms

  pub inputs-stand : Stand n forms.Input lines
  inputs-stand k d within passes = let line = get_or lines k d in (node-at line.id (text.width_in lines line.id) (inputs-own k d within passes)).0

  pub states-stand : Stand n forms.State lines
  states-stand k d within passes = let line = get_or lines k d in (node-at line.id (text.width_in lines line.id) (states-own k d within passes)).0

  -- their widths
  widths-by : (test : FormRule → Bool) → All (λ (line : Line). test (rule_of line.keyword) ≡ true → IsValue end line.id (text.width_in lines line.id)) lines
      → map (λ (line : Line). width_of n line.id) (text.lines_by_rule test lines) ≡ widths_in test lines
  widths-by test own =
      alike (λ (line : Line). width_of n line.id) (λ (line : Line). text.width_in lines line.id) (text.lines_by_rule test lines)
      (all-passing test (λ (line : Line). width_of n line.id ≡ text.width_in lines line.id) lines
      (λ k d within passes. let line = get_or lines k d in (node-at line.id (text.width_in lines line.id) (own k d within passes)).1))
      ∙ sym (map-map (text.width_in lines) (λ (line : Line). line.id) (text.lines_by_rule test lines))

  -- nodes are 1 to 128 bits wide
  wide : (id : ℕ) → node_of n id < length n.net → (1 ≤ width_of n id) × (width_of n id ≤ 128)
  wide id inside = widths_of-Wide n.net nodes.is_net (node_of n id) 0 (omega (arith, inside, length-one_by_one op_width [] n.net))

  -- zeros of their widths
  zeros-widths : (test : FormRule → Bool) → All (λ (line : Line). test (rule_of line.keyword) ≡ true → IsValue end line.id (text.width_in lines line.id)) lines
      → widths (map (zero_of n) (text.lines_by_rule test lines)) ≡ widths_in test lines
  zeros-widths test own = map-map (λ (v : BitVector). v.width) (zero_of n) (text.lines_by_rule test lines) ∙ widths-by test own

  zeros-bits : (test : FormRule → Bool) → All (λ (line : Line). test (rule_of line.keyword) ≡ true → IsValue end line.id (text.width_in lines line.id)) lines
      → All IsBits (map (zero_of n) (text.lines_by_rule test lines))
  zeros-bits test own =
      All-map IsBits (zero_of n) (text.lines_by_rule test lines)
      (all-passing test (λ (line : Line). IsBits (zero_of n line)) lines
      (λ k d within passes.
      let line = get_or lines k d in
      let w = wide line.id (node-at line.id (text.width_in lines line.id) (own k d within passes)).0 in
      (zero-bits (width_of n line.id) w.0 w.1).0))

  abbrev zeros : Sources
  zeros = record { inputs = map (zero_of n) (text.lines_by_rule is_input lines); states = map (zero_of n) (text.lines_by_rule is_state lines) }

  pub feeds-zeros : Feeds zeros n.net
  feeds-zeros = record {
    inputs = zeros-bits is_input inputs-own;
    states = zeros-bits is_state states-own;
    reads = subst (λ (ws : List ℕ). AllRead (widths zeros.inputs) ws n.net) (sym (zeros-widths is_state states-own))
        (subst (λ (ws : List ℕ). AllRead ws (widths_in is_state lines) n.net) (sym (zeros-widths is_input inputs-own)) nodes.reads);
  }

  abbrev constants : List BitVector
  constants = values_of zeros n.net

  abbrev zero-step : text.StepValues
  zero-step = record { inputs = λ id. zero_at (width_of n id); states = λ id. zero_at (width_of n id) }

  zeros-same : SameStep lines zero-step zeros
  zeros-same = record {
    inputs = λ place id at. states-given (text.ids_of is_input lines) zero-step.inputs place id at
        ∙ ap (λ (vs : List BitVector). value_at vs place) (map-map zero-step.inputs (λ (line : Line). line.id) (text.lines_by_rule is_input lines));
    states = λ place id at. states-given (text.ids_of is_state lines) zero-step.states place id at
        ∙ ap (λ (vs : List BitVector). value_at vs place) (map-map zero-step.states (λ (line : Line). line.id) (text.lines_by_rule is_state lines));
  }

  constants-count : length constants ≡ length n.net
  constants-count = omega (arith, length-one_by_one (op_value zeros) [] n.net)

  module _ (inits nexts : ℕ → Option ℕ) (init_is : (state : ℕ) → inits state ≡ set_by forms.Init state lines) (next_is : (state : ℕ) → nexts state ≡ set_by forms.Next state lines) where
    -- the `init` of a state
    init-line : (state id : ℕ) → inits state ≡ Some id → (found : Line) × (find (sets is_init state) lines ≡ Some found) × (id_at found.arguments 2 ≡ id)
    init-line state id is = by (find (sets is_init state) lines) refl
      where
        by : (o : Option Line) → find (sets is_init state) lines ≡ o → (found : Line) × (find (sets is_init state) lines ≡ Some found) × (id_at found.arguments 2 ≡ id)
        by (Some line) at =
            let same : Some (id_at line.arguments 2) ≡ Some id = sym (init_is state ∙ ap (option_map (λ (l : Line). id_at l.arguments 2)) at) ∙ is in
            (line, at, some-nat (id_at line.arguments 2) id same)
        by None at =
            let none : None ≡ Some id = sym (init_is state ∙ ap (option_map (λ (l : Line). id_at l.arguments 2)) at) ∙ is in absurd (cc)

    pub firsts-stand : (state id : ℕ) → inits state ≡ Some id → node_of n id < length constants
    unfolding SameWidth
    firsts-stand state id is =
        let (found, at, named) = init-line state id is in
        let w = (init-found lines no_lines state found (fine-lines lines accepted) accepted.forms at).0 in
        omega (arith, constants-count, (node-at id w.0 (subst (λ (i : ℕ). IsValue end i w.0) named w.2)).0)

    -- the first value of a state is the text's, and of the state's width
    first-is : (state : ℕ) → IsValue end state (text.width_in lines state) → (first_of n constants (inits state) state ≡ text.first_state_values lines state) × HasWidth (first_of n constants (inits state) state) (width_of n state)
    unfolding SameWidth
    first-is state own = by (inits state) refl
      where
        by : (o : Option ℕ) → inits state ≡ o → (first_of n constants (inits state) state ≡ text.first_state_values lines state) × HasWidth (first_of n constants (inits state) state) (width_of n state)
        by None is =
            let at = node-at state (text.width_in lines state) own in
            let w = wide state at.0 in
            let nothing : text.Values = text.values_at lines (record { inputs = λ _. no_bits; states = λ _. no_bits }) in
            let here : first_of n constants (inits state) state ≡ zero_at (width_of n state) = ap (λ (o : Option ℕ). first_of n constants o state) is in
            let unset : text.value_set is_init lines nothing state ≡ None = set-by is_init lines nothing state None (map-none (find (sets is_init state) lines) (sym (init_is state) ∙ is)) in (
              here ∙ ap zero_at at.1 ∙ sym (ap (λ (o : Option BitVector). unwrap_or o (zero_at (text.width_in lines state))) unset),
              subst (λ (v : BitVector). HasWidth v (width_of n state)) (sym here) (zero-bits (width_of n state) w.0 w.1),
            )
        by (Some id) is =
            let (found, at, named) = init-line state id is in
            let f = init-found lines no_lines state found (fine-lines lines accepted) accepted.forms at in
            let w = f.0 in
            let value : IsValue end id w.0 = subst (λ (i : ℕ). IsValue end i w.0) named w.2 in
            let node = node-at id w.0 value in
            let nothing : text.Values = text.values_at lines (record { inputs = λ _. no_bits; states = λ _. no_bits }) in
            let here : first_of n constants (inits state) state ≡ value_at constants (node_of n id) = ap (λ (o : Option ℕ). first_of n constants o state) is in
            let set : text.value_set is_init lines nothing state ≡ Some (nothing id) = set-by is_init lines nothing state (Some found) at ∙ ap (λ (i : ℕ). Some (nothing i)) named in
            let alone = same-in-all-steps lines zero-step (record { inputs = λ _. no_bits; states = λ _. no_bits }) id (subst (λ (i : ℕ). meaning_depends (end.meanings i) ≡ false) named f.1) in
            let all = values-widths zeros n.net nodes.is_net feeds-zeros in
            let wide_is : width_of n state ≡ w.0 = (node-at state w.0 w.1).1 in (
              here ∙ node-value-at id w.0 zero-step zeros value zeros-same ∙ alone ∙ sym (ap (λ (o : Option BitVector). unwrap_or o (zero_at (text.width_in lines state))) set),
              subst (λ (v : BitVector). HasWidth v (width_of n state)) (sym here) (
                all.1 (node_of n id) no_bits (omega (arith, constants-count, node.0)),
                sym (width-value_at constants (node_of n id)) ∙ ap (λ (ws : List ℕ). width_at ws (node_of n id)) all.0 ∙ node.1 ∙ sym wide_is,
              ),
            )

    -- the value that a state takes next is the text's
    next-is : (line : Line) → (next : Line) × (find (sets is_next line.id) lines ≡ Some next) × SameWidth end line.id (id_at next.arguments 2)
        → ((step : text.StepValues) (s : Sources) → SameStep lines step s → node_value s n.net (node_of n (unwrap_or (nexts line.id) 0)) ≡ text.next_values lines (text.values_at lines step) line.id)
        × (node_of n (unwrap_or (nexts line.id) 0) < length n.net) × (width_at (widths_of n.net) (node_of n (unwrap_or (nexts line.id) 0)) ≡ width_of n line.id)
    unfolding SameWidth
    next-is line (next, at, w) =
        let id = id_at next.arguments 2 in
        let named : unwrap_or (nexts line.id) 0 ≡ id = ap (λ (o : Option ℕ). unwrap_or o 0) (next_is line.id ∙ ap (option_map (λ (l : Line). id_at l.arguments 2)) at) in
        let node = node-at id w.0 w.2 in (
          λ step s same. ap (λ (i : ℕ). node_value s n.net (node_of n i)) named ∙ node-value-at id w.0 step s w.2 same
              ∙ sym (ap (λ (o : Option BitVector). unwrap_or o no_bits) (set-by is_next lines (text.values_at lines step) line.id (Some next) at)),
          subst (λ (i : ℕ). node_of n i < length n.net) (sym named) node.0,
          ap (λ (i : ℕ). width_of n i) named ∙ node.1 ∙ sym (node-at line.id w.0 w.1).1,
        )

    abbrev wires : Wires
    wires = record {
      net = n.net;
      states = map (state_wire n constants inits nexts) (text.lines_by_rule is_state lines);
      inputs = map (input_wire n) (text.lines_by_rule is_input lines);
      outputs = map (output_wire n) (text.lines_by_rule is_output lines);
    }

    states-widths : state_widths wires.states ≡ widths_in is_state lines
    states-widths = map-map (λ (wire : StateWire). wire.width) (state_wire n constants inits nexts) (text.lines_by_rule is_state lines) ∙ widths-by is_state states-own

    inputs-widths : input_widths wires.inputs ≡ widths_in is_input lines
    inputs-widths = map-map (λ (wire : InputWire). wire.width) (input_wire n) (text.lines_by_rule is_input lines) ∙ widths-by is_input inputs-own

    is-circuit : IsCircuit wires
    is-circuit = record {
      net = nodes.is_net;
      reads = subst (λ (ws : List ℕ). AllRead (input_widths wires.inputs) ws n.net) (sym states-widths) (subst (λ (ws : List ℕ). AllRead ws (widths_in is_state lines) n.net) (sym inputs-widths) nodes.reads);
      states = All-map (IsState n.net) (state_wire n constants inits nexts) (text.lines_by_rule is_state lines)
          (all-passing is_state (λ (line : Line). IsState n.net (state_wire n constants inits nexts line)) lines
          (λ k d within passes.
          let line = get_or lines k d in
          let next = next-is line (next-of lines accepted k d within passes) in
          record { first = (first-is line.id (states-own k d within passes)).1; next = next.1; next_width = next.2 }));
      inputs = All-map IsInput (input_wire n) (text.lines_by_rule is_input lines)
          (all-passing is_input (λ (line : Line). IsInput (input_wire n line)) lines
          (λ k d within passes. let line = get_or lines k d in wide line.id (node-at line.id (text.width_in lines line.id) (inputs-own k d within passes)).0));
      outputs = All-map (IsOutput n.net) (output_wire n) (text.lines_by_rule is_output lines)
          (all-passing is_output (λ (line : Line). IsOutput n.net (output_wire n line)) lines
          (λ k d within passes. let id = id_at (get_or lines k d).arguments 0 in (node-at id (text.width_in lines id) (outputs-own k d within passes)).0));
    }

    has-lines : HasLines lines wires
    has-lines = record {
      inputs = map-map (λ (wire : InputWire). wire.name) (input_wire n) (text.lines_by_rule is_input lines);
      input_widths = inputs-widths;
      states = map-map (λ (wire : StateWire). wire.name) (state_wire n constants inits nexts) (text.lines_by_rule is_state lines);
      state_widths = states-widths;
      outputs = map-map (λ (wire : OutputWire). wire.name) (output_wire n) (text.lines_by_rule is_output lines);
      output_widths = map-map (λ (wire : OutputWire). width_at (widths_of n.net) wire.id) (output_wire n) (text.lines_by_rule is_output lines)
          ∙ alike (λ (line : Line). width_of n (id_at line.arguments 0)) (λ (line : Line). text.width_in lines (id_at line.arguments 0)) (text.lines_by_rule is_output lines)
          (all-passing is_output (λ (line : Line). width_of n (id_at line.arguments 0) ≡ text.width_in lines (id_at line.arguments 0)) lines
          (λ k d within passes. let id = id_at (get_or lines k d).arguments 0 in (node-at id (text.width_in lines id) (outputs-own k d within passes)).1));
    }

    -- the ids of lines, and what is made of them
    by-ids : {X : Type 0} (f : ℕ → X) (test : FormRule → Bool) → map (λ (line : Line). f line.id) (text.lines_by_rule test lines) ≡ map f (text.ids_of test lines)
    by-ids {X} f test = sym (map-map f (λ (line : Line). line.id) (text.lines_by_rule test lines))

    matches : Matches lines wires
    matches = record {
      firsts = map-map (λ (wire : StateWire). wire.first) (state_wire n constants inits nexts) (text.lines_by_rule is_state lines)
          ∙ alike (λ (line : Line). first_of n constants (inits line.id) line.id) (λ (line : Line). text.first_state_values lines line.id) (text.lines_by_rule is_state lines)
          (all-passing is_state (λ (line : Line). first_of n constants (inits line.id) line.id ≡ text.first_state_values lines line.id) lines
          (λ k d within passes. (first-is (get_or lines k d).id (states-own k d within passes)).0))
          ∙ by-ids (text.first_state_values lines) is_state;
      nexts = λ step s same.
          let next = text.next_values lines (text.values_at lines step) in
          map-map (λ (wire : StateWire). value_at (values_of s n.net) wire.next) (state_wire n constants inits nexts) (text.lines_by_rule is_state lines)
          ∙ alike (λ (line : Line). node_value s n.net (node_of n (unwrap_or (nexts line.id) 0))) (λ (line : Line). next line.id) (text.lines_by_rule is_state lines)
          (all-passing is_state (λ (line : Line). node_value s n.net (node_of n (unwrap_or (nexts line.id) 0)) ≡ next line.id) lines
          (λ k d within passes. (next-is (get_or lines k d) (next-of lines accepted k d within passes)).0 step s same))
          ∙ by-ids next is_state;
      outputs = λ step s same.
          map-map (λ (wire : OutputWire). value_at (values_of s n.net) wire.id) (output_wire n) (text.lines_by_rule is_output lines)
          ∙ alike (λ (line : Line). node_value s n.net (node_of n (id_at line.arguments 0))) (λ (line : Line). text.values_at lines step (id_at line.arguments 0)) (text.lines_by_rule is_output lines)
          (all-passing is_output (λ (line : Line). node_value s n.net (node_of n (id_at line.arguments 0)) ≡ text.values_at lines step (id_at line.arguments 0)) lines
          (λ k d within passes. let id = id_at (get_or lines k d).arguments 0 in node-value-at id (text.width_in lines id) step s (outputs-own k d within passes) same));
    }

    pub are-wires : AreWiresOf lines wires
    are-wires = record { circuit = is-circuit; has_lines = has-lines; run = runs-as lines wires (fine-lines lines accepted) is-circuit has-lines matches; outputs = gives-outputs lines wires (fine-lines lines accepted) is-circuit has-lines matches; names = has-tokens lines wires accepted.forms has-lines }
