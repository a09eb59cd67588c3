-- The module of a circuit is legal, and its run is the circuit's.
use Rattle.std.proofs.Common.{◌≡◌, ℕ, zero, suc, ◌+◌, ◌<◌, ◌≤◌, ◌^◌, Bool, true, false, cond, eqb, filter, List, [], ◌∷◌, length, map, get_or, arith, refl, sym, ap, ap₂, subst, ◌∙◌}
use Rattle.std.specs.Prelude.{All}
use Rattle.std.specs.List.{AllByRecursion}
use Rattle.std.proofs.lemmas.List.Elements.{All-map, recursion_from_All}
use Rattle.std.proofs.lemmas.Nat.{pow_pos}
use Rattle.std.proofs.lemmas.Simd.{map-map}
use Rattle.kw_bits.specs.BitVector.{BitVector, IsBits, zero_at}
use Rattle.net_graph.specs.Laws.{Feeds}
use Rattle.net_graph.specs.Nets.{width_at, widths_of}
use Rattle.net_graph.specs.Values.{Sources, value_at, values_of, widths}
use Rattle.net_graph.proofs.OperatorWidths.{width-value_at}
use Rattle.net_graph.proofs.Values.{values-widths}
use Rattle.typed_core.specs.Widths.{HaveWidths}
use Rattle.one_rule.specs.Run.{InputsByCycle}
use Rattle.one_rule.specs.Stimulus.{inputs_of}
use Rattle.one_rule.specs.declared.rows.Row.{Row}
use Rattle.circuit_eval.specs.Circuits.{AreBits, IsCircuit, IsInput, input_widths, state_widths}
use Rattle.circuit_eval.specs.Run as wired
use Rattle.circuit_eval.specs.declared.circuit.InputWire.{InputWire}
use Rattle.circuit_eval.specs.declared.circuit.OutputWire.{OutputWire}
use Rattle.circuit_eval.specs.declared.circuit.StateWire.{StateWire}
use Rattle.circuit_eval.specs.declared.circuit.Wires.{Wires}
use Rattle.circuit_eval.proofs.Fitting.{first_states-AreBits, next_states-AreBits, step_feeds}
use Rattle.circuit_eval.proofs.Stimuli.{HaveWidths-AreBits}
use Rattle.verilog_text.specs.Modules as legal
use Rattle.verilog_text.specs.Modules.{HasOperand, IsLegal, Widths, WiresFit, outer_widths}
use Rattle.verilog_text.specs.Runs as run
use Rattle.verilog_text.specs.Runs.{Signals, operand_value, with_wires}
use Rattle.verilog_text.specs.Translations.{HasFlags, HasParts, IsNeverReset, RunsAs}
use Rattle.verilog_text.specs.declared.draft.Draft.{Draft}
use Rattle.verilog_text.specs.declared.module.Module.{Module}
use Rattle.verilog_text.specs.declared.module.Operand.{Operand}
use Rattle.verilog_text.specs.declared.module.Output.{Output}
use Rattle.verilog_text.specs.declared.module.Port.{Port}
use Rattle.verilog_text.specs.declared.module.Register.{Register}
use Rattle.verilog_text.specs.declared.module.Wire.{Wire}
use Rattle.verilog_text.specs.declared.verilog.Options.{Options}
use Rattle.verilog_text.specs.inner.Making.{draft_of, input_of, module_of, module_with, operand_at, output_of, register_of}
use Rattle.verilog_text.proofs.Drafts.{AreShown, drafted, outer, start, with_widths}
use Rattle.verilog_text.proofs.Pieces.{shown}

-- functions that agree on each item give the same list
alike : {X Y : Type 0} (f g : X → Y) (xs : List X) → All (λ (x : X). f x ≡ g x) xs → map f xs ≡ map g xs
alike {X} {Y} f g [] all = refl
alike {X} {Y} f g (x ∷ xs) all =
    ap₂ (λ (y : Y) (ys : List Y). y ∷ ys) (all 0 x (omega arith))
    (alike f g xs (λ k d within. all (suc k) d (omega (arith, within))))

zero-bits : (w : ℕ) → 1 ≤ w → w ≤ 128 → IsBits (zero_at w)
zero-bits w some most = record { some_bit = some; no_wider = most; in_range = pow_pos w }

abbrev zero_input : InputWire → BitVector
zero_input wire = zero_at wire.width

zeros-are : (inputs : List InputWire) → All IsInput inputs → AreBits (map zero_input inputs) (input_widths inputs)
zeros-are inputs all = record {
  widths = map-map (λ (v : BitVector). v.width) zero_input inputs;
  bits = All-map IsBits zero_input inputs (λ k d within. let is = all k d within in
      zero-bits (get_or inputs k d).width is.0 is.1);
}

module _ (c : Wires) (options : Options) (valid : IsCircuit c) (flags : HasFlags c) where
  abbrev draft : Draft
  draft = draft_of c.net

  abbrev m : Module
  m = module_of c options

  -- ---- names and widths

  m-inputs : m.inputs ≡ map input_of c.inputs
  unfolding module_with
  m-inputs = refl

  m-outputs : m.outputs ≡ map (output_of draft.operands) c.outputs
  unfolding module_with
  m-outputs = refl

  m-registers : m.registers ≡ map (register_of options.registers draft.operands) c.states
  unfolding module_with
  m-registers = refl

  m-wires : m.wires ≡ draft.wires
  unfolding module_with
  m-wires = refl

  first-are : run.first_values m ≡ wired.first_states c.states
  first-are = ap (map (λ (r : Register). r.first)) m-registers
      ∙ map-map (λ (r : Register). r.first) (register_of options.registers draft.operands) c.states

  pub parts : HasParts c options m
  unfolding module_with
  parts = record {
    name = refl;
    clock = refl;
    reset = refl;
    ports = All-map (λ (r : Register). r.is_port ≡ options.registers)
        (register_of options.registers draft.operands) c.states (λ k d within. refl);
    inputs = map-map (λ (p : Port). p.name) input_of c.inputs;
    input_widths = map-map (λ (p : Port). p.width) input_of c.inputs;
    outputs = map-map (λ (o : Output). o.name) (output_of draft.operands) c.outputs;
    registers = map-map (λ (r : Register). r.name) (register_of options.registers draft.operands) c.states;
    first_values = map-map (λ (r : Register). r.first) (register_of options.registers draft.operands) c.states;
  }

  -- ---- a cycle

  module _ (inputs states : List BitVector) (given : AreBits inputs (input_widths c.inputs))
      (now : AreBits states (state_widths c.states)) where
    abbrev source : Sources
    source = record { inputs = inputs; states = states }

    abbrev values : List BitVector
    values = values_of source c.net

    feeds : Feeds source c.net
    feeds = step_feeds c inputs states valid given now

    all-shown : AreShown c.net valid.net source feeds draft (length c.net)
    all-shown = drafted c.net valid.net source feeds

    abbrev signals : Signals
    signals = run.signals_of m inputs states

    signals-are : with_wires (start c.net valid.net source feeds) draft.wires ≡ signals
    signals-are =
        ap (λ (wires : List Wire). with_wires (record { inputs = inputs; registers = states; wires = [] }) wires)
        (sym m-wires)

    -- a node's operand has its value
    operand-is : (id : ℕ) → id < length c.net
        → operand_value signals (operand_at draft.operands id) ≡ value_at values id
    operand-is id within =
        let o : Operand = operand_at draft.operands id in
        ap (λ (s : Signals). operand_value s o) (sym signals-are)
        ∙ shown (with_widths (outer c.net valid.net source feeds) draft.wires)
        (with_wires (start c.net valid.net source feeds) draft.wires) o (width_at (widths_of c.net) id)
        (value_at values id) (all-shown.shows id within)

    nexts-are : run.next_values m signals ≡ wired.next_states c.states values
    nexts-are =
        ap (map (λ (r : Register). operand_value signals r.next)) m-registers
        ∙ map-map (λ (r : Register). operand_value signals r.next)
        (register_of options.registers draft.operands) c.states
        ∙ alike (λ (wire : StateWire). operand_value signals (operand_at draft.operands wire.next))
        (λ (wire : StateWire). value_at values wire.next) c.states
        (λ k d within. operand-is (get_or c.states k d).next (valid.states k d within).next)

    -- the flags of outputs of one bit
    flags-all : (outputs : List OutputWire)
        → AllByRecursion (λ (wire : OutputWire). (value_at values wire.id).width ≡ 1) outputs
        → map (λ (wire : OutputWire). eqb (value_at values wire.id).number 1) outputs ≡ wired.flags
        (wired.outputs_in outputs values)
    flags-all [] all = refl
    flags-all (wire ∷ outputs) all =
        let value : BitVector = value_at values wire.id in
        let rest : List BitVector = wired.outputs_in outputs values in
        let narrow : eqb value.width 1 ≡ true = ap (λ w. eqb w 1) all.0 in
        ap (λ (bs : List Bool). eqb value.number 1 ∷ bs) (flags-all outputs all.1)
        ∙ sym (ap
        (λ (b : Bool). map wired.is_one
        (cond b (value ∷ filter wired.is_one_bit rest) (filter wired.is_one_bit rest))) narrow)

    widths-one : All (λ (wire : OutputWire). (value_at values wire.id).width ≡ 1) c.outputs
    widths-one k d within =
        let wire : OutputWire = get_or c.outputs k d in
        sym (width-value_at values wire.id)
        ∙ ap (λ (ws : List ℕ). width_at ws wire.id) (values-widths source c.net valid.net feeds).0
        ∙ flags k d within

    flags-are : run.output_flags m signals ≡ wired.flags (wired.outputs_in c.outputs values)
    flags-are =
        ap (map (λ (o : Output). eqb (operand_value signals o.value).number 1)) m-outputs
        ∙ map-map (λ (o : Output). eqb (operand_value signals o.value).number 1) (output_of draft.operands) c.outputs
        ∙ alike (λ (wire : OutputWire). eqb (operand_value signals (operand_at draft.operands wire.id)).number 1)
        (λ (wire : OutputWire). eqb (value_at values wire.id).number 1) c.outputs
        (λ k d within. ap (λ (v : BitVector). eqb v.number 1)
        (operand-is (get_or c.outputs k d).id (valid.outputs k d within)))
        ∙ flags-all c.outputs
        (recursion_from_All (λ (wire : OutputWire). (value_at values wire.id).width ≡ 1) c.outputs widths-one)

    row-is : (reset : Bool) → run.is_reset m.reset reset ≡ false
        → run.row_after m reset inputs states ≡ wired.row_after c inputs states
    row-is reset none =
        ap₂ (λ (rs : List BitVector) (bs : List Bool). let r : Row = record { regs = rs; fired = bs } in r)
        (ap (λ (b : Bool). cond b (run.first_values m) (run.next_values m signals)) none ∙ nexts-are) flags-are

  -- ---- all cycles

  rows-are : (resets : ℕ → Bool) (inputs : InputsByCycle) → IsNeverReset m resets
      → ((k : ℕ) → AreBits (inputs k) (input_widths c.inputs))
      → (count last : ℕ) (states : List BitVector) → AreBits states (state_widths c.states)
      → run.rows_after m resets inputs count last states ≡ wired.rows_after c inputs count last states
  unfolding run.rows_after wired.rows_after
  rows-are resets inputs never fits zero last states now = refl
  rows-are resets inputs never fits (suc count) last states now =
      let here = row-is (inputs (last + 1)) states (fits (last + 1)) now (resets (last + 1)) (never (last + 1)) in
      let next : Row = wired.row_after c (inputs (last + 1)) states in
      ap (λ (r : Row). r ∷ run.rows_after m resets inputs count (last + 1) r.regs) here
      ∙ ap (λ (rows : List Row). next ∷ rows)
      (rows-are resets inputs never fits count (last + 1) next.regs
      (next_states-AreBits c (inputs (last + 1)) states valid (fits (last + 1)) now))

  zeros-flags : (outputs : List OutputWire)
      → AllByRecursion (λ (wire : OutputWire). width_at (widths_of c.net) wire.id ≡ 1) outputs
      → map (λ (wire : OutputWire). false) outputs ≡ wired.flags (wired.zero_outputs (widths_of c.net) outputs)
  zeros-flags [] all = refl
  zeros-flags (wire ∷ outputs) all =
      let value : BitVector = zero_at (width_at (widths_of c.net) wire.id) in
      let rest : List BitVector = wired.zero_outputs (widths_of c.net) outputs in
      let narrow : eqb value.width 1 ≡ true = ap (λ w. eqb w 1) all.0 in
      ap (λ (bs : List Bool). false ∷ bs) (zeros-flags outputs all.1)
      ∙ sym (ap
      (λ (b : Bool). map wired.is_one
      (cond b (value ∷ filter wired.is_one_bit rest) (filter wired.is_one_bit rest))) narrow)

  first-row : run.first_row m ≡ wired.first_row c
  first-row =
      ap₂ (λ (rs : List BitVector) (bs : List Bool). let r : Row = record { regs = rs; fired = bs } in r) first-are
      (ap (map (λ (o : Output). false)) m-outputs ∙ map-map (λ (o : Output). false) (output_of draft.operands) c.outputs
      ∙ zeros-flags c.outputs
      (recursion_from_All (λ (wire : OutputWire). width_at (widths_of c.net) wire.id ≡ 1) c.outputs flags))

  pub runs : RunsAs c m
  runs stimulus resets n same always never =
      let inputs = inputs_of stimulus in
      let fits : (k : ℕ) → AreBits (inputs k) (input_widths c.inputs) =
      λ k. HaveWidths-AreBits (input_widths c.inputs) (inputs k)
      (subst (λ (ws : List ℕ). HaveWidths ws (inputs k)) same (always k)) in
      ap₂ (λ (r : Row) (rows : List Row). r ∷ rows) first-row
      (ap (λ (rs : List BitVector). run.rows_after m resets inputs n 0 rs) first-are
      ∙ rows-are resets inputs never fits n 0 (wired.first_states c.states) (first_states-AreBits c valid))

  -- ---- widths

  abbrev zeros : List BitVector
  zeros = map zero_input c.inputs

  abbrev firsts : List BitVector
  firsts = wired.first_states c.states

  zeros-given : AreBits zeros (input_widths c.inputs)
  zeros-given = zeros-are c.inputs valid.inputs

  firsts-now : AreBits firsts (state_widths c.states)
  firsts-now = first_states-AreBits c valid

  some-feeds : Feeds (record { inputs = zeros; states = firsts }) c.net
  some-feeds = step_feeds c zeros firsts valid zeros-given firsts-now

  some-shown : AreShown c.net valid.net (record { inputs = zeros; states = firsts }) some-feeds draft (length c.net)
  some-shown = drafted c.net valid.net (record { inputs = zeros; states = firsts }) some-feeds

  outer-are : record { inputs = widths zeros; registers = widths firsts; wires = [] } ≡ outer_widths m
  outer-are =
      ap₂ (λ (is : List ℕ) (rs : List ℕ). let ws : Widths = record { inputs = is; registers = rs; wires = [] } in ws)
      (map-map (λ (v : BitVector). v.width) zero_input c.inputs
      ∙ sym (map-map (λ (p : Port). p.width) input_of c.inputs) ∙ sym (ap (map (λ (p : Port). p.width)) m-inputs))
      (map-map (λ (v : BitVector). v.width) (λ (wire : StateWire). wire.first) c.states
      ∙ sym (map-map (λ (r : Register). r.first.width) (register_of options.registers draft.operands) c.states)
      ∙ sym (ap (map (λ (r : Register). r.first.width)) m-registers))

  widths-are : with_widths (record {
    inputs = widths zeros;
    registers = widths firsts;
    wires =
        [];
  }) draft.wires ≡ legal.widths_of m
  widths-are =
      ap (λ (ws : Widths). record ws { wires = map (λ (wire : Wire). wire.width) draft.wires }) outer-are
      ∙ ap (λ (wires : List Wire). record (outer_widths m) {
        wires =
            map (λ (wire : Wire). wire.width) wires;
      }) (sym m-wires)

  operand-has : (id : ℕ) → id < length c.net
      → HasOperand (legal.widths_of m) (operand_at draft.operands id) (width_at (widths_of c.net) id)
  operand-has id within =
      subst (λ (ws : Widths). HasOperand ws (operand_at draft.operands id) (width_at (widths_of c.net) id)) widths-are
      (some-shown.shows id within).has

  pub is-legal : length m.wires < 2 ^ 64 → IsLegal m
  is-legal few = record {
    few = few;
    inputs = subst (All (λ (p : Port). legal.IsWidth p.width)) (sym m-inputs)
        (All-map (λ (p : Port). legal.IsWidth p.width) input_of c.inputs valid.inputs);
    registers = subst (All (λ (r : Register). IsBits r.first)) (sym m-registers)
        (All-map (λ (r : Register). IsBits r.first) (register_of options.registers draft.operands) c.states
        (λ k d within. (valid.states k d within).first.0));
    wires = subst (WiresFit (outer_widths m)) (sym m-wires)
        (subst (λ (ws : Widths). WiresFit ws draft.wires) outer-are some-shown.fit);
    nexts = subst (All (λ (r : Register). HasOperand (legal.widths_of m) r.next r.first.width)) (sym m-registers)
        (All-map (λ (r : Register). HasOperand (legal.widths_of m) r.next r.first.width)
        (register_of options.registers draft.operands) c.states (λ k d within.
        let wire : StateWire = get_or c.states k d in
        let at = valid.states k d within in
        subst (HasOperand (legal.widths_of m) (operand_at draft.operands wire.next)) (at.next_width
        ∙ sym at.first.1) (operand-has wire.next at.next)));
    outputs = subst (All (λ (o : Output). HasOperand (legal.widths_of m) o.value 1)) (sym m-outputs)
        (All-map (λ (o : Output). HasOperand (legal.widths_of m) o.value 1) (output_of draft.operands) c.outputs
        (λ k d within.
        let wire : OutputWire = get_or c.outputs k d in
        subst (HasOperand (legal.widths_of m) (operand_at draft.operands wire.id)) (flags k d within)
        (operand-has wire.id (valid.outputs k d within))));
  }
