-- The rows of a circuit's run fit what texts tell of it.
use Rattle.std.proofs.Common.{◌≡◌, ℕ, zero, suc, ◌+◌, ◌≤◌, nat_eq, ◌==◌, Bool, true, false, cond, filter, List, [], ◌∷◌, length, map, refl, sym, ap, ap₂, subst, ◌∙◌, arith}
use Rattle.std.specs.Prelude.{All}
use Rattle.std.specs.List.{AllByRecursion}
use Rattle.std.proofs.lemmas.Simd.{map-map}
use Rattle.kw_bits.specs.BitVector.{BitVector, IsBits}
use Rattle.net_graph.specs.Nets.{width_at, widths_of}
use Rattle.net_graph.specs.Values.{no_bits, value_at, widths}
use Rattle.net_graph.proofs.OperatorWidths.{width-value_at}
use Rattle.net_graph.proofs.Values.{values-widths}
use Rattle.one_rule.specs.Run.{InputsByCycle}
use Rattle.one_rule.specs.Stimulus.{AlwaysFits, InputVectors, inputs_of}
use Rattle.one_rule.specs.declared.rows.Row.{Row}
use Rattle.typed_core.specs.Widths.{HaveWidths}
use Rattle.typed_core.proofs.WidthLists.{HaveWidths-cons, HaveWidths-empty}
use Rattle.circuit_eval.specs.Circuits.{AreBits, IsCircuit, input_widths, state_widths}
use Rattle.circuit_eval.specs.Run.{first_states, flags, is_one, next_states, outputs_in, row_after, rows_after, run_of, values_in}
use Rattle.circuit_eval.specs.Machines.{after_steps}
use Rattle.circuit_eval.specs.Simulations.{Simulation, after_step, beginning}
use Rattle.circuit_eval.specs.declared.circuit.OutputWire.{OutputWire}
use Rattle.circuit_eval.specs.declared.circuit.Wires.{Wires}
use Rattle.circuit_eval.proofs.Fitting.{first_states-AreBits, next_states-AreBits, step_feeds}
use Rattle.circuit_eval.proofs.Stimuli.{HaveWidths-AreBits}
use Rattle.stim_report.specs.Shapes.{RowFits, RowsFit}
use Rattle.stim_report.specs.Shapes as told
use Rattle.stim_report.specs.declared.shape.NameWidth.{NameWidth}
use Rattle.stim_report.specs.declared.shape.Shape.{Shape}
use Rattle.koika_top.specs.CircuitShapes as circuit

bits-fit : (values : List BitVector) → All IsBits values → HaveWidths (widths values) values
bits-fit [] all = HaveWidths-empty
bits-fit (value ∷ values) all =
    HaveWidths-cons value.width (widths values) value values (all 0 no_bits (omega arith), refl) (bits-fit values (λ k d h. all (suc k) d (omega (arith, h))))

pub are-fit : (values : List BitVector) (of_widths : List ℕ) → AreBits values of_widths → HaveWidths of_widths values
are-fit values of_widths are = subst (λ (ws : List ℕ). HaveWidths ws values) are.widths (bits-fit values are.bits)

one-more : (one two : Bool) (value : BitVector) (values : List BitVector) (wire : OutputWire) (wires : List OutputWire) → one ≡ two → length (map is_one values) ≡ length (map circuit.name_of wires)
    → length (map is_one (cond one (value ∷ values) values)) ≡ length (map circuit.name_of (cond two (wire ∷ wires) wires))
one-more true true value values wire wires same count = omega (arith, count)
one-more false false value values wire wires same count = count
one-more true false value values wire wires same count = absurd cc
one-more false true value values wire wires same count = absurd cc

-- there are as many flags as outputs of one bit
flags-count : (nodes : List ℕ) (f : OutputWire → BitVector) → ((wire : OutputWire) → (f wire).width ≡ width_at nodes wire.id) → (outputs : List OutputWire)
    → length (flags (map f outputs)) ≡ length (map circuit.name_of (filter (circuit.is_flag nodes) outputs))
flags-count nodes f same [] = refl
flags-count nodes f same (wire ∷ outputs) =
    one-more (nat_eq (f wire).width 1) (width_at nodes wire.id == 1) (f wire) (filter (λ (v : BitVector). nat_eq v.width 1) (map f outputs)) wire (filter (circuit.is_flag nodes) outputs)
    (ap (λ (w : ℕ). nat_eq w 1) (same wire)) (flags-count nodes f same outputs)

module _ (c : Wires) (valid : IsCircuit c) (inputs : InputsByCycle) (fits : (k : ℕ) → AreBits (inputs k) (input_widths c.inputs)) where
  abbrev Fits : Row → Type 0
  Fits row = RowFits (map circuit.of_state c.states) (map circuit.name_of (filter (circuit.is_flag (widths_of c.net)) c.outputs)) row

  states-told : told.widths_of (map circuit.of_state c.states) ≡ state_widths c.states
  states-told = map-map (λ (n : NameWidth). n.width) circuit.of_state c.states

  row-fits : (regs : List BitVector) (f : OutputWire → BitVector) → AreBits regs (state_widths c.states) → ((wire : OutputWire) → (f wire).width ≡ width_at (widths_of c.net) wire.id)
      → Fits (record { regs = regs; fired = flags (map f c.outputs) })
  row-fits regs f are same = record {
    values = subst (λ (ws : List ℕ). HaveWidths ws regs) (sym states-told) (are-fit regs (state_widths c.states) are);
    flags = omega (arith, flags-count (widths_of c.net) f same c.outputs);
  }

  -- each output has the width of its node
  output-wide : (k : ℕ) (states : List BitVector) → AreBits states (state_widths c.states) → (wire : OutputWire) → (value_at (values_in c (inputs k) states) wire.id).width ≡ width_at (widths_of c.net) wire.id
  output-wide k states now wire =
      let fit = values-widths (record { inputs = inputs k; states = states }) c.net valid.net (step_feeds c (inputs k) states valid (fits k) now) in
      sym (width-value_at (values_in c (inputs k) states) wire.id) ∙ ap (λ (ws : List ℕ). width_at ws wire.id) fit.0

  next-fits : (k : ℕ) (states : List BitVector) → AreBits states (state_widths c.states) → Fits (row_after c (inputs k) states)
  next-fits k states now =
      let values : List BitVector = values_in c (inputs k) states in
      row-fits (next_states c.states values) (λ (wire : OutputWire). value_at values wire.id) (next_states-AreBits c (inputs k) states valid (fits k) now) (output-wide k states now)

  all-wide : (k : ℕ) (states : List BitVector) → AreBits states (state_widths c.states) → (wires : List OutputWire)
      → map (λ (v : BitVector). v.width) (outputs_in wires (values_in c (inputs k) states)) ≡ map (λ (wire : OutputWire). width_at (widths_of c.net) wire.id) wires
  all-wide k states now [] = refl
  all-wide k states now (wire ∷ wires) = ap₂ (λ (w : ℕ) (ws : List ℕ). w ∷ ws) (output-wide k states now wire) (all-wide k states now wires)

  states-bits : (count last : ℕ) (s : Simulation) → s.circuit ≡ c → AreBits s.states (state_widths c.states) → AreBits (after_steps after_step inputs count last s).states (state_widths c.states)
  states-bits zero last s is now = now
  states-bits (suc count) last s is now =
      states-bits count (last + 1) (after_step s (inputs (last + 1))) is
      (rw is (next_states-AreBits c (inputs (last + 1)) s.states valid (fits (last + 1)) now))

  -- the outputs in the step after some have the widths of their nodes
  pub outputs-wide : (step : ℕ)
      → map (λ (v : BitVector). v.width) (outputs_in c.outputs (values_in c (inputs (step + 1)) (after_steps after_step inputs step 0 (beginning c)).states)) ≡ map (λ (wire : OutputWire). width_at (widths_of c.net) wire.id) c.outputs
  outputs-wide step = all-wide (step + 1) _ (states-bits step 0 (beginning c) refl (first_states-AreBits c valid)) c.outputs

  after-fit : (n last : ℕ) (states : List BitVector) → AreBits states (state_widths c.states) → AllByRecursion Fits (rows_after c inputs n last states)
  unfolding rows_after
  after-fit zero last states now = tt
  after-fit (suc n) last states now =
      let row : Row = row_after c (inputs (last + 1)) states in
      (next-fits (last + 1) states now, after-fit n (last + 1) row.regs (next_states-AreBits c (inputs (last + 1)) states valid (fits (last + 1)) now))

  pub run-fits : (n : ℕ) → AllByRecursion Fits (run_of c inputs n)
  run-fits n =
      let first = first_states-AreBits c valid in (
        row-fits (first_states c.states) (λ (wire : OutputWire). record { width = width_at (widths_of c.net) wire.id; number = 0 }) first (λ (wire : OutputWire). refl),
        after-fit n 0 (first_states c.states) first,
      )

-- the rows of a circuit's run on a stimulus for its inputs
pub rows-fit : (c : Wires) (stimulus : InputVectors) → IsCircuit c → stimulus.widths ≡ input_widths c.inputs → AlwaysFits stimulus → (n : ℕ) → RowsFit (circuit.shape_of c) (run_of c (inputs_of stimulus) n)
rows-fit c stimulus valid same always n =
    run-fits c valid (inputs_of stimulus) (λ k. subst (AreBits (inputs_of stimulus k)) same (HaveWidths-AreBits stimulus.widths (inputs_of stimulus k) (always k))) n

less-fits : (registers : List NameWidth) (rules more : List (List ℕ)) (rows : List Row) → length rules ≤ length more → AllByRecursion (RowFits registers more) rows → AllByRecursion (RowFits registers rules) rows
less-fits registers rules more [] few all = tt
less-fits registers rules more (row ∷ rows) few all = (record { values = all.0.values; flags = omega (arith, few, all.0.flags) }, less-fits registers rules more rows few all.1)

-- and they fit a shape of fewer rules
pub rows-fit-less : (shape : Shape) (c : Wires) (stimulus : InputVectors) → IsCircuit c → shape.registers ≡ (circuit.shape_of c).registers → length shape.rules ≤ length (circuit.shape_of c).rules
    → stimulus.widths ≡ input_widths c.inputs → AlwaysFits stimulus → (n : ℕ) → RowsFit shape (run_of c (inputs_of stimulus) n)
rows-fit-less shape c stimulus valid registers rules same always n =
    less-fits shape.registers shape.rules (circuit.shape_of c).rules (run_of c (inputs_of stimulus) n) rules
    (subst (λ (rs : List NameWidth). AllByRecursion (RowFits rs (circuit.shape_of c).rules) (run_of c (inputs_of stimulus) n)) (sym registers) (rows-fit c stimulus valid same always n))
