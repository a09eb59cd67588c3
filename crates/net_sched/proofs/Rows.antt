-- A circuit whose wires stand for the cycles of a design has the design's rows.
use Rattle.std.proofs.Common.{◌≡◌, ℕ, zero, suc, ◌+◌, ◌-◌, ◌<◌, Bool, true, false, List, [], ◌∷◌, length, map, replicate, refl, sym, ap, ap₂, ◌∙◌, subst, arith, append-nil, All}
use Rattle.std.specs.Prelude.{slice_index_or, nat_eq, filter, cond}
use Rattle.std.proofs.lemmas.List.{get_or_default, get_or-map, length-map, same_lists}
use Rattle.std.proofs.lemmas.List.FromFn.{get_or-map-range_with_len, length-map-range_with_len}
use Rattle.std.proofs.lemmas.Simd.{map-map}
use Rattle.kw_bits.specs.BitVector.{BitVector}
use Rattle.net_graph.specs.Laws.{Feeds}
use Rattle.net_graph.specs.Nets.{IsNet, width_at, widths_of}
use Rattle.net_graph.specs.Values.{Sources, value_at, values_of}
use Rattle.net_graph.specs.declared.node.NetOp.{NetOp}
use Rattle.net_graph.proofs.OperatorWidths.{width-value_at}
use Rattle.net_graph.proofs.Values.{values-widths}
use Rattle.typed_core.specs.Alone.{after}
use Rattle.typed_core.specs.Evaluation.{unit}
use Rattle.typed_core.specs.Valid.{IsValid}
use Rattle.typed_core.specs.Widths.{HaveWidths, input_widths, register_widths}
use Rattle.typed_core.specs.declared.design.Parts.{Parts}
use Rattle.one_rule.specs.Cycle as whole
use Rattle.one_rule.specs.PortRun.{PortState, port_walk}
use Rattle.one_rule.specs.Run.{InputsByCycle, first_values, opening, rows_after as design_rows}
use Rattle.one_rule.specs.Stimulus.{inputs_of}
use Rattle.one_rule.specs.declared.rows.Row.{Row}
use Rattle.one_rule.proofs.Fitting.{cycle_fits, first_values_fit}
use Rattle.one_rule.proofs.PortRuns.{port_cycles_are_cycles}
use Rattle.rule_log.proofs.Telling.{length-after}
use Rattle.circuit_eval.specs.Circuits.{AreBits, IsCircuit}
use Rattle.circuit_eval.specs.Run.{first_row, first_states, flags, is_one, is_one_bit, next_states, outputs_in, row_after, rows_after as circuit_rows}
use Rattle.circuit_eval.specs.declared.circuit.OutputWire.{OutputWire}
use Rattle.circuit_eval.specs.declared.circuit.StateWire.{StateWire}
use Rattle.circuit_eval.specs.declared.circuit.Wires.{Wires}
use Rattle.circuit_eval.proofs.Flags.{flags_of}
use Rattle.circuit_eval.proofs.Fitting.{step_feeds}
use Rattle.circuit_eval.proofs.Stimuli.{HaveWidths-AreBits}
use Rattle.net_action.specs.Wires.{AreValues, is_up}
use Rattle.net_action.proofs.Growth.{values_of_beginnings}
use Rattle.net_sched.specs.Designs.{HasParts, RunsAs}
use Rattle.net_sched.specs.inner.Made.{Leaves}

-- ---- flags

abbrev IsBit : (OutputWire → BitVector) → List OutputWire → Type 0
IsBit value outputs = All (λ (wire : OutputWire). (value wire).width ≡ 1) outputs

none_up : (outputs : List OutputWire) → map (λ (wire : OutputWire). false) outputs ≡ replicate (length outputs) false
none_up [] = refl
none_up (wire ∷ outputs) = ap (λ (bs : List Bool). false ∷ bs) (none_up outputs)

-- ---- rows

module _ (d : Parts) (valid : IsValid d) (c : Wires) (is : IsCircuit c) (parts : HasParts d c) (nexts fired : List ℕ)
    (next : map (λ (wire : StateWire). wire.next) c.states ≡ nexts) (ids : map (λ (wire : OutputWire). wire.id) c.outputs ≡ fired)
    (firsts : first_states c.states ≡ first_values d) (as_many : length nexts ≡ length (register_widths d)) (as_many_flags : length fired ≡ length d.rules)
    (leaves : (s : Sources) (values : List BitVector) → AreValues s c.net values → Leaves d c.net nexts fired s values) where
  module _ (inputs states : List BitVector) (fits : HaveWidths (input_widths d) inputs) (holds : HaveWidths (register_widths d) states) where
    abbrev s : Sources
    s = record { inputs = inputs; states = states }

    abbrev values : List BitVector
    values = values_of s c.net

    abbrev end : PortState
    end = port_walk d inputs states

    feeds : Feeds s c.net
    feeds =
        step_feeds c inputs states is (subst (λ (ws : List ℕ). AreBits inputs ws) (sym parts.input_widths) (HaveWidths-AreBits (input_widths d) inputs fits))
        (subst (λ (ws : List ℕ). AreBits states ws) (sym parts.state_widths) (HaveWidths-AreBits (register_widths d) states holds))

    left : Leaves d c.net nexts fired s values
    left =
        leaves s values
        (subst (λ (net : List NetOp). AreValues s c.net (values_of s net)) (append-nil c.net)
        (values_of_beginnings s c.net [] (subst (λ (net : List NetOp). IsNet net) (sym (append-nil c.net)) is.net) (subst (λ (net : List NetOp). Feeds s net) (sym (append-nil c.net)) feeds)))

    same_regs : next_states c.states values ≡ after end.log states
    same_regs =
        sym (map-map (value_at values) (λ (wire : StateWire). wire.next) c.states) ∙ ap (map (value_at values)) next
        ∙ same_lists (map (value_at values) nexts) (after end.log states) (length-map nexts (value_at values) ∙ as_many ∙ sym (length-after end.log states ∙ holds.count))
        (λ k e within.
        let inside : k < length nexts = omega (arith, within, length-map nexts (value_at values)) in
        get_or-map (value_at values) nexts k 0 e inside ∙ left.regs holds.count k (omega (arith, inside, as_many))
        ∙ get_or_default (after end.log states) k unit e (omega (arith, inside, as_many, length-after end.log states, holds.count)))

    bits : IsBit (λ (wire : OutputWire). value_at values wire.id) c.outputs
    bits k e within =
        let wide = (values-widths s c.net is.net feeds).0 in
        let id : ℕ = (slice_index_or c.outputs k e).id in
        sym (width-value_at values id) ∙ ap (λ (ws : List ℕ). width_at ws id) wide ∙ parts.bits k e within

    same_flags : flags (outputs_in c.outputs values) ≡ whole.flags (length d.rules) end.fired
    same_flags =
        flags_of (λ (wire : OutputWire). value_at values wire.id) c.outputs bits
        ∙ sym (map-map (is_up values) (λ (wire : OutputWire). wire.id) c.outputs) ∙ ap (map (is_up values)) ids
        ∙ same_lists (map (is_up values) fired) (whole.flags (length d.rules) end.fired)
        (length-map fired (is_up values) ∙ as_many_flags ∙ sym (length-map-range_with_len (whole.is_among end.fired) 0 (length d.rules)))
        (λ k e within.
        let inside : k < length fired = omega (arith, within, length-map fired (is_up values)) in
        let number : k < length d.rules = omega (arith, inside, as_many_flags) in
        get_or-map (is_up values) fired k 0 e inside ∙ left.flags k number
        ∙ sym (get_or-map-range_with_len (whole.is_among end.fired) 0 (length d.rules) k k e number (omega arith)))

    -- the row after a step is the cycle's
    row_is : row_after c inputs states ≡ whole.cycle (whole.system_of d) inputs states
    row_is =
        ap₂ (λ (regs : List BitVector) (bs : List Bool). let row : Row = record { regs = regs; fired = bs } in row) same_regs same_flags
        ∙ port_cycles_are_cycles d inputs states valid fits holds

  rows_are : (inputs : InputsByCycle) → ((k : ℕ) → HaveWidths (input_widths d) (inputs k)) → (n last : ℕ) (states : List BitVector) → HaveWidths (register_widths d) states
      → circuit_rows c inputs n last states ≡ design_rows (whole.system_of d) inputs n last states
  unfolding circuit_rows
  rows_are inputs fits zero last states holds = refl
  rows_are inputs fits (suc n) last states holds =
      let row : Row = whole.cycle (whole.system_of d) (inputs (last + 1)) states in
      let kept = cycle_fits d valid (inputs (last + 1)) states (fits (last + 1)) holds in
      ap (λ (r : Row). r ∷ circuit_rows c inputs n (last + 1) r.regs) (row_is (inputs (last + 1)) states (fits (last + 1)) holds)
      ∙ ap (λ (rows : List Row). row ∷ rows) (rows_are inputs fits n (last + 1) row.regs kept.registers)

  first_is : first_row c ≡ opening (length d.rules) (first_values d)
  first_is =
      let many : length c.outputs ≡ length d.rules = sym (length-map c.outputs (λ (wire : OutputWire). wire.id)) ∙ ap length ids ∙ as_many_flags in
      let none = flags_of (λ (wire : OutputWire). record { width = width_at (widths_of c.net) wire.id; number = 0 }) c.outputs parts.bits in
      ap₂ (λ (regs : List BitVector) (bs : List Bool). let row : Row = record { regs = regs; fired = bs } in row) firsts
      (none ∙ none_up c.outputs ∙ ap (λ (n : ℕ). replicate n false) many)

  pub runs_as : RunsAs d c
  runs_as stimulus n same always =
      let inputs = inputs_of stimulus in
      let fits : (k : ℕ) → HaveWidths (input_widths d) (inputs k) = λ k. subst (λ (ws : List ℕ). HaveWidths ws (inputs k)) same (always k) in
      let count : n ≡ n - 0 = omega arith in
      ap₂ (λ (row : Row) (rows : List Row). row ∷ rows) first_is
      (ap (λ (states : List BitVector). circuit_rows c inputs n 0 states) firsts ∙ rows_are inputs fits n 0 (first_values d) (first_values_fit d valid)
      ∙ ap (λ (k : ℕ). design_rows (whole.system_of d) inputs k 0 (first_values d)) count)
