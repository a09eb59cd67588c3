-- Outputs that are the constant 0 are 0 in every run.
use Rattle.std.proofs.Common.{◌≡◌, ℕ, zero, suc, ◌+◌, Bool, true, false, cond, filter, List, [], ◌∷◌, map, get_or, nat_eq, eqb-true, arith, refl, sym, ap, subst, ◌∙◌}
use Rattle.std.specs.Prelude.{All, Option, Some, None, slice_get}
use Rattle.std.proofs.lemmas.Option.{none-some}
use Rattle.kw_bits.specs.BitVector.{BitVector}
use Rattle.net_graph.specs.Laws.{Feeds}
use Rattle.net_graph.specs.Nets.{width_at, widths_of}
use Rattle.net_graph.specs.Values.{Sources, value_at, values_of}
use Rattle.net_graph.specs.declared.node.NetOp.{NetOp}
use Rattle.net_graph.specs.declared.node.NetOp.TheVariants.{Const, Input, State, One, Two, Slice, Uext, Sext, Ite}
use Rattle.net_graph.proofs.OperatorWidths.{width-value_at}
use Rattle.net_graph.proofs.Values.{values-by_operators, values-widths}
use Rattle.typed_core.specs.Widths.{HaveWidths}
use Rattle.one_rule.specs.Run.{InputsByCycle}
use Rattle.one_rule.specs.Stimulus.{inputs_of}
use Rattle.one_rule.specs.declared.rows.Row.{Row}
use Rattle.circuit_eval.specs.Circuits.{AreBits, IsCircuit, input_widths, state_widths}
use Rattle.circuit_eval.specs.Run.{first_row, first_states, flags, is_one, is_one_bit, row_after, rows_after}
use Rattle.circuit_eval.specs.declared.circuit.OutputWire.{OutputWire}
use Rattle.circuit_eval.specs.declared.circuit.Wires.{Wires}
use Rattle.circuit_eval.proofs.Flags.{flags_of}
use Rattle.circuit_eval.proofs.Fitting.{first_states-AreBits, next_states-AreBits, step_feeds}
use Rattle.circuit_eval.proofs.Stimuli.{HaveWidths-AreBits}
use Rattle.lint_text.specs.Never.{HasFlags, IsNeverOne}
use Rattle.lint_text.specs.inner.Zeros.{is_zero, is_zero_node, is_zero_op}

-- ---- flags

-- a flag of an output that is marked
flag_at : (z g : OutputWire → Bool) (outputs : List OutputWire) (k : ℕ)
    → ((wire : OutputWire) → z wire ≡ true → g wire ≡ false)
    → get_or (map z outputs) k false ≡ true → get_or (map g outputs) k false ≡ false
flag_at z g [] k off marked = refl
flag_at z g (wire ∷ outputs) zero off marked = off wire marked
flag_at z g (wire ∷ outputs) (suc k) off marked = flag_at z g outputs k off marked

-- ---- constants

record IsZeroAt (net : List NetOp) (id : ℕ) : Type 0 where
  value : BitVector
  at : slice_get net id ≡ Some (Const value)
  zero : value.number ≡ 0

zero_op : (net : List NetOp) (id : ℕ) (op : NetOp) → slice_get net id ≡ Some op → is_zero_op op ≡ true → IsZeroAt net id
zero_op net id (Const value) at h = record { value = value; at = at; zero = eqb-true value.number 0 h }
zero_op net id (Input number width) at h = absurd cc
zero_op net id (State number width) at h = absurd cc
zero_op net id (One operator a) at h = absurd cc
zero_op net id (Two operator a b) at h = absurd cc
zero_op net id (Slice a upper lower) at h = absurd cc
zero_op net id (Uext a added) at h = absurd cc
zero_op net id (Sext a added) at h = absurd cc
zero_op net id (Ite condition a b) at h = absurd cc

zero_node : (net : List NetOp) (id : ℕ) (node : Option NetOp) → slice_get net id ≡ node → is_zero_node node ≡ true → IsZeroAt net id
zero_node net id None at h = absurd cc
zero_node net id (Some op) at h = zero_op net id op at h

-- ---- rows

module _ (c : Wires) (valid : IsCircuit c) (bits : HasFlags c) (k : ℕ)
    (marked : get_or (map (λ (wire : OutputWire). is_zero c.net wire.id) c.outputs) k false ≡ true) where
  abbrev IsDown : Row → Type 0
  IsDown row = get_or row.fired k false ≡ false

  module _ (inputs states : List BitVector) (given : AreBits inputs (input_widths c.inputs))
      (now : AreBits states (state_widths c.states)) where
    abbrev source : Sources
    source = record { inputs = inputs; states = states }

    abbrev value : OutputWire → BitVector
    value wire = value_at (values_of source c.net) wire.id

    feeds : Feeds source c.net
    feeds = step_feeds c inputs states valid given now

    one_bit : All (λ (wire : OutputWire). (value wire).width ≡ 1) c.outputs
    one_bit i d within =
        let wire : OutputWire = get_or c.outputs i d in
        sym (width-value_at (values_of source c.net) wire.id)
        ∙ ap (λ (ws : List ℕ). width_at ws wire.id) (values-widths source c.net valid.net feeds).0
        ∙ bits i d within

    off : (wire : OutputWire) → is_zero c.net wire.id ≡ true → is_one (value wire) ≡ false
    off wire h =
        let it = zero_node c.net wire.id (slice_get c.net wire.id) refl h in
        let is : value wire ≡ it.value = values-by_operators source c.net wire.id (Const it.value) valid.net it.at in
        ap (λ (v : BitVector). nat_eq v.number 1) is ∙ ap (λ (n : ℕ). nat_eq n 1) it.zero

    row-down : IsDown (row_after c inputs states)
    row-down =
        ap (λ (bs : List Bool). get_or bs k false) (flags_of value c.outputs one_bit)
        ∙ flag_at (λ (wire : OutputWire). is_zero c.net wire.id) (λ (wire : OutputWire). is_one (value wire)) c.outputs k off marked

  rows-down : (inputs : InputsByCycle) → ((i : ℕ) → AreBits (inputs i) (input_widths c.inputs))
      → (count last : ℕ) (states : List BitVector) → AreBits states (state_widths c.states)
      → (step : ℕ) (row : Row) → slice_get (rows_after c inputs count last states) step ≡ Some row → IsDown row
  unfolding rows_after
  rows-down inputs fits zero last states now step row at = absurd (none-some row at)
  rows-down inputs fits (suc count) last states now zero row at =
      let next : Row = row_after c (inputs (last + 1)) states in
      let same : next ≡ row = cc in
      subst IsDown same (row-down (inputs (last + 1)) states (fits (last + 1)) now)
  rows-down inputs fits (suc count) last states now (suc step) row at =
      let next : Row = row_after c (inputs (last + 1)) states in
      rows-down inputs fits count (last + 1) next.regs
      (next_states-AreBits c (inputs (last + 1)) states valid (fits (last + 1)) now) step row at

  -- the row before all steps
  abbrev zero_at : OutputWire → BitVector
  zero_at wire = record { width = width_at (widths_of c.net) wire.id; number = 0 }

  first-down : IsDown (first_row c)
  first-down =
      ap (λ (bs : List Bool). get_or bs k false) (flags_of zero_at c.outputs bits)
      ∙ flag_at (λ (wire : OutputWire). is_zero c.net wire.id) (λ (wire : OutputWire). is_one (zero_at wire)) c.outputs k (λ wire h. refl) marked

  pub is-never_one : IsNeverOne c k
  is-never_one stimulus n zero row same always at =
      let is : first_row c ≡ row = cc in
      subst IsDown is first-down
  is-never_one stimulus n (suc step) row same always at =
      let inputs = inputs_of stimulus in
      let fits : (i : ℕ) → AreBits (inputs i) (input_widths c.inputs) =
      λ i. HaveWidths-AreBits (input_widths c.inputs) (inputs i)
      (subst (λ (ws : List ℕ). HaveWidths ws (inputs i)) same (always i)) in
      rows-down inputs fits n 0 (first_states c.states) (first_states-AreBits c valid) step row at
