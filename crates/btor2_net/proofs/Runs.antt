-- A circuit that has the states and outputs of a text's lines in each step has the text's run.
use Rattle.std.proofs.Common.{◌≡◌, None, ℕ, zero, suc, ◌+◌, nat_eq, Bool, true, false, cond, filter, List, [], ◌∷◌, ◌++◌, map, refl, sym, ap, ap₂, ◌∙◌, subst, arith, append_assoc, append-nil}
use Rattle.std.proofs.lemmas.Simd.{map-map}
use Rattle.kw_bits.specs.BitVector.{BitVector, zero_at}
use Rattle.net_graph.specs.Nets.{width_at, widths_of}
use Rattle.net_graph.specs.Values.{Sources, values_of}
use Rattle.net_graph.proofs.OperatorWidths.{width-value_at}
use Rattle.net_graph.proofs.Values.{values-widths}
use Rattle.typed_core.specs.Widths.{HaveWidths}
use Rattle.one_rule.specs.Run.{InputsByCycle}
use Rattle.one_rule.specs.Stimulus.{AlwaysFits, InputVectors, inputs_of}
use Rattle.one_rule.specs.declared.rows.Row.{Row}
use Rattle.circuit_eval.specs.Circuits.{AreBits, IsCircuit, input_widths, state_widths}
use Rattle.circuit_eval.specs.Run as wired
use Rattle.circuit_eval.specs.Simulations.{Simulation, after_steps, beginning}
use Rattle.circuit_eval.specs.declared.circuit.OutputWire.{OutputWire}
use Rattle.circuit_eval.specs.declared.circuit.Wires.{Wires}
use Rattle.circuit_eval.proofs.Fitting.{first_states-AreBits, next_states-AreBits, step_feeds}
use Rattle.circuit_eval.proofs.Stimuli.{HaveWidths-AreBits}
use Rattle.btor2_text.specs.declared.line.Line.{Line}
use Rattle.btor2_model.specs.Acceptance.{lines_fault}
use Rattle.btor2_model.specs.Rules.{is_output, is_state}
use Rattle.btor2_model.specs.Run as text
use Rattle.btor2_model.specs.Scope.{id_at, no_lines}
use Rattle.btor2_model.proofs.Selections.{rows-next, states-next}
use Rattle.btor2_net.specs.Translations.{GivesOutputs, HasLines, RunsAs, output_widths}
use Rattle.btor2_net.specs.inner.Values.{SameStep}
use Rattle.btor2_net.proofs.Distinct.{inputs-given, states-given}

-- the circuit begins with the text's states, and in each step its next states and its outputs are the text's
pub record Matches (lines : List Line) (c : Wires) : Type 0 where
  pub firsts : wired.first_states c.states ≡ map (text.first_state_values lines) (text.ids_of is_state lines)
  pub nexts : (step : text.StepValues) (s : Sources) → SameStep lines step s → wired.next_states c.states (values_of s c.net) ≡ map (text.next_values lines (text.values_at lines step)) (text.ids_of is_state lines)
  pub outputs : (step : text.StepValues) (s : Sources) → SameStep lines step s
      → wired.outputs_in c.outputs (values_of s c.net) ≡ map (λ (line : Line). text.values_at lines step (id_at line.arguments 0)) (text.lines_by_rule is_output lines)

-- the flags of values whose widths are known
flags-by : (value : ℕ → BitVector) (width : ℕ → ℕ) (ids : List ℕ) → map (λ (id : ℕ). (value id).width) ids ≡ map width ids
    → wired.flags (map value ids) ≡ map (λ (id : ℕ). nat_eq (value id).number 1) (filter (λ (id : ℕ). nat_eq (width id) 1) ids)
flags-by value width [] same = refl
flags-by value width (id ∷ ids) same =
    let first : (value id).width ≡ width id = cc in
    let others : map (λ (id : ℕ). (value id).width) ids ≡ map width ids = cc in
    by (nat_eq (width id) 1) (ap (λ (w : ℕ). nat_eq w 1) first) refl (flags-by value width ids others)
  where
    by : (b : Bool) → nat_eq (value id).width 1 ≡ nat_eq (width id) 1 → nat_eq (width id) 1 ≡ b
        → wired.flags (map value ids) ≡ map (λ (id : ℕ). nat_eq (value id).number 1) (filter (λ (id : ℕ). nat_eq (width id) 1) ids)
        → wired.flags (map value (id ∷ ids)) ≡ map (λ (id : ℕ). nat_eq (value id).number 1) (filter (λ (id : ℕ). nat_eq (width id) 1) (id ∷ ids))
    by true alike is rest =
        ap (λ (b : Bool). map wired.is_one (cond b (value id ∷ filter wired.is_one_bit (map value ids)) (filter wired.is_one_bit (map value ids)))) (alike ∙ is)
        ∙ ap (λ (bs : List Bool). nat_eq (value id).number 1 ∷ bs) rest
        ∙ sym (ap (λ (b : Bool). map (λ (id : ℕ). nat_eq (value id).number 1) (cond b (id ∷ filter (λ (id : ℕ). nat_eq (width id) 1) ids) (filter (λ (id : ℕ). nat_eq (width id) 1) ids))) is)
    by false alike is rest =
        ap (λ (b : Bool). map wired.is_one (cond b (value id ∷ filter wired.is_one_bit (map value ids)) (filter wired.is_one_bit (map value ids)))) (alike ∙ is)
        ∙ rest
        ∙ sym (ap (λ (b : Bool). map (λ (id : ℕ). nat_eq (value id).number 1) (cond b (id ∷ filter (λ (id : ℕ). nat_eq (width id) 1) ids) (filter (λ (id : ℕ). nat_eq (width id) 1) ids))) is)

module _ (lines : List Line) (c : Wires) (fine : lines_fault no_lines lines ≡ None) (is : IsCircuit c) (has : HasLines lines c) (m : Matches lines c) where
  abbrev state_ids : List ℕ
  state_ids = text.ids_of is_state lines

  -- the ids that outputs name
  abbrev output_ids : List ℕ
  output_ids = map (λ (line : Line). id_at line.arguments 0) (text.lines_by_rule is_output lines)

  widths-named : map (text.width_in lines) output_ids ≡ output_widths lines
  widths-named = map-map (text.width_in lines) (λ (line : Line). id_at line.arguments 0) (text.lines_by_rule is_output lines)

  -- the widths of outputs are those of their nodes
  output-values : (values : List BitVector) (outputs : List OutputWire) → map (λ (v : BitVector). v.width) values ≡ widths_of c.net
      → map (λ (v : BitVector). v.width) (wired.outputs_in outputs values) ≡ map (λ (wire : OutputWire). width_at (widths_of c.net) wire.id) outputs
  output-values values [] same = refl
  output-values values (wire ∷ outputs) same =
      ap₂ (λ (w : ℕ) (ws : List ℕ). w ∷ ws) (sym (width-value_at values wire.id) ∙ ap (λ (ws : List ℕ). width_at ws wire.id) same) (output-values values outputs same)

  module _ (inputs : InputsByCycle) (fits : (k : ℕ) → AreBits (inputs k) (input_widths c.inputs)) where
    abbrev regs : ℕ → List BitVector
    regs k = map (text.states_at lines inputs k) state_ids

    abbrev step : ℕ → text.StepValues
    step k = record { inputs = text.input_values lines (inputs (k + 1)); states = text.states_at lines inputs k }

    abbrev source : ℕ → Sources
    source k = record { inputs = inputs (k + 1); states = regs k }

    same-step : (k : ℕ) → SameStep lines (step k) (source k)
    same-step k = record { inputs = inputs-given lines (inputs (k + 1)) fine; states = states-given state_ids (text.states_at lines inputs k) }

    row-regs : (k : ℕ) → wired.next_states c.states (values_of (source k) c.net) ≡ regs (k + 1)
    row-regs k = m.nexts (step k) (source k) (same-step k) ∙ ap (λ (values : text.Values). map values state_ids) (sym (states-next lines inputs k))

    row-flags : (k : ℕ) → AreBits (regs k) (state_widths c.states)
        → wired.flags (wired.outputs_in c.outputs (values_of (source k) c.net)) ≡ map (λ (id : ℕ). nat_eq (text.values_in lines inputs k id).number 1) (text.flag_ids lines)
    row-flags k now =
        let values : List BitVector = values_of (source k) c.net in
        let all : text.Values = text.values_in lines inputs k in
        let wide = (values-widths (source k) c.net is.net (step_feeds c (inputs (k + 1)) (regs k) is (fits (k + 1)) now)).0 in
        let outputs : wired.outputs_in c.outputs values ≡ map all output_ids =
        m.outputs (step k) (source k) (same-step k) ∙ sym (map-map all (λ (line : Line). id_at line.arguments 0) (text.lines_by_rule is_output lines)) in
        let width_each : map (λ (id : ℕ). (all id).width) output_ids ≡ map (text.width_in lines) output_ids =
        sym (map-map (λ (v : BitVector). v.width) all output_ids) ∙ ap (map (λ (v : BitVector). v.width)) (sym outputs) ∙ output-values values c.outputs wide ∙ has.output_widths ∙ sym widths-named in
        ap wired.flags outputs ∙ flags-by all (text.width_in lines) output_ids width_each

    row-is : (k : ℕ) → AreBits (regs k) (state_widths c.states) → wired.row_after c (inputs (k + 1)) (regs k) ≡ text.row_behind lines inputs k
    row-is k now = ap₂ (λ (rs : List BitVector) (bs : List Bool). let r : Row = record { regs = rs; fired = bs } in r) (row-regs k) (row-flags k now)

    next-bits : (k : ℕ) → AreBits (regs k) (state_widths c.states) → AreBits (regs (k + 1)) (state_widths c.states)
    next-bits k now = subst (λ (rs : List BitVector). AreBits rs (state_widths c.states)) (row-regs k) (next_states-AreBits c (inputs (k + 1)) (regs k) is (fits (k + 1)) now)

    rows-are : (n k : ℕ) → AreBits (regs k) (state_widths c.states) → text.rows_behind lines inputs k ++ wired.rows_after c inputs n k (regs k) ≡ text.rows_behind lines inputs (k + n)
    unfolding wired.rows_after
    rows-are zero k now = append-nil (text.rows_behind lines inputs k) ∙ (let same : k ≡ k + 0 = omega arith in ap (text.rows_behind lines inputs) same)
    rows-are (suc n) k now =
        let r : Row = wired.row_after c (inputs (k + 1)) (regs k) in
        let before = text.rows_behind lines inputs k in
        let count : (k + 1) + n ≡ k + suc n = omega arith in
        ap (λ (rs : List BitVector). before ++ r ∷ wired.rows_after c inputs n (k + 1) rs) (row-regs k)
        ∙ sym (append_assoc before (r ∷ []) (wired.rows_after c inputs n (k + 1) (regs (k + 1))))
        ∙ ap (λ (q : Row). (before ++ q ∷ []) ++ wired.rows_after c inputs n (k + 1) (regs (k + 1))) (row-is k now)
        ∙ ap (λ (rows : List Row). rows ++ wired.rows_after c inputs n (k + 1) (regs (k + 1))) (sym (rows-next lines inputs k))
        ∙ rows-are n (k + 1) (next-bits k now) ∙ ap (text.rows_behind lines inputs) count

    -- a moment before a step
    abbrev moment : List BitVector → List BitVector → Simulation
    moment states outputs = record { circuit = c; states = states; outputs = outputs }

    -- what outputs name has these values in a step
    abbrev outputs-at : ℕ → List BitVector
    outputs-at k = map (λ (line : Line). text.values_in lines inputs k (id_at line.arguments 0)) (text.lines_by_rule is_output lines)

    outputs-are : (n k : ℕ) (outputs : List BitVector) → AreBits (regs k) (state_widths c.states) → (after_steps inputs (suc n) k (moment (regs k) outputs)).outputs ≡ outputs-at (k + n)
    unfolding after_steps
    outputs-are zero k outputs now = m.outputs (step k) (source k) (same-step k) ∙ (let same : k ≡ k + 0 = omega arith in ap outputs-at same)
    outputs-are (suc n) k outputs now =
        let given : List BitVector = wired.outputs_in c.outputs (values_of (source k) c.net) in
        let count : (k + 1) + n ≡ k + suc n = omega arith in
        ap (λ (rs : List BitVector). (after_steps inputs (suc n) (k + 1) (moment rs given)).outputs) (row-regs k) ∙ outputs-are n (k + 1) given (next-bits k now) ∙ ap outputs-at count

  zero-of : ℕ → BitVector
  zero-of id = zero_at (text.width_in lines id)

  zeros-are : wired.zero_outputs (widths_of c.net) c.outputs ≡ map (λ (id : ℕ). zero_at (text.width_in lines id)) output_ids
  zeros-are =
      sym (map-map zero_at (λ (wire : OutputWire). width_at (widths_of c.net) wire.id) c.outputs) ∙ ap (map zero_at) (has.output_widths ∙ sym widths-named) ∙ map-map zero_at (text.width_in lines) output_ids

  first-is : wired.first_row c ≡ text.first_row lines
  first-is =
      ap₂ (λ (rs : List BitVector) (bs : List Bool). let r : Row = record { regs = rs; fired = bs } in r) m.firsts
      (ap wired.flags zeros-are ∙ flags-by (λ (id : ℕ). zero_at (text.width_in lines id)) (text.width_in lines) output_ids refl)

  abbrev fit : (stimulus : InputVectors) → stimulus.widths ≡ input_widths c.inputs → AlwaysFits stimulus → (k : ℕ) → AreBits (inputs_of stimulus k) (input_widths c.inputs)
  fit stimulus same always k = HaveWidths-AreBits (input_widths c.inputs) (inputs_of stimulus k) (subst (λ (ws : List ℕ). HaveWidths ws (inputs_of stimulus k)) same (always k))

  first-bits : AreBits (map (text.first_state_values lines) state_ids) (state_widths c.states)
  first-bits = subst (λ (rs : List BitVector). AreBits rs (state_widths c.states)) m.firsts (first_states-AreBits c is)

  pub gives-outputs : GivesOutputs lines c
  gives-outputs stimulus n same always =
      let inputs = inputs_of stimulus in
      let fits = fit stimulus same always in
      let zeros : List BitVector = wired.zero_outputs (widths_of c.net) c.outputs in
      let more : n + 1 ≡ suc n = omega arith in
      let count : 0 + n ≡ n = omega arith in
      ap (λ (k : ℕ). (after_steps inputs k 0 (beginning c)).outputs) more ∙ ap (λ (rs : List BitVector). (after_steps inputs (suc n) 0 (moment inputs fits rs zeros)).outputs) m.firsts
      ∙ outputs-are inputs fits n 0 zeros first-bits ∙ ap (outputs-at inputs fits) count

  pub runs-as : RunsAs lines c
  runs-as stimulus n same always =
      let inputs = inputs_of stimulus in
      let fits = fit stimulus same always in
      ap₂ (λ (r : Row) (rows : List Row). r ∷ rows) first-is
      (ap (λ (rs : List BitVector). wired.rows_after c inputs n 0 rs) m.firsts ∙ rows-are inputs fits n 0 first-bits ∙ (let count : 0 + n ≡ n = omega arith in ap (text.rows_behind lines inputs) count))
