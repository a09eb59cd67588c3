-- The run of a circuit whose outputs are a text's outputs and, after them, one for each bad line: its rows are those of the
-- text with a flag more for each bad line.
use Rattle.std.proofs.Common.{◌≡◌, ◌≤◌, ℕ, zero, suc, ◌+◌, nat_eq, ◌==◌, Bool, true, false, not, cond, filter, List, [], ◌∷◌, ◌++◌, length, length-append, map, All, refl, sym, ap, ap₂, subst, ◌∙◌, append-nil, arith}
use Rattle.std.proofs.lemmas.List.{length-map, map-append}
use Rattle.std.proofs.lemmas.List.Elements.{filter-append}
use Rattle.std.proofs.lemmas.List.FromFn.{map-range_with_len_more}
use Rattle.std.proofs.lemmas.List.Sums.{fold-append}
use Rattle.std.proofs.lemmas.Simd.{map-map}
use Rattle.std.specs.List.{AllByRecursion, range_with_len}
use Rattle.kw_bits.specs.BitVector.{BitVector}
use Rattle.net_graph.specs.Nets.{width_at, widths_of}
use Rattle.net_graph.specs.Values.{value_at}
use Rattle.one_rule.specs.Run.{InputsByCycle}
use Rattle.one_rule.specs.Stimulus.{AlwaysFits, InputVectors, inputs_of}
use Rattle.one_rule.specs.declared.rows.Row.{Row}
use Rattle.btor2_model.specs.Rules.{is_bad, is_output, rule_of}
use Rattle.btor2_model.specs.Run.{flag_ids, lines_by_rule, row_behind, rows_behind, values_in, width_in}
use Rattle.btor2_model.specs.Run as text_run
use Rattle.btor2_model.specs.Scope.{id_at}
use Rattle.btor2_net.specs.Translations.{HasLines, RunsAs, line_name}
use Rattle.btor2_text.specs.declared.line.Line.{Line}
use Rattle.circuit_eval.specs.Circuits.{AreBits, IsCircuit, input_widths}
use Rattle.circuit_eval.specs.Machines.{after_steps, rows_after}
use Rattle.circuit_eval.specs.Run as wired
use Rattle.circuit_eval.specs.Run.{flags, is_one, is_one_bit, next_states, outputs_in, zero_outputs}
use Rattle.circuit_eval.specs.Simulations as sims
use Rattle.circuit_eval.specs.Simulations.{Simulation, after_step, beginning, row_at}
use Rattle.circuit_eval.specs.declared.circuit.InputWire.{InputWire}
use Rattle.circuit_eval.specs.declared.circuit.OutputWire.{OutputWire}
use Rattle.circuit_eval.specs.declared.circuit.Wires.{Wires}
use Rattle.circuit_eval.proofs.Stimuli.{HaveWidths-AreBits}
use Rattle.koika_assert.specs.Bads.{is_shown, is_violated, turned}
use Rattle.stim_report.specs.Shapes as told
use Rattle.stim_report.specs.Summary.{last_values}
use Rattle.stim_report.specs.declared.shape.Shape.{Shape}
use Rattle.koika_top.specs.Btorsim as text
use Rattle.koika_top.specs.CircuitShapes as circuits
use Rattle.koika_top.specs.inner.CircuitRuns.{IsCircuitOf, IsMixedOf, IsParted, chosen, first_with_bads, output_mask, row_with_bads, run_with_bads, unmarked, with_outputs}
use Rattle.koika_top.proofs.ChosenOutputs.{chosen-map, chosen-outputs, unmarked-bads}
use Rattle.koika_top.proofs.CircuitFits.{outputs-wide}
use Rattle.koika_top.proofs.MachineRows.{drop-none, rows-more, steps-keep, steps-more}
use Rattle.koika_top.proofs.MachineRuns.{circuit-rows}
use Rattle.koika_top.proofs.Shapes.{shape-of-text, widths-told}

-- ---- rows one by one

-- images of equal functions
pub same-images : {X Y : Type 0} (f g : X → Y) → ((x : X) → f x ≡ g x) → (xs : List X) → map f xs ≡ map g xs
same-images f g same [] = refl
same-images {X} {Y} f g same (x ∷ xs) = ap₂ (λ (y : Y) (ys : List Y). y ∷ ys) (same x) (same-images f g same xs)

-- the rows behind the first
pub rows-one-by-one : (lines : List Line) (inputs : InputsByCycle) (n : ℕ) → rows_behind lines inputs n ≡ map (row_behind lines inputs) (range_with_len 0 n)
rows-one-by-one lines inputs zero = refl
rows-one-by-one lines inputs (suc n) =
    let on : n + 1 ≡ suc n = omega arith in
    ap (λ (rows : List Row). rows ++ row_behind lines inputs n ∷ []) (rows-one-by-one lines inputs n)
    ∙ sym (map-range_with_len_more (row_behind lines inputs) 0 n n (omega arith))
    ∙ ap (λ (k : ℕ). map (row_behind lines inputs) (range_with_len 0 k)) on

-- the registers of the last row
last-of-rows : (rows : List Row) (row : Row) → last_values (rows ++ row ∷ []) ≡ row.regs
last-of-rows rows row = fold-append (λ (values : List BitVector) (r : Row). r.regs) [] rows (row ∷ [])

-- ---- flags

flags-append : (xs ys : List BitVector) → flags (xs ++ ys) ≡ flags xs ++ flags ys
flags-append xs ys = ap (map is_one) (filter-append is_one_bit xs ys) ∙ map-append is_one (filter is_one_bit xs) (filter is_one_bit ys)

one-flag : (one two : Bool) (v : BitVector) (vs : List BitVector) (line : Line) (lines : List Line) (f : Line → Bool) → one ≡ two → f line ≡ is_one v → map is_one vs ≡ map f lines
    → map is_one (cond one (v ∷ vs) vs) ≡ map f (cond two (line ∷ lines) lines)
one-flag true true v vs line lines f same here rest = ap₂ (λ (b : Bool) (bs : List Bool). b ∷ bs) (sym here) rest
one-flag false false v vs line lines f same here rest = rest
one-flag true false v vs line lines f same here rest = absurd cc
one-flag false true v vs line lines f same here rest = absurd cc

head-same : (x y : ℕ) (xs ys : List ℕ) → x ∷ xs ≡ y ∷ ys → (x ≡ y) × (xs ≡ ys)
head-same x y xs ys e = (cc, cc)

-- the flags of values are those of the lines that have one bit
flags-of-lines : (f : Line → BitVector) (w : Line → ℕ) (lines : List Line) → map (λ (v : BitVector). v.width) (map f lines) ≡ map w lines
    → flags (map f lines) ≡ map (λ (line : Line). (f line).number == 1) (filter (λ (line : Line). w line == 1) lines)
flags-of-lines f w [] same = refl
flags-of-lines f w (line ∷ lines) same =
    let both = head-same (f line).width (w line) (map (λ (v : BitVector). v.width) (map f lines)) (map w lines) same in
    one-flag (nat_eq (f line).width 1) (w line == 1) (f line) (filter is_one_bit (map f lines)) line (filter (λ (l : Line). w l == 1) lines) (λ (l : Line). (f l).number == 1)
    (ap (λ (k : ℕ). nat_eq k 1) both.0) refl (flags-of-lines f w lines both.1)

-- and those of zeros none
flags-of-zeros : (nodes : List ℕ) (w : Line → ℕ) (wires : List OutputWire) (lines : List Line) → map (λ (wire : OutputWire). width_at nodes wire.id) wires ≡ map w lines
    → flags (zero_outputs nodes wires) ≡ map (λ (line : Line). false) (filter (λ (line : Line). w line == 1) lines)
flags-of-zeros nodes w [] [] same = refl
flags-of-zeros nodes w [] (line ∷ lines) same = absurd cc
flags-of-zeros nodes w (wire ∷ wires) [] same = absurd cc
flags-of-zeros nodes w (wire ∷ wires) (line ∷ lines) same =
    let both = head-same (width_at nodes wire.id) (w line) (map (λ (o : OutputWire). width_at nodes o.id) wires) (map w lines) same in
    let zero_of : OutputWire → BitVector = λ o. record { width = width_at nodes o.id; number = 0 } in
    one-flag (nat_eq (width_at nodes wire.id) 1) (w line == 1) (zero_of wire) (filter is_one_bit (map zero_of wires)) line (filter (λ (l : Line). w l == 1) lines) (λ (l : Line). false)
    (ap (λ (k : ℕ). nat_eq k 1) both.0) refl (flags-of-zeros nodes w wires lines both.1)

all-kept : (w : Line → ℕ) (lines : List Line) → AllByRecursion (λ (line : Line). w line ≡ 1) lines → filter (λ (line : Line). w line == 1) lines ≡ lines
all-kept w [] all = refl
all-kept w (line ∷ lines) all = rw all.0 (ap (λ (l : List Line). line ∷ l) (all-kept w lines all.1))

id-cond : (f : Line → ℕ) (b : Bool) (line : Line) (lines : List Line) (ids : List ℕ) → map f lines ≡ ids → map f (cond b (line ∷ lines) lines) ≡ cond b (f line ∷ ids) ids
id-cond f true line lines ids is = ap (λ (l : List ℕ). f line ∷ l) is
id-cond f false line lines ids is = is

ids-kept : (f : Line → ℕ) (p : ℕ → Bool) (lines : List Line) → map f (filter (λ (line : Line). p (f line)) lines) ≡ filter p (map f lines)
ids-kept f p [] = refl
ids-kept f p (line ∷ lines) = id-cond f (p (f line)) line (filter (λ (l : Line). p (f l)) lines) (filter p (map f lines)) (ids-kept f p lines)

-- a text's flags by the ids that its outputs name
by-ids : {Y : Type 0} (lines : List Line) (f : ℕ → Y) → map (λ (line : Line). f (id_at line.arguments 0)) (text.flag_lines lines) ≡ map f (flag_ids lines)
by-ids lines f =
    sym (map-map f (λ (line : Line). id_at line.arguments 0) (text.flag_lines lines))
    ∙ ap (map f) (ids-kept (λ (line : Line). id_at line.arguments 0) (λ (id : ℕ). width_in lines id == 1) (lines_by_rule is_output lines))

-- a text's row has a flag for each rule of its shape
pub flags-each : (lines : List Line) → length (flag_ids lines) ≡ length (text.shape_of lines).rules
flags-each lines =
    let shown = text.flag_lines lines in
    sym (ap length (ids-kept (λ (line : Line). id_at line.arguments 0) (λ (id : ℕ). width_in lines id == 1) (lines_by_rule is_output lines)))
    ∙ length-map shown (λ (line : Line). id_at line.arguments 0) ∙ sym (length-map shown line_name)

-- ---- other outputs

module _ (inputs : InputsByCycle) (o : List OutputWire) where
  -- the states don't depend on the outputs
  same-states : (count last : ℕ) (s t : Simulation) → t.circuit ≡ with_outputs s.circuit o → t.states ≡ s.states
      → (after_steps after_step inputs count last t).states ≡ (after_steps after_step inputs count last s).states
  same-states zero last s t circuit states = states
  same-states (suc count) last s t circuit states =
      same-states count (last + 1) (after_step s (inputs (last + 1))) (after_step t (inputs (last + 1))) circuit
      (λ i. next_states (circuit i).states (wired.values_in (circuit i) (inputs (last + 1)) (states i)))

module _ (lines : List Line) (c : Wires) (mixed : IsMixedOf lines c) (valid : IsCircuit c) where
  abbrev outs : List OutputWire
  outs = chosen (output_mask lines) c.outputs

  abbrev bads : List OutputWire
  bads = unmarked (output_mask lines) c.outputs

  abbrev wide : Line → ℕ
  wide line = width_in lines (id_at line.arguments 0)

  -- the widths of the outputs' nodes
  nodes-wide : map (λ (wire : OutputWire). width_at (widths_of c.net) wire.id) c.outputs ≡ map wide (lines_by_rule is_shown lines)
  nodes-wide = mixed.has.output_widths ∙ mixed.shows.widths

  chosen-wide : (mask : List Bool) (of_mask : List Line) → chosen mask (lines_by_rule is_shown lines) ≡ of_mask
      → map (λ (wire : OutputWire). width_at (widths_of c.net) wire.id) (chosen mask c.outputs) ≡ map wide of_mask
  chosen-wide mask of_mask is =
      sym (chosen-map (λ (wire : OutputWire). width_at (widths_of c.net) wire.id) mask c.outputs)
      ∙ ap (chosen mask) nodes-wide
      ∙ chosen-map wide mask (lines_by_rule is_shown lines)
      ∙ ap (map wide) is

  names-mixed : map (λ (wire : OutputWire). wire.name) c.outputs ≡ map line_name (lines_by_rule is_shown lines)
  names-mixed = mixed.has.outputs ∙ ap (map line_name) mixed.shows.outputs ∙ map-map line_name turned (lines_by_rule is_shown lines)

  chosen-names : (mask : List Bool) (of_mask : List Line) → chosen mask (lines_by_rule is_shown lines) ≡ of_mask
      → map (λ (wire : OutputWire). wire.name) (chosen mask c.outputs) ≡ map line_name of_mask
  chosen-names mask of_mask is =
      sym (chosen-map (λ (wire : OutputWire). wire.name) mask c.outputs)
      ∙ ap (chosen mask) names-mixed
      ∙ chosen-map line_name mask (lines_by_rule is_shown lines)
      ∙ ap (map line_name) is

  -- the circuit has the text's lines where it has its outputs alone
  has-outs : HasLines lines (with_outputs c outs)
  has-outs = record {
    inputs = mixed.has.inputs ∙ mixed.shows.inputs;
    input_widths = mixed.has.input_widths ∙ mixed.shows.input_widths;
    states = mixed.has.states ∙ mixed.shows.states;
    state_widths = mixed.has.state_widths ∙ mixed.shows.state_widths;
    outputs = chosen-names (output_mask lines) (lines_by_rule is_output lines) (chosen-outputs lines);
    output_widths = chosen-wide (output_mask lines) (lines_by_rule is_output lines) (chosen-outputs lines);
  }

  module _ (stimulus : InputVectors) (same : stimulus.widths ≡ input_widths c.inputs) (always : AlwaysFits stimulus) where
    abbrev inputs : InputsByCycle
    inputs = inputs_of stimulus

    -- the circuit before all steps, and what it is after some
    abbrev parted : Simulation
    parted = beginning (with_outputs c (outs ++ bads))

    abbrev now : ℕ → Simulation
    now count = after_steps after_step inputs count 0 (beginning c)

    abbrev value_of : ℕ → Line → BitVector
    value_of step line = values_in lines inputs step (id_at line.arguments 0)

    -- the outputs of a step
    abbrev made : ℕ → List OutputWire → List BitVector
    made step wires = outputs_in wires (wired.values_in c (inputs (step + 1)) (now step).states)

    step-outputs : (step : ℕ) → (now (suc step)).outputs ≡ made step c.outputs
    step-outputs step =
        let before : Simulation = now step in
        let circuit : before.circuit ≡ c = steps-keep after_step inputs (λ (s : Simulation). s.circuit) (λ s given. refl) step 0 (beginning c) in
        let last : 0 + step + 1 ≡ step + 1 = omega arith in
        ap (λ (s : Simulation). s.outputs) (steps-more after_step inputs step 0 (beginning c))
        ∙ (λ i. outputs_in (circuit i).outputs (wired.values_in (circuit i) (inputs (last i)) before.states))

    all-made : (step : ℕ) → made step c.outputs ≡ map (value_of step) (lines_by_rule is_shown lines)
    unfolding sims.after_steps
    all-made step =
        let on : suc step ≡ step + 1 = omega arith in
        sym (step-outputs step)
        ∙ ap (λ (k : ℕ). (now k).outputs) on
        ∙ mixed.gives stimulus step same always
        ∙ mixed.shows.values inputs step

    all-wide : (step : ℕ) → map (λ (v : BitVector). v.width) (made step c.outputs) ≡ map wide (lines_by_rule is_shown lines)
    all-wide step =
        outputs-wide c valid inputs (λ k. subst (AreBits (inputs k)) same (HaveWidths-AreBits stimulus.widths (inputs k) (always k))) step ∙ nodes-wide

    module _ (mask : List Bool) (of_mask : List Line) (is : chosen mask (lines_by_rule is_shown lines) ≡ of_mask) where
      abbrev marked : List OutputWire
      marked = chosen mask c.outputs

      chosen-made : (step : ℕ) → made step marked ≡ map (value_of step) of_mask
      chosen-made step =
          sym (chosen-map (λ (wire : OutputWire). value_at (wired.values_in c (inputs (step + 1)) (now step).states) wire.id) mask c.outputs)
          ∙ ap (chosen mask) (all-made step)
          ∙ chosen-map (value_of step) mask (lines_by_rule is_shown lines)
          ∙ ap (map (value_of step)) is

      values-wide : (step : ℕ) → map (λ (v : BitVector). v.width) (map (value_of step) of_mask) ≡ map wide of_mask
      values-wide step =
          ap (map (λ (v : BitVector). v.width)) (sym (ap (map (value_of step)) is) ∙ sym (chosen-map (value_of step) mask (lines_by_rule is_shown lines)))
          ∙ sym (chosen-map (λ (v : BitVector). v.width) mask (map (value_of step) (lines_by_rule is_shown lines)))
          ∙ ap (λ (vs : List BitVector). chosen mask (map (λ (v : BitVector). v.width) vs)) (sym (all-made step))
          ∙ ap (chosen mask) (all-wide step)
          ∙ chosen-map wide mask (lines_by_rule is_shown lines)
          ∙ ap (map wide) is

      flags-made : (step : ℕ) → flags (made step marked) ≡ map (λ (line : Line). (value_of step line).number == 1) (filter (λ (line : Line). wide line == 1) of_mask)
      flags-made step = ap flags (chosen-made step) ∙ flags-of-lines (value_of step) wide of_mask (values-wide step)

    outs-flags : (step : ℕ) → flags (made step outs) ≡ (row_behind lines inputs step).fired
    outs-flags step =
        flags-made (output_mask lines) (lines_by_rule is_output lines) (chosen-outputs lines) step ∙ by-ids lines (λ (id : ℕ). (values_in lines inputs step id).number == 1)

    bads-flags : (step : ℕ) → flags (made step bads) ≡ map (is_violated lines inputs step) (lines_by_rule is_bad lines)
    bads-flags step =
        flags-made (map not (output_mask lines)) (lines_by_rule is_bad lines) (unmarked-bads lines) step
        ∙ ap (map (is_violated lines inputs step)) (all-kept wide (lines_by_rule is_bad lines) mixed.shows.one_bit)

    -- ---- registers

    run-mixed : (n : ℕ) → row_at (beginning c) ∷ rows_after after_step row_at inputs n 0 (beginning c) ≡ text_run.run_of mixed.shown inputs n
    run-mixed n = circuit-rows c (beginning c) inputs n refl ∙ mixed.runs stimulus n same always

    first-regs : (beginning c).states ≡ (text_run.first_row lines).regs
    first-regs = ap last_values (run-mixed 0) ∙ mixed.shows.first

    step-regs : (step : ℕ) → (now (suc step)).states ≡ (row_behind lines inputs step).regs
    step-regs step =
        let first : Row = row_at (beginning c) in
        let shown_first : Row = text_run.first_row mixed.shown in
        sym (last-of-rows (first ∷ rows_after after_step row_at inputs step 0 (beginning c)) (row_at (now (suc step))))
        ∙ ap (λ (rows : List Row). last_values (first ∷ rows)) (sym (rows-more after_step inputs row_at step 0 (beginning c)))
        ∙ ap last_values (run-mixed (suc step))
        ∙ last-of-rows (shown_first ∷ rows_behind mixed.shown inputs step) (row_behind mixed.shown inputs step)
        ∙ mixed.shows.later inputs step

    -- ---- the rows of the parted circuit

    abbrev parted_now : ℕ → Simulation
    parted_now count = after_steps after_step inputs count 0 parted

    parted-states : (count : ℕ) → (parted_now count).states ≡ (now count).states
    parted-states count = same-states inputs (outs ++ bads) count 0 (beginning c) parted refl refl

    parted-outputs : (step : ℕ) → (parted_now (suc step)).outputs ≡ made step outs ++ made step bads
    parted-outputs step =
        let before : Simulation = parted_now step in
        let circuit : before.circuit ≡ with_outputs c (outs ++ bads) = steps-keep after_step inputs (λ (s : Simulation). s.circuit) (λ s given. refl) step 0 parted in
        let last : 0 + step + 1 ≡ step + 1 = omega arith in
        ap (λ (s : Simulation). s.outputs) (steps-more after_step inputs step 0 parted)
        ∙ (λ i. outputs_in (circuit i).outputs (wired.values_in (circuit i) (inputs (last i)) (parted-states step i)))
        ∙ map-append (λ (wire : OutputWire). value_at (wired.values_in c (inputs (step + 1)) (now step).states) wire.id) outs bads

    abbrev row_of : List BitVector → List Bool → Row
    row_of regs fired = record { regs = regs; fired = fired }

    parted-row : (step : ℕ) → row_at (parted_now (suc step)) ≡ row_with_bads lines inputs step
    parted-row step =
        ap₂ row_of (parted-states (suc step) ∙ step-regs step)
        (ap flags (parted-outputs step) ∙ flags-append (made step outs) (made step bads) ∙ ap₂ (λ (xs ys : List Bool). xs ++ ys) (outs-flags step) (bads-flags step))

    parted-first : row_at parted ≡ first_with_bads lines
    parted-first =
        let zeros : List OutputWire → List BitVector = zero_outputs (widths_of c.net) in
        ap₂ row_of first-regs
        (ap flags (map-append (λ (wire : OutputWire). record { width = width_at (widths_of c.net) wire.id; number = 0 }) outs bads)
        ∙ flags-append (zeros outs) (zeros bads)
        ∙ ap₂ (λ (xs ys : List Bool). xs ++ ys)
        (flags-of-zeros (widths_of c.net) wide outs (lines_by_rule is_output lines) (chosen-wide (output_mask lines) (lines_by_rule is_output lines) (chosen-outputs lines)) ∙ by-ids lines (λ (id : ℕ). false))
        (flags-of-zeros (widths_of c.net) wide bads (lines_by_rule is_bad lines) (chosen-wide (map not (output_mask lines)) (lines_by_rule is_bad lines) (unmarked-bads lines))
        ∙ ap (map (λ (line : Line). false)) (all-kept wide (lines_by_rule is_bad lines) mixed.shows.one_bit)))

    parted-rows : (n : ℕ) → rows_after after_step row_at inputs n 0 parted ≡ map (row_with_bads lines inputs) (range_with_len 0 n)
    parted-rows zero = refl
    parted-rows (suc n) =
        let on : n + 1 ≡ suc n = omega arith in
        rows-more after_step inputs row_at n 0 parted
        ∙ ap₂ (λ (rows : List Row) (row : Row). rows ++ row ∷ []) (parted-rows n) (parted-row n)
        ∙ sym (map-range_with_len_more (row_with_bads lines inputs) 0 n n (omega arith))
        ∙ ap (λ (k : ℕ). map (row_with_bads lines inputs) (range_with_len 0 k)) on

    pub parted-run : (n : ℕ) → wired.run_of (with_outputs c (outs ++ bads)) inputs n ≡ run_with_bads lines inputs n
    parted-run n =
        sym (circuit-rows (with_outputs c (outs ++ bads)) parted inputs n refl)
        ∙ ap₂ (λ (row : Row) (rows : List Row). row ∷ rows) parted-first (parted-rows n)

  -- ---- the circuit that is run

  rules-less : length (circuits.shape_of (with_outputs c outs)).rules ≤ length (circuits.shape_of (with_outputs c (outs ++ bads))).rules
  rules-less =
      let is_flag = circuits.is_flag (widths_of c.net) in
      let count =
      ap (λ (wires : List OutputWire). length (map circuits.name_of wires)) (filter-append is_flag outs bads)
      ∙ ap length (map-append circuits.name_of (filter is_flag outs) (filter is_flag bads))
      ∙ length-append (map circuits.name_of (filter is_flag outs)) (map circuits.name_of (filter is_flag bads)) in
      omega (arith, count)

  -- the parted circuit runs as the text and shows its violations
  pub parted-is : (all : Wires) (shape : Shape) (names : List (List ℕ)) → IsParted c (output_mask lines) all shape names → IsCircuitOf lines all shape names
  parted-is all shape names is =
      subst (λ (w : Wires). IsCircuitOf lines w shape names) (sym is.circuit)
      (record {
        runs = λ stimulus n same always. parted-run stimulus same always n;
        shape_is = is.shape_is ∙ shape-of-text lines (with_outputs c outs) has-outs;
        bads = is.names_are ∙ chosen-names (map not (output_mask lines)) (lines_by_rule is_bad lines) (unmarked-bads lines);
        inputs = ap (λ (s : Shape). told.widths_of s.inputs) is.shape_is ∙ widths-told c.inputs;
        registers = ap (λ (s : Shape). s.registers) is.shape_is;
        rules = rw is.shape_is rules-less;
      })

-- ---- a text without bad lines

module _ (lines : List Line) (none : lines_by_rule is_bad lines ≡ []) where
  bare-row : (inputs : InputsByCycle) (step : ℕ) → row_behind lines inputs step ≡ row_with_bads lines inputs step
  bare-row inputs step =
      let row : Row = row_behind lines inputs step in
      ap (λ (fired : List Bool). record row { fired = fired })
      (sym (ap (λ (bads : List Line). row.fired ++ map (is_violated lines inputs step) bads) none ∙ append-nil row.fired))

  bare-first : text_run.first_row lines ≡ first_with_bads lines
  bare-first =
      let row : Row = text_run.first_row lines in
      ap (λ (fired : List Bool). record row { fired = fired })
      (sym (ap (λ (bads : List Line). row.fired ++ map (λ (bad : Line). false) bads) none ∙ append-nil row.fired))

  bare-run : (inputs : InputsByCycle) (n : ℕ) → text_run.run_of lines inputs n ≡ run_with_bads lines inputs n
  bare-run inputs n =
      ap₂ (λ (row : Row) (rows : List Row). row ∷ rows) bare-first
      (rows-one-by-one lines inputs n ∙ same-images (row_behind lines inputs) (row_with_bads lines inputs) (bare-row inputs) (range_with_len 0 n))

  -- its circuit is that of a text
  pub bare-is : (c : Wires) (shape : Shape) (names : List (List ℕ)) → HasLines lines c → RunsAs lines c → shape ≡ circuits.shape_of c → names ≡ [] → IsCircuitOf lines c shape names
  bare-is c shape names has runs is empty = record {
    runs = λ stimulus n same always. runs stimulus n same always ∙ bare-run (inputs_of stimulus) n;
    shape_is = is ∙ shape-of-text lines c has;
    bads = empty ∙ sym (ap (map line_name) none);
    inputs = ap (λ (s : Shape). told.widths_of s.inputs) is ∙ widths-told c.inputs;
    registers = ap (λ (s : Shape). s.registers) is;
    rules = omega (arith, ap (λ (s : Shape). length s.rules) is);
  }
