-- A circuit and the bit-level circuit that is made of it have the same names, widths and rows.
use Rattle.std.proofs.Common.{◌≡◌, ℕ, zero, suc, ◌+◌, ◌<◌, ◌≤◌, ◌^◌, Bool, true, false, eqb, cond, List, [], ◌∷◌, ◌++◌, length, map, get_or, refl, sym, ap, ap₂, subst, ◌∙◌, arith, append-nil}
use Rattle.std.specs.Prelude.{sum}
use Rattle.std.specs.List.{All, filter}
use Rattle.std.proofs.lemmas.Bool.{eqb-true}
use Rattle.std.proofs.lemmas.List.{length-map, length-append}
use Rattle.std.proofs.lemmas.List.Elements.{All-cons, All-filter, All-map}
use Rattle.std.proofs.lemmas.Nat.{pow_pos}
use Rattle.kw_bits.specs.BitVector.{BitVector, IsBits, zero_at}
use Rattle.net_graph.specs.Nets.{op_width, width_at, widths_of}
use Rattle.net_graph.specs.Values.{AllRead, value_at, values_of, widths}
use Rattle.net_graph.specs.declared.node.NetOp.{NetOp}
use Rattle.net_graph.proofs.OneByOne.{length-one_by_one}
use Rattle.net_graph.proofs.Values.{values-widths}
use Rattle.one_rule.specs.Run.{InputsByCycle}
use Rattle.one_rule.specs.Stimulus.{inputs_of}
use Rattle.one_rule.specs.declared.rows.Row.{Row}
use Rattle.circuit_eval.specs.Circuits as circuit
use Rattle.circuit_eval.specs.Circuits.{AreBits}
use Rattle.circuit_eval.specs.Run as wired
use Rattle.circuit_eval.specs.Run.{rows_after as wired_rows_after, values_in}
use Rattle.circuit_eval.specs.declared.circuit.InputWire.{InputWire}
use Rattle.circuit_eval.specs.declared.circuit.OutputWire.{OutputWire}
use Rattle.circuit_eval.specs.declared.circuit.StateWire.{StateWire}
use Rattle.circuit_eval.specs.declared.circuit.Wires.{Wires}
use Rattle.circuit_eval.proofs.Fitting.{first_states-AreBits, next_states-AreBits, step_feeds}
use Rattle.circuit_eval.proofs.Stimuli.{HaveWidths-AreBits}
use Rattle.aig_blast.specs.Aigs as aigs
use Rattle.aig_blast.specs.Aigs.{AigParts, IsAig, IsInputWord, IsLatchWord, IsOutputBit, IsSymbol, IsWordName, input_word_widths, latch_widths, sources}
use Rattle.aig_blast.specs.AigRun.{bits_of, first_words, next_words, outputs_in, row_after, rows_after}
use Rattle.aig_blast.specs.BitLists.{as_bits}
use Rattle.aig_blast.specs.Blasted.{HasSymbols, HasWires, RunsAs}
use Rattle.aig_blast.specs.Graphs.{AllStand, lit_value, value, values_over, variables, Gates, IsGraph}
use Rattle.aig_blast.specs.inner.Nodes.{AreWords, has_one_bit, input_word, input_words_of, IsWord, Made, latch_word, lengths, MakesNodes, output_bit, output_bits, source_count, state_words_of, word_at, words_bits}
use Rattle.aig_blast.specs.inner.Sources.{source_words}
use Rattle.aig_blast.specs.Words.{bits, word}
use Rattle.aig_blast.specs.declared.aig.InputWord.{InputWord}
use Rattle.aig_blast.specs.declared.aig.LatchWord.{LatchWord}
use Rattle.aig_blast.specs.declared.aig.OutputBit.{OutputBit}
use Rattle.aig_blast.specs.declared.gate.Gate.{Gate}
use Rattle.aig_blast.proofs.AigRows.{is_one-flag}
use Rattle.aig_blast.proofs.Making.{width}
use Rattle.aig_blast.proofs.NodeWords.{bits-word_at, length-word_at, widths-words_bits}
use Rattle.aig_blast.proofs.SourceWords.{AreWords-source_words, bits-source_words, fitted-all, length-bits_of, lengths-source_words}

-- over as many values as there are sources, a word has the values of its literals
pub word-over : (xs : List Bool) (g : Gates) (lits : List ℕ) → length xs ≡ g.sources → map (lit_value (values_over xs g.gates)) lits ≡ word xs g lits
unfolding value
word-over xs g lits all = ap (λ ys. map (lit_value (values_over ys g.gates)) lits) (sym (fitted-all xs g.sources all))

module _ (xs : List Bool) (g : Gates) (all : length xs ≡ g.sources) (words : List (List ℕ)) where
  -- the next words are the next states
  pub next_words-states : (wires : List StateWire) (values : List BitVector) → All (λ (wire : StateWire). bits xs g (word_at words wire.next) ≡ value_at values wire.next) wires
      → next_words (map (latch_word words) wires) (values_over xs g.gates) ≡ wired.next_states wires values
  next_words-states [] values same = refl
  next_words-states (wire ∷ wires) values same =
      ap₂ (λ (b : BitVector) (bs : List BitVector). b ∷ bs)
      (ap as_bits (word-over xs g (word_at words wire.next) all) ∙ same 0 wire (omega arith))
      (next_words-states wires values (λ k d h. same (suc k) d (omega arith)))

  -- the literal of a word of one bit has the bit's value
  flag-word : (lits : List ℕ) → length lits ≡ 1 → lit_value (values_over xs g.gates) (get_or lits 0 0) ≡ wired.is_one (bits xs g lits)
  flag-word [] one = absurd (omega arith)
  flag-word (lit ∷ []) one = sym (is_one-flag (lit_value (values_over xs g.gates) lit)) ∙ ap (λ w. wired.is_one (as_bits w)) (word-over xs g (lit ∷ []) all)
  flag-word (lit ∷ next ∷ rest) one = absurd (omega arith)

  pick : (p q : Bool) → p ≡ q → (wire : OutputWire) (wires : List OutputWire) (value : BitVector) (values : List BitVector)
      → (p ≡ true → lit_value (values_over xs g.gates) (get_or (word_at words wire.id) 0 0) ≡ wired.is_one value)
      → outputs_in (map (output_bit words) wires) (values_over xs g.gates) ≡ map wired.is_one values
      → outputs_in (map (output_bit words) (cond p (wire ∷ wires) wires)) (values_over xs g.gates) ≡ map wired.is_one (cond q (value ∷ values) values)
  pick true true e wire wires one values here rest = ap₂ (λ (b : Bool) (bs : List Bool). b ∷ bs) (here refl) rest
  pick false false e wire wires one values here rest = rest
  pick true false e wire wires one values here rest = absurd cc
  pick false true e wire wires one values here rest = absurd cc

  -- the outputs are the flags
  pub outputs-flags : (wires : List OutputWire) (values : List BitVector) → All (λ (wire : OutputWire). bits xs g (word_at words wire.id) ≡ value_at values wire.id) wires
      → outputs_in (output_bits words wires) (values_over xs g.gates) ≡ wired.flags (wired.outputs_in wires values)
  outputs-flags [] values same = refl
  outputs-flags (wire ∷ wires) values same =
      let lits : List ℕ = word_at words wire.id in
      let value : BitVector = value_at values wire.id in
      let is : value ≡ bits xs g lits = sym (same 0 wire (omega arith)) in
      let wide : value.width ≡ length lits = ap (λ (b : BitVector). b.width) is ∙ width xs g lits in
      pick (has_one_bit words wire) (wired.is_one_bit value) (ap (λ n. eqb n 1) (sym wide)) wire (filter (has_one_bit words) wires) value (filter wired.is_one_bit (wired.outputs_in wires values))
      (λ one. flag-word lits (eqb-true (length lits) 1 one) ∙ ap wired.is_one (sym is))
      (outputs-flags wires values (λ k d h. same (suc k) d (omega arith)))

none : (p q : Bool) → p ≡ q → (words : List (List ℕ)) (wire : OutputWire) (wires : List OutputWire) (value : BitVector) (values : List BitVector) → wired.is_one value ≡ false
    → map (λ (output : OutputBit). false) (map (output_bit words) wires) ≡ map wired.is_one values
    → map (λ (output : OutputBit). false) (map (output_bit words) (cond p (wire ∷ wires) wires)) ≡ map wired.is_one (cond q (value ∷ values) values)
none true true e words wire wires one values off rest = ap₂ (λ (b : Bool) (bs : List Bool). b ∷ bs) (sym off) rest
none false false e words wire wires one values off rest = rest
none true false e words wire wires one values off rest = absurd cc
none false true e words wire wires one values off rest = absurd cc

-- no output and no flag is 1 before the first step
pub first-flags : (net_widths : List ℕ) (words : List (List ℕ)) (wires : List OutputWire) → lengths words ≡ net_widths
    → map (λ (output : OutputBit). false) (output_bits words wires) ≡ wired.flags (wired.zero_outputs net_widths wires)
first-flags net_widths words [] same = refl
first-flags net_widths words (wire ∷ wires) same =
    let value : BitVector = record { width = width_at net_widths wire.id; number = 0 } in
    none (has_one_bit words wire) (wired.is_one_bit value) (ap (λ n. eqb n 1) (sym (length-word_at words wire.id) ∙ ap (λ ws. width_at ws wire.id) same)) words wire (filter (has_one_bit words) wires) value (filter wired.is_one_bit (wired.zero_outputs net_widths wires)) refl
    (first-flags net_widths words wires same)

named : (p q : Bool) → p ≡ q → (words : List (List ℕ)) (wire : OutputWire) (wires others : List OutputWire)
    → map (λ (output : OutputBit). output.name) (map (output_bit words) wires) ≡ map (λ (wire : OutputWire). wire.name) others
    → map (λ (output : OutputBit). output.name) (map (output_bit words) (cond p (wire ∷ wires) wires)) ≡ map (λ (wire : OutputWire). wire.name) (cond q (wire ∷ others) others)
named true true e words wire wires others rest = ap (λ (names : List (List ℕ)). wire.name ∷ names) rest
named false false e words wire wires others rest = rest
named true false e words wire wires others rest = absurd cc
named false true e words wire wires others rest = absurd cc

-- the names of outputs
pub output_bits-names : (net_widths : List ℕ) (words : List (List ℕ)) (wires : List OutputWire) → lengths words ≡ net_widths
    → map (λ (output : OutputBit). output.name) (output_bits words wires) ≡ map (λ (wire : OutputWire). wire.name) (filter (λ (wire : OutputWire). eqb (width_at net_widths wire.id) 1) wires)
output_bits-names net_widths words [] same = refl
output_bits-names net_widths words (wire ∷ wires) same =
    named (has_one_bit words wire) (eqb (width_at net_widths wire.id) 1) (ap (λ n. eqb n 1) (sym (length-word_at words wire.id) ∙ ap (λ ws. width_at ws wire.id) same)) words wire (filter (has_one_bit words) wires) (filter (λ (wire : OutputWire). eqb (width_at net_widths wire.id) 1) wires)
    (output_bits-names net_widths words wires same)

-- names and widths of inputs and latches
pub input_word-names : (wires : List InputWire) → map (λ (word : InputWord). word.name) (map input_word wires) ≡ map (λ (wire : InputWire). wire.name) wires
input_word-names [] = refl
input_word-names (wire ∷ wires) = ap (λ (names : List (List ℕ)). wire.name ∷ names) (input_word-names wires)

pub input_word-widths : (wires : List InputWire) → input_word_widths (map input_word wires) ≡ circuit.input_widths wires
input_word-widths [] = refl
input_word-widths (wire ∷ wires) = ap (λ (ws : List ℕ). wire.width ∷ ws) (input_word-widths wires)

pub latch_word-names : (words : List (List ℕ)) (wires : List StateWire) → map (λ (word : LatchWord). word.name) (map (latch_word words) wires) ≡ map (λ (wire : StateWire). wire.name) wires
latch_word-names words [] = refl
latch_word-names words (wire ∷ wires) = ap (λ (names : List (List ℕ)). wire.name ∷ names) (latch_word-names words wires)

pub latch_word-widths : (net : List NetOp) (words : List (List ℕ)) (wires : List StateWire) → All (circuit.IsState net) wires → latch_widths (map (latch_word words) wires) ≡ circuit.state_widths wires
latch_word-widths net words [] valid = refl
latch_word-widths net words (wire ∷ wires) valid = ap₂ (λ (w : ℕ) (ws : List ℕ). w ∷ ws) (valid 0 wire (omega arith)).first.1 (latch_word-widths net words wires (λ k d h. valid (suc k) d (omega arith)))

pub first_words-states : (words : List (List ℕ)) (wires : List StateWire) → first_words (map (latch_word words) wires) ≡ wired.first_states wires
first_words-states words [] = refl
first_words-states words (wire ∷ wires) = ap (λ (bs : List BitVector). wire.first ∷ bs) (first_words-states words wires)

-- ---- the whole

abbrev pub parts_of : Wires → Gates → List (List ℕ) → AigParts
parts_of c g words = record { inputs = map input_word c.inputs; latches = map (latch_word words) c.states; outputs = output_bits words c.outputs; gates = g.gates }

length-sources : (c : Wires) (g : Gates) (words : List (List ℕ)) (inputs states : List BitVector) → Made c g words → AreBits inputs (circuit.input_widths c.inputs) → AreBits states (circuit.state_widths c.states) → length (bits_of inputs ++ bits_of states) ≡ g.sources
length-sources c g words inputs states made given now =
    omega (arith, length-append (bits_of inputs) (bits_of states), length-bits_of inputs, length-bits_of states, ap sum given.widths, ap sum now.widths, made.count)

-- the first states, and inputs that are 0, are bit vectors of their widths
zeros_fit : (wires : List InputWire) → All circuit.IsInput wires → AreBits (map (λ (wire : InputWire). zero_at wire.width) wires) (circuit.input_widths wires)
zeros_fit [] valid = record { widths = refl; bits = λ k d h. absurd (omega arith) }
zeros_fit (wire ∷ wires) valid =
    let own : circuit.IsInput wire = valid 0 wire (omega arith) in
    let rest = zeros_fit wires (λ k d h. valid (suc k) d (omega arith)) in
    record { widths = ap (λ (ws : List ℕ). wire.width ∷ ws) rest.widths; bits = All-cons IsBits (zero_at wire.width) (map (λ (wire : InputWire). zero_at wire.width) wires) (record { some_bit = own.0; no_wider = own.1; in_range = pow_pos wire.width }) rest.bits }

-- words that have the values of all nodes are as wide as they
lengths-widths : (c : Wires) (g : Gates) (words : List (List ℕ)) → circuit.IsCircuit c
    → ((inputs states : List BitVector) → AreBits inputs (circuit.input_widths c.inputs) → AreBits states (circuit.state_widths c.states) → words_bits (bits_of inputs ++ bits_of states) g words ≡ values_in c inputs states)
    → lengths words ≡ widths_of c.net
lengths-widths c g words valid values =
    let inputs : List BitVector = map (λ (wire : InputWire). zero_at wire.width) c.inputs in
    let states : List BitVector = wired.first_states c.states in
    let given = zeros_fit c.inputs valid.inputs in
    let now = first_states-AreBits c valid in
    sym (widths-words_bits (bits_of inputs ++ bits_of states) g words) ∙ ap widths (values inputs states given now)
    ∙ (values-widths (record { inputs = inputs; states = states }) c.net valid.net (step_feeds c inputs states valid given now)).0

module _ (c : Wires) (g : Gates) (words : List (List ℕ)) (valid : circuit.IsCircuit c) (made : Made c g words) where
  within : (id : ℕ) → id < length c.net → id < length words
  within id h = omega (arith, ap length (made.widths), length-map words (λ (word : List ℕ). length word), length-one_by_one op_width [] c.net)

  -- the rows after a step are equal
  row-same : (inputs states : List BitVector) → AreBits inputs (circuit.input_widths c.inputs) → AreBits states (circuit.state_widths c.states)
      → row_after (parts_of c g words) inputs states ≡ wired.row_after c inputs states
  row-same inputs states given now =
      let xs : List Bool = bits_of inputs ++ bits_of states in
      let all : length xs ≡ g.sources = length-sources c g words inputs states made given now in
      ap₂ (λ (regs : List BitVector) (fired : List Bool). record { regs = regs; fired = fired })
      (next_words-states xs g all words c.states (wired.values_in c inputs states) (made.nexts inputs states given now))
      (outputs-flags xs g all words c.outputs (wired.values_in c inputs states) (made.outputs inputs states given now))

  rows-same : (inputs : InputsByCycle) → ((cycle : ℕ) → AreBits (inputs cycle) (circuit.input_widths c.inputs)) → (count last : ℕ) (states : List BitVector) → AreBits states (circuit.state_widths c.states)
      → rows_after (parts_of c g words) inputs count last states ≡ wired_rows_after c inputs count last states
  unfolding rows_after wired_rows_after
  rows-same inputs given zero last states now = refl
  rows-same inputs given (suc count) last states now =
      let same = row-same (inputs (last + 1)) states (given (last + 1)) now in
      let next : List BitVector = (wired.row_after c (inputs (last + 1)) states).regs in
      ap₂ (λ (row : Row) (rows : List Row). row ∷ rows) same
      (ap (λ (row : Row). rows_after (parts_of c g words) inputs count (last + 1) row.regs) same
      ∙ rows-same inputs given count (last + 1) next (next_states-AreBits c (inputs (last + 1)) states valid (given (last + 1)) now))

  pub runs-as : RunsAs c (parts_of c g words)
  runs-as stimulus n same fits =
      let given : (cycle : ℕ) → AreBits (inputs_of stimulus cycle) (circuit.input_widths c.inputs) = λ cycle. subst (AreBits (inputs_of stimulus cycle)) same (HaveWidths-AreBits stimulus.widths (inputs_of stimulus cycle) (fits cycle)) in
      let first : List BitVector = wired.first_states c.states in
      ap₂ (λ (row : Row) (rows : List Row). row ∷ rows)
      (ap₂ (λ (regs : List BitVector) (fired : List Bool). record { regs = regs; fired = fired }) (first_words-states words c.states) (first-flags (widths_of c.net) words c.outputs (made.widths)))
      (ap (rows_after (parts_of c g words) (inputs_of stimulus) n 0) (first_words-states words c.states) ∙ rows-same (inputs_of stimulus) given n 0 first (first_states-AreBits c valid))

  pub has-wires : HasWires c (parts_of c g words)
  has-wires = record {
    inputs = input_word-names c.inputs;
    input_widths = input_word-widths c.inputs;
    states = latch_word-names words c.states;
    state_widths = latch_word-widths c.net words c.states valid.states;
    outputs = output_bits-names (widths_of c.net) words c.outputs (made.widths);
  }

  same_sources : sources (parts_of c g words) ≡ g.sources
  same_sources =
      ap₂ (λ (ws vs : List ℕ). sum ws + sum vs) (input_word-widths c.inputs) (latch_word-widths c.net words c.states valid.states) ∙ sym made.count

  same_variables : aigs.variables (parts_of c g words) ≡ variables g
  same_variables = ap (λ n. n + length g.gates) same_sources

  latch : (wire : StateWire) → circuit.IsState c.net wire → IsWordName wire.name → IsLatchWord (variables g) (latch_word words wire)
  latch wire is name =
      let own : IsWord g (word_at words wire.next) = made.are_words wire.next [] (within wire.next is.next) in
      record {
        name = name;
        first = is.first.0;
        count = sym (length-word_at words wire.next) ∙ ap (λ ws. width_at ws wire.next) (made.widths) ∙ is.next_width ∙ sym is.first.1;
        nexts = own.are_lits;
      }

  output : (wire : OutputWire) → circuit.IsOutput c.net wire → IsSymbol wire.name → IsOutputBit (variables g) (output_bit words wire)
  output wire is name =
      let own : IsWord g (word_at words wire.id) = made.are_words wire.id [] (within wire.id is) in
      record { name = name; lit = own.are_lits 0 0 (omega arith) }

  pub is-aig : HasSymbols c → IsAig (parts_of c g words)
  is-aig names = record {
    inputs = All-map IsInputWord input_word c.inputs (λ k d h. record { name = names.inputs k d h; some = (valid.inputs k d h).0; most = (valid.inputs k d h).1 });
    latches = subst (λ n. All (IsLatchWord n) (map (latch_word words) c.states)) (sym same_variables) (All-map (IsLatchWord (variables g)) (latch_word words) c.states (λ k d h. latch (get_or c.states k d) (valid.states k d h) (names.states k d h)));
    outputs = subst (λ n. All (IsOutputBit n) (output_bits words c.outputs)) (sym same_variables) (All-map (IsOutputBit (variables g)) (output_bit words) (filter (has_one_bit words) c.outputs) (All-filter (has_one_bit words) (λ (wire : OutputWire). IsOutputBit (variables g) (output_bit words wire)) c.outputs (λ k d h. output (get_or c.outputs k d) (valid.outputs k d h) (names.outputs k d h))));
    gates = subst (λ n. AllStand n g.gates) (sym same_sources) made.graph.stand;
    few = subst (λ n. n ≤ 2 ^ 60) (sym same_variables) made.graph.few;
  }

-- ---- from the words of nodes

-- a graph with the words of nodes over the words of sources is what was made of the circuit
pub made-from : (c : Wires) (g0 g : Gates) (words : List (List ℕ)) → circuit.IsCircuit c → g0.sources ≡ source_count c → IsGraph g
    → MakesNodes g0 g (input_words_of c) (state_words_of c) words (λ s. values_of s c.net) → Made c g words
made-from c g0 g words valid count graph nodes = record {
  count = nodes.keeps.same_sources ∙ count;
  graph = graph;
  are_words = nodes.are_words;
  widths = wide;
  nexts = λ inputs states given now k d h. node inputs states given now (get_or c.states k d).next (valid.states k d h).next;
  outputs = λ inputs states given now k d h. node inputs states given now (get_or c.outputs k d).id (valid.outputs k d h);
}
  where
    values : (inputs states : List BitVector) → AreBits inputs (circuit.input_widths c.inputs) → AreBits states (circuit.state_widths c.states) → words_bits (bits_of inputs ++ bits_of states) g words ≡ values_in c inputs states
    values inputs states given now =
        let xs : List Bool = bits_of inputs ++ bits_of states in
        let all : length xs ≡ g0.sources = omega (arith, length-append (bits_of inputs) (bits_of states), length-bits_of inputs, length-bits_of states, ap sum given.widths, ap sum now.widths) in
        let ins : words_bits xs g0 (source_words 0 (circuit.input_widths c.inputs)) ≡ inputs =
        ap (λ ws. words_bits xs g0 (source_words 0 ws)) (sym given.widths) ∙ bits-source_words g0 0 [] (bits_of states) xs inputs given.bits refl refl all in
        let start : length (bits_of inputs) ≡ sum (circuit.input_widths c.inputs) = length-bits_of inputs ∙ ap sum given.widths in
        let sts : words_bits xs g0 (source_words (sum (circuit.input_widths c.inputs)) (circuit.state_widths c.states)) ≡ states =
        ap (λ ws. words_bits xs g0 (source_words (sum (circuit.input_widths c.inputs)) ws)) (sym now.widths)
        ∙ bits-source_words g0 (sum (circuit.input_widths c.inputs)) (bits_of inputs) [] xs states now.bits start (ap (λ ys. bits_of inputs ++ ys) (append-nil (bits_of states))) all in
        nodes.have_values xs ∙ ap₂ (λ (i s : List BitVector). values_of (record { inputs = i; states = s }) c.net) ins sts

    wide : lengths words ≡ widths_of c.net
    wide = lengths-widths c g words valid values

    node : (inputs states : List BitVector) → AreBits inputs (circuit.input_widths c.inputs) → AreBits states (circuit.state_widths c.states) → (id : ℕ) → id < length c.net
        → bits (bits_of inputs ++ bits_of states) g (word_at words id) ≡ value_at (values_in c inputs states) id
    node inputs states given now id h =
        let within : id < length words = omega (arith, ap length wide, length-map words (λ (word : List ℕ). length word), length-one_by_one op_width [] c.net) in
        sym (bits-word_at (bits_of inputs ++ bits_of states) g words id within) ∙ ap (λ vs. value_at vs id) (values inputs states given now)

-- the words of sources stand over as many sources as there are, and the net reads them
pub AreWords-inputs : (c : Wires) (g : Gates) (words : List (List ℕ)) → circuit.IsCircuit c → g.sources ≡ source_count c → words ≡ input_words_of c → AreWords g words
AreWords-inputs c g words valid count is =
    subst (AreWords g) (sym is) (AreWords-source_words g 0 (circuit.input_widths c.inputs) (All-map (λ (w : ℕ). (1 ≤ w) × (w ≤ 128)) (λ (wire : InputWire). wire.width) c.inputs valid.inputs) (omega arith))

pub AreWords-states : (c : Wires) (g : Gates) (words : List (List ℕ)) → circuit.IsCircuit c → g.sources ≡ source_count c → words ≡ state_words_of c → AreWords g words
AreWords-states c g words valid count is =
    subst (AreWords g) (sym is) (AreWords-source_words g (sum (circuit.input_widths c.inputs)) (circuit.state_widths c.states) (All-map (λ (w : ℕ). (1 ≤ w) × (w ≤ 128)) (λ (wire : StateWire). wire.width) c.states wide) (omega arith))
  where
    wide : All (λ (wire : StateWire). (1 ≤ wire.width) × (wire.width ≤ 128)) c.states
    wide k d h =
        let first = (valid.states k d h).first in
        (omega (arith, first.0.some_bit, first.1), omega (arith, first.0.no_wider, first.1))

pub reads-words : (c : Wires) (inputs states : List (List ℕ)) → circuit.IsCircuit c → inputs ≡ input_words_of c → states ≡ state_words_of c → AllRead (lengths inputs) (lengths states) c.net
reads-words c inputs states valid ins sts =
    let ws : lengths inputs ≡ circuit.input_widths c.inputs = ap lengths ins ∙ lengths-source_words 0 (circuit.input_widths c.inputs) in
    let vs : lengths states ≡ circuit.state_widths c.states = ap lengths sts ∙ lengths-source_words (sum (circuit.input_widths c.inputs)) (circuit.state_widths c.states) in
    subst (λ (x : List ℕ). AllRead x (lengths states) c.net) (sym ws) (subst (λ (y : List ℕ). AllRead (circuit.input_widths c.inputs) y c.net) (sym vs) valid.reads)

pub made-by : (c : Wires) (g0 g : Gates) (inputs states words : List (List ℕ)) → circuit.IsCircuit c → g0.sources ≡ source_count c → inputs ≡ input_words_of c → states ≡ state_words_of c → IsGraph g
    → MakesNodes g0 g inputs states words (λ s. values_of s c.net) → Made c g words
made-by c g0 g inputs states words valid count ins sts graph nodes =
    made-from c g0 g words valid count graph
    (subst (λ (x : List (List ℕ)). MakesNodes g0 g x (state_words_of c) words (λ s. values_of s c.net)) ins (subst (λ (y : List (List ℕ)). MakesNodes g0 g inputs y words (λ s. values_of s c.net)) sts nodes))

-- next nodes and outputs have words
pub nexts-within : (c : Wires) (g : Gates) (words used : List (List ℕ)) (wires : List StateWire) → circuit.IsCircuit c → Made c g words → wires ≡ c.states → used ≡ words → All (λ (wire : StateWire). wire.next < length used) wires
nexts-within c g words used wires valid made is same =
    subst (All (λ (wire : StateWire). wire.next < length used)) (sym is) (subst (λ (ws : List (List ℕ)). All (λ (wire : StateWire). wire.next < length ws) c.states) (sym same) (λ k d h. within c g words valid made (get_or c.states k d).next (valid.states k d h).next))

pub outputs-within : (c : Wires) (g : Gates) (words used : List (List ℕ)) (wires : List OutputWire) → circuit.IsCircuit c → Made c g words → wires ≡ c.outputs → used ≡ words → All (λ (wire : OutputWire). wire.id < length used) wires
outputs-within c g words used wires valid made is same =
    subst (All (λ (wire : OutputWire). wire.id < length used)) (sym is) (subst (λ (ws : List (List ℕ)). All (λ (wire : OutputWire). wire.id < length ws) c.outputs) (sym same) (λ k d h. within c g words valid made (get_or c.outputs k d).id (valid.outputs k d h)))

-- parts that are made of the wires
pub parts-same : (c : Wires) (g : Gates) (words : List (List ℕ)) (inputs : List InputWord) (latches : List LatchWord) (outputs : List OutputBit) (gates : List Gate)
    → inputs ≡ map input_word c.inputs → latches ≡ map (latch_word words) c.states → outputs ≡ output_bits words c.outputs → gates ≡ g.gates
    → record { inputs = inputs; latches = latches; outputs = outputs; gates = gates } ≡ parts_of c g words
parts-same c g words inputs latches outputs gates ins ls outs gs = λ i. record { inputs = ins i; latches = ls i; outputs = outs i; gates = gs i }
