-- The run of the circuit that is read from a text is the run of the text.
use Rattle.std.proofs.Common.{◌≡◌, ℕ, zero, suc, ◌+◌, Bool, true, false, List, [], ◌∷◌, ◌++◌, length, map, take, drop, Option, Result, Ok, Err, refl, sym, ap, ap₂, subst, ◌∙◌, arith}
use Rattle.std.specs.Prelude.{sum}
use Rattle.std.proofs.Math.Nat.{mod-eq_of_lt}
use Rattle.std.proofs.lemmas.List.{drop-map, length-map, length-take-le, nil_from_length, take-append-drop, take-map}
use Rattle.kw_base.specs.Place.{capped}
use Rattle.kw_base.specs.declared.fault.Fault.{Fault}
use Rattle.kw_bits.specs.BitVector.{BitVector}
use Rattle.one_rule.specs.Run.{InputsByCycle}
use Rattle.one_rule.specs.declared.rows.Row.{Row}
use Rattle.stim_report.specs.declared.shape.NameWidth.{NameWidth}
use Rattle.aig_blast.specs.AigRun.{bits_of, first_row, first_words, next_words, outputs_in, row_after, rows_after, run_of}
use Rattle.aig_blast.specs.Aigs.{AigParts, input_word_widths}
use Rattle.aig_blast.specs.BitLists.{as_bits, number}
use Rattle.aig_blast.specs.Graphs.{lit_value, values_over}
use Rattle.aig_blast.specs.Steps.{digits}
use Rattle.aig_blast.specs.declared.aig.InputWord.{InputWord}
use Rattle.aig_blast.specs.declared.aig.OutputBit.{OutputBit}
use Rattle.aig_blast.specs.declared.gate.Gate.{Gate}
use Rattle.aig_blast.proofs.Digits.{length-digits, number-digits}
use Rattle.aig_blast.proofs.Numbers.{number-lt}
use Rattle.aiger_text.specs.AigShapes.{name_of, of_input, of_latch, shape_of}
use Rattle.aiger_text.specs.Drafts.{Draft}
use Rattle.aiger_text.specs.Meaning.{HasGraph, IsGraphOf, bits_in_words, latches_after, names_of_outputs, text_row, text_rows, text_run, text_shape, value_of_literal, values_in_step}
use Rattle.aiger_text.specs.Reading.{aig_by, aig_of, gates_of, lits_of, nexts_of, parts_by}
use Rattle.aiger_text.specs.Runs.{latch_words, name_or, output_bits, words_of_bits}
use Rattle.aiger_text.specs.inner.Sound.{IsDraft}
use Rattle.aiger_text.proofs.Accepting.{read-of}
use Rattle.aiger_text.proofs.Agreeing.{Agree, literals-agree, step-agrees}
use Rattle.aiger_text.proofs.Circuits.{all_placed-count}
use Rattle.aiger_text.proofs.Lines.{aig_by-parts, parts_from}
use Rattle.aiger_text.proofs.Naming.{rest-length, widths-cons, words_of_bits-width}
use Rattle.aiger_text.proofs.Soundness.{draft_of-sound}

-- ---- bits and words

-- bits of one number are the same
same-bits : (xs ys : List Bool) → length xs ≡ length ys → number xs ≡ number ys → xs ≡ ys
same-bits [] [] long same = refl
same-bits [] (y ∷ ys) long same = absurd (omega (arith, long))
same-bits (x ∷ xs) [] long same = absurd (omega (arith, long))
same-bits (true ∷ xs) (true ∷ ys) long same = ap (λ (bits : List Bool). true ∷ bits) (same-bits xs ys (omega (arith, long)) (omega (arith, same)))
same-bits (true ∷ xs) (false ∷ ys) long same = absurd (omega (arith, same))
same-bits (false ∷ xs) (true ∷ ys) long same = absurd (omega (arith, same))
same-bits (false ∷ xs) (false ∷ ys) long same = ap (λ (bits : List Bool). false ∷ bits) (same-bits xs ys (omega (arith, long)) (omega (arith, same)))

digits-own : (xs : List Bool) → digits (number xs) (length xs) ≡ xs
digits-own xs =
    same-bits (digits (number xs) (length xs)) xs (length-digits (number xs) (length xs)) (number-digits (number xs) (length xs) ∙ mod-eq_of_lt (number-lt xs))

-- bits that are put into words are still there
bits_of-words : (words : List InputWord) (bits : List Bool) → length bits ≡ sum (input_word_widths words) → bits_of (bits_in_words words bits) ≡ bits
bits_of-words [] bits all = sym (nil_from_length bits all)
bits_of-words (word ∷ words) bits all =
    let wide : length bits ≡ word.width + sum (input_word_widths words) = all ∙ widths-cons word words in
    ap₂ (λ (front back : List Bool). front ++ back) (digits-own (take word.width bits))
    (bits_of-words words (drop word.width bits) (rest-length word.width (sum (input_word_widths words)) bits wide)) ∙ take-append-drop word.width bits

-- ---- latches and outputs in words

next_words-bits : (values : List Bool) (words : List InputWord) (nexts : List ℕ) (resets : List Bool) → next_words (latch_words words nexts resets) values ≡ bits_in_words words (map (lit_value values) nexts)
next_words-bits values [] nexts resets = refl
next_words-bits values (word ∷ words) nexts resets =
    ap₂ (λ (v : BitVector) (vs : List BitVector). v ∷ vs) (ap as_bits (sym (take-map (lit_value values) word.width nexts)))
    (next_words-bits values words (drop word.width nexts) (drop word.width resets) ∙ ap (bits_in_words words) (sym (drop-map (lit_value values) word.width nexts)))

first_words-bits : (words : List InputWord) (nexts : List ℕ) (resets : List Bool) → first_words (latch_words words nexts resets) ≡ bits_in_words words resets
first_words-bits [] nexts resets = refl
first_words-bits (word ∷ words) nexts resets =
    ap (λ (vs : List BitVector). as_bits (take word.width resets) ∷ vs) (first_words-bits words (drop word.width nexts) (drop word.width resets))

of_latches : (words : List InputWord) (nexts : List ℕ) (resets : List Bool) → length resets ≡ sum (input_word_widths words) → map of_latch (latch_words words nexts resets) ≡ map of_input words
of_latches [] nexts resets all = refl
of_latches (word ∷ words) nexts resets all =
    let wide : length resets ≡ word.width + sum (input_word_widths words) = all ∙ widths-cons word words in
    let own : length (take word.width resets) ≡ word.width = length-take-le word.width resets (omega (arith, wide)) in
    ap₂ (λ (n : NameWidth) (ns : List NameWidth). n ∷ ns) (ap (λ (w : ℕ). record { name = word.name; width = w }) own)
    (of_latches words (drop word.width nexts) (drop word.width resets) (rest-length word.width (sum (input_word_widths words)) resets wide))

outputs-values : (f : ℕ → Bool) (index : ℕ) (symbols : List (Option (List ℕ))) (lits : List ℕ) → length lits ≡ length symbols
    → map (λ (output : OutputBit). f output.lit) (output_bits index symbols lits) ≡ map f lits
outputs-values f index [] [] same = refl
outputs-values f index [] (lit ∷ lits) same = absurd (omega (arith, same))
outputs-values f index (symbol ∷ symbols) [] same = absurd (omega (arith, same))
outputs-values f index (symbol ∷ symbols) (lit ∷ lits) same = ap (λ (bits : List Bool). f lit ∷ bits) (outputs-values f (index + 1) symbols lits (omega (arith, same)))

outputs-names : (index : ℕ) (symbols : List (Option (List ℕ))) (lits : List ℕ) → length lits ≡ length symbols → map name_of (output_bits index symbols lits) ≡ names_of_outputs index symbols
outputs-names index [] [] same = refl
outputs-names index [] (lit ∷ lits) same = absurd (omega (arith, same))
outputs-names index (symbol ∷ symbols) [] same = absurd (omega (arith, same))
outputs-names index (symbol ∷ symbols) (lit ∷ lits) same = ap (λ (names : List (List ℕ)). name_or 111 index symbol ∷ names) (outputs-names (index + 1) symbols lits (omega (arith, same)))

none-fired : (xs ys : List ℕ) → length xs ≡ length ys → map (λ (lit : ℕ). false) xs ≡ map (λ (lit : ℕ). false) ys
none-fired [] [] same = refl
none-fired [] (y ∷ ys) same = absurd (omega (arith, same))
none-fired (x ∷ xs) [] same = absurd (omega (arith, same))
none-fired (x ∷ xs) (y ∷ ys) same = ap (λ (bits : List Bool). false ∷ bits) (none-fired xs ys (omega (arith, same)))

-- ---- the run

module _ (d : Draft) (draft : IsDraft d) (nexts lits : List ℕ) (gates : List Gate) (next_lits : nexts_of d ≡ Ok nexts) (output_lits : lits_of d ≡ Ok lits) (gate_lits : gates_of d ≡ Ok gates) where
  abbrev circuit : AigParts
  circuit = parts_by d nexts lits gates

  abbrev words : List InputWord
  words = words_of_bits 108 d.latches

  lits-count : length lits ≡ length d.lits
  lits-count = all_placed-count d.variables (length d.variables) (capped (2 + (length d.inputs + length d.nexts))) d.lits lits output_lits

  resets-count : length d.resets ≡ sum (input_word_widths words)
  resets-count = draft.resets ∙ sym (words_of_bits-width 108 d.latches)

  module _ (inputs : InputsByCycle) where
    latches-count : (cycle : ℕ) → length (latches_after d inputs cycle) ≡ sum (input_word_widths words)
    latches-count zero = resets-count
    latches-count (suc last) =
        length-map d.nexts (value_of_literal (values_in_step d (inputs (suc last)) (latches_after d inputs last))) ∙ draft.nexts ∙ sym (words_of_bits-width 108 d.latches)

    row-same : (last : ℕ) → row_after circuit (inputs (suc last)) (bits_in_words words (latches_after d inputs last)) ≡ text_row d inputs (suc last)
    row-same last =
        let latches : List Bool = latches_after d inputs last in
        let values : ℕ → Bool = values_in_step d (inputs (suc last)) latches in
        let bits : List Bool = bits_of (inputs (suc last)) ++ latches in
        let listed : List Bool = values_over bits gates in
        let agree : Agree d.variables listed values =
        step-agrees d.variables draft.apart bits d.gates gates (1 + (length d.inputs + length d.nexts)) (capped (2 + (length d.inputs + length d.nexts) + length d.lits)) gate_lits
        in
        let own_nexts : map (lit_value listed) nexts ≡ map (value_of_literal values) d.nexts = literals-agree d.variables listed values (1 + length d.variables) (capped (2 + length d.inputs)) d.nexts nexts agree next_lits in
        let own_lits : map (lit_value listed) lits ≡ map (value_of_literal values) d.lits =
        literals-agree d.variables listed values (1 + length d.variables) (capped (2 + (length d.inputs + length d.nexts))) d.lits lits agree output_lits
        in
        let row : List Bool → Row = λ (all : List Bool). record { regs = next_words circuit.latches (values_over all gates); fired = outputs_in circuit.outputs (values_over all gates) } in
        ap row (ap (λ (own : List Bool). bits_of (inputs (suc last)) ++ own) (bits_of-words words latches (latches-count last)))
        ∙ ap₂ (λ (regs : List BitVector) (fired : List Bool). record { regs = regs; fired = fired })
        (next_words-bits listed words nexts d.resets ∙ ap (bits_in_words words) own_nexts)
        (outputs-values (lit_value listed) 0 d.outputs lits (lits-count ∙ draft.lits) ∙ own_lits)

    rows-same : (count last : ℕ) (states : List BitVector) → states ≡ bits_in_words words (latches_after d inputs last) → rows_after circuit inputs count last states ≡ text_rows d inputs (suc last) count
    unfolding rows_after text_rows
    rows-same zero last states are = refl
    rows-same (suc count) last states are =
        let next : last + 1 ≡ suc last = omega arith in
        let one : row_after circuit (inputs (last + 1)) states ≡ text_row d inputs (suc last) = ap₂ (λ (n : ℕ) (own : List BitVector). row_after circuit (inputs n) own) next are ∙ row-same last in
        let regs : List BitVector = next_words circuit.latches (values_over (bits_of (inputs (last + 1)) ++ bits_of states) gates) in
        ap₂ (λ (row : Row) (rows : List Row). row ∷ rows) one
        (ap (λ (n : ℕ). rows_after circuit inputs count n regs) next ∙ rows-same count (suc last) regs (ap (λ (row : Row). row.regs) one))

    first-same : first_row circuit ≡ text_row d inputs 0
    first-same =
        ap₂ (λ (regs : List BitVector) (fired : List Bool). record { regs = regs; fired = fired }) (first_words-bits words nexts d.resets)
        (outputs-values (λ (lit : ℕ). false) 0 d.outputs lits (lits-count ∙ draft.lits) ∙ none-fired lits d.lits lits-count)

    run-same : (n : ℕ) → run_of circuit inputs n ≡ text_run d inputs n
    unfolding text_rows
    run-same n = ap₂ (λ (row : Row) (rows : List Row). row ∷ rows) first-same (rows-same n 0 (first_words circuit.latches) (first_words-bits words nexts d.resets))

  shape-same : shape_of circuit ≡ text_shape d
  shape-same =
      ap₂ (λ (registers : List NameWidth) (rules : List (List ℕ)). record { inputs = map of_input (words_of_bits 105 d.inputs); registers = registers; rules = rules })
      (of_latches words nexts d.resets resets-count) (outputs-names 0 d.outputs lits (lits-count ∙ draft.lits))

  is-graph : IsGraphOf d circuit
  is-graph = record { shape = shape-same; run = run-same }

graph-by : (d : Draft) (a : AigParts) → IsDraft d → aig_by d ≡ Ok a → IsGraphOf d a
graph-by d a draft is = by (nexts_of d) (lits_of d) (gates_of d) refl refl refl (sym (aig_by-parts d) ∙ is)
  where
    by : (nexts lits : Result (List ℕ) Fault) (gates : Result (List Gate) Fault) → nexts_of d ≡ nexts → lits_of d ≡ lits → gates_of d ≡ gates → parts_from d nexts lits gates ≡ Ok a → IsGraphOf d a
    by (Err fault) lits gates n l g is = absurd (cc)
    by (Ok nexts) (Err fault) gates n l g is = absurd (cc)
    by (Ok nexts) (Ok lits) (Err fault) n l g is = absurd (cc)
    by (Ok nexts) (Ok lits) (Ok gates) n l g is =
        let same : parts_by d nexts lits gates ≡ a = cc in
        subst (IsGraphOf d) same (is-graph d draft nexts lits gates n l g)

-- the circuit of a text is one of what the text says
pub graph-of : (text : List ℕ) (a : AigParts) → aig_of text ≡ Ok a → HasGraph text a
graph-of text a is =
    let read = read-of text a is in
    record { said = read.said; reads = read.accepts; graph = graph-by read.said a (draft_of-sound text read.said read.drafted) read.made }
