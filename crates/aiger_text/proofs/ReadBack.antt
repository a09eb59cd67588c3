-- The text of a bit-level circuit is read back as the same circuit.
use Rattle.std.proofs.Common.{◌≡◌, ℕ, zero, suc, ◌+◌, ◌*◌, ◌/◌, ◌<◌, ◌≤◌, ◌^◌, Bool, true, false, cond, eqb, List, [], ◌∷◌, ◌++◌, length, map, refl, sym, ap, ap₂, subst, ◌∙◌, arith, append-nil, None, Some, Ok}
use Rattle.std.specs.Prelude.{◌≢◌, codes, decimal, sum}
use Rattle.std.specs.Char.{digit_value}
use Rattle.std.specs.List.{All, AllByRecursion, flat_map}
use Rattle.std.proofs.lemmas.Bool.{le-leb, or_from}
use Rattle.std.proofs.lemmas.Fmt.{decimal_is_IsNumeral}
use Rattle.std.proofs.lemmas.List.{length-append, length-map}
use Rattle.std.proofs.lemmas.List.Elements.{All-from_recursion, recursion_from_All}
use Rattle.std.proofs.lemmas.List.Sums.{sum_by-cons}
use Rattle.kw_base.specs.Place.{capped}
use Rattle.aig_blast.specs.Aigs.{AigParts, input_word_widths, IsAig, IsInputWord, IsLatchWord, IsOutputBit, IsWordName, latch_widths, sources, variables}
use Rattle.aig_blast.specs.Graphs.{AllStand, Below, Stands}
use Rattle.aig_blast.specs.Steps.{digits}
use Rattle.aig_blast.specs.declared.aig.InputWord.{InputWord}
use Rattle.aig_blast.specs.declared.aig.LatchWord.{LatchWord}
use Rattle.aig_blast.specs.declared.aig.OutputBit.{OutputBit}
use Rattle.aig_blast.specs.declared.gate.Gate.{Gate}
use Rattle.aig_blast.proofs.Digits.{length-digits}
use Rattle.kw_base.specs.Texts.{StopsAt, is_blank}
use Rattle.aiger_text.specs.Cuts.{lines_of, words_of}
use Rattle.aiger_text.specs.Drafts.{Draft, draft_by, draft_from, draft_in, draft_of, ended, no_lines, section_of}
use Rattle.aiger_text.specs.Headers.{header_by, header_of}
use Rattle.aiger_text.specs.Printing.{bit_name, spaced, text_of}
use Rattle.aiger_text.specs.Reading.{aig_of, all_placed, gates_of, gates_placed, lits_of, nexts_of, parts_by}
use Rattle.aiger_text.specs.Runs.{latch_words, output_bits}
use Rattle.aiger_text.specs.declared.header.Header.{Header}
use Rattle.aiger_text.specs.declared.header.Section.TheVariants as sections
use Rattle.aiger_text.proofs.LineEnds.{all_joined, IsLine}
use Rattle.aiger_text.proofs.Lines.{aig_by-all, aig_of-draft}
use Rattle.aiger_text.proofs.Naming.{digits_other, ends_other}
use Rattle.aiger_text.proofs.PrintedLines.{AllSmall, IsLine-numbers, lines_of-text, numbers_of-decimals, spaced-stops, spaced_other, word-first, words_of-spaced}
use Rattle.aiger_text.proofs.PrintedText.{AllNexts, header_row, length-names_from, name_rows, number_rows, rows, text_of-rows}
use Rattle.aiger_text.proofs.Ranges.{length-range, range}
use Rattle.aiger_text.proofs.Rebuilding.{all_placed-own, as_inputs, gates_placed-own, latch_words-own, names_from, names_of, nexts_in, output_bits-own, output_lits, output_names, resets_in, StandFrom, words_of_bits-names}
use Rattle.aiger_text.proofs.Running.{eq-false}
use Rattle.aiger_text.proofs.Sections.{gate_rows, gates_lead, input_rows, inputs_lead, latch_rows, latches_lead, nones, output_rows, outputs_lead, Roomy}
use Rattle.aiger_text.proofs.Stepping.{at-symbol, Leads, leads-append}
use Rattle.aiger_text.proofs.Symbols.{IsLine-symbol, IsReadName, length-nones, symbol_rows, symbols_lead}

-- ---- the parts of a circuit

name_begins : (name : List ℕ) → IsWordName name → StopsAt is_blank name
name_begins [] is = tt
name_begins (b ∷ name) is = or_from (eqb b 32) (eqb b 9) (eq-false b 32 (is.begins b name refl).0) (eq-false b 9 (is.begins b name refl).1)

read_name : (name : List ℕ) → IsWordName name → IsReadName name
read_name name is = record { some = is.some; begins = name_begins name is }

-- the names of bits
filled_front : (name rest : List ℕ) → name ≢ [] → name ++ rest ≢ []
filled_front [] rest some same = some refl
filled_front (b ∷ name) rest some same = absurd (cc)

begins_front : (name rest : List ℕ) → name ≢ [] → StopsAt is_blank name → StopsAt is_blank (name ++ rest)
begins_front [] rest some stops = absurd (some refl)
begins_front (b ∷ name) rest some stops = stops

bit_name-read : (name : List ℕ) (k : ℕ) → IsWordName name → IsReadName (bit_name name k)
bit_name-read name k is = record {
  some = filled_front (name ++ 91 ∷ decimal k) (93 ∷ []) (filled_front name (91 ∷ decimal k) is.some);
  begins = begins_front (name ++ 91 ∷ decimal k) (93 ∷ []) (filled_front name (91 ∷ decimal k) is.some) (begins_front name (91 ∷ decimal k) is.some (name_begins name is));
}

names_from-all : (P : List ℕ → Type 0) (name : List ℕ) (j m : ℕ) → ((k : ℕ) → k < j + m → P (bit_name name k)) → AllByRecursion P (names_from name j m)
names_from-all P name j zero each = tt
names_from-all P name j (suc m) each = (each j (omega arith), names_from-all P name (suc j) m (λ k low. each k (omega (arith, low))))

names_of-all : (P : List ℕ → Type 0) (words : List InputWord) → ((name : List ℕ) (k : ℕ) → k < 128 → IsWordName name → P (bit_name name k)) → AllByRecursion IsInputWord words → AllByRecursion P (names_of words)
names_of-all P [] each are = tt
names_of-all P (word ∷ words) each are =
    all_joined P (names_from word.name 0 word.width) (names_of words) (names_from-all P word.name 0 word.width (λ k low. each word.name k (omega (arith, low, are.0.most)) are.0.name)) (names_of-all P words each are.1)

length-names_of : (words : List InputWord) → length (names_of words) ≡ sum (input_word_widths words)
length-names_of [] = refl
length-names_of (word ∷ words) =
    omega (arith, length-append (names_from word.name 0 word.width) (names_of words), length-names_from word.name 0 word.width, length-names_of words, sum_by-cons (λ (n : ℕ). n) word.width (input_word_widths words))

-- words of latches as words of inputs
as_inputs-words : (count : ℕ) (words : List LatchWord) → AllByRecursion (IsLatchWord count) words → AllByRecursion IsInputWord (as_inputs words)
as_inputs-words count [] are = tt
as_inputs-words count (word ∷ words) are = (record { name = are.0.name; some = are.0.first.some_bit; most = are.0.first.no_wider }, as_inputs-words count words are.1)

as_inputs-widths : (words : List LatchWord) → input_word_widths (as_inputs words) ≡ latch_widths words
as_inputs-widths [] = refl
as_inputs-widths (word ∷ words) = ap (λ (ns : List ℕ). word.first.width ∷ ns) (as_inputs-widths words)

all_nexts : (count : ℕ) (words : List LatchWord) → AllByRecursion (IsLatchWord count) words → AllNexts words
all_nexts count [] are = tt
all_nexts count (word ∷ words) are = (are.0.count, all_nexts count words are.1)

nexts-below : (count : ℕ) (words : List LatchWord) → AllByRecursion (IsLatchWord count) words → AllByRecursion (Below count) (nexts_in words)
nexts-below count [] are = tt
nexts-below count (word ∷ words) are = all_joined (Below count) word.nexts (nexts_in words) (recursion_from_All (Below count) word.nexts are.0.nexts) (nexts-below count words are.1)

length-nexts : (count : ℕ) (words : List LatchWord) → AllByRecursion (IsLatchWord count) words → length (nexts_in words) ≡ sum (latch_widths words)
length-nexts count [] are = refl
length-nexts count (word ∷ words) are = omega (arith, length-append word.nexts (nexts_in words), are.0.count, length-nexts count words are.1, sum_by-cons (λ (n : ℕ). n) word.first.width (latch_widths words))

length-resets : (words : List LatchWord) → length (resets_in words) ≡ sum (latch_widths words)
length-resets [] = refl
length-resets (word ∷ words) =
    omega (arith, length-append (digits word.first.number word.first.width) (resets_in words), length-digits word.first.number word.first.width, length-resets words, sum_by-cons (λ (n : ℕ). n) word.first.width (latch_widths words))

halves : (count : ℕ) (lits : List ℕ) → AllByRecursion (Below count) lits → AllByRecursion (λ (lit : ℕ). lit / 2 ≤ count) lits
halves count [] below = tt
halves count (lit ∷ lits) below = (omega (arith, below.0), halves count lits below.1)

outputs-below : (count : ℕ) (outputs : List OutputBit) → AllByRecursion (IsOutputBit count) outputs → AllByRecursion (Below count) (output_lits outputs)
outputs-below count [] are = tt
outputs-below count (output ∷ outputs) are = (are.0.lit, outputs-below count outputs are.1)

outputs-names : (count : ℕ) (outputs : List OutputBit) → AllByRecursion (IsOutputBit count) outputs → AllByRecursion IsReadName (output_names outputs)
outputs-names count [] are = tt
outputs-names count (output ∷ outputs) are = (read_name output.name are.0.name.word, outputs-names count outputs are.1)

length-output_lits : (outputs : List OutputBit) → length (output_lits outputs) ≡ length outputs
length-output_lits [] = refl
length-output_lits (output ∷ outputs) = ap suc (length-output_lits outputs)

length-output_names : (outputs : List OutputBit) → length (output_names outputs) ≡ length outputs
length-output_names [] = refl
length-output_names (output ∷ outputs) = ap suc (length-output_names outputs)

stand_from : (k : ℕ) (gates : List Gate) → AllStand k gates → StandFrom k gates
stand_from k [] stand = tt
stand_from k (gate ∷ gates) stand =
    let first = stand 0 gate refl in
    let here : k + 0 ≡ k = omega arith in (
      omega (arith, first.left, here),
      omega (arith, first.right, here),
      stand_from (suc k) gates (λ j other at. let place : k + suc j ≡ suc k + j = omega arith in subst (λ n. Stands n other) place (stand (suc j) other at)),
    )

gates-below : (most k : ℕ) (gates : List Gate) → k + length gates ≤ most → StandFrom k gates → AllByRecursion (λ (gate : Gate). (gate.left / 2 ≤ most) × (gate.right / 2 ≤ most)) gates
gates-below most k [] fits stand = tt
gates-below most k (gate ∷ gates) fits stand = ((omega (arith, stand.0, fits), omega (arith, stand.1, fits)), gates-below most (suc k) gates (omega (arith, fits)) stand.2)

-- ---- the lines are lines

input_rows-lines : (k m : ℕ) → k + m ≤ 2 ^ 60 → AllByRecursion IsLine (input_rows k m)
input_rows-lines k zero few = tt
input_rows-lines k (suc m) few = (IsLine-numbers (2 * suc k) [] (omega (arith, few)) tt, input_rows-lines (suc k) m (omega (arith, few)))

latch_rows-lines : (k : ℕ) (nexts : List ℕ) (resets : List Bool) → k + length nexts ≤ 2 ^ 60 → AllSmall nexts → AllByRecursion IsLine (latch_rows k nexts resets)
latch_rows-lines k [] resets few small = tt
latch_rows-lines k (next ∷ nexts) [] few small = tt
latch_rows-lines k (next ∷ nexts) (true ∷ resets) few small =
    (IsLine-numbers (2 * suc k) (next ∷ 1 ∷ []) (omega (arith, few)) (small.0, (omega arith, tt)), latch_rows-lines (suc k) nexts resets (omega (arith, few)) small.1)
latch_rows-lines k (next ∷ nexts) (false ∷ resets) few small = (IsLine-numbers (2 * suc k) (next ∷ []) (omega (arith, few)) (small.0, tt), latch_rows-lines (suc k) nexts resets (omega (arith, few)) small.1)

output_rows-lines : (lits : List ℕ) → AllSmall lits → AllByRecursion IsLine (output_rows lits)
output_rows-lines [] small = tt
output_rows-lines (lit ∷ lits) small = (IsLine-numbers lit [] small.0 tt, output_rows-lines lits small.1)

gate_rows-lines : (most k : ℕ) (gates : List Gate) → most ≤ 2 ^ 60 → k + length gates ≤ most → AllByRecursion (λ (gate : Gate). (gate.left / 2 ≤ most) × (gate.right / 2 ≤ most)) gates → AllByRecursion IsLine (gate_rows k gates)
gate_rows-lines most k [] few fits below = tt
gate_rows-lines most k (gate ∷ gates) few fits below = (
  IsLine-numbers (2 * suc k) (gate.left ∷ gate.right ∷ []) (omega (arith, few, fits)) (omega (arith, few, below.0.0), (omega (arith, few, below.0.1), tt)),
  gate_rows-lines most (suc k) gates few (omega (arith, fits)) below.1,
)

small_from : (most : ℕ) (lits : List ℕ) → most ≤ 2 ^ 60 → AllByRecursion (λ (lit : ℕ). lit / 2 ≤ most) lits → AllSmall lits
small_from most [] few below = tt
small_from most (lit ∷ lits) few below = (omega (arith, few, below.0), small_from most lits few below.1)

-- names that end a line
pub record EndsLine (name : List ℕ) : Type 0 where
  pub one_line : All (λ (byte : ℕ). byte ≢ 10) name
  pub some : name ≢ []
  pub ends : (rest : List ℕ) → name ≢ rest ++ 13 ∷ []

symbol_rows-lines : (kind index : ℕ) (names : List (List ℕ)) → kind ≢ 10 → index + length names ≤ 2 ^ 63 → AllByRecursion EndsLine names → AllByRecursion IsLine (symbol_rows kind index names)
symbol_rows-lines kind index [] feed few are = tt
symbol_rows-lines kind index (name ∷ names) feed few are =
    (IsLine-symbol kind index name feed (omega (arith, few)) are.0.one_line are.0.some are.0.ends, symbol_rows-lines kind (suc index) names feed (omega (arith, few)) are.1)

one_same : (a b : ℕ) → a ∷ [] ≡ b ∷ [] → a ≡ b
one_same a b same = cc

last_bracket : (front rest : List ℕ) → front ++ 93 ∷ [] ≢ rest ++ 13 ∷ []
last_bracket [] [] same = absurd (omega (arith, one_same 93 13 same))
last_bracket [] (r ∷ rest) same = let none : [] ≡ rest ++ 13 ∷ [] = cc in absurd (omega (arith, ap length none, length-append rest (13 ∷ [])))
last_bracket (f ∷ front) [] same = let none : front ++ 93 ∷ [] ≡ [] = cc in absurd (omega (arith, ap length none, length-append front (93 ∷ [])))
last_bracket (f ∷ front) (r ∷ rest) same = let next : front ++ 93 ∷ [] ≡ rest ++ 13 ∷ [] = cc in last_bracket front rest next

bit_name-ends : (name : List ℕ) (k : ℕ) → k < 128 → IsWordName name → EndsLine (bit_name name k)
bit_name-ends name k low is =
    let other : AllByRecursion (λ (byte : ℕ). byte ≢ 10) (bit_name name k) =
    all_joined (λ (byte : ℕ). byte ≢ 10) (name ++ 91 ∷ decimal k) (93 ∷ [])
    (all_joined (λ (byte : ℕ). byte ≢ 10) name (91 ∷ decimal k) (recursion_from_All (λ (byte : ℕ). byte ≢ 10) name is.one_line)
    ((λ same. absurd (omega (arith, same))), digits_other (decimal k) 10 refl (decimal_is_IsNumeral k (omega (arith, low))).0.1)) ((λ same. absurd (omega (arith, same))), tt) in
    record { one_line = All-from_recursion (λ (byte : ℕ). byte ≢ 10) (bit_name name k) other; some = (bit_name-read name k is).some; ends = last_bracket (name ++ 91 ∷ decimal k) }

outputs-ends : (count : ℕ) (outputs : List OutputBit) → AllByRecursion (IsOutputBit count) outputs → AllByRecursion EndsLine (output_names outputs)
outputs-ends count [] are = tt
outputs-ends count (output ∷ outputs) are = (record { one_line = are.0.name.word.one_line; some = are.0.name.word.some; ends = are.0.name.ends }, outputs-ends count outputs are.1)

-- ---- the header

abbrev header_numbers : AigParts → List ℕ
header_numbers a = variables a ∷ sum (input_word_widths a.inputs) ∷ sum (latch_widths a.latches) ∷ length a.outputs ∷ length a.gates ∷ []

abbrev header_by_parts : AigParts → Header
header_by_parts a = record { most = variables a; inputs = sum (input_word_widths a.inputs); latches = sum (latch_widths a.latches); outputs = length a.outputs; gates = length a.gates }

header_small : (a : AigParts) → variables a ≤ 2 ^ 60 → length a.outputs < 2 ^ 63 → AllSmall (header_numbers a)
header_small a few outputs = (omega (arith, few), (omega (arith, few), (omega (arith, few), (outputs, (omega (arith, few), tt)))))

header_words : (a : AigParts) → AllSmall (header_numbers a) → words_of (header_row a) ≡ codes "aag" ∷ map decimal (header_numbers a)
header_words a small =
    word-first (codes "aag") (flat_map spaced (header_numbers a)) (omega arith) (refl, (refl, (refl, tt))) (spaced-stops (header_numbers a)) ∙ ap (λ ws. codes "aag" ∷ ws) (words_of-spaced (header_numbers a) small)

header_read : (a : AigParts) → AllSmall (header_numbers a) → header_of (words_of (header_row a)) ≡ Some (header_by_parts a)
header_read a small =
    ap header_of (header_words a small) ∙ ap header_by (numbers_of-decimals (header_numbers a) small)
    ∙ ap (λ t. cond t (Some (header_by_parts a)) None) (le-leb (sum (input_word_widths a.inputs) + sum (latch_widths a.latches) + length a.gates) (variables a) (omega arith))

header_other : (a : AigParts) (b : ℕ) → digit_value b ≡ 36 → 32 ≢ b → AllSmall (header_numbers a) → 97 ≢ b → 103 ≢ b → AllByRecursion (λ (byte : ℕ). byte ≢ b) (header_row a)
header_other a b is space small first last = (first, (first, (last, spaced_other (header_numbers a) b is space small)))

header_line : (a : AigParts) → AllSmall (header_numbers a) → IsLine (header_row a)
header_line a small = record {
  one_line = header_other a 10 refl (λ same. absurd (omega (arith, same))) small (λ same. absurd (omega (arith, same))) (λ same. absurd (omega (arith, same)));
  ends = λ rest. ends_other (header_row a) rest 13 (header_other a 13 refl (λ same. absurd (omega (arith, same))) small (λ same. absurd (omega (arith, same))) (λ same. absurd (omega (arith, same))));
}

-- ---- all lines are read

abbrev numbered : AigParts → Draft
numbered a = record {
  variables = range 0 (variables a);
  inputs = nones (sum (input_word_widths a.inputs));
  latches = nones (sum (latch_widths a.latches));
  outputs = nones (length a.outputs);
  nexts = nexts_in a.latches;
  resets = resets_in a.latches;
  lits = output_lits a.outputs;
  gates = a.gates;
}

abbrev said : AigParts → Draft
said a = record {
  variables = range 0 (variables a);
  inputs = map Some (names_of a.inputs);
  latches = map Some (names_of (as_inputs a.latches));
  outputs = map Some (output_names a.outputs);
  nexts = nexts_in a.latches;
  resets = resets_in a.latches;
  lits = output_lits a.outputs;
  gates = a.gates;
}

-- what is known of a circuit, by recursion on its lists
record Parts (a : AigParts) : Type 0 where
  inputs : AllByRecursion IsInputWord a.inputs
  latches : AllByRecursion (IsLatchWord (variables a)) a.latches
  outputs : AllByRecursion (IsOutputBit (variables a)) a.outputs
  gates : StandFrom (sources a) a.gates
  few : variables a ≤ 2 ^ 60
  written : length a.outputs < 2 ^ 63

parts_of_circuit : (a : AigParts) → IsAig a → length a.outputs < 2 ^ 63 → Parts a
parts_of_circuit a is written = record {
  inputs = recursion_from_All IsInputWord a.inputs is.inputs;
  latches = recursion_from_All (IsLatchWord (variables a)) a.latches is.latches;
  outputs = recursion_from_All (IsOutputBit (variables a)) a.outputs is.outputs;
  gates = stand_from (sources a) a.gates is.gates;
  few = is.few;
  written = written;
}

module _ (a : AigParts) (p : Parts a) where
  abbrev i : ℕ
  i = sum (input_word_widths a.inputs)

  abbrev l : ℕ
  l = sum (latch_widths a.latches)

  abbrev h : Header
  h = header_by_parts a

  small : AllSmall (header_numbers a)
  small = header_small a p.few p.written

  next_halves : AllByRecursion (λ (lit : ℕ). lit / 2 ≤ variables a) (nexts_in a.latches)
  next_halves = halves (variables a) (nexts_in a.latches) (nexts-below (variables a) a.latches p.latches)

  output_halves : AllByRecursion (λ (lit : ℕ). lit / 2 ≤ variables a) (output_lits a.outputs)
  output_halves = halves (variables a) (output_lits a.outputs) (outputs-below (variables a) a.outputs p.outputs)

  gate_halves : AllByRecursion (λ (gate : Gate). (gate.left / 2 ≤ variables a) × (gate.right / 2 ≤ variables a)) a.gates
  gate_halves = gates-below (variables a) (sources a) a.gates (omega arith) p.gates

  next_count : length (nexts_in a.latches) ≡ l
  next_count = length-nexts (variables a) a.latches p.latches

  latch_inputs : AllByRecursion IsInputWord (as_inputs a.latches)
  latch_inputs = as_inputs-words (variables a) a.latches p.latches

  name_count : length (names_of a.inputs) ≡ i
  name_count = length-names_of a.inputs

  latch_count : length (names_of (as_inputs a.latches)) ≡ l
  latch_count = length-names_of (as_inputs a.latches) ∙ ap sum (as_inputs-widths a.latches)

  all_lines : AllByRecursion IsLine (rows a)
  all_lines = (
    header_line a small,
    all_joined IsLine (number_rows a) (name_rows a)
        (all_joined IsLine (input_rows 0 i) _ (input_rows-lines 0 i (omega (arith, p.few)))
        (all_joined IsLine (latch_rows i (nexts_in a.latches) (resets_in a.latches)) _
        (latch_rows-lines i (nexts_in a.latches) (resets_in a.latches) (omega (arith, p.few, next_count)) (small_from (variables a) (nexts_in a.latches) p.few next_halves))
        (all_joined IsLine (output_rows (output_lits a.outputs)) _ (output_rows-lines (output_lits a.outputs) (small_from (variables a) (output_lits a.outputs) p.few output_halves))
        (gate_rows-lines (variables a) (sources a) a.gates p.few (omega arith) gate_halves))))
        (all_joined IsLine (symbol_rows 105 0 (names_of a.inputs)) _ (symbol_rows-lines 105 0 (names_of a.inputs) (λ same. absurd (omega (arith, same))) (omega (arith, p.few, name_count)) (names_of-all EndsLine a.inputs bit_name-ends p.inputs))
        (all_joined IsLine (symbol_rows 108 0 (names_of (as_inputs a.latches))) _
        (symbol_rows-lines 108 0 (names_of (as_inputs a.latches)) (λ same. absurd (omega (arith, same))) (omega (arith, p.few, latch_count)) (names_of-all EndsLine (as_inputs a.latches) bit_name-ends latch_inputs))
        (symbol_rows-lines 111 0 (output_names a.outputs) (λ same. absurd (omega (arith, same))) (omega (arith, p.written, length-output_names a.outputs)) (outputs-ends (variables a) a.outputs p.outputs)))),
  )

  room : Roomy h
  room = record { most = p.few }

  abbrev with_inputs : Draft
  with_inputs = record no_lines { variables = range 0 i; inputs = nones i }

  abbrev with_latches : Draft
  with_latches = record with_inputs { variables = range 0 (i + l); latches = nones l; nexts = nexts_in a.latches; resets = resets_in a.latches }

  abbrev with_outputs : Draft
  with_outputs = record with_latches { outputs = nones (length a.outputs); lits = output_lits a.outputs }

  numbers_lead : Leads h no_lines (number_rows a) (numbered a)
  numbers_lead =
      leads-append h no_lines with_inputs (numbered a) (input_rows 0 i) _ (inputs_lead h room i 0 no_lines with_inputs refl (omega arith) (omega arith) (ap (λ n. record no_lines { variables = range 0 n; inputs = nones i }) (omega arith)))
      (leads-append h with_inputs with_latches (numbered a) (latch_rows i (nexts_in a.latches) (resets_in a.latches)) _
      (latches_lead h room (nexts_in a.latches) (resets_in a.latches) i with_inputs with_latches (length-resets a.latches ∙ sym next_count) refl (omega (arith, length-nones i)) (omega (arith, next_count)) (omega (arith, next_count)) next_halves
      (ap (λ n. record with_inputs { variables = range 0 (i + n); latches = nones n; nexts = nexts_in a.latches; resets = resets_in a.latches }) (sym next_count)))
      (leads-append h with_latches with_outputs (numbered a) (output_rows (output_lits a.outputs)) _
      (outputs_lead h room (output_lits a.outputs) with_latches with_outputs (omega (arith, length-nones i)) (omega (arith, length-nones l)) (omega (arith, length-output_lits a.outputs)) output_halves
      (ap (λ n. record with_latches { outputs = nones n; lits = output_lits a.outputs }) (sym (length-output_lits a.outputs))))
      (gates_lead h room a.gates (i + l) with_outputs (numbered a) refl (omega (arith, length-nones i)) (omega (arith, length-nones l)) (omega (arith, length-nones (length a.outputs))) (omega arith) (omega arith) gate_halves refl)))

  abbrev named_inputs : Draft
  named_inputs = record (numbered a) { inputs = map Some (names_of a.inputs) }

  abbrev named_latches : Draft
  named_latches = record named_inputs { latches = map Some (names_of (as_inputs a.latches)) }

  comes_at : (d : Draft) → length d.inputs ≡ i → length d.latches ≡ l → length d.outputs ≡ length a.outputs → d.gates ≡ a.gates → section_of h d ≡ sections.Symbol
  comes_at d x y z w = at-symbol h d (omega (arith, x)) (omega (arith, y)) (omega (arith, z)) (omega (arith, ap (λ (gs : List Gate). length gs) w))

  names_lead : Leads h (numbered a) (name_rows a) (said a)
  names_lead =
      leads-append h (numbered a) named_inputs (said a) (symbol_rows 105 0 (names_of a.inputs)) _
      (subst (λ (n : ℕ). Leads h (record (numbered a) { inputs = nones n }) (symbol_rows 105 0 (names_of a.inputs)) named_inputs) name_count
      (symbols_lead h 105 (λ symbols. record (numbered a) { inputs = symbols }) refl refl (λ symbols k name. refl) i (λ symbols long. comes_at (record (numbered a) { inputs = symbols }) long (length-nones l) (length-nones (length a.outputs)) refl)
      (omega (arith, p.few)) (names_of a.inputs) [] named_inputs (omega (arith, name_count)) (names_of-all IsReadName a.inputs (λ name k low is. bit_name-read name k is) p.inputs) refl))
      (leads-append h named_inputs named_latches (said a) (symbol_rows 108 0 (names_of (as_inputs a.latches))) _
      (subst (λ (n : ℕ). Leads h (record named_inputs { latches = nones n }) (symbol_rows 108 0 (names_of (as_inputs a.latches))) named_latches) latch_count
      (symbols_lead h 108 (λ symbols. record named_inputs { latches = symbols }) refl refl (λ symbols k name. refl) l
      (λ symbols long. comes_at (record named_inputs { latches = symbols }) (length-map (names_of a.inputs) Some ∙ name_count) long (length-nones (length a.outputs)) refl) (omega (arith, p.few)) (names_of (as_inputs a.latches)) [] named_latches
      (omega (arith, latch_count)) (names_of-all IsReadName (as_inputs a.latches) (λ name k low is. bit_name-read name k is) latch_inputs) refl))
      (subst (λ (n : ℕ). Leads h (record named_latches { outputs = nones n }) (symbol_rows 111 0 (output_names a.outputs)) (said a)) (length-output_names a.outputs)
      (symbols_lead h 111 (λ symbols. record named_latches { outputs = symbols }) refl refl (λ symbols k name. refl) (length a.outputs)
      (λ symbols long. comes_at (record named_latches { outputs = symbols }) (length-map (names_of a.inputs) Some ∙ name_count) (length-map (names_of (as_inputs a.latches)) Some ∙ latch_count) long refl) (omega (arith, p.written))
      (output_names a.outputs) [] (said a) (omega (arith, length-output_names a.outputs)) (outputs-names (variables a) a.outputs p.outputs) refl)))

  draft_read : draft_of (text_of a) ≡ Ok (said a)
  unfolding draft_of
  draft_read =
      let all = leads-append h no_lines (numbered a) (said a) (number_rows a) (name_rows a) numbers_lead names_lead 2 [] in
      ap (λ text. draft_in (lines_of text)) (text_of-rows a (all_nexts (variables a) a.latches p.latches)) ∙ ap draft_in (lines_of-text (rows a) all_lines)
      ∙ ap (λ found. draft_by found (number_rows a ++ name_rows a)) (header_read a small)
      ∙ ap (draft_from h no_lines 2) (sym (append-nil (number_rows a ++ name_rows a))) ∙ all.1
      ∙ ap (λ s. ended s (said a) all.0)
      (comes_at (said a) (length-map (names_of a.inputs) Some ∙ name_count) (length-map (names_of (as_inputs a.latches)) Some ∙ latch_count) (length-map (output_names a.outputs) Some ∙ length-output_names a.outputs) refl)

  nexts_read : nexts_of (said a) ≡ Ok (nexts_in a.latches)
  nexts_read =
      ap (λ n. all_placed (range 0 (variables a)) (1 + n) (capped (2 + length (said a).inputs)) (nexts_in a.latches)) (length-range 0 (variables a))
      ∙ all_placed-own (variables a) (capped (2 + length (said a).inputs)) (nexts_in a.latches) (nexts-below (variables a) a.latches p.latches)

  lits_read : lits_of (said a) ≡ Ok (output_lits a.outputs)
  lits_read =
      let number : ℕ = capped (2 + (length (said a).inputs + length (said a).nexts)) in
      ap (λ n. all_placed (range 0 (variables a)) (1 + n) number (output_lits a.outputs)) (length-range 0 (variables a))
      ∙ all_placed-own (variables a) number (output_lits a.outputs) (outputs-below (variables a) a.outputs p.outputs)

  gates_read : gates_of (said a) ≡ Ok a.gates
  gates_read =
      let before : length (said a).inputs + length (said a).nexts ≡ sources a = omega (arith, length-map (names_of a.inputs) Some, name_count, next_count) in
      let number : ℕ = capped (2 + (length (said a).inputs + length (said a).nexts) + length (said a).lits) in
      ap (λ n. gates_placed (range 0 (variables a)) (1 + n) number a.gates) before ∙ gates_placed-own (variables a) (sources a) number a.gates (omega arith) p.gates

  circuit_read : parts_by (said a) (nexts_in a.latches) (output_lits a.outputs) a.gates ≡ a
  circuit_read =
      ap₂ (λ (ins : List InputWord) (names : List InputWord). record { inputs = ins; latches = latch_words names (nexts_in a.latches) (resets_in a.latches); outputs = output_bits 0 (map Some (output_names a.outputs)) (output_lits a.outputs); gates = a.gates })
      (words_of_bits-names 105 a.inputs p.inputs) (words_of_bits-names 108 (as_inputs a.latches) latch_inputs)
      ∙ ap₂ (λ (ls : List LatchWord) (os : List OutputBit). record { inputs = a.inputs; latches = ls; outputs = os; gates = a.gates }) (latch_words-own (variables a) a.latches p.latches) (output_bits-own 0 a.outputs)

  whole : aig_of (text_of a) ≡ Ok a
  whole =
      aig_of-draft (text_of a) (said a) draft_read ∙ aig_by-all (said a) (nexts_in a.latches) (output_lits a.outputs) a.gates nexts_read lits_read gates_read ∙ ap Ok circuit_read

-- the text of a circuit is accepted, and read back as the same circuit
pub read_back : (a : AigParts) → IsAig a → length a.outputs < 2 ^ 63 → aig_of (text_of a) ≡ Ok a
read_back a is written = whole a (parts_of_circuit a is written)
