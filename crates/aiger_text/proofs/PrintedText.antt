-- The text of a bit-level circuit as lines.
use Rattle.std.proofs.Common.{◌≡◌, ℕ, zero, suc, ◌+◌, ◌*◌, ◌/◌, ◌%◌, ◌≤◌, ◌^◌, Bool, List, [], ◌∷◌, ◌++◌, length, take, get_or, refl, sym, ap, ap₂, ◌∙◌, arith, append_assoc, append-nil}
use Rattle.std.specs.Prelude.{codes, nat_eq, sum}
use Rattle.std.specs.List.{flat_map}
use Rattle.std.proofs.lemmas.List.{take_more, take_all, length-take-le}
use Rattle.std.proofs.lemmas.List.Sums.{sum_by-cons}
use Rattle.aig_blast.specs.Aigs.{AigParts, input_word_widths, latch_widths, sources, variables}
use Rattle.aig_blast.specs.Steps.{digits}
use Rattle.aig_blast.specs.declared.aig.InputWord.{InputWord}
use Rattle.aig_blast.specs.declared.aig.LatchWord.{LatchWord}
use Rattle.aig_blast.specs.declared.aig.OutputBit.{OutputBit}
use Rattle.aig_blast.specs.declared.gate.Gate.{Gate}
use Rattle.aig_blast.proofs.Digits.{length-digits}
use Rattle.aiger_text.specs.Printing.{bit_name, gate_text, input_lines, input_symbols, input_word_text, laid, latch_line, latch_symbols, latch_width_of, latch_word_text, numbers_text, one_of, output_symbol, output_text, reset_text, rest_text, spaced, symbol_text, text_of, texts_below, input_line_count, word_symbols}
use Rattle.aiger_text.proofs.PrintedLines.{closed, numbers_text-closed, numbers_line, text_by, text_by-append}
use Rattle.aiger_text.proofs.Rebuilding.{as_inputs, names_from, names_of, nexts_in, output_lits, output_names, resets_in}
use Rattle.aiger_text.proofs.Sections.{gate_rows, input_rows, latch_rows, output_rows}
use Rattle.aiger_text.proofs.Symbols.{symbol_row, symbol_rows, symbol_rows-append}

text_by-push : (lines : List (List ℕ)) (line : List ℕ) → text_by (lines ++ line ∷ []) ≡ text_by lines ++ closed line
text_by-push lines line = text_by-append lines (line ∷ []) ∙ ap (λ t. text_by lines ++ t) (append-nil (closed line))

-- ---- inputs

input_rows-push : (k m : ℕ) → input_rows k m ++ numbers_line (2 * suc (k + m)) [] ∷ [] ≡ input_rows k (suc m)
input_rows-push k zero = let same : k + 0 ≡ k = omega arith in ap (λ n. numbers_line (2 * suc n) [] ∷ []) same
input_rows-push k (suc m) =
    let same : k + suc m ≡ suc k + m = omega arith in
    ap (λ n. input_rows k (suc m) ++ numbers_line (2 * suc n) [] ∷ []) same ∙ ap (λ rows. numbers_line (2 * suc k) [] ∷ rows) (input_rows-push (suc k) m)

input_rows-append : (k m n : ℕ) → input_rows k m ++ input_rows (k + m) n ≡ input_rows k (m + n)
input_rows-append k zero n = let same : k + 0 ≡ k = omega arith in let none : n ≡ 0 + n = omega arith in ap (λ i. input_rows i n) same ∙ ap (input_rows k) none
input_rows-append k (suc m) n =
    let same : k + suc m ≡ suc k + m = omega arith in
    let more : suc (m + n) ≡ suc m + n = omega arith in
    ap (λ i. numbers_line (2 * suc k) [] ∷ input_rows (suc k) m ++ input_rows i n) same ∙ ap (λ rows. numbers_line (2 * suc k) [] ∷ rows) (input_rows-append (suc k) m n) ∙ ap (input_rows k) more

input_lines-rows : (k m : ℕ) → input_lines (1 + k) m ≡ text_by (input_rows k m)
input_lines-rows k zero = refl
input_lines-rows k (suc m) =
    let same : 1 + k + m ≡ suc (k + m) = omega arith in
    ap₂ (λ (front : List ℕ) (n : ℕ). front ++ numbers_text (2 * n) []) (input_lines-rows k m) same ∙ ap (λ t. text_by (input_rows k m) ++ t) (numbers_text-closed (2 * suc (k + m)) [])
    ∙ sym (text_by-push (input_rows k m) (numbers_line (2 * suc (k + m)) [])) ∙ ap text_by (input_rows-push k m)

inputs-rows : (k : ℕ) (words : List InputWord) → laid input_line_count input_word_text (1 + k) words ≡ text_by (input_rows k (sum (input_word_widths words)))
inputs-rows k [] = refl
inputs-rows k (word ∷ words) =
    let next : 1 + k + word.width ≡ 1 + (k + word.width) = omega arith in
    let all : word.width + sum (input_word_widths words) ≡ sum (input_word_widths (word ∷ words)) = sym (sum_by-cons (λ (n : ℕ). n) word.width (input_word_widths words)) in
    ap₂ (λ (front : List ℕ) (n : ℕ). front ++ laid input_line_count input_word_text n words) (input_lines-rows k word.width) next ∙ ap (λ t. text_by (input_rows k word.width) ++ t) (inputs-rows (k + word.width) words)
    ∙ sym (text_by-append (input_rows k word.width) (input_rows (k + word.width) (sum (input_word_widths words)))) ∙ ap text_by (input_rows-append k word.width (sum (input_word_widths words))) ∙ ap (λ n. text_by (input_rows k n)) all

-- ---- latches

latch_rows-append : (k : ℕ) (ns ms : List ℕ) (rs qs : List Bool) → length rs ≡ length ns → latch_rows k ns rs ++ latch_rows (k + length ns) ms qs ≡ latch_rows k (ns ++ ms) (rs ++ qs)
latch_rows-append k [] ms [] qs all = let same : k + 0 ≡ k = omega arith in ap (λ i. latch_rows i ms qs) same
latch_rows-append k [] ms (r ∷ rs) qs all = absurd (omega (arith, all))
latch_rows-append k (n ∷ ns) ms [] qs all = absurd (omega (arith, all))
latch_rows-append k (n ∷ ns) ms (r ∷ rs) qs all =
    let same : k + suc (length ns) ≡ suc k + length ns = omega arith in
    ap (λ i. numbers_line (2 * suc k) (n ∷ reset_text r) ∷ latch_rows (suc k) ns rs ++ latch_rows i ms qs) same ∙ ap (λ rows. numbers_line (2 * suc k) (n ∷ reset_text r) ∷ rows) (latch_rows-append (suc k) ns ms rs qs (omega (arith, all)))

latch_lines-rows : (k number : ℕ) (nexts : List ℕ) (m : ℕ) → m ≤ length nexts → texts_below (latch_line (1 + k) number nexts) m ≡ text_by (latch_rows k (take m nexts) (digits number m))
latch_lines-rows k number nexts zero few = refl
latch_lines-rows k number nexts (suc m) few =
    let next : ℕ = get_or nexts m 0 in
    let reset : Bool = nat_eq (number / 2 ^ m % 2) 1 in
    let long : length (take m nexts) ≡ m = length-take-le m nexts (omega (arith, few)) in
    let same : 1 + k + m ≡ suc (k + length (take m nexts)) = omega (arith, long) in
    let up : suc m ≡ m + 1 = omega arith in
    ap₂ (λ (front : List ℕ) (n : ℕ). front ++ numbers_text (2 * n) (next ∷ reset_text reset)) (latch_lines-rows k number nexts m (omega (arith, few))) same
    ∙ ap (λ t. text_by (latch_rows k (take m nexts) (digits number m)) ++ t) (numbers_text-closed (2 * suc (k + length (take m nexts))) (next ∷ reset_text reset))
    ∙ sym (text_by-push (latch_rows k (take m nexts) (digits number m)) (numbers_line (2 * suc (k + length (take m nexts))) (next ∷ reset_text reset)))
    ∙ ap text_by (latch_rows-append k (take m nexts) (next ∷ []) (digits number m) (reset ∷ []) (length-digits number m ∙ sym long))
    ∙ ap (λ ns. text_by (latch_rows k ns (digits number (suc m)))) (sym (take_more nexts m 0 (omega (arith, few))) ∙ ap (λ i. take i nexts) (sym up))

-- each word has a next literal for each of its latches
abbrev pub AllNexts : List LatchWord → Type 0
AllNexts [] = Unit {0}
AllNexts (word ∷ words) = (length word.nexts ≡ word.first.width) × AllNexts words

latches-rows : (k : ℕ) (words : List LatchWord) → AllNexts words → laid latch_width_of latch_word_text (1 + k) words ≡ text_by (latch_rows k (nexts_in words) (resets_in words))
latches-rows k [] all = refl
latches-rows k (word ∷ words) all =
    let w : ℕ = word.first.width in
    let bits : List Bool = digits word.first.number w in
    let next : 1 + k + w ≡ 1 + (k + length word.nexts) = omega (arith, all.0) in
    let whole : take w word.nexts ≡ word.nexts = take_all w word.nexts (omega (arith, all.0)) in
    ap₂ (λ (front : List ℕ) (n : ℕ). front ++ laid latch_width_of latch_word_text n words) (latch_lines-rows k word.first.number word.nexts w (omega (arith, all.0)) ∙ ap (λ ns. text_by (latch_rows k ns bits)) whole) next
    ∙ ap (λ t. text_by (latch_rows k word.nexts bits) ++ t) (latches-rows (k + length word.nexts) words all.1)
    ∙ sym (text_by-append (latch_rows k word.nexts bits) (latch_rows (k + length word.nexts) (nexts_in words) (resets_in words)))
    ∙ ap text_by (latch_rows-append k word.nexts (nexts_in words) bits (resets_in words) (length-digits word.first.number w ∙ sym all.0))

-- ---- outputs and gates

outputs-rows : (outputs : List OutputBit) → flat_map output_text outputs ≡ text_by (output_rows (output_lits outputs))
outputs-rows [] = refl
outputs-rows (output ∷ outputs) = ap₂ (λ (xs ys : List ℕ). xs ++ ys) (numbers_text-closed output.lit []) (outputs-rows outputs)

gates-rows : (k : ℕ) (gates : List Gate) → laid one_of gate_text (1 + k) gates ≡ text_by (gate_rows k gates)
gates-rows k [] = refl
gates-rows k (gate ∷ gates) =
    let here : 1 + k ≡ suc k = omega arith in
    let next : 1 + k + 1 ≡ 1 + suc k = omega arith in
    ap₂ (λ (n m : ℕ). numbers_text (2 * n) (gate.left ∷ gate.right ∷ []) ++ laid one_of gate_text m gates) here next
    ∙ ap₂ (λ (xs ys : List ℕ). xs ++ ys) (numbers_text-closed (2 * suc k) (gate.left ∷ gate.right ∷ [])) (gates-rows (suc k) gates)

-- ---- symbols

symbol_text-closed : (kind index : ℕ) (name : List ℕ) → symbol_text kind index name ≡ closed (symbol_row kind index name)
symbol_text-closed kind index name = refl

names_from-push : (name : List ℕ) (j m : ℕ) → names_from name j m ++ bit_name name (j + m) ∷ [] ≡ names_from name j (suc m)
names_from-push name j zero = let same : j + 0 ≡ j = omega arith in ap (λ n. bit_name name n ∷ []) same
names_from-push name j (suc m) = let same : j + suc m ≡ suc j + m = omega arith in ap (λ n. names_from name j (suc m) ++ bit_name name n ∷ []) same ∙ ap (λ names. bit_name name j ∷ names) (names_from-push name (suc j) m)

pub length-names_from : (name : List ℕ) (j m : ℕ) → length (names_from name j m) ≡ m
length-names_from name j zero = refl
length-names_from name j (suc m) = ap suc (length-names_from name (suc j) m)

word_symbols-rows : (kind index : ℕ) (name : List ℕ) (m : ℕ) → word_symbols kind index name m ≡ text_by (symbol_rows kind index (names_from name 0 m))
word_symbols-rows kind index name zero = refl
word_symbols-rows kind index name (suc m) =
    let long : index + m ≡ index + length (names_from name 0 m) = omega (arith, length-names_from name 0 m) in
    let place : m ≡ 0 + m = omega arith in
    ap₂ (λ (front : List ℕ) (n : ℕ). front ++ symbol_text kind n (bit_name name m)) (word_symbols-rows kind index name m) long
    ∙ ap (λ t. text_by (symbol_rows kind index (names_from name 0 m)) ++ t) (symbol_text-closed kind (index + length (names_from name 0 m)) (bit_name name m))
    ∙ sym (text_by-push (symbol_rows kind index (names_from name 0 m)) (symbol_row kind (index + length (names_from name 0 m)) (bit_name name m)))
    ∙ ap text_by (sym (symbol_rows-append kind index (names_from name 0 m) (bit_name name m ∷ [])))
    ∙ ap (λ names. text_by (symbol_rows kind index names)) (ap (λ n. names_from name 0 m ++ bit_name name n ∷ []) place ∙ names_from-push name 0 m)

one_symbols : (kind index : ℕ) (name : List ℕ) (m : ℕ) (names : List (List ℕ)) (rest : List ℕ) → rest ≡ text_by (symbol_rows kind (index + m) names)
    → word_symbols kind index name m ++ rest ≡ text_by (symbol_rows kind index (names_from name 0 m ++ names))
one_symbols kind index name m names rest is =
    let long : index + m ≡ index + length (names_from name 0 m) = omega (arith, length-names_from name 0 m) in
    ap₂ (λ (xs ys : List ℕ). xs ++ ys) (word_symbols-rows kind index name m) (is ∙ ap (λ n. text_by (symbol_rows kind n names)) long)
    ∙ sym (text_by-append (symbol_rows kind index (names_from name 0 m)) (symbol_rows kind (index + length (names_from name 0 m)) names)) ∙ ap text_by (sym (symbol_rows-append kind index (names_from name 0 m) names))

input_symbols-rows : (index : ℕ) (words : List InputWord) → laid input_line_count input_symbols index words ≡ text_by (symbol_rows 105 index (names_of words))
input_symbols-rows index [] = refl
input_symbols-rows index (word ∷ words) = one_symbols 105 index word.name word.width (names_of words) _ (input_symbols-rows (index + word.width) words)

latch_symbols-rows : (index : ℕ) (words : List LatchWord) → laid latch_width_of latch_symbols index words ≡ text_by (symbol_rows 108 index (names_of (as_inputs words)))
latch_symbols-rows index [] = refl
latch_symbols-rows index (word ∷ words) = one_symbols 108 index word.name word.first.width (names_of (as_inputs words)) _ (latch_symbols-rows (index + word.first.width) words)

output_symbols-rows : (index : ℕ) (outputs : List OutputBit) → laid one_of output_symbol index outputs ≡ text_by (symbol_rows 111 index (output_names outputs))
output_symbols-rows index [] = refl
output_symbols-rows index (output ∷ outputs) =
    let next : index + 1 ≡ suc index = omega arith in
    ap₂ (λ (xs ys : List ℕ). xs ++ ys) (symbol_text-closed 111 index output.name) (ap (λ n. laid one_of output_symbol n outputs) next ∙ output_symbols-rows (suc index) outputs)

-- ---- all lines

abbrev pub header_row : AigParts → List ℕ
header_row a = codes "aag" ++ flat_map spaced (variables a ∷ sum (input_word_widths a.inputs) ∷ sum (latch_widths a.latches) ∷ length a.outputs ∷ length a.gates ∷ [])

abbrev pub number_rows : AigParts → List (List ℕ)
number_rows a =
    input_rows 0 (sum (input_word_widths a.inputs)) ++ (latch_rows (sum (input_word_widths a.inputs)) (nexts_in a.latches) (resets_in a.latches) ++ (output_rows (output_lits a.outputs) ++ gate_rows (sources a) a.gates))

abbrev pub name_rows : AigParts → List (List ℕ)
name_rows a = symbol_rows 105 0 (names_of a.inputs) ++ (symbol_rows 108 0 (names_of (as_inputs a.latches)) ++ symbol_rows 111 0 (output_names a.outputs))

abbrev pub rows : AigParts → List (List ℕ)
rows a = header_row a ∷ number_rows a ++ name_rows a

right_nested : (h i l o g x y z : List ℕ) → ((((((h ++ i) ++ l) ++ o) ++ g) ++ x) ++ y) ++ z ≡ h ++ ((i ++ (l ++ (o ++ g))) ++ (x ++ (y ++ z)))
right_nested h i l o g x y z = simp append_assoc

pub text_of-rows : (a : AigParts) → AllNexts a.latches → text_of a ≡ text_by (rows a)
text_of-rows a all =
    let i : ℕ = sum (input_word_widths a.inputs) in
    let I : List (List ℕ) = input_rows 0 i in
    let L : List (List ℕ) = latch_rows i (nexts_in a.latches) (resets_in a.latches) in
    let O : List (List ℕ) = output_rows (output_lits a.outputs) in
    let G : List (List ℕ) = gate_rows (sources a) a.gates in
    let X : List (List ℕ) = symbol_rows 105 0 (names_of a.inputs) in
    let Y : List (List ℕ) = symbol_rows 108 0 (names_of (as_inputs a.latches)) in
    let Z : List (List ℕ) = symbol_rows 111 0 (output_names a.outputs) in
    let head : codes "aag" ++ rest_text (variables a ∷ i ∷ sum (latch_widths a.latches) ∷ length a.outputs ∷ length a.gates ∷ []) ≡ closed (header_row a) =
    sym (append_assoc (codes "aag") (flat_map spaced (variables a ∷ i ∷ sum (latch_widths a.latches) ∷ length a.outputs ∷ length a.gates ∷ [])) (10 ∷ [])) in
    ap₂ (λ (h t : List ℕ). ((((((h ++ t) ++ laid latch_width_of latch_word_text (1 + i) a.latches) ++ flat_map output_text a.outputs) ++ laid one_of gate_text (1 + sources a) a.gates) ++ laid input_line_count input_symbols 0 a.inputs)
    ++ laid latch_width_of latch_symbols 0 a.latches) ++ laid one_of output_symbol 0 a.outputs) head (inputs-rows 0 a.inputs)
    ∙ ap₂ (λ (l o : List ℕ). ((((((closed (header_row a) ++ text_by I) ++ l) ++ o) ++ laid one_of gate_text (1 + sources a) a.gates) ++ laid input_line_count input_symbols 0 a.inputs) ++ laid latch_width_of latch_symbols 0 a.latches)
    ++ laid one_of output_symbol 0 a.outputs) (latches-rows i a.latches all) (outputs-rows a.outputs)
    ∙ ap₂ (λ (g x : List ℕ). ((((((closed (header_row a) ++ text_by I) ++ text_by L) ++ text_by O) ++ g) ++ x) ++ laid latch_width_of latch_symbols 0 a.latches) ++ laid one_of output_symbol 0 a.outputs) (gates-rows (sources a) a.gates)
    (input_symbols-rows 0 a.inputs)
    ∙ ap₂ (λ (y z : List ℕ). ((((((closed (header_row a) ++ text_by I) ++ text_by L) ++ text_by O) ++ text_by G) ++ text_by X) ++ y) ++ z) (latch_symbols-rows 0 a.latches) (output_symbols-rows 0 a.outputs)
    ∙ right_nested (closed (header_row a)) (text_by I) (text_by L) (text_by O) (text_by G) (text_by X) (text_by Y) (text_by Z)
    ∙ ap (λ t. closed (header_row a) ++ t) (sym (
    text_by-append (I ++ (L ++ (O ++ G))) (X ++ (Y ++ Z))
    ∙ ap₂ (λ (xs ys : List ℕ). xs ++ ys)
    (text_by-append I (L ++ (O ++ G)) ∙ ap (λ t. text_by I ++ t) (text_by-append L (O ++ G) ∙ ap (λ t. text_by L ++ t) (text_by-append O G)))
    (text_by-append X (Y ++ Z) ∙ ap (λ t. text_by X ++ t) (text_by-append Y Z))))
