-- The words, outputs and gates that a printed circuit's symbols and literals give are its own.
use Rattle.std.proofs.Common.{◌≡◌, ℕ, zero, suc, ◌+◌, ◌-◌, ◌/◌, ◌<◌, ◌≤◌, ◌^◌, Bool, true, false, ◌&&◌, cond, List, [], ◌∷◌, ◌++◌, length, map, take, drop, refl, sym, ap, ap₂, subst, ◌∙◌, arith, append_assoc, Option, Some, Result, Ok}
use Rattle.std.specs.Prelude.{◌≢◌, bytes_eq, codes, decimal, nat_lt}
use Rattle.std.specs.List.{AllByRecursion}
use Rattle.std.specs.Str.Parse.{digits_value}
use Rattle.std.proofs.Math.Seq.{drop-append_seam, take-append_seam}
use Rattle.std.proofs.lemmas.Bool.{and_right, false_from_ne_true, lt-ltb}
use Rattle.std.proofs.lemmas.Fmt.{decimal_digit, decimal_is_IsNumeral}
use Rattle.std.proofs.lemmas.List.{length-append, length_push, map-append}
use Rattle.std.proofs.lemmas.Slice.Eq.{bytes_eq-Decides}
use Rattle.kw_base.specs.declared.fault.Fault.{Fault}
use Rattle.kw_bits.specs.BitVector.{BitVector}
use Rattle.aig_blast.specs.Aigs.{IsInputWord, IsLatchWord}
use Rattle.aig_blast.specs.BitLists.{as_bits}
use Rattle.aig_blast.specs.Graphs.{Below}
use Rattle.aig_blast.specs.Steps.{digits}
use Rattle.aig_blast.specs.declared.aig.InputWord.{InputWord}
use Rattle.aig_blast.specs.declared.aig.LatchWord.{LatchWord}
use Rattle.aig_blast.specs.declared.aig.OutputBit.{OutputBit}
use Rattle.aig_blast.specs.declared.gate.Gate.{Gate}
use Rattle.aig_blast.proofs.Digits.{digits-formula, length-digits}
use Rattle.stim_report.specs.Stimuli.{after, next_line}
use Rattle.aiger_text.specs.Printing.{bit_name}
use Rattle.aiger_text.specs.Reading.{all_placed, gate_by, gates_placed, known}
use Rattle.aiger_text.specs.Runs.{begun, begun_by, run_begun, goes_on, latch_words, output_bits, WordRun, wider, words_from, words_of_bits}
use Rattle.aiger_text.proofs.Naming.{digits_other}
use Rattle.aiger_text.proofs.Ranges.{placed_literal-range, range}

-- ---- names of bits

bit_name-parts : (name : List ℕ) (k : ℕ) → bit_name name k ≡ name ++ 91 ∷ (decimal k ++ 93 ∷ [])
bit_name-parts name k = append_assoc name (91 ∷ decimal k) (93 ∷ [])

bit_name-first : (name : List ℕ) → bit_name name 0 ≡ name ++ codes "[0]"
bit_name-first name = bit_name-parts name 0 ∙ ap (λ ds. name ++ 91 ∷ (ds ++ 93 ∷ [])) (decimal_digit 0 (omega arith))

-- the digits after the last bracket
no_bracket : (front digits : List ℕ) → AllByRecursion (λ (b : ℕ). b ≢ 91) (front ++ 91 ∷ digits) → ⊥
no_bracket [] digits all = all.0 refl
no_bracket (b ∷ front) digits all = no_bracket front digits all.1

after_bracket : (xs ys ds es : List ℕ) → AllByRecursion (λ (b : ℕ). b ≢ 91) ds → AllByRecursion (λ (b : ℕ). b ≢ 91) es → xs ++ 91 ∷ ds ≡ ys ++ 91 ∷ es → ds ≡ es
after_bracket [] [] ds es d e same = cc
after_bracket [] (y ∷ ys) ds es d e same = let more : ds ≡ ys ++ 91 ∷ es = cc in absurd (no_bracket ys es (subst (AllByRecursion (λ (b : ℕ). b ≢ 91)) more d))
after_bracket (x ∷ xs) [] ds es d e same = let more : es ≡ xs ++ 91 ∷ ds = cc in absurd (no_bracket xs ds (subst (AllByRecursion (λ (b : ℕ). b ≢ 91)) more e))
after_bracket (x ∷ xs) (y ∷ ys) ds es d e same = let more : xs ++ 91 ∷ ds ≡ ys ++ 91 ∷ es = cc in after_bracket xs ys ds es d e more

same_front : (xs ys : List ℕ) (b : ℕ) → xs ++ b ∷ [] ≡ ys ++ b ∷ [] → xs ≡ ys
same_front [] [] b same = refl
same_front [] (y ∷ ys) b same = absurd (omega (arith, ap length same, length_push ys b))
same_front (x ∷ xs) [] b same = absurd (omega (arith, ap length same, length_push xs b))
same_front (x ∷ xs) (y ∷ ys) b same =
    let head : x ≡ y = cc in
    let rest : xs ++ b ∷ [] ≡ ys ++ b ∷ [] = cc in
    ap₂ (λ (z : ℕ) (zs : List ℕ). z ∷ zs) head (same_front xs ys b rest)

-- names of bits of different places differ
bit_name-other : (xs ys : List ℕ) (j k : ℕ) → j < 2 ^ 63 → k < 2 ^ 63 → j ≢ k → bit_name xs j ≢ bit_name ys k
bit_name-other xs ys j k low high other same =
    let own : (n : ℕ) → n < 2 ^ 63 → AllByRecursion (λ (b : ℕ). b ≢ 91) (decimal n) = λ n small. digits_other (decimal n) 91 refl (decimal_is_IsNumeral n (omega (arith, small))).0.1 in
    let digits_same : decimal j ≡ decimal k = after_bracket xs ys (decimal j) (decimal k) (own j low) (own k high) (same_front (xs ++ 91 ∷ decimal j) (ys ++ 91 ∷ decimal k) 93 same) in
    other (sym (decimal_is_IsNumeral j (omega (arith, low))).1 ∙ ap (digits_value 10) digits_same ∙ (decimal_is_IsNumeral k (omega (arith, high))).1)

-- ---- words of names

abbrev pub names_from : List ℕ → ℕ → ℕ → List (List ℕ)
names_from name j zero = []
names_from name j (suc m) = bit_name name j ∷ names_from name (suc j) m

abbrev pub names_of : List InputWord → List (List ℕ)
names_of [] = []
names_of (word ∷ words) = names_from word.name 0 word.width ++ names_of words

abbrev run_at : List ℕ → ℕ → WordRun
run_at name j = record { word = record { name = name; width = j }; is_run = true }

length-filled : (name : List ℕ) → name ≢ [] → 0 < length name
length-filled [] some = absurd (some refl)
length-filled (b ∷ name) some = omega arith

begun-first : (kind index : ℕ) (name : List ℕ) → name ≢ [] → begun kind index (Some (bit_name name 0)) ≡ run_at name 1
begun-first kind index name some =
    let parts = bit_name-first name in
    let long : length (name ++ codes "[0]") ≡ length name + 3 = length-append name (codes "[0]") in
    let cut : length (name ++ codes "[0]") - 3 ≡ length name = omega (arith, long) in
    let filled : 3 < length (name ++ codes "[0]") = omega (arith, long, length-filled name some) in
    let ends : drop (length (name ++ codes "[0]") - 3) (name ++ codes "[0]") ≡ codes "[0]" = ap (λ n. drop n (name ++ codes "[0]")) cut ∙ drop-append_seam name (codes "[0]") in
    let front : take (length (name ++ codes "[0]") - 3) (name ++ codes "[0]") ≡ name = ap (λ n. take n (name ++ codes "[0]")) cut ∙ take-append_seam name (codes "[0]") in
    ap begun_by parts
    ∙ ap₂ (λ (b : Bool) (n : List ℕ). cond {A = WordRun} b (run_begun n) (record { word = record { name = name ++ codes "[0]"; width = 1 }; is_run = false }))
    (ap₂ (λ s t. s && t) (lt-ltb 3 (length (name ++ codes "[0]")) filled) ((bytes_eq-Decides _ (codes "[0]")).1 ends)) front

goes_on-next : (name : List ℕ) (j : ℕ) → j < 128 → goes_on (run_at name j) (Some (bit_name name j)) ≡ true
goes_on-next name j low = ap₂ (λ s t. s && t) (lt-ltb j 128 low) ((bytes_eq-Decides (bit_name name j) (bit_name name j)).1 refl)

ends_at-next : (name other : List ℕ) (j : ℕ) → 1 ≤ j → j ≤ 128 → goes_on (run_at name j) (Some (bit_name other 0)) ≡ false
ends_at-next name other j some most =
    and_right (nat_lt j 128) (bytes_eq (bit_name other 0) (bit_name name j))
    (false_from_ne_true (bytes_eq (bit_name other 0) (bit_name name j)) (λ same.
    absurd (bit_name-other other name 0 j (omega arith) (omega (arith, most)) (λ none. absurd (omega (arith, none, some))) ((bytes_eq-Decides (bit_name other 0) (bit_name name j)).0 same))))

-- a word's further bits go on with its run
words_from-word : (kind : ℕ) (name : List ℕ) (m j index : ℕ) (rest : List (Option (List ℕ))) → j + m ≤ 128
    → words_from kind index (run_at name j) (map Some (names_from name j m) ++ rest) ≡ words_from kind (index + m) (run_at name (j + m)) rest
words_from-word kind name zero j index rest few =
    let same : j ≡ j + 0 = omega arith in
    let at : index ≡ index + 0 = omega arith in
    ap₂ (λ (n i : ℕ). words_from kind i (run_at name n) rest) same at
words_from-word kind name (suc m) j index rest few =
    let others : List (Option (List ℕ)) = map Some (names_from name (suc j) m) ++ rest in
    let next : j + 1 ≡ suc j = omega arith in
    let wide : suc j + m ≡ j + suc m = omega arith in
    let at : index + 1 + m ≡ index + suc m = omega arith in
    ap (λ t. cond t (words_from kind (index + 1) (wider (run_at name j)) others) (record { name = name; width = j } ∷ words_from kind (index + 1) (begun kind index (Some (bit_name name j))) others)) (goes_on-next name j (omega (arith, few)))
    ∙ ap (λ n. words_from kind (index + 1) (run_at name n) others) next ∙ words_from-word kind name m (suc j) (index + 1) rest (omega (arith, few)) ∙ ap₂ (λ (n i : ℕ). words_from kind i (run_at name n) rest) wide at

-- the bits of one word, and then those of others
first_cut : (word : InputWord) (words : List InputWord) (v : ℕ) → word.width ≡ suc v → map Some (names_of (word ∷ words)) ≡ Some (bit_name word.name 0) ∷ map Some (names_from word.name 1 v ++ names_of words)
first_cut word words v is = ap (λ n. map Some (names_from word.name 0 n ++ names_of words)) is

one_word : (kind at index : ℕ) (word : InputWord) (words : List InputWord) (v : ℕ) → word.width ≡ suc v → IsInputWord word → ((i : ℕ) → words_from kind i (run_at word.name word.width) (map Some (names_of words)) ≡ word ∷ words)
    → words_from kind index (begun kind at (Some (bit_name word.name 0))) (map Some (names_from word.name 1 v ++ names_of words)) ≡ word ∷ words
one_word kind at index word words v wide is others =
    let whole : 1 + v ≡ word.width = omega (arith, wide) in
    ap₂ (λ (run : WordRun) (symbols : List (Option (List ℕ))). words_from kind index run symbols) (begun-first kind at word.name is.name.some) (map-append Some (names_from word.name 1 v) (names_of words))
    ∙ words_from-word kind word.name v 1 index (map Some (names_of words)) (omega (arith, wide, is.most)) ∙ ap (λ n. words_from kind (index + v) (run_at word.name n) (map Some (names_of words))) whole ∙ others (index + v)

-- all bits of words after a word
words_from-all : (kind : ℕ) (words : List InputWord) (name : List ℕ) (w index : ℕ) → 1 ≤ w → w ≤ 128 → AllByRecursion IsInputWord words → words_from kind index (run_at name w) (map Some (names_of words)) ≡ record { name = name; width = w } ∷ words
words_from-all kind [] name w index some most are = refl
words_from-all kind (word ∷ words) name w index some most are = by (λ i. words_from-all kind words word.name word.width i are.0.some are.0.most are.1) word.width refl
  where
    by : ((i : ℕ) → words_from kind i (run_at word.name word.width) (map Some (names_of words)) ≡ word ∷ words) → (v : ℕ) → word.width ≡ v
        → words_from kind index (run_at name w) (map Some (names_of (word ∷ words))) ≡ record { name = name; width = w } ∷ word ∷ words
    by others zero is = absurd (omega (arith, is, are.0.some))
    by others (suc v) is =
        let rest : List (Option (List ℕ)) = map Some (names_from word.name 1 v ++ names_of words) in
        ap (words_from kind index (run_at name w)) (first_cut word words v is)
        ∙ ap (λ t. cond t (words_from kind (index + 1) (wider (run_at name w)) rest) (record { name = name; width = w } ∷ words_from kind (index + 1) (begun kind index (Some (bit_name word.name 0))) rest)) (ends_at-next name word.name w some most)
        ∙ ap (λ ws. record { name = name; width = w } ∷ ws) (one_word kind index (index + 1) word words v is are.0 others)

-- the words of all names
pub words_of_bits-names : (kind : ℕ) (words : List InputWord) → AllByRecursion IsInputWord words → words_of_bits kind (map Some (names_of words)) ≡ words
unfolding words_of_bits
words_of_bits-names kind [] are = refl
words_of_bits-names kind (word ∷ words) are = by word.width refl
  where
    by : (v : ℕ) → word.width ≡ v → words_of_bits kind (map Some (names_of (word ∷ words))) ≡ word ∷ words
    by zero is = absurd (omega (arith, is, are.0.some))
    by (suc v) is =
        ap (words_of_bits kind) (first_cut word words v is) ∙ one_word kind 0 1 word words v is are.0 (λ i. words_from-all kind words word.name word.width i are.0.some are.0.most are.1)

-- ---- latches, outputs and gates

abbrev pub nexts_in : List LatchWord → List ℕ
nexts_in [] = []
nexts_in (word ∷ words) = word.nexts ++ nexts_in words

abbrev pub resets_in : List LatchWord → List Bool
resets_in [] = []
resets_in (word ∷ words) = digits word.first.number word.first.width ++ resets_in words

abbrev pub as_inputs : List LatchWord → List InputWord
as_inputs [] = []
as_inputs (word ∷ words) = record { name = word.name; width = word.first.width } ∷ as_inputs words

seam_front : {X : Type 0} (n : ℕ) (xs ys : List X) → length xs ≡ n → take n (xs ++ ys) ≡ xs
seam_front n xs ys long = ap (λ m. take m (xs ++ ys)) (sym long) ∙ take-append_seam xs ys

seam_back : {X : Type 0} (n : ℕ) (xs ys : List X) → length xs ≡ n → drop n (xs ++ ys) ≡ ys
seam_back n xs ys long = ap (λ m. drop m (xs ++ ys)) (sym long) ∙ drop-append_seam xs ys

pub latch_words-own : (count : ℕ) (words : List LatchWord) → AllByRecursion (IsLatchWord count) words → latch_words (as_inputs words) (nexts_in words) (resets_in words) ≡ words
latch_words-own count [] are = refl
latch_words-own count (word ∷ words) are =
    let w : ℕ = word.first.width in
    let own : List Bool = digits word.first.number w in
    let bits : length own ≡ w = length-digits word.first.number w in
    let first : as_bits (take w (own ++ resets_in words)) ≡ word.first = ap as_bits (seam_front w own (resets_in words) bits) ∙ digits-formula w word.first.number are.0.first.in_range in
    ap₂ (λ (b : BitVector) (ns : List ℕ). record { name = word.name; first = b; nexts = ns } ∷ latch_words (as_inputs words) (drop w (word.nexts ++ nexts_in words)) (drop w (own ++ resets_in words))) first
    (seam_front w word.nexts (nexts_in words) are.0.count)
    ∙ ap₂ (λ (ns : List ℕ) (rs : List Bool). word ∷ latch_words (as_inputs words) ns rs) (seam_back w word.nexts (nexts_in words) are.0.count) (seam_back w own (resets_in words) bits)
    ∙ ap (λ ws. word ∷ ws) (latch_words-own count words are.1)

abbrev pub output_names : List OutputBit → List (List ℕ)
output_names [] = []
output_names (output ∷ outputs) = output.name ∷ output_names outputs

abbrev pub output_lits : List OutputBit → List ℕ
output_lits [] = []
output_lits (output ∷ outputs) = output.lit ∷ output_lits outputs

pub output_bits-own : (index : ℕ) (outputs : List OutputBit) → output_bits index (map Some (output_names outputs)) (output_lits outputs) ≡ outputs
output_bits-own index [] = refl
output_bits-own index (output ∷ outputs) = ap (λ os. output ∷ os) (output_bits-own (index + 1) outputs)

pub all_placed-own : (n number : ℕ) (lits : List ℕ) → AllByRecursion (Below n) lits → all_placed (range 0 n) (1 + n) number lits ≡ Ok lits
all_placed-own n number [] below = refl
all_placed-own n number (lit ∷ lits) below =
    let low : lit / 2 ≤ n = omega (arith, below.0) in
    ap (λ (p : Option ℕ). after (known number p) (λ first. after (all_placed (range 0 n) (1 + n) (next_line number) lits) (λ others. Ok (first ∷ others)))) (placed_literal-range n (1 + n) lit low (omega (arith, low)))
    ∙ ap (λ (r : Result (List ℕ) Fault). after r (λ others. Ok (lit ∷ others))) (all_placed-own n (next_line number) lits below.1)

-- gates that stand after this many variables, one after another
abbrev pub StandFrom : ℕ → List Gate → Type 0
StandFrom k [] = Unit {0}
StandFrom k (gate ∷ gates) = (gate.left / 2 ≤ k) × (gate.right / 2 ≤ k) × StandFrom (suc k) gates

pub gates_placed-own : (n k number : ℕ) (gates : List Gate) → k + length gates ≤ n → StandFrom k gates → gates_placed (range 0 n) (1 + k) number gates ≡ Ok gates
gates_placed-own n k number [] fits stand = refl
gates_placed-own n k number (gate ∷ gates) fits stand =
    let next : 1 + k + 1 ≡ 1 + suc k = omega arith in
    let rest : Result (List Gate) Fault = gates_placed (range 0 n) (1 + k + 1) (next_line number) gates in
    ap₂ (λ (l r : Option ℕ). after (known number (gate_by l r)) (λ first. after rest (λ others. Ok (first ∷ others))))
    (placed_literal-range n (1 + k) gate.left (omega (arith, stand.0, fits)) (omega (arith, stand.0))) (placed_literal-range n (1 + k) gate.right (omega (arith, stand.1, fits)) (omega (arith, stand.1)))
    ∙ ap (λ (b : ℕ). after (gates_placed (range 0 n) b (next_line number) gates) (λ others. Ok (gate ∷ others))) next
    ∙ ap (λ (r : Result (List Gate) Fault). after r (λ others. Ok (gate ∷ others))) (gates_placed-own n (suc k) (next_line number) gates (omega (arith, fits)) stand.2)
