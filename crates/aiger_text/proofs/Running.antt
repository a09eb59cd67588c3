-- Words of inputs and latches, as far as their bits are read.
use Rattle.std.proofs.Common.{◌≡◌, ℕ, ◌+◌, ◌<◌, ◌≤◌, Bool, true, false, ◌&&◌, eqb, List, [], ◌∷◌, ◌++◌, length, get_or, take, drop, Option, refl, sym, ap, ap₂, ◌∙◌, arith, append_assoc, append-nil, true≢false}
use Rattle.std.specs.Prelude.{◌≢◌, bytes_eq, decimal, nat_lt, sum}
use Rattle.std.proofs.Math.Bool.{and_assoc}
use Rattle.std.proofs.lemmas.Bool.{and_left, and_right, eqb-true, false_from_ne_true, ltb-true}
use Rattle.std.proofs.lemmas.Bool.Decides.{Decides-eqb}
use Rattle.std.proofs.lemmas.List.{drop_all}
use Rattle.std.proofs.lemmas.List.Sums.{sum_by-cons}
use Rattle.aig_blast.specs.Aigs.{input_word_widths}
use Rattle.aig_blast.specs.BitLists.{as_bits}
use Rattle.aig_blast.specs.declared.aig.InputWord.{InputWord}
use Rattle.aig_blast.specs.declared.aig.LatchWord.{LatchWord}
use Rattle.aig_blast.specs.declared.aig.OutputBit.{OutputBit}
use Rattle.aiger_text.specs.Runs.{begun, goes_on, latch_words, name_or, output_bits, WordRun, words_from, words_of_bits}
use Rattle.aiger_text.specs.Printing.{bit_name}
use Rattle.aiger_text.proofs.Placing.{cut_at}

-- equal parts at the front, and at the end
pub bytes_eq-append : (front back name tail : List ℕ) → length front ≡ length name → bytes_eq (front ++ back) (name ++ tail) ≡ (bytes_eq front name && bytes_eq back tail)
bytes_eq-append [] back [] tail same = refl
bytes_eq-append [] back (n ∷ name) tail same = absurd (omega (arith, same))
bytes_eq-append (b ∷ front) back [] tail same = absurd (omega (arith, same))
bytes_eq-append (b ∷ front) back (n ∷ name) tail same =
    ap (λ t. eqb b n && t) (bytes_eq-append front back name tail (omega (arith, same))) ∙ sym (and_assoc (eqb b n) (bytes_eq front name) (bytes_eq back tail))

-- numbers that differ
pub eq-false : (a b : ℕ) → a ≢ b → eqb a b ≡ false
eq-false a b other = false_from_ne_true (eqb a b) (λ same. absurd (other (eqb-true a b same)))

bytes_eq-end : (inner digits : List ℕ) (b : ℕ) → bytes_eq (inner ++ b ∷ []) (digits ++ b ∷ []) ≡ bytes_eq inner digits
bytes_eq-end [] [] b = ap (λ t. t && true) ((Decides-eqb b b).1 refl)
bytes_eq-end [] (d ∷ []) b = and_right (eqb b d) false refl
bytes_eq-end [] (d ∷ e ∷ digits) b = and_right (eqb b d) false refl
bytes_eq-end (i ∷ []) [] b = and_right (eqb i b) false refl
bytes_eq-end (i ∷ j ∷ inner) [] b = and_right (eqb i b) false refl
bytes_eq-end (i ∷ inner) (d ∷ digits) b = ap (λ t. eqb i d && t) (bytes_eq-end inner digits b)

-- bytes in brackets
pub index-is : (bytes rest inner digits wanted : List ℕ) (first last : ℕ) (b : Bool) → bytes ≡ first ∷ rest → rest ≡ inner ++ last ∷ [] → first ≡ 91 → last ≡ 93 → digits ≡ wanted → b ≡ bytes_eq inner digits
    → b ≡ bytes_eq bytes (91 ∷ (wanted ++ 93 ∷ []))
index-is bytes rest inner digits wanted first last b parts ends begins stops same is =
    let whole : bytes ≡ 91 ∷ (inner ++ 93 ∷ []) = parts ∙ ap₂ (λ (x : ℕ) (xs : List ℕ). x ∷ xs) begins (ends ∙ ap (λ y. inner ++ y ∷ []) stops) in
    is ∙ ap (bytes_eq inner) same ∙ sym (bytes_eq-end inner wanted 93) ∙ ap (λ bs. bytes_eq bs (91 ∷ (wanted ++ 93 ∷ []))) (sym whole)

-- bytes that don't begin and end with brackets
pub index-first : (bytes rest wanted : List ℕ) (first : ℕ) → bytes ≡ first ∷ rest → first ≢ 91 → false ≡ bytes_eq bytes (91 ∷ wanted)
index-first bytes rest wanted first parts other =
    sym (ap (λ bs. bytes_eq bs (91 ∷ wanted)) parts ∙ and_left (eqb first 91) (bytes_eq rest wanted) (eq-false first 91 other))

bytes_eq-last : (inner digits : List ℕ) (a b : ℕ) → eqb a b ≡ false → bytes_eq (inner ++ a ∷ []) (digits ++ b ∷ []) ≡ false
bytes_eq-last [] [] a b other = ap (λ t. t && true) other
bytes_eq-last [] (d ∷ []) a b other = and_right (eqb a d) false refl
bytes_eq-last [] (d ∷ e ∷ digits) a b other = and_right (eqb a d) false refl
bytes_eq-last (i ∷ []) [] a b other = and_right (eqb i b) false refl
bytes_eq-last (i ∷ j ∷ inner) [] a b other = and_right (eqb i b) false refl
bytes_eq-last (i ∷ inner) (d ∷ digits) a b other = and_right (eqb i d) (bytes_eq (inner ++ a ∷ []) (digits ++ b ∷ [])) (bytes_eq-last inner digits a b other)

pub index-last : (bytes rest inner wanted : List ℕ) (first last : ℕ) → bytes ≡ first ∷ rest → rest ≡ inner ++ last ∷ [] → last ≢ 93 → false ≡ bytes_eq bytes (91 ∷ (wanted ++ 93 ∷ []))
index-last bytes rest inner wanted first last parts ends other =
    sym (
    ap (λ bs. bytes_eq bs (91 ∷ (wanted ++ 93 ∷ []))) parts
    ∙ and_right (eqb first 91) (bytes_eq rest (wanted ++ 93 ∷ [])) (ap (λ bs. bytes_eq bs (wanted ++ 93 ∷ [])) ends ∙ bytes_eq-last inner wanted last 93 (eq-false last 93 other))
    )

-- a symbol that begins with a name, and one that doesn't
bit_name-parts : (name : List ℕ) (k : ℕ) → name ++ 91 ∷ (decimal k ++ 93 ∷ []) ≡ bit_name name k
bit_name-parts name k = sym (append_assoc name (91 ∷ decimal k) (93 ∷ []))

pub name-then : (symbol front back name : List ℕ) (k : ℕ) (b : Bool) → symbol ≡ front ++ back → length front ≡ length name → true ≡ bytes_eq front name → b ≡ bytes_eq back (91 ∷ (decimal k ++ 93 ∷ []))
    → b ≡ bytes_eq symbol (bit_name name k)
name-then symbol front back name k b parts same begins is =
    let tail : List ℕ = 91 ∷ (decimal k ++ 93 ∷ []) in
    is ∙ ap (λ t. t && bytes_eq back tail) begins ∙ sym (bytes_eq-append front back name tail same) ∙ ap (λ bs. bytes_eq bs (name ++ tail)) (sym parts) ∙ ap (bytes_eq symbol) (bit_name-parts name k)

pub name-other : (symbol front back name : List ℕ) (k : ℕ) (b : Bool) → symbol ≡ front ++ back → length front ≡ length name → b ≡ bytes_eq front name → b ≡ false → b ≡ bytes_eq symbol (bit_name name k)
name-other symbol front back name k b parts same is differs =
    let tail : List ℕ = 91 ∷ (decimal k ++ 93 ∷ []) in
    differs ∙ sym (and_left (bytes_eq front name) (bytes_eq back tail) (sym is ∙ differs)) ∙ sym (bytes_eq-append front back name tail same) ∙ ap (λ bs. bytes_eq bs (name ++ tail)) (sym parts) ∙ ap (bytes_eq symbol) (bit_name-parts name k)

-- a run that goes on isn't full
pub goes_on-below : (run : WordRun) (symbol : Option (List ℕ)) → goes_on run symbol ≡ true → run.word.width < 128
goes_on-below run symbol goes = by run.is_run (nat_lt run.word.width 128) _ refl goes
  where
    by : (is below has : Bool) → nat_lt run.word.width 128 ≡ below → (is && (below && has)) ≡ true → run.word.width < 128
    by true true has few goes = ltb-true run.word.width 128 few
    by true false has few goes = absurd (true≢false (sym goes))
    by false below has few goes = absurd (true≢false (sym goes))

-- the words of no bit, and of some
pub words_of_bits-none : (kind : ℕ) (symbols : List (Option (List ℕ))) (words : List InputWord) → symbols ≡ [] → words ≡ [] → words ≡ words_of_bits kind symbols
unfolding words_of_bits
words_of_bits-none kind symbols words none empty = empty ∙ ap (words_of_bits kind) (sym none)

pub words_of_bits-first : (kind : ℕ) (symbols others : List (Option (List ℕ))) (first : Option (List ℕ)) (run : WordRun) (words : List InputWord) → symbols ≡ first ∷ others → run ≡ begun kind 0 first → words ≡ []
    → words ++ words_from kind 1 run others ≡ words_of_bits kind symbols
unfolding words_of_bits
words_of_bits-first kind symbols others first run words parts begins empty =
    ap₂ (λ (front : List InputWord) (r : WordRun). front ++ words_from kind 1 r others) empty begins ∙ ap (words_of_bits kind) (sym parts)

pub words_from-step : (kind index next : ℕ) (run more : WordRun) (others : List (Option (List ℕ))) (k : ℕ) (d : Option (List ℕ)) (words new whole : List InputWord) → k < length others
    → ((rest : List (Option (List ℕ))) → new ++ words_from kind next more rest ≡ words ++ words_from kind index run (get_or others k d ∷ rest))
    → words ++ words_from kind index run (drop k others) ≡ whole → new ++ words_from kind next more (drop (k + 1) others) ≡ whole
words_from-step kind index next run more others k d words new whole within goes so_far =
    goes (drop (k + 1) others) ∙ ap (λ ss. words ++ words_from kind index run ss) (sym (cut_at others k d within)) ∙ so_far

pub words_from-end : (kind index : ℕ) (run : WordRun) (others : List (Option (List ℕ))) (k : ℕ) (words new whole : List InputWord) → length others ≤ k → new ≡ words ++ run.word ∷ []
    → words ++ words_from kind index run (drop k others) ≡ whole → new ≡ whole
words_from-end kind index run others k words new whole past pushed so_far =
    pushed ∙ sym (ap (λ ss. words ++ words_from kind index run ss) (drop_all k others past)) ∙ so_far

-- the outputs with one more
pub output_bits-more : (symbols : List (Option (List ℕ))) (lits : List ℕ) (k : ℕ) (d : Option (List ℕ)) (e : ℕ) (name : List ℕ) (outputs new whole : List OutputBit) → k < length symbols → length lits ≡ length symbols
    → name ≡ name_or 111 k (get_or symbols k d) → new ≡ outputs ++ record { name = name; lit = get_or lits k e } ∷ []
    → outputs ++ output_bits k (drop k symbols) (drop k lits) ≡ whole → new ++ output_bits (k + 1) (drop (k + 1) symbols) (drop (k + 1) lits) ≡ whole
output_bits-more symbols lits k d e name outputs new whole within same is pushed so_far =
    let rest : List OutputBit = output_bits (k + 1) (drop (k + 1) symbols) (drop (k + 1) lits) in
    let also : k < length lits = omega (arith, same, within) in
    ap (λ front. front ++ rest) pushed ∙ append_assoc outputs (record { name = name; lit = get_or lits k e } ∷ []) rest
    ∙ ap (λ (n : List ℕ). outputs ++ record { name = n; lit = get_or lits k e } ∷ rest) is
    ∙ ap₂ (λ (ss : List (Option (List ℕ))) (ls : List ℕ). outputs ++ output_bits k ss ls) (sym (cut_at symbols k d within)) (sym (cut_at lits k e also)) ∙ so_far

pub output_bits-end : (symbols : List (Option (List ℕ))) (lits : List ℕ) (k : ℕ) (outputs whole : List OutputBit) → length symbols ≤ k → outputs ++ output_bits k (drop k symbols) (drop k lits) ≡ whole → outputs ≡ whole
output_bits-end symbols lits k outputs whole past so_far =
    sym (ap (λ ss. outputs ++ output_bits k ss (drop k lits)) (drop_all k symbols past) ∙ append-nil outputs) ∙ so_far

-- how many bits are left, with one word less
pub widths-left : (words : List InputWord) (k : ℕ) (word : InputWord) → k < length words → word ≡ get_or words k word → sum (input_word_widths (drop k words)) ≡ word.width + sum (input_word_widths (drop (k + 1) words))
widths-left words k word within is =
    ap (λ ws. sum (input_word_widths ws)) (cut_at words k word within ∙ ap (λ (w : InputWord). w ∷ drop (k + 1) words) (sym is)) ∙ sum_by-cons (λ (n : ℕ). n) word.width (input_word_widths (drop (k + 1) words))

-- the words of latches with one more
pub latch_words-more : (words : List InputWord) (k : ℕ) (word : InputWord) (literals own others : List ℕ) (values first last : List Bool) (latch : LatchWord) (latches new whole : List LatchWord) → k < length words
    → word ≡ get_or words k word → own ≡ take word.width literals → others ≡ drop word.width literals → first ≡ take word.width values → last ≡ drop word.width values
    → latch ≡ record { name = word.name; first = as_bits first; nexts = own } → new ≡ latches ++ latch ∷ []
    → latches ++ latch_words (drop k words) literals values ≡ whole → new ++ latch_words (drop (k + 1) words) others last ≡ whole
latch_words-more words k word literals own others values first last latch latches new whole within is a b c d made pushed so_far =
    let rest : List LatchWord = latch_words (drop (k + 1) words) (drop word.width literals) (drop word.width values) in
    let cut : drop k words ≡ word ∷ drop (k + 1) words = cut_at words k word within ∙ ap (λ (w : InputWord). w ∷ drop (k + 1) words) (sym is) in
    let one : latch ≡ record { name = word.name; first = as_bits (take word.width values); nexts = take word.width literals } =
    made ∙ ap₂ (λ (bits : List Bool) (lits : List ℕ). record { name = word.name; first = as_bits bits; nexts = lits }) c a in
    ap₂ (λ (ls : List ℕ) (vs : List Bool). new ++ latch_words (drop (k + 1) words) ls vs) b d ∙ ap (λ front. front ++ rest) pushed ∙ append_assoc latches (latch ∷ []) rest ∙ ap (λ (l : LatchWord). latches ++ l ∷ rest) one
    ∙ ap (λ ws. latches ++ latch_words ws literals values) (sym cut) ∙ so_far
