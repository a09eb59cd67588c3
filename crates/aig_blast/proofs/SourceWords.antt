-- The words of sources have the values of their bits.
use Rattle.std.proofs.Common.{◌≡◌, ℕ, zero, suc, ◌+◌, ◌*◌, ◌/◌, ◌%◌, ◌<◌, ◌≤◌, Bool, false, eqb, List, [], ◌∷◌, ◌++◌, length, take, replicate, get_or, refl, sym, ap, ap₂, subst, ◌∙◌, arith, append_assoc}
use Rattle.std.specs.Prelude.{sum}
use Rattle.std.specs.List.{All}
use Rattle.std.proofs.lemmas.List.{map_push, take_more, take_all, take_at, length_push, length-append, get_or-append-add, get_or_append_left}
use Rattle.std.proofs.lemmas.List.Elements.{All-push}
use Rattle.std.proofs.lemmas.List.Sums.{sum_by-cons}
use Rattle.kw_bits.specs.BitVector.{BitVector, IsBits}
use Rattle.net_graph.specs.Values.{widths}
use Rattle.aig_blast.specs.AigRun.{bits_of}
use Rattle.aig_blast.specs.BitLists.{xor, as_bits}
use Rattle.aig_blast.specs.Graphs.{fitted, value, variables_of, Gates, IsLit}
use Rattle.aig_blast.specs.inner.Nodes.{AreWords, lengths, words_bits}
use Rattle.aig_blast.specs.inner.Sources.{source_word, source_words}
use Rattle.aig_blast.specs.Steps.{digits}
use Rattle.aig_blast.specs.Words.{AreLits, word}
use Rattle.aig_blast.proofs.Digits.{digits-formula, length-digits}
use Rattle.aig_blast.proofs.Growing.{get_or-values_after, length-fitted}
use Rattle.aig_blast.proofs.PartsOfWords.{AreLits-none}

-- as many values as there are sources are taken as they are
pub fitted-all : (xs : List Bool) (n : ℕ) → length xs ≡ n → fitted n xs ≡ xs
fitted-all xs n all = take_at xs (replicate n false) n all

-- the literal of a source has the source's value
pub value-source : (xs : List Bool) (g : Gates) (v : ℕ) → length xs ≡ g.sources → v < g.sources → value xs g (2 * v + 2) ≡ get_or xs v false
unfolding value
value-source xs g v all within =
    let even : (2 * v + 2) % 2 ≡ 0 = omega arith in
    let half : (2 * v + 2) / 2 ≡ suc v = omega arith in
    let first : suc v < length (false ∷ fitted g.sources xs) = omega (arith, length-fitted g.sources xs) in
    ap₂ (λ r i. xor (eqb r 1) (get_or (variables_of xs g) i false)) even half ∙ get_or-values_after (false ∷ fitted g.sources xs) g.gates (suc v) first
    ∙ ap (λ ys. get_or ys v false) (fitted-all xs g.sources all)

pub length-source_word : (start k : ℕ) → length (source_word start k) ≡ k
length-source_word start zero = refl
length-source_word start (suc k) = omega (arith, length_push (source_word start k) (2 * (start + k) + 2), length-source_word start k)

pub AreLits-source_word : (g : Gates) (start k : ℕ) → start + k ≤ g.sources → AreLits g (source_word start k)
AreLits-source_word g start zero few = AreLits-none g
AreLits-source_word g start (suc k) few =
    All-push (IsLit g) (source_word start k) (2 * (start + k) + 2) (AreLits-source_word g start k (omega arith)) (omega arith)

-- bits somewhere among the sources are the values of the word there
word-source : (g : Gates) (before mid after : List Bool) (k : ℕ) → length (before ++ (mid ++ after)) ≡ g.sources → k ≤ length mid → word (before ++ (mid ++ after)) g (source_word (length before) k) ≡ take k mid
word-source g before mid after zero all within = refl
word-source g before mid after (suc k) all within =
    let xs : List Bool = before ++ (mid ++ after) in
    let place : length before + k < g.sources = omega (arith, length-append before (mid ++ after), length-append mid after) in
    let here : value xs g (2 * (length before + k) + 2) ≡ get_or mid k false = value-source xs g (length before + k) all place ∙ get_or-append-add before (mid ++ after) k false ∙ get_or_append_left mid after false k (omega arith) in
    let next : k + 1 ≡ suc k = omega arith in
    map_push (value xs g) (source_word (length before) k) (2 * (length before + k) + 2) ∙ ap₂ (λ bs b. bs ++ b ∷ []) (word-source g before mid after k all (omega arith)) here
    ∙ sym (take_more mid k false (omega arith)) ∙ ap (λ n. take n mid) next

pub length-bits_of : (vs : List BitVector) → length (bits_of vs) ≡ sum (widths vs)
length-bits_of [] = refl
length-bits_of (v ∷ vs) = omega (arith, length-append (digits v.number v.width) (bits_of vs), length-digits v.number v.width, length-bits_of vs, sum_by-cons (λ (w : ℕ). w) v.width (widths vs))

-- the words of sources have the values whose bits they are given
pub bits-source_words : (g : Gates) (start : ℕ) (before after xs : List Bool) (vs : List BitVector) → All IsBits vs → length before ≡ start → before ++ (bits_of vs ++ after) ≡ xs → length xs ≡ g.sources → words_bits xs g (source_words start (widths vs)) ≡ vs
bits-source_words g start before after xs [] each at is all = refl
bits-source_words g start before after xs (v ∷ vs) each at is all =
    let own : List Bool = digits v.number v.width in
    let one : before ++ (own ++ (bits_of vs ++ after)) ≡ xs = ap (λ ys. before ++ ys) (sym (append_assoc own (bits_of vs) after)) ∙ is in
    let other : (before ++ own) ++ (bits_of vs ++ after) ≡ xs = append_assoc before own (bits_of vs ++ after) ∙ one in
    let wide : length own ≡ v.width = length-digits v.number v.width in
    let here : word xs g (source_word start v.width) ≡ own =
    subst (λ ys. word ys g (source_word start v.width) ≡ own) one
    (ap (λ s. word (before ++ (own ++ (bits_of vs ++ after))) g (source_word s v.width)) (sym at) ∙ word-source g before own (bits_of vs ++ after) v.width (ap length one ∙ all) (omega arith) ∙ take_all v.width own (omega arith)) in
    let rest = bits-source_words g (start + v.width) (before ++ own) after xs vs (λ k d h. each (suc k) d (omega arith)) (omega (arith, length-append before own)) other all in
    ap₂ (λ (b : BitVector) (bs : List BitVector). b ∷ bs) (ap as_bits here ∙ digits-formula v.width v.number (each 0 v (omega arith)).in_range) rest

pub lengths-source_words : (start : ℕ) (ws : List ℕ) → lengths (source_words start ws) ≡ ws
lengths-source_words start [] = refl
lengths-source_words start (w ∷ ws) = ap₂ (λ (n : ℕ) (ns : List ℕ). n ∷ ns) (length-source_word start w) (lengths-source_words (start + w) ws)

pub AreWords-source_words : (g : Gates) (start : ℕ) (ws : List ℕ) → All (λ w. (1 ≤ w) × (w ≤ 128)) ws → start + sum ws ≤ g.sources → AreWords g (source_words start ws)
AreWords-source_words g start [] wide few k d h = absurd (omega arith)
AreWords-source_words g start (w ∷ ws) wide few zero d h =
    let total : sum (w ∷ ws) ≡ w + sum ws = sum_by-cons (λ (n : ℕ). n) w ws in
    let own : (1 ≤ w) × (w ≤ 128) = wide 0 w (omega arith) in
    let all : length (source_word start w) ≡ w = length-source_word start w in
    record { some = omega arith; most = omega arith; are_lits = AreLits-source_word g start w (omega arith) }
AreWords-source_words g start (w ∷ ws) wide few (suc k) d h =
    let total : sum (w ∷ ws) ≡ w + sum ws = sum_by-cons (λ (n : ℕ). n) w ws in
    AreWords-source_words g (start + w) ws (λ j e i. wide (suc j) e (omega arith)) (omega arith) k d (omega arith)

-- one more word
pub source_words-push : (start : ℕ) (ws : List ℕ) (w : ℕ) → source_words start (ws ++ w ∷ []) ≡ source_words start ws ++ source_word (start + sum ws) w ∷ []
source_words-push start [] w = ap (λ n. source_word n w ∷ []) (omega arith)
source_words-push start (v ∷ ws) w =
    let total : start + v + sum ws ≡ start + sum (v ∷ ws) = omega (arith, sum_by-cons (λ (n : ℕ). n) v ws) in
    ap (λ (words : List (List ℕ)). source_word start v ∷ words) (source_words-push (start + v) ws w ∙ ap (λ n. source_words (start + v) ws ++ source_word n w ∷ []) total)

pub source_words-more : (start : ℕ) (ws : List ℕ) (k : ℕ) → k < length ws → source_words start (take (k + 1) ws) ≡ source_words start (take k ws) ++ source_word (start + sum (take k ws)) (get_or ws k 0) ∷ []
source_words-more start ws k within = ap (source_words start) (take_more ws k 0 within) ∙ source_words-push start (take k ws) (get_or ws k 0)
