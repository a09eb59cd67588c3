-- The values that a step of a bit-level circuit writes.
use Rattle.std.proofs.Common.{◌≡◌, ℕ, zero, suc, ◌+◌, ◌-◌, ◌*◌, ◌/◌, ◌%◌, ◌^◌, ◌<◌, ◌≤◌, Bool, false, not, eqb, List, [], ◌∷◌, ◌++◌, length, map, set, take, drop, get_or, refl, sym, ap, ap₂, subst, ◌∙◌, arith, append_assoc, append-nil}
use Rattle.std.specs.List.{All}
use Rattle.std.proofs.Math.Nat.{div-div-eq-div-mul, mod-le, pow-le-pow_right, pow-suc}
use Rattle.std.proofs.lemmas.Grind.{pow_more}
use Rattle.std.proofs.lemmas.List.{length-append, length-drop, length-map, length-set, drop_more, take_more, take_more_set, get_or-map}
use Rattle.std.proofs.lemmas.List.Elements.{All-cons}
use Rattle.kw_bits.specs.BitVector.{BitVector, IsBits}
use Rattle.circuit_eval.specs.Circuits.{AreBits}
use Rattle.aig_blast.specs.Aigs.{IsLatchWord, latch_widths}
use Rattle.aig_blast.specs.AigRun.{bits_of, first_words, next_words}
use Rattle.aig_blast.specs.inner.AigSims.{AreBoth, IsReadable, both, variable_values}
use Rattle.aig_blast.specs.BitLists.{as_bits, bit, number}
use Rattle.aig_blast.specs.BitLists.{number as number_of}
use Rattle.aig_blast.specs.Graphs.{Below, gate_value, lit_value, values_after, xor}
use Rattle.aig_blast.specs.Steps.{digits}
use Rattle.aig_blast.specs.declared.aig.LatchWord.{LatchWord}
use Rattle.aig_blast.specs.declared.gate.Gate.{Gate}
use Rattle.aig_blast.proofs.Digits.{length-digits}
use Rattle.aig_blast.proofs.Growing.{values_after-append}
use Rattle.aig_blast.proofs.Numbers.{number-lt, number-take-suc}

-- ---- the values of literals

pub both-append : (xs ys : List Bool) → both (xs ++ ys) ≡ both xs ++ both ys
both-append [] ys = refl
both-append (x ∷ xs) ys = ap (λ (zs : List Bool). x ∷ not x ∷ zs) (both-append xs ys)

pub length-both : (xs : List Bool) → length (both xs) ≡ 2 * length xs
length-both [] = refl
length-both (x ∷ xs) = omega (arith, length-both xs)

pub values-both : (xs : List Bool) → variable_values (both xs) ≡ xs
values-both [] = refl
values-both (x ∷ xs) = ap (λ (zs : List Bool). x ∷ zs) (values-both xs)

pub both-AreBoth : (values xs : List Bool) → values ≡ both xs → AreBoth values
both-AreBoth values xs is = is ∙ ap both (sym (ap variable_values is ∙ values-both xs))

get_or-both : (xs : List Bool) (lit : ℕ) → lit < length (both xs) → get_or (both xs) lit false ≡ lit_value xs lit
get_or-both [] lit within = absurd (omega arith)
get_or-both (x ∷ xs) zero within = refl
get_or-both (x ∷ xs) (suc zero) within = refl
get_or-both (x ∷ xs) (suc (suc n)) within =
    let odd : suc (suc n) % 2 ≡ n % 2 = omega arith in
    let half : suc (suc n) / 2 ≡ suc (n / 2) = omega arith in
    get_or-both xs n (omega arith) ∙ sym (ap₂ (λ r i. xor (eqb r 1) (get_or (x ∷ xs) i false)) odd half)

pub get_or-lit : (values : List Bool) (lit : ℕ) → lit < length values → AreBoth values → get_or values lit false ≡ lit_value (variable_values values) lit
get_or-lit values lit within is =
    ap (λ (vs : List Bool). get_or vs lit false) is ∙ get_or-both (variable_values values) lit (subst (λ (vs : List Bool). lit < length vs) is within)

-- both literals of one more variable are written
pub set-both : (values : List Bool) (v : ℕ) (b : Bool) → 2 * (1 + v) ≤ length values → take (2 * (1 + v)) (set (set values (2 * v) b) (2 * v + 1) (not b)) ≡ take (2 * v) values ++ both (b ∷ [])
set-both values v b room =
    let first : List Bool = set values (2 * v) b in
    let next : 2 * (1 + v) ≡ 2 * v + 1 + 1 = omega arith in
    ap (λ n. take n (set first (2 * v + 1) (not b))) next ∙ take_more_set first (2 * v + 1) (not b) (omega (arith, length-set values (2 * v) b))
    ∙ ap (λ (front : List Bool). front ++ not b ∷ []) (take_more_set values (2 * v) b (omega arith)) ∙ append_assoc (take (2 * v) values) (b ∷ []) (not b ∷ [])

-- ---- what is written

-- one more word of bits
pub bits_of-push : (vs : List BitVector) (v : BitVector) → bits_of (vs ++ v ∷ []) ≡ bits_of vs ++ digits v.number v.width
bits_of-push [] v = append-nil (digits v.number v.width)
bits_of-push (u ∷ vs) v = ap (λ bs. digits u.number u.width ++ bs) (bits_of-push vs v) ∙ sym (append_assoc (digits u.number u.width) (bits_of vs) (digits v.number v.width))

pub bits_of-more : (vs : List BitVector) (k : ℕ) (d : BitVector) → k < length vs → bits_of (take (k + 1) vs) ≡ bits_of (take k vs) ++ digits (get_or vs k d).number (get_or vs k d).width
bits_of-more vs k d within = ap bits_of (take_more vs k d within) ∙ bits_of-push (take k vs) (get_or vs k d)

length-bits_of-take : (vs : List BitVector) (k : ℕ) → length (bits_of (take k vs)) ≤ length (bits_of vs)
length-bits_of-take vs zero = omega arith
length-bits_of-take [] (suc k) = omega arith
length-bits_of-take (v ∷ vs) (suc k) =
    omega (arith, length-append (digits v.number v.width) (bits_of (take k vs)), length-append (digits v.number v.width) (bits_of vs), length-bits_of-take vs k)

-- there is room for one more word
pub room-more : (vs : List BitVector) (k : ℕ) (d : BitVector) → k < length vs → length (bits_of (take k vs)) + (get_or vs k d).width ≤ length (bits_of vs)
room-more vs k d within =
    omega (arith, ap length (bits_of-more vs k d within), length-append (bits_of (take k vs)) (digits (get_or vs k d).number (get_or vs k d).width), length-digits (get_or vs k d).number (get_or vs k d).width, length-bits_of-take vs (k + 1))

pub length-bits_of-more : (vs : List BitVector) (k : ℕ) (d : BitVector) → k < length vs → length (bits_of (take (k + 1) vs)) ≡ length (bits_of (take k vs)) + (get_or vs k d).width
length-bits_of-more vs k d within =
    ap length (bits_of-more vs k d within) ∙ length-append (bits_of (take k vs)) (digits (get_or vs k d).number (get_or vs k d).width) ∙ ap (λ n. length (bits_of (take k vs)) + n) (length-digits (get_or vs k d).number (get_or vs k d).width)

-- one more gate
pub values_after-more : (before : List Bool) (gates : List Gate) (k : ℕ) (d : Gate) → k < length gates → values_after before (take (k + 1) gates) ≡ values_after before (take k gates) ++ gate_value (values_after before (take k gates)) (get_or gates k d) ∷ []
values_after-more before gates k d within =
    ap (values_after before) (take_more gates k d within) ∙ values_after-append before (take k gates) (get_or gates k d ∷ [])

-- the value of one more gate is written
pub gate-step : (init values new : List Bool) (gates : List Gate) (sources k : ℕ) (value : Bool) (d : Gate) → k < length gates
    → take (2 * (1 + sources + k)) values ≡ both (values_after (variable_values (take (2 * (1 + sources)) init)) (take k gates)) → value ≡ gate_value (variable_values (take (2 * (1 + sources + k)) values)) (get_or gates k d)
    → take (2 * (1 + (1 + sources + k))) new ≡ take (2 * (1 + sources + k)) values ++ both (value ∷ []) → take (2 * (1 + sources + (k + 1))) new ≡ both (values_after (variable_values (take (2 * (1 + sources)) init)) (take (k + 1) gates))
gate-step init values new gates sources k value d within so_far is made =
    let before : List Bool = variable_values (take (2 * (1 + sources)) init) in
    let vs : List Bool = values_after before (take k gates) in
    let next : 1 + sources + (k + 1) ≡ 1 + (1 + sources + k) = omega arith in
    ap (λ n. take (2 * n) new) next ∙ made
    ∙ ap₂ (λ (front : List Bool) (b : Bool). front ++ both (b ∷ [])) so_far (is ∙ ap (λ (front : List Bool). gate_value front (get_or gates k d)) (ap variable_values so_far ∙ values-both vs))
    ∙ sym (both-append vs (gate_value vs (get_or gates k d) ∷ [])) ∙ ap both (sym (values_after-more before gates k d within))

-- one more bit of a word is written
pub bit-step : (init values new : List Bool) (n before k rest : ℕ) → rest ≡ n / 2 ^ k → take (2 * (1 + before + k)) values ≡ take (2 * (1 + before)) init ++ both (digits n k)
    → take (2 * (1 + (1 + before + k))) new ≡ take (2 * (1 + before + k)) values ++ both (eqb (rest % 2) 1 ∷ []) → take (2 * (1 + before + (k + 1))) new ≡ take (2 * (1 + before)) init ++ both (digits n (k + 1))
bit-step init values new n before k rest left so_far made =
    let own : List Bool = eqb (n / 2 ^ k % 2) 1 ∷ [] in
    let next : 1 + before + (k + 1) ≡ 1 + (1 + before + k) = omega arith in
    let more : suc k ≡ k + 1 = omega arith in
    ap (λ m. take (2 * m) new) next ∙ made ∙ ap₂ (λ (front : List Bool) r. front ++ both (eqb (r % 2) 1 ∷ [])) so_far left ∙ append_assoc (take (2 * (1 + before)) init) (both (digits n k)) (both own)
    ∙ ap (λ (bits : List Bool). take (2 * (1 + before)) init ++ bits) (sym (both-append (digits n k) own) ∙ ap (λ m. both (digits n m)) more)

pub rest-step : (n k rest : ℕ) → rest ≡ n / 2 ^ k → rest / 2 ≡ n / 2 ^ (k + 1)
rest-step n k rest left = ap (λ m. m / 2) left ∙ div-div-eq-div-mul n (2 ^ k) 2 ∙ ap (λ p. n / p) (sym (pow_more 2 k))

-- the bits of one more word are written
pub word-step : (init values new : List Bool) (words : List BitVector) (before k count w : ℕ) (word : BitVector) → k < length words → word ≡ get_or words k word → w ≡ word.width
    → take (2 * (1 + count)) values ≡ take (2 * (1 + before)) init ++ both (bits_of (take k words))
    → take (2 * (1 + (count + word.width))) new ≡ take (2 * (1 + count)) values ++ both (digits word.number word.width)
    → take (2 * (1 + (count + w))) new ≡ take (2 * (1 + before)) init ++ both (bits_of (take (k + 1) words))
word-step init values new words before k count w word within is wide so_far made =
    let own : List Bool = digits word.number word.width in
    let more : bits_of (take k words) ++ own ≡ bits_of (take (k + 1) words) = ap (λ (v : BitVector). bits_of (take k words) ++ digits v.number v.width) is ∙ sym (bits_of-more words k word within) in
    ap (λ n. take (2 * (1 + (count + n))) new) wide ∙ made ∙ ap (λ (front : List Bool). front ++ both own) so_far ∙ append_assoc (take (2 * (1 + before)) init) (both (bits_of (take k words))) (both own)
    ∙ ap (λ (bits : List Bool). take (2 * (1 + before)) init ++ bits) (sym (both-append (bits_of (take k words)) own) ∙ ap both more)

-- how many bits are written with one more word, and that there is room for them
pub count-step : (words : List BitVector) (before k count w : ℕ) (word : BitVector) → k < length words → word ≡ get_or words k word → w ≡ word.width
    → count ≡ before + length (bits_of (take k words)) → count + w ≡ before + length (bits_of (take (k + 1) words))
count-step words before k count w word within is wide so_far =
    let same : word.width ≡ (get_or words k word).width = ap (λ (v : BitVector). v.width) is in
    omega (arith, length-bits_of-more words k word within)

pub room-step : (words : List BitVector) (before k count all : ℕ) (word : BitVector) → k < length words → word ≡ get_or words k word
    → count ≡ before + length (bits_of (take k words)) → 2 * (1 + before + length (bits_of words)) ≤ all → 2 * (1 + count + word.width) ≤ all
room-step words before k count all word within is so_far room =
    let same : word.width ≡ (get_or words k word).width = ap (λ (v : BitVector). v.width) is in
    omega (arith, room-more words k word within)

-- one more bit of a number
pub number-more : (xs : List Bool) (k : ℕ) → number (take (k + 1) xs) ≡ number (take k xs) + 2 ^ k * bit (get_or xs k false)
number-more xs k =
    let next : k + 1 ≡ suc k = omega arith in
    ap (λ n. number (take n xs)) next ∙ number-take-suc k xs

-- a bit above a number of less than 128 bits fits 128 bits
pub with_bit-fits : (number width : ℕ) → width < 128 → number < 2 ^ width → number + 1 * 2 ^ width % 2 ^ 128 < 2 ^ 128
with_bit-fits number width few below =
    let low : suc width ≤ 128 = omega arith in
    let some : 0 < 2 = omega arith in
    let twice : 2 ^ suc width ≤ 2 ^ 128 = pow-le-pow_right {n = 2} some {i = suc width} {j = 128} low in
    omega (arith, pow-suc 2 width, mod-le (1 * 2 ^ width) (2 ^ 128))

-- the number with one more literal below
pub number-step : (values : List Bool) (lits : List ℕ) (k number : ℕ) → 0 < k → k ≤ length lits → number ≡ number_of (drop k (map (lit_value values) lits))
    → bit (lit_value values (get_or lits (k - 1) 0)) + 2 * number ≡ number_of (drop (k - 1) (map (lit_value values) lits))
number-step values lits k number some within so_far =
    let xs : List Bool = map (lit_value values) lits in
    let next : k ≡ k - 1 + 1 = omega arith in
    let here : get_or xs (k - 1) false ≡ lit_value values (get_or lits (k - 1) 0) = get_or-map (lit_value values) lits (k - 1) 0 false (omega arith) in
    ap₂ (λ b n. bit b + 2 * n) (sym here) (so_far ∙ ap (λ n. number_of (drop n xs)) next) ∙ sym (ap number_of (drop_more xs (k - 1) false (omega (arith, length-map lits (lit_value values)))))

-- there is room for one more bit
pub number-fits : (xs : List Bool) (k : ℕ) → 0 < k → length xs ≤ 128 → number (drop k xs) < 2 ^ 127
number-fits xs k some most =
    let two : 0 < 2 = omega arith in
    let fits : 2 ^ length (drop k xs) ≤ 2 ^ 127 = pow-le-pow_right {n = 2} two {i = length (drop k xs)} {j = 127} (omega (arith, length-drop k xs)) in
    omega (arith, number-lt (drop k xs))

-- the number of all literals
pub number-all : (values : List Bool) (lits : List ℕ) (number : ℕ) → number ≡ number_of (map (lit_value values) lits) → number < 2 ^ length lits
number-all values lits number is =
    let xs : List Bool = map (lit_value values) lits in
    subst (λ n. n < 2 ^ length lits) (sym is) (subst (λ w. number_of xs < 2 ^ w) (length-map lits (lit_value values)) (number-lt xs))

-- ---- a step

-- the values of the sources' literals are written: of variable 0 and of the bits of words
pub sources-written : (init mid last : List Bool) (inputs states : List BitVector) (before sources : ℕ) → take 2 init ≡ both (false ∷ [])
    → take (2 * (1 + before)) mid ≡ take (2 * (1 + 0)) init ++ both (bits_of inputs) → take (2 * (1 + sources)) last ≡ take (2 * (1 + before)) mid ++ both (bits_of states)
    → take (2 * (1 + sources)) last ≡ both (false ∷ bits_of inputs ++ bits_of states)
sources-written init mid last inputs states before sources first ins sts =
    sts ∙ ap (λ (front : List Bool). front ++ both (bits_of states)) (ins ∙ ap (λ (front : List Bool). front ++ both (bits_of inputs)) first) ∙ sym (both-append (false ∷ bits_of inputs) (bits_of states))

-- literals of variables can be read
pub Below-length : (count lit len : ℕ) → Below count lit → len ≡ 2 * (1 + count) → lit < len
Below-length count lit len below all = omega arith

pub IsReadable-latch : (count : ℕ) (values : List Bool) (word : LatchWord) → length values ≡ 2 * (1 + count) → IsLatchWord count word → IsReadable values word
IsReadable-latch count values word all is = record {
  some = omega (arith, is.count, is.first.some_bit);
  most = omega (arith, is.count, is.first.no_wider);
  nexts = λ k d h. Below-length count (get_or word.nexts k d) (length values) (is.nexts k d h) all;
}

-- the first words are bit vectors of their widths, and so are the next ones
pub first_words-AreBits : (count : ℕ) (latches : List LatchWord) → All (IsLatchWord count) latches → AreBits (first_words latches) (latch_widths latches)
first_words-AreBits count [] are = record { widths = refl; bits = λ k d h. absurd (omega arith) }
first_words-AreBits count (word ∷ latches) are =
    let rest = first_words-AreBits count latches (λ k d h. are (suc k) d (omega arith)) in
    record { widths = ap (λ (ws : List ℕ). word.first.width ∷ ws) rest.widths; bits = All-cons IsBits word.first (first_words latches) (are 0 word (omega arith)).first rest.bits }

pub next_words-AreBits : (count : ℕ) (latches : List LatchWord) (values : List Bool) → All (IsLatchWord count) latches → AreBits (next_words latches values) (latch_widths latches)
next_words-AreBits count [] values are = record { widths = refl; bits = λ k d h. absurd (omega arith) }
next_words-AreBits count (word ∷ latches) values are =
    let own = are 0 word (omega arith) in
    let xs : List Bool = map (lit_value values) word.nexts in
    let wide : length xs ≡ word.first.width = length-map word.nexts (lit_value values) ∙ own.count in
    let rest = next_words-AreBits count latches values (λ k d h. are (suc k) d (omega arith)) in
    record {
      widths = ap₂ (λ (w : ℕ) (ws : List ℕ). w ∷ ws) wide rest.widths;
      bits = All-cons IsBits (as_bits xs) (next_words latches values) (record { some_bit = omega (arith, own.first.some_bit); no_wider = omega (arith, own.first.no_wider); in_range = number-lt xs }) rest.bits;
    }

-- variable 0 stays false
pub take-first : (b : Bool) (before : List Bool) (gates : List Gate) → take 2 (both (values_after (b ∷ before) gates)) ≡ both (b ∷ [])
take-first b before [] = refl
take-first b before (gate ∷ gates) = take-first b (before ++ gate_value (b ∷ before) gate ∷ []) gates
