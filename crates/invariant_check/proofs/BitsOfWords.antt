-- The bits of words: those of a number are what it was made of, and the bits of the next words are the values of their
-- literals.
use Rattle.std.proofs.Common.{◌≡◌, ℕ, zero, suc, ◌+◌, ◌*◌, ◌/◌, ◌%◌, ◌^◌, ◌<◌, ◌≤◌, Bool, true, false, eqb, List, [], ◌∷◌, ◌++◌, map, length, take, drop, get_or, refl, sym, ap, ap₂, ◌∙◌, arith}
use Rattle.std.proofs.lemmas.List.{drop_more, map-append, take_all, take_more}
use Rattle.aig_blast.specs.AigRun.{bits_of, next_words}
use Rattle.aig_blast.specs.BitLists.{bit, number}
use Rattle.aig_blast.specs.Graphs.{lit_value}
use Rattle.aig_blast.specs.Steps.{digits}
use Rattle.aig_blast.specs.declared.aig.LatchWord.{LatchWord}
use Rattle.aig_blast.proofs.Numbers.{bit-lt, number-drop}
use Rattle.invariant_check.specs.Obligations.{next_lits}

bit_test : (x : Bool) → eqb (bit x) 1 ≡ x
bit_test true = refl
bit_test false = refl

-- a bit of a number is the one at its place
digit-at : (xs : List Bool) (k : ℕ) → k < length xs → eqb (number xs / 2 ^ k % 2) 1 ≡ get_or xs k false
digit-at xs k within =
    let x : Bool = get_or xs k false in
    let rest : List Bool = drop (k + 1) xs in
    let split : number (drop k xs) ≡ bit x + 2 * number rest = ap number (drop_more xs k false within) in
    let low : number xs / 2 ^ k % 2 ≡ bit x = omega (arith, number-drop k xs, split, bit-lt x) in
    ap (λ n. eqb n 1) low ∙ bit_test x

digits-take : (xs : List Bool) (k : ℕ) → k ≤ length xs → digits (number xs) k ≡ take k xs
digits-take xs zero within = refl
digits-take xs (suc k) within =
    let next : k + 1 ≡ suc k = omega arith in
    ap₂ (λ (front : List Bool) (x : Bool). front
    ++ x ∷ []) (digits-take xs k (omega (arith, within))) (digit-at xs k (omega (arith, within)))
    ∙ sym (take_more xs k false (omega (arith, within))) ∙ ap (λ n. take n xs) next

pub digits-number : (xs : List Bool) → digits (number xs) (length xs) ≡ xs
digits-number xs = digits-take xs (length xs) (omega arith) ∙ take_all (length xs) xs (omega arith)

-- the bits of words after a step
pub bits_of-next : (latches : List LatchWord) (values : List Bool) → bits_of (next_words latches values)
    ≡ map (lit_value values) (next_lits latches)
bits_of-next [] values = refl
bits_of-next (word ∷ latches) values =
    ap₂ (λ (own rest : List Bool). own
    ++ rest) (digits-number (map (lit_value values) word.nexts)) (bits_of-next latches values)
    ∙ sym (map-append (lit_value values) word.nexts (next_lits latches))
