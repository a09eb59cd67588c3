-- Words made of the literals of others, and words as bit vectors.
use Rattle.std.proofs.Common.{◌≡◌, ℕ, zero, suc, ◌+◌, ◌-◌, ◌*◌, ◌%◌, ◌^◌, eqb, ◌≤◌, min, Bool, true, false, not, ◌&&◌, List, [], ◌∷◌, ◌++◌, length, map, take, drop, replicate, refl, sym, ap, ap₂, subst, ◌∙◌, arith, inl, inr}
use Rattle.std.proofs.Math.Nat.{pow-suc}
use Rattle.std.proofs.lemmas.List.{map-append, length-map, length-append, length-take-le, length-drop, length-replicate, take-map, drop-map, take-append-le, drop_min, take-replicate}
use Rattle.std.proofs.lemmas.Bool.{cases_lt, cases_eq, eq-eqb, ne_eqb}
use Rattle.aig_blast.proofs.Making.{Makes-like}
use Rattle.kw_bits.specs.BitVector.{BitVector}
use Rattle.aig_blast.specs.BitLists.{as_bits}
use Rattle.aig_blast.specs.Steps.{gated, choose, sum_after}
use Rattle.aig_blast.specs.inner.Steps.{zeros, up, down}
use Rattle.aig_blast.proofs.Sums.{length-sum_after}
use Rattle.aig_blast.specs.Graphs.{value, negation, IsLit, Keeps, Makes}
use Rattle.aig_blast.specs.Graphs.{Gates}
use Rattle.aig_blast.proofs.Gates.{value-negation, value-false, value-true, IsLit-negation}
use Rattle.aig_blast.proofs.Values.{Keeps-refl, Keeps-trans}
use Rattle.std.proofs.lemmas.Bool.Decides.{nat_tests}
use Rattle.aig_blast.specs.Words.{word, AreLits, MakesWord, MakesBits}
use Rattle.aig_blast.specs.inner.Words.{stages}

-- ---- lists of literals that stand

pub AreLits-none : (g : Gates) → AreLits g []
AreLits-none g k d h = absurd (omega arith)

pub AreLits-cons : (g : Gates) (x : ℕ) (a : List ℕ) → IsLit g x → AreLits g a → AreLits g (x ∷ a)
AreLits-cons g x a is are zero d h = is
AreLits-cons g x a is are (suc k) d h = are k d (omega arith)

first : (g : Gates) (x : ℕ) (a : List ℕ) → AreLits g (x ∷ a) → IsLit g x
first g x a p = p 0 x (omega arith)

rest : (g : Gates) (x : ℕ) (a : List ℕ) → AreLits g (x ∷ a) → AreLits g a
rest g x a p k d h = p (suc k) d (omega arith)

pub AreLits-append : (g : Gates) (a b : List ℕ) → AreLits g a → AreLits g b → AreLits g (a ++ b)
AreLits-append g [] b p q = q
AreLits-append g (x ∷ a) b p q = AreLits-cons g x (a ++ b) (first g x a p) (AreLits-append g a b (rest g x a p) q)

pub AreLits-replicate : (g : Gates) (n lit : ℕ) → IsLit g lit → AreLits g (replicate n lit)
AreLits-replicate g zero lit is_lit = AreLits-none g
AreLits-replicate g (suc n) lit is_lit = AreLits-cons g lit (replicate n lit) is_lit (AreLits-replicate g n lit is_lit)

pub AreLits-take : (g : Gates) (n : ℕ) (a : List ℕ) → AreLits g a → AreLits g (take n a)
AreLits-take g zero a p = AreLits-none g
AreLits-take g (suc n) [] p = AreLits-none g
AreLits-take g (suc n) (x ∷ a) p = AreLits-cons g x (take n a) (first g x a p) (AreLits-take g n a (rest g x a p))

pub AreLits-drop : (g : Gates) (n : ℕ) (a : List ℕ) → AreLits g a → AreLits g (drop n a)
AreLits-drop g zero a p = p
AreLits-drop g (suc n) [] p = AreLits-none g
AreLits-drop g (suc n) (x ∷ a) p = AreLits-drop g n a (rest g x a p)

pub AreLits-negation : (g : Gates) (a : List ℕ) → AreLits g a → AreLits g (map negation a)
AreLits-negation g [] p = AreLits-none g
AreLits-negation g (x ∷ a) p = AreLits-cons g (negation x) (map negation a) (IsLit-negation g x (first g x a p)) (AreLits-negation g a (rest g x a p))

-- ---- their values

pub word-negation : (i : List Bool) (g : Gates) (a : List ℕ) → word i g (map negation a) ≡ map not (word i g a)
word-negation i g [] = refl
word-negation i g (x ∷ a) = ap₂ (λ b bs. b ∷ bs) (value-negation i g x) (word-negation i g a)

pub word-replicate : (i : List Bool) (g : Gates) (n lit : ℕ) (b : Bool) → value i g lit ≡ b → word i g (replicate n lit) ≡ replicate n b
word-replicate i g zero lit b e = refl
word-replicate i g (suc n) lit b e = ap₂ (λ x xs. x ∷ xs) e (word-replicate i g n lit b e)

-- ---- shifts by at most the width, and by more

take-zeros : (k m : ℕ) (xs : List Bool) → zeros k ++ take m xs ≡ take (k + m) (zeros k ++ xs)
take-zeros zero m xs = ap (λ n. take n xs) (omega arith)
take-zeros (suc k) m xs =
    let next : suc (k + m) ≡ suc k + m = omega arith in
    ap (λ zs. false ∷ zs) (take-zeros k m xs) ∙ ap (λ n. take n (false ∷ (zeros k ++ xs))) next

up-within : (k : ℕ) (xs : List Bool) → k ≤ length xs → zeros k ++ take (length xs - k) xs ≡ up k xs
up-within k xs h =
    let all : k + (length xs - k) ≡ length xs = omega arith in
    take-zeros k (length xs - k) xs ∙ ap (λ n. take n (zeros k ++ xs)) all

up-past : (k : ℕ) (xs : List Bool) → length xs ≤ k → up k xs ≡ zeros (length xs)
up-past k xs h =
    take-append-le (length xs) (zeros k) xs (omega (arith, length-replicate k false)) ∙ take-replicate (length xs) k false h

pub up-min : (k : ℕ) (xs : List Bool) → up (min k (length xs)) xs ≡ up k xs
up-min k xs =
    elim (cases_lt k (length xs)) [
      | inl low ↦ let same : min k (length xs) ≡ k = omega arith in ap (λ n. up n xs) same
      | inr past ↦
          let same : min k (length xs) ≡ length xs = omega arith in
          ap (λ n. up n xs) same ∙ up-past (length xs) xs (omega arith) ∙ sym (up-past k xs past)
    ]

pub down-min : (fill : Bool) (k : ℕ) (xs : List Bool) → down fill (min k (length xs)) xs ≡ down fill k xs
down-min fill k xs =
    let same : min (min k (length xs)) (length xs) ≡ min k (length xs) = omega arith in
    ap₂ (λ a n. a ++ replicate n fill) (drop_min k xs) same

-- twice a power of 2, up to the width
pub twice-min : (k w n : ℕ) → n ≡ min (2 ^ k) w → min (n + n) w ≡ min (2 ^ (k + 1)) w
twice-min k w n is =
    let next : 2 ^ (k + 1) ≡ 2 ^ k * 2 = ap (λ j. 2 ^ j) (omega arith) ∙ pow-suc 2 k in
    omega arith

pub MakesWord-invert : {old new : Gates} {lits inverse : List ℕ} {f : List Bool → List Bool} → inverse ≡ map negation lits → MakesWord old new lits f → MakesWord old new inverse (λ i. map not (f i))
MakesWord-invert {old} {new} {lits} {inverse} is m = record {
  keeps = m.keeps;
  are_lits = rw is (AreLits-negation new lits m.are_lits);
  has_value = λ i. ap (word i new) is ∙ word-negation i new lits ∙ ap (map not) (m.has_value i);
}

pub MakesWord-zeros : (g : Gates) (n : ℕ) {lits : List ℕ} → lits ≡ replicate n 0 → MakesWord g g lits (λ i. zeros n)
MakesWord-zeros g n is = record {
  keeps = Keeps-refl g;
  are_lits = rw is (AreLits-replicate g n 0 (omega arith));
  has_value = λ i. ap (word i g) is ∙ word-replicate i g n 0 false (value-false i g);
}

-- a word's width is that of its values
pub MakesWord-width : {old new : Gates} {lits : List ℕ} {f : List Bool → List Bool} (i : List Bool) → MakesWord old new lits f → length (f i) ≡ length lits
MakesWord-width {old} {new} {lits} i m = sym (ap length (m.has_value i)) ∙ length-map lits (value i new)

pub MakesWord-up : {old new : Gates} {lits made : List ℕ} {f : List Bool → List Bool} (k : ℕ) → k ≤ length lits → made ≡ replicate k 0 ++ take (length lits - k) lits → MakesWord old new lits f → MakesWord old new made (λ i. up k (f i))
MakesWord-up {old} {new} {lits} {made} k within is m = record {
  keeps = m.keeps;
  are_lits = rw is (AreLits-append new (replicate k 0) (take (length lits - k) lits) (AreLits-replicate new k 0 (omega arith)) (AreLits-take new (length lits - k) lits m.are_lits));
  has_value = λ i.
      let wide = length-map lits (value i new) in
      ap (word i new) is ∙ map-append (value i new) (replicate k 0) (take (length lits - k) lits)
      ∙ ap₂ (λ a b. a ++ b) (word-replicate i new k 0 false (value-false i new)) (sym (take-map (value i new) (length lits - k) lits) ∙ ap (λ w. take (w - k) (word i new lits)) (sym wide))
      ∙ up-within k (word i new lits) (rw wide within) ∙ ap (up k) (m.has_value i);
}

pub MakesWord-down : {old new : Gates} {lits made : List ℕ} {fill : ℕ} {f : List Bool → List Bool} {b : List Bool → Bool} (k : ℕ) → k ≤ length lits → made ≡ drop k lits ++ replicate k fill → Makes old new fill b → MakesWord old new lits f → MakesWord old new made (λ i. down (b i) k (f i))
MakesWord-down {old} {new} {lits} {made} {fill} {f} {b} k within is bit m = record {
  keeps = m.keeps;
  are_lits = rw is (AreLits-append new (drop k lits) (replicate k fill) (AreLits-drop new k lits m.are_lits) (AreLits-replicate new k fill bit.is_lit));
  has_value = λ i.
      let wide = length-map lits (value i new) in
      let all : k ≡ min k (length (word i new lits)) = rw wide (omega arith) in
      ap (word i new) is ∙ map-append (value i new) (drop k lits) (replicate k fill)
      ∙ ap₂ (λ a c. a ++ c) (sym (drop-map (value i new) k lits)) (word-replicate i new k fill (b i) (bit.has_value i) ∙ ap (λ n. replicate n (b i)) all)
      ∙ ap (down (b i) k) (m.has_value i);
}

-- a function of a literal's and two words' values
pub MakesWord-by : {old mid new : Gates} {c : ℕ} {p q lits : List ℕ} {b : List Bool → Bool} {f g : List Bool → List Bool} (op : Bool → List Bool → List Bool → List Bool) → Makes old mid c b → MakesWord old mid p f → MakesWord old mid q g → MakesWord mid new lits (λ i. op (value i mid c) (word i mid p) (word i mid q)) → MakesWord old new lits (λ i. op (b i) (f i) (g i))
MakesWord-by {old} {mid} {new} {p = p} {q = q} {b = b} op bit x y m = record {
  keeps = Keeps-trans old mid new x.keeps m.keeps;
  are_lits = m.are_lits;
  has_value = λ i. m.has_value i ∙ ap (λ c. op c (word i mid p) (word i mid q)) (bit.has_value i) ∙ ap₂ (op (b i)) (x.has_value i) (y.has_value i);
}

pub Makes-false : {old new : Gates} → Keeps old new → Makes old new 0 (λ i. false)
Makes-false {old} {new} keeps = record { keeps = keeps; is_lit = omega arith; has_value = λ i. value-false i new }

pub Makes-true : {old new : Gates} → Keeps old new → Makes old new 1 (λ i. true)
Makes-true {old} {new} keeps = record { keeps = keeps; is_lit = omega arith; has_value = λ i. value-true i new }

-- the same literals, otherwise written
pub MakesWord-at : {old new : Gates} {lits same : List ℕ} {f : List Bool → List Bool} → same ≡ lits → MakesWord old new lits f → MakesWord old new same f
MakesWord-at {old} {new} {lits} {same} {f} is m = subst (λ ls. MakesWord old new ls f) (sym is) m

-- a literal that is a function of a literal's and two words' values
pub Makes-by_words : {old mid new : Gates} {c lit : ℕ} {p q : List ℕ} {b : List Bool → Bool} {f g : List Bool → List Bool} (op : Bool → List Bool → List Bool → Bool) → Makes old mid c b → MakesWord old mid p f → MakesWord old mid q g → Makes mid new lit (λ i. op (value i mid c) (word i mid p) (word i mid q)) → Makes old new lit (λ i. op (b i) (f i) (g i))
Makes-by_words {old} {mid} {new} {p = p} {q = q} {b = b} op bit x y m = record {
  keeps = Keeps-trans old mid new x.keeps m.keeps;
  is_lit = m.is_lit;
  has_value = λ i. m.has_value i ∙ ap (λ c. op c (word i mid p) (word i mid q)) (bit.has_value i) ∙ ap₂ (op (b i)) (x.has_value i) (y.has_value i);
}

-- what a few functions make is as wide as it should be
pub up-width : (a made : List ℕ) (k fill : ℕ) → k ≤ length a → made ≡ replicate k fill ++ take (length a - k) a → length made ≡ length a
up-width a made k fill within is =
    ap length is ∙ length-append (replicate k fill) (take (length a - k) a) ∙ omega (arith, length-replicate k fill, length-take-le (length a - k) a (omega arith))

pub down-width : (a made : List ℕ) (k fill : ℕ) → k ≤ length a → made ≡ drop k a ++ replicate k fill → length made ≡ length a
down-width a made k fill within is = ap length is ∙ length-append (drop k a) (replicate k fill) ∙ omega (arith, length-drop k a, length-replicate k fill)

pub gated-width : {old new : Gates} {made : List ℕ} (c : ℕ) (lits : List ℕ) → MakesWord old new made (λ i. gated (value i old c) (word i old lits)) → length made ≡ length lits
gated-width {old} c lits m =
    sym (MakesWord-width [] m) ∙ length-map (word [] old lits) (λ x. x && value [] old c) ∙ length-map lits (value [] old)

pub sum-width : {old new : Gates} {made : List ℕ} (n : ℕ) (c : List Bool → Bool) (f g : List Bool → List Bool) → MakesWord old new made (λ i. sum_after (c i) (f i) (g i) n) → length made ≡ n
sum-width n c f g m = sym (MakesWord-width [] m) ∙ length-sum_after (c []) (f []) (g []) n

either-width : (b : Bool) (xs ys : List Bool) → length xs ≡ length ys → length (choose b xs ys) ≡ length ys
either-width true xs ys e = e
either-width false xs ys e = refl

pub choose-width : {old new : Gates} {made : List ℕ} (c : ℕ) (p q : List ℕ) → length p ≡ length q → MakesWord old new made (λ i. choose (value i old c) (word i old p) (word i old q)) → length made ≡ length q
choose-width {old} c p q same m =
    sym (MakesWord-width [] m) ∙ either-width (value [] old c) (word [] old p) (word [] old q) (length-map p (value [] old) ∙ same ∙ sym (length-map q (value [] old))) ∙ length-map q (value [] old)

-- ---- bit vectors

pub MakesBits-from : {old new : Gates} {lits : List ℕ} {f : List Bool → List Bool} (g : List Bool → BitVector) → ((i : List Bool) → as_bits (f i) ≡ g i) → MakesWord old new lits f → MakesBits old new lits g
MakesBits-from g same m = record { keeps = m.keeps; are_lits = m.are_lits; has_bits = λ i. ap as_bits (m.has_value i) ∙ same i }

pub MakesBits-flag : {old new : Gates} {lit : ℕ} {f : List Bool → Bool} (g : List Bool → BitVector) → ((i : List Bool) → as_bits (f i ∷ []) ≡ g i) → Makes old new lit f → MakesBits old new (lit ∷ []) g
MakesBits-flag {old} {new} {lit} g same m = record { keeps = m.keeps; are_lits = AreLits-replicate new 1 lit m.is_lit; has_bits = λ i. ap (λ b. as_bits (b ∷ [])) (m.has_value i) ∙ same i }

-- ---- words side by side

pub MakesWord-append : {old new : Gates} {low high made : List ℕ} {f g : List Bool → List Bool} → made ≡ low ++ high → MakesWord old new low f → MakesWord old new high g → MakesWord old new made (λ i. f i ++ g i)
MakesWord-append {old} {new} {low} {high} is x y = record {
  keeps = x.keeps;
  are_lits = rw is (AreLits-append new low high x.are_lits y.are_lits);
  has_value = λ i. ap (word i new) is ∙ map-append (value i new) low high ∙ ap₂ (λ a b. a ++ b) (x.has_value i) (y.has_value i);
}

pub MakesWord-replicate : {old new : Gates} {lit : ℕ} {made : List ℕ} {b : List Bool → Bool} (n : ℕ) → made ≡ replicate n lit → Makes old new lit b → MakesWord old new made (λ i. replicate n (b i))
MakesWord-replicate {old} {new} {lit} {b = b} n is bit = record {
  keeps = bit.keeps;
  are_lits = rw is (AreLits-replicate new n lit bit.is_lit);
  has_value = λ i. ap (word i new) is ∙ word-replicate i new n lit (b i) (bit.has_value i);
}

pub MakesWord-slice : {old new : Gates} {lits made : List ℕ} {f : List Bool → List Bool} (n k : ℕ) → made ≡ take n (drop k lits) → MakesWord old new lits f → MakesWord old new made (λ i. take n (drop k (f i)))
MakesWord-slice {old} {new} {lits} n k is m = record {
  keeps = m.keeps;
  are_lits = rw is (AreLits-take new n (drop k lits) (AreLits-drop new k lits m.are_lits));
  has_value = λ i. ap (word i new) is ∙ sym (take-map (value i new) n (drop k lits)) ∙ ap (take n) (sym (drop-map (value i new) k lits) ∙ ap (drop k) (m.has_value i));
}

-- a literal that is a constant
pub Makes-digit : (g : Gates) (lit n : ℕ) → lit ≡ n % 2 → Makes g g lit (λ i. eqb (n % 2) 1)
Makes-digit g lit n is =
    elim (cases_eq (n % 2) 1) [
      | inl one ↦ subst (λ l. Makes g g l (λ i. eqb (n % 2) 1)) (sym (is ∙ one)) (Makes-like (λ i. eqb (n % 2) 1) (λ i. sym (eq-eqb (n % 2) 1 one)) (Makes-true (Keeps-refl g)))
      | inr other ↦
          let none : n % 2 ≡ 0 = omega arith in
          subst (λ l. Makes g g l (λ i. eqb (n % 2) 1)) (sym (is ∙ none)) (Makes-like (λ i. eqb (n % 2) 1) (λ i. sym (ne_eqb (n % 2) 1 other)) (Makes-false (Keeps-refl g)))
    ]

-- the stages are enough
pub stages-enough : (w : ℕ) → w ≤ 128 → w ≤ 2 ^ stages w
stages-enough w most = grind (arith, nat_tests)

pub MakesWord-drop : {old new : Gates} {lits made : List ℕ} {f : List Bool → List Bool} (k : ℕ) → made ≡ drop k lits → MakesWord old new lits f → MakesWord old new made (λ i. drop k (f i))
MakesWord-drop {old} {new} {lits} k is m = record {
  keeps = m.keeps;
  are_lits = rw is (AreLits-drop new k lits m.are_lits);
  has_value = λ i. ap (word i new) is ∙ sym (drop-map (value i new) k lits) ∙ ap (drop k) (m.has_value i);
}
