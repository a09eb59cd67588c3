-- What gates over gates make.
use Rattle.std.proofs.Common.{◌≡◌, ℕ, ◌+◌, ◌-◌, ◌/◌, ◌%◌, ◌≤◌, Bool, true, false, not, ◌&&◌, ◌||◌, eqb, List, ◌∷◌, get_or, refl, ap, ap₂, ◌∙◌, inl, inr, arith}
use Rattle.std.proofs.lemmas.Bool.{cases_eq, eq-eqb, ne_eqb}
use Rattle.aig_blast.specs.Graphs.{xor, fitted, variables, variables_of, value, negation, choice, IsLit, Keeps, Makes}
use Rattle.aig_blast.specs.Graphs.{Gates}
use Rattle.aig_blast.proofs.Growing.{get_or-values_after}
use Rattle.aig_blast.proofs.Values.{Keeps-trans}

-- ---- literals

pub negation-half : (lit : ℕ) → negation lit / 2 ≡ lit / 2
unfolding negation
negation-half lit =
    elim (cases_eq (lit % 2) 1) [
      | inl odd ↦ rw (eq-eqb (lit % 2) 1 odd) (omega arith)
      | inr even ↦ rw (ne_eqb (lit % 2) 1 even) (omega arith)
    ]

negation-odd : (lit : ℕ) → eqb (negation lit % 2) 1 ≡ not (eqb (lit % 2) 1)
unfolding negation
negation-odd lit =
    elim (cases_eq (lit % 2) 1) [
      | inl odd ↦
          let zero : (lit - 1) % 2 ≡ 0 = omega arith in
          rw (eq-eqb (lit % 2) 1 odd, zero)
      | inr even ↦
          let one : (lit + 1) % 2 ≡ 1 = omega arith in
          rw (ne_eqb (lit % 2) 1 even, one)
    ]

pub IsLit-negation : (g : Gates) (lit : ℕ) → IsLit g lit → IsLit g (negation lit)
IsLit-negation g lit is_lit = omega (arith, negation-half lit)

xor-not : (x y : Bool) → xor (not x) y ≡ not (xor x y)
xor-not false y = refl
xor-not true false = refl
xor-not true true = refl

pub value-negation : (inputs : List Bool) (g : Gates) (lit : ℕ) → value inputs g (negation lit) ≡ not (value inputs g lit)
unfolding value
value-negation inputs g lit =
    ap₂ (λ odd v. xor odd (get_or (variables_of inputs g) v false)) (negation-odd lit) (negation-half lit) ∙ xor-not (eqb (lit % 2) 1) (get_or (variables_of inputs g) (lit / 2) false)

pub value-false : (inputs : List Bool) (g : Gates) → value inputs g 0 ≡ false
unfolding value
value-false inputs g = get_or-values_after (false ∷ fitted g.sources inputs) g.gates 0 (omega arith)

pub value-true : (inputs : List Bool) (g : Gates) → value inputs g 1 ≡ true
unfolding value
value-true inputs g = ap not (get_or-values_after (false ∷ fitted g.sources inputs) g.gates 0 (omega arith))

-- ---- one gate after another, each literal with its value over the inputs

pub Makes-as : {old new : Gates} {lit : ℕ} {f : List Bool → Bool} (g : List Bool → Bool) → ((i : List Bool) → f i ≡ g i) → Makes old new lit f → Makes old new lit g
Makes-as g same m = record { keeps = m.keeps; is_lit = m.is_lit; has_value = λ i. m.has_value i ∙ same i }

-- a literal that stood before
pub Makes-given : {old new : Gates} (lit : ℕ) → Keeps old new → IsLit old lit → Makes old new lit (λ i. value i old lit)
Makes-given {old} {new} lit keeps is_lit = record { keeps = keeps; is_lit = let longer : variables old ≤ variables new = keeps.longer in omega arith; has_value = λ i. keeps.values i lit is_lit }

pub Makes-kept : {old mid new : Gates} {lit : ℕ} {f : List Bool → Bool} → Makes old mid lit f → Keeps mid new → Makes old new lit f
Makes-kept {old} {mid} {new} {lit} m keeps = record {
  keeps = Keeps-trans old mid new m.keeps keeps;
  is_lit = omega (arith, m.is_lit, keeps.longer);
  has_value = λ i. keeps.values i lit m.is_lit ∙ m.has_value i;
}

pub Makes-not : {old new : Gates} {lit opposite : ℕ} {f : List Bool → Bool} → opposite ≡ negation lit → Makes old new lit f → Makes old new opposite (λ i. not (f i))
Makes-not {old} {new} {lit} {opposite} is m = record {
  keeps = m.keeps;
  is_lit = rw is (IsLit-negation new lit m.is_lit);
  has_value = λ i. ap (value i new) is ∙ value-negation i new lit ∙ ap not (m.has_value i);
}

-- a function of two literals' values
pub Makes-by : {old mid new : Gates} {a b lit : ℕ} {f g : List Bool → Bool} (op : Bool → Bool → Bool) → Makes old mid a f → Makes old mid b g → Makes mid new lit (λ i. op (value i mid a) (value i mid b)) → Makes old new lit (λ i. op (f i) (g i))
Makes-by {old} {mid} {new} op p q m = record {
  keeps = Keeps-trans old mid new p.keeps m.keeps;
  is_lit = m.is_lit;
  has_value = λ i. m.has_value i ∙ ap₂ op (p.has_value i) (q.has_value i);
}

-- ---- truth values

pub and-comm : (x y : Bool) → (x && y) ≡ (y && x)
and-comm false false = refl
and-comm false true = refl
and-comm true false = refl
and-comm true true = refl

pub and-same : (x : Bool) → x ≡ (x && x)
and-same false = refl
and-same true = refl

pub and-opposite : (x : Bool) → false ≡ (not x && x)
and-opposite false = refl
and-opposite true = refl

pub or-by_and : (x y : Bool) → not (not x && not y) ≡ (x || y)
or-by_and false false = refl
or-by_and false true = refl
or-by_and true false = refl
or-by_and true true = refl

pub xor-by_and : (x y : Bool) → (not (x && y) && not (not x && not y)) ≡ xor x y
xor-by_and false false = refl
xor-by_and false true = refl
xor-by_and true false = refl
xor-by_and true true = refl

pub choice-by_or : (c x y : Bool) → ((c && x) || (not c && y)) ≡ choice c x y
choice-by_or false false false = refl
choice-by_or false false true = refl
choice-by_or false true false = refl
choice-by_or false true true = refl
choice-by_or true false false = refl
choice-by_or true false true = refl
choice-by_or true true false = refl
choice-by_or true true true = refl
