-- The values that rules on two literals rest on.
use Rattle.std.proofs.Common.{◌≡◌, ℕ, ◌+◌, ◌*◌, ◌/◌, ◌%◌, ◌<◌, Bool, true, false, not, ◌&&◌, eqb, List, length, refl, sym, ap, ◌∙◌, arith}
use Rattle.std.specs.Prelude.{Some, slice_get}
use Rattle.std.proofs.lemmas.Option.{slice_get_within}
use Rattle.aig_blast.specs.Graphs.{Gates, IsGraph, IsLit, Stands, value, variables, choice, xor}
use Rattle.aig_blast.specs.declared.gate.Gate.{Gate}
use Rattle.aig_blast.specs.inner.Rules.{AreValues, IsKnown}
use Rattle.aig_blast.specs.declared.rules.Known.{Known}
use Rattle.aig_blast.proofs.Gates.{and-same, value-false, value-negation}
use Rattle.aig_blast.proofs.Values.{value-at, value-variable}

-- the values of a graph's literals
pub graph-values : (i : List Bool) (g : Gates) → AreValues (value i g)
graph-values i g = record { at_zero = value-false i g; opposite = value-negation i g }

-- a literal has the value of its variable or the other one
pub value-signed : (i : List Bool) (g : Gates) (lit : ℕ) → value i g lit ≡ xor (eqb (lit % 2) 1) (value i g (2 * (lit / 2)))
unfolding value
value-signed i g lit = ap (λ b. xor (eqb (lit % 2) 1) b) (sym (value-variable i g (lit / 2)))

-- what is known of a source, and of a gate
pub known-source : (i : List Bool) (g : Gates) (lit positive : ℕ) → IsLit g lit → positive ≡ 2 * (lit / 2) → IsKnown (variables g) (value i g) (record { lit = lit; left = positive; right = positive })
known-source i g lit positive is_lit is = record {
  lit = is_lit;
  left = omega arith;
  right = omega arith;
  value = value-signed i g lit ∙ ap (λ b. xor (eqb (lit % 2) 1) b) (ap (value i g) (sym is) ∙ and-same (value i g positive));
}

pub known-gate : (i : List Bool) (g : Gates) (lit k : ℕ) (gate : Gate) → IsGraph g → IsLit g lit → lit / 2 ≡ g.sources + k + 1 → slice_get g.gates k ≡ Some gate
    → IsKnown (variables g) (value i g) (record { lit = lit; left = gate.left; right = gate.right })
unfolding value
known-gate i g lit k gate graph is_lit place at =
    let stands : Stands (g.sources + k) gate = graph.stand k gate at in
    let within : k < length g.gates = slice_get_within g.gates k gate at in
    record {
      lit = is_lit;
      left = omega (arith, stands.left);
      right = omega (arith, stands.right);
      value = value-signed i g lit ∙ ap (λ b. xor (eqb (lit % 2) 1) b) (ap (λ n. value i g (2 * n)) place ∙ value-at i g k gate graph at);
    }

-- a positive literal has the and's value, a negative one the other
pub even-value : (count : ℕ) (v : ℕ → Bool) (k : Known) → IsKnown count v k → k.lit % 2 ≡ 0 → v k.lit ≡ (v k.left && v k.right)
even-value count v k is even = rw even at is.value

pub odd-value : (count : ℕ) (v : ℕ → Bool) (k : Known) → IsKnown count v k → k.lit % 2 ≡ 1 → v k.lit ≡ not (v k.left && v k.right)
odd-value count v k is odd = rw odd at is.value

-- ---- truth values

pub less-of : (x y s : Bool) → (x && y) ≡ (x && s) → (x && not s) ≡ (x && not y)
less-of true y s h = ap not (sym h)
less-of false y s h = refl

pub less-of-second : (y z s : Bool) → ((y && y) && z) ≡ ((y && y) && s) → (y && not s) ≡ (not z && y)
less-of-second true true s h = ap not (sym h)
less-of-second true false s h = ap not (sym h)
less-of-second false true s h = refl
less-of-second false false s h = refl

pub and-of-same : (s x y : Bool) → (x && y) ≡ s → (s && s) ≡ (x && y)
and-of-same true x y h = sym h
and-of-same false x y h = sym h

-- a choice of two choices that share their second
pub choice-of-choices : (c d x e p w : Bool) → choice (choice c d e) (choice c x p) w ≡ choice c (choice d x w) (choice e p w)
choice-of-choices true d x e p w = refl
choice-of-choices false d x e p w = refl

pub choice-under : (c a b x y : Bool) → (c ≡ true → x ≡ a) → (not c ≡ true → y ≡ b) → choice c x y ≡ choice c a b
choice-under true a b x y h k = h refl
choice-under false a b x y h k = k refl

pub choice-same : (c x : Bool) → x ≡ choice c x x
choice-same true x = refl
choice-same false x = refl

pub choice-opposite : (c y : Bool) → xor c y ≡ choice c (not y) y
choice-opposite true y = refl
choice-opposite false y = refl

pub choice-not : (c x y : Bool) → not (choice c x y) ≡ choice c (not x) (not y)
choice-not true x y = refl
choice-not false x y = refl

pub not-not : (x : Bool) → not (not x) ≡ x
not-not true = refl
not-not false = refl
