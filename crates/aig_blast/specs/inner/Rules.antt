-- What a rule on two literals may rest on: values of literals, and the and that a variable is.
use Rattle.std.specs.Prelude.{◌≡◌, ℕ, ◌%◌, Bool, false, not, ◌&&◌, nat_eq}
use Rattle.aig_blast.specs.BitLists.{xor, choice}
use Rattle.aig_blast.specs.Graphs.{negation, Below}
use Rattle.aig_blast.specs.declared.rules.Choice.{Choice}
use Rattle.aig_blast.specs.declared.rules.Known.{Known}

-- values of literals: 0 is false, and a negation has the other value
pub record AreValues (v : ℕ → Bool) : Type 0 where
  pub at_zero : v 0 ≡ false
  pub opposite : (lit : ℕ) → v (negation lit) ≡ not (v lit)

-- a literal and the literals whose and its variable is, all of the first variables
pub record IsKnown (count : ℕ) (v : ℕ → Bool) (k : Known) : Type 0 where
  pub lit : Below count k.lit
  pub left : Below count k.left
  pub right : Below count k.right
  pub value : v k.lit ≡ xor (nat_eq (k.lit % 2) 1) (v k.left && v k.right)

-- two literals with the and of two others
pub record IsAndOf (count : ℕ) (v : ℕ → Bool) (a b : ℕ) (x y : ℕ) : Type 0 where
  pub first : Below count x
  pub second : Below count y
  pub same : (v x && v y) ≡ (v a && v b)

-- a literal that has the value of a choice, all of the first variables
pub record IsChoiceOf (count : ℕ) (v : ℕ → Bool) (lit : ℕ) (m : Choice) : Type 0 where
  pub stands : Below count lit
  pub condition : Below count m.condition
  pub first : Below count m.first
  pub second : Below count m.second
  pub value : v lit ≡ choice (v m.condition) (v m.first) (v m.second)
