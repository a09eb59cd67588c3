-- Carriage returns at the ends of lines.
use Rattle.std.proofs.Common.{◌≡◌, ℕ, Bool, true, false, cond, eqb, List, [], ◌∷◌, ◌++◌, refl, ap, ◌∙◌}
use Rattle.std.proofs.lemmas.Bool.{eqb-true}
use Rattle.kw_base.specs.Texts.{is_return}
use Rattle.aiger_text.specs.Cuts.{before_bytes, without_returns}

-- a carriage return at the end is left out
pub without_returns-return : (front : List ℕ) → without_returns (front ++ 13 ∷ []) ≡ without_returns front
without_returns-return [] = refl
without_returns-return (b ∷ front) = ap (before_bytes b) (without_returns-return front)

-- another byte at the end stays
pub without_returns-other : (front : List ℕ) (b : ℕ) → is_return b ≡ false → without_returns (front ++ b ∷ []) ≡ front ++ b ∷ []
without_returns-other [] b other = ap (λ t. cond t [] (b ∷ [])) other
without_returns-other (x ∷ front) b other = ap (before_bytes x) (without_returns-other front b other) ∙ before front
  where
    before : (front : List ℕ) → before_bytes x (front ++ b ∷ []) ≡ x ∷ (front ++ b ∷ [])
    before [] = refl
    before (y ∷ front) = refl

pub not_return : (b : ℕ) → ¬ (b ≡ 13) → is_return b ≡ false
not_return b other = by (is_return b) refl
  where
    by : (t : Bool) → eqb b 13 ≡ t → t ≡ false
    by true same = absurd (other (eqb-true b 13 same))
    by false differs = refl
