-- The literals of sources: those of inputs and then those of states, word after word. Contracts of private functions alone cite it.
use Rattle.std.specs.Prelude.{ℕ, zero, suc, ◌+◌, ◌*◌, List, [], ◌∷◌, ◌++◌}

-- the literals of the first so many sources after others
abbrev pub source_word : ℕ → ℕ → List ℕ
source_word start zero = []
source_word start (suc k) = source_word start k ++ (2 * (start + k) + 2) ∷ []

-- the words of sources of these widths after others
abbrev pub source_words : ℕ → List ℕ → List (List ℕ)
source_words start [] = []
source_words start (width ∷ widths) = source_word start width ∷ source_words (start + width) widths
