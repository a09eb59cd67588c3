-- Machines that run step by step: what they are after some steps, and the rows of a run. A step takes a machine and the
-- inputs of its cycle to the machine after it.
use Rattle.std.specs.Prelude.{◌≡◌, ◌≤◌, ℕ, zero, suc, ◌+◌, List, [], ◌∷◌}
use Rattle.kw_bits.specs.BitVector.{BitVector}
use Rattle.one_rule.specs.Run.{InputsByCycle}
use Rattle.one_rule.specs.declared.rows.Row.{Row}

-- after that many steps more, after the last cycle so far
abbrev pub after_steps : {M : Type 0} → (M → List BitVector → M) → InputsByCycle → (count last : ℕ) → M → M
after_steps step inputs zero last m = m
after_steps step inputs (suc count) last m = after_steps step inputs count (last + 1) (step m (inputs (last + 1)))

-- some of that many steps were made, from the first on
abbrev pub MadeSome : {M : Type 0} → (M → List BitVector → M) → InputsByCycle → (count last : ℕ) → M → M → Type 0
MadeSome step inputs count last old new = (made : ℕ) × (made ≤ count) × (new ≡ after_steps step inputs made last old)

-- the rows of the moments after each of that many steps more
abbrev pub rows_after : {M : Type 0} → (M → List BitVector → M) → (M → Row) → InputsByCycle → (count last : ℕ) → M → List Row
rows_after step row_at inputs zero last m = []
rows_after step row_at inputs (suc count) last m =
    row_at (step m (inputs (last + 1))) ∷ rows_after step row_at inputs count (last + 1) (step m (inputs (last + 1)))
