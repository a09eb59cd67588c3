-- The rows of a run, one after another.
use Rattle.std.proofs.Common.{◌≡◌, ℕ, zero, suc, ◌+◌, ◌-◌, ◌<◌, ◌≤◌, List, [], ◌∷◌, ◌++◌, refl, sym, ap, ap₂, ◌∙◌, arith, append_assoc, append-nil}
use Rattle.kw_bits.specs.BitVector.{BitVector}
use Rattle.one_rule.specs.Run.{InputsByCycle}
use Rattle.one_rule.specs.declared.rows.Row.{Row}
use Rattle.circuit_eval.specs.Machines as machines
use Rattle.circuit_eval.specs.Run.{rows_after}
use Rattle.circuit_eval.specs.Simulations.{Simulation, after_step, row_at}

module _ {M : Type 0} (step : M → List BitVector → M) (inputs : InputsByCycle) where
  -- the next row goes to the rows so far
  pub rows-turn : (row_at : M → Row) (n last : ℕ) (now next : M) (rows more all : List Row) → last < n → next ≡ step now (inputs (last + 1)) → more ≡ rows ++ row_at next ∷ []
      → rows ++ machines.rows_after step row_at inputs (n - last) last now ≡ all → more ++ machines.rows_after step row_at inputs (n - (last + 1)) (last + 1) next ≡ all
  rows-turn row_at n last now next rows more all before one put are =
      let count : suc (n - (last + 1)) ≡ n - last = omega arith in
      ap (λ (xs : List Row). xs ++ machines.rows_after step row_at inputs (n - (last + 1)) (last + 1) next) put
      ∙ append_assoc rows (row_at next ∷ []) (machines.rows_after step row_at inputs (n - (last + 1)) (last + 1) next)
      ∙ ap (λ (m : M). rows ++ row_at m ∷ machines.rows_after step row_at inputs (n - (last + 1)) (last + 1) m) one
      ∙ ap (λ (k : ℕ). rows ++ machines.rows_after step row_at inputs k last now) count ∙ are

  -- no row comes after the last cycle
  pub rows-end : (row_at : M → Row) (n last : ℕ) (m : M) (rows : List Row) → n ≤ last → rows ++ machines.rows_after step row_at inputs (n - last) last m ≡ rows
  rows-end row_at n last m rows over =
      let count : n - last ≡ 0 = omega arith in
      ap (λ (k : ℕ). rows ++ machines.rows_after step row_at inputs k last m) count ∙ append-nil rows

  -- the row of a step more comes after all the others
  pub rows-more : (row_at : M → Row) (count last : ℕ) (m : M)
      → machines.rows_after step row_at inputs (suc count) last m ≡ machines.rows_after step row_at inputs count last m ++ row_at (machines.after_steps step inputs (suc count) last m) ∷ []
  rows-more row_at zero last m = refl
  rows-more row_at (suc count) last m =
      let next : M = step m (inputs (last + 1)) in
      ap (λ (rows : List Row). row_at next ∷ rows) (rows-more row_at count (last + 1) next)

  -- a step more is made after all the others
  steps-more : (count last : ℕ) (m : M)
      → machines.after_steps step inputs (suc count) last m ≡ step (machines.after_steps step inputs count last m) (inputs (last + count + 1))
  steps-more zero last m = ap (λ (k : ℕ). step m (inputs k)) (omega arith)
  steps-more (suc count) last m =
      let first : M = step m (inputs (last + 1)) in
      let next : last + 1 + count + 1 ≡ last + suc count + 1 = omega arith in
      steps-more count (last + 1) first ∙ ap (λ (k : ℕ). step (machines.after_steps step inputs count (last + 1) first) (inputs k)) next

  -- the steps up to a cycle, and the one after it
  pub steps-turn : (from last : ℕ) (old now next : M) → from ≤ last → now ≡ machines.after_steps step inputs (last - from) from old
      → next ≡ step now (inputs (last + 1)) → next ≡ machines.after_steps step inputs (last + 1 - from) from old
  steps-turn from last old now next since made one =
      let cycle : last + 1 ≡ from + (last - from) + 1 = omega arith in
      let count : suc (last - from) ≡ last + 1 - from = omega arith in
      one ∙ ap₂ (λ (m : M) (k : ℕ). step m (inputs k)) made cycle
      ∙ sym (steps-more (last - from) from old) ∙ ap (λ (k : ℕ). machines.after_steps step inputs k from old) count

-- the rows of a circuit after some steps
pub rows-are : (inputs : InputsByCycle) (count last : ℕ) (s : Simulation)
    → machines.rows_after after_step row_at inputs count last s ≡ rows_after s.circuit inputs count last s.states
unfolding rows_after
rows-are inputs zero last s = refl
rows-are inputs (suc count) last s =
    let next : Simulation = after_step s (inputs (last + 1)) in
    ap (λ (rows : List Row). row_at next ∷ rows) (rows-are inputs count (last + 1) next)
