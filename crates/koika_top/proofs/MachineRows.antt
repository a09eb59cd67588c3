-- The rows of a machine's run: as many as there are cycles and one more, the first ones of a longer run, and those of its parts.
use Rattle.std.proofs.Common.{◌≡◌, ℕ, zero, suc, ◌+◌, ◌-◌, ◌≤◌, List, [], ◌∷◌, ◌++◌, length, take, drop, refl, sym, ap, subst, ◌∙◌, arith}
use Rattle.std.proofs.lemmas.List.Sums.{fold-append}
use Rattle.std.specs.List.{AllByRecursion}
use Rattle.kw_bits.specs.BitVector.{BitVector}
use Rattle.one_rule.specs.Run.{InputsByCycle}
use Rattle.one_rule.specs.Stimulus.{InputVectors, inputs_of}
use Rattle.one_rule.specs.declared.rows.Row.{Row}
use Rattle.circuit_eval.specs.Machines.{after_steps, rows_after}
use Rattle.stim_report.specs.Summary.{last_values}
use Rattle.koika_top.specs.inner.Engines.{AreRows, StandsAfter, rows_of}

pub drop-none : (rows : List Row) → drop 0 rows ≡ rows
drop-none [] = refl
drop-none (row ∷ rows) = refl

module _ {M : Type 0} (step : M → List BitVector → M) (inputs : InputsByCycle) where
  -- no steps change what none changes
  pub steps-keep : {X : Type 0} (f : M → X) → ((m : M) (given : List BitVector) → f (step m given) ≡ f m) → (count last : ℕ) (m : M) → f (after_steps step inputs count last m) ≡ f m
  steps-keep f keeps zero last m = refl
  steps-keep f keeps (suc count) last m = steps-keep f keeps count (last + 1) (step m (inputs (last + 1))) ∙ keeps m (inputs (last + 1))

  -- steps behind steps
  steps-behind : (count last to : ℕ) (m : M) → last + count ≤ to
      → after_steps step inputs (to - (last + count)) (last + count) (after_steps step inputs count last m) ≡ after_steps step inputs (to - last) last m
  steps-behind zero last to m h =
      let here : last + 0 ≡ last = omega arith in
      ap (λ (from : ℕ). after_steps step inputs (to - from) from m) here
  steps-behind (suc count) last to m h =
      let next : M = step m (inputs (last + 1)) in
      let here : last + suc count ≡ last + 1 + count = omega arith in
      let left : to - last ≡ suc (to - (last + 1)) = omega (arith, h) in
      ap (λ (from : ℕ). after_steps step inputs (to - from) from (after_steps step inputs count (last + 1) next)) here
      ∙ steps-behind count (last + 1) to next (omega (arith, h))
      ∙ sym (ap (λ (k : ℕ). after_steps step inputs k last m) left)

  steps-on : (from to : ℕ) (m : M) → from ≤ to → after_steps step inputs (to - from) from (after_steps step inputs from 0 m) ≡ after_steps step inputs to 0 m
  steps-on from to m h =
      let here : 0 + from ≡ from = omega arith in
      let all : to - 0 ≡ to = omega arith in
      ap (λ (k : ℕ). after_steps step inputs (to - k) k (after_steps step inputs from 0 m)) (sym here)
      ∙ steps-behind from 0 to m (omega (arith, h))
      ∙ ap (λ (k : ℕ). after_steps step inputs k 0 m) all

  -- a step more is made last
  pub steps-more : (count last : ℕ) (m : M) → after_steps step inputs (suc count) last m ≡ step (after_steps step inputs count last m) (inputs (last + count + 1))
  steps-more zero last m = let here : last + 1 ≡ last + 0 + 1 = omega arith in ap (λ (k : ℕ). step m (inputs k)) here
  steps-more (suc count) last m =
      let next : M = step m (inputs (last + 1)) in
      let here : last + 1 + count + 1 ≡ last + suc count + 1 = omega arith in
      steps-more count (last + 1) next ∙ ap (λ (k : ℕ). step (after_steps step inputs count (last + 1) next) (inputs k)) here

  module _ (row_at : M → Row) where
    pub after-count : (n last : ℕ) (m : M) → length (rows_after step row_at inputs n last m) ≡ n
    after-count zero last m = refl
    after-count (suc n) last m = omega (arith, after-count n (last + 1) (step m (inputs (last + 1))))

    after-front : (k n last : ℕ) (m : M) → k ≤ n → rows_after step row_at inputs k last m ≡ take k (rows_after step row_at inputs n last m)
    after-front zero n last m h = refl
    after-front (suc k) zero last m h = absurd (omega (arith, h))
    after-front (suc k) (suc n) last m h =
        let next : M = step m (inputs (last + 1)) in
        ap (λ (rows : List Row). row_at next ∷ rows) (after-front k n (last + 1) next (omega (arith, h)))

    -- the row of a cycle more comes last
    pub rows-more : (count last : ℕ) (m : M) → rows_after step row_at inputs (suc count) last m ≡ rows_after step row_at inputs count last m ++ row_at (after_steps step inputs (suc count) last m) ∷ []
    rows-more zero last m = refl
    rows-more (suc count) last m = ap (λ (rows : List Row). row_at (step m (inputs (last + 1))) ∷ rows) (rows-more count (last + 1) (step m (inputs (last + 1))))

    -- also where cycles are told by the last of them
    pub rows-turn : (from last : ℕ) (m next : M) → from ≤ last → next ≡ after_steps step inputs (last + 1 - from) from m
        → rows_after step row_at inputs (last + 1 - from) from m ≡ rows_after step row_at inputs (last - from) from m ++ row_at next ∷ []
    rows-turn from last m next up is =
        let count : last + 1 - from ≡ suc (last - from) = omega (arith, up) in
        ap (λ (k : ℕ). rows_after step row_at inputs k from m) count
        ∙ rows-more (last - from) from m
        ∙ ap (λ (k : ℕ). rows_after step row_at inputs (last - from) from m ++ row_at (after_steps step inputs k from m) ∷ []) (sym count)
        ∙ ap (λ (now : M). rows_after step row_at inputs (last - from) from m ++ row_at now ∷ []) (sym is)

    -- the registers of the last row of some cycles
    pub last-regs : (count last : ℕ) (m : M) → 1 ≤ count → last_values (rows_after step row_at inputs count last m) ≡ (row_at (after_steps step inputs count last m)).regs
    last-regs zero last m some = absurd (omega (arith, some))
    last-regs (suc count) last m some =
        ap last_values (rows-more count last m)
        ∙ fold-append (λ (values : List BitVector) (row : Row). row.regs) [] (rows_after step row_at inputs count last m) (row_at (after_steps step inputs (suc count) last m) ∷ [])

    last-of : (P : Row → Type 0) (xs : List Row) (x : Row) → AllByRecursion P (xs ++ x ∷ []) → P x
    last-of P [] x all = all.0
    last-of P (y ∷ xs) x all = last-of P xs x all.1

    -- what is true of each row of a run is true of the row of its last moment
    pub row-of-last : (P : Row → Type 0) (first : M) (n : ℕ) → AllByRecursion P (rows_of step row_at inputs first n) → P (row_at (after_steps step inputs n 0 first))
    row-of-last P first zero all = all.0
    row-of-last P first (suc n) all =
        last-of P (rows_after step row_at inputs n 0 first) (row_at (after_steps step inputs (suc n) 0 first))
        (subst (AllByRecursion P) (rows-more n 0 first) all.1)

    run-front : (first : M) (k n : ℕ) → k ≤ n → rows_of step row_at inputs first k ≡ take (k + 1) (rows_of step row_at inputs first n)
    run-front first k n h =
        let one : k + 1 ≡ suc k = omega arith in
        ap (λ (rows : List Row). row_at first ∷ rows) (after-front k n 0 first h)
        ∙ sym (ap (λ (count : ℕ). take count (rows_of step row_at inputs first n)) one)

    -- the rows of a machine's run are those of a run
    pub are-rows : (first : M) → AreRows (rows_of step row_at inputs first)
    are-rows first = record {
      count = λ n. omega (arith, after-count n 0 first);
      front = run-front first;
    }

    -- the row of a moment and those of the cycles from one to another after it
    abbrev rows_from : (last to : ℕ) → M → List Row
    rows_from last to m = row_at m ∷ rows_after step row_at inputs (to - last) last m

    -- the rows from a later moment are the last ones of those from an earlier one
    rows-later : (count last to : ℕ) (m : M) → last + count ≤ to → rows_from (last + count) to (after_steps step inputs count last m) ≡ drop count (rows_from last to m)
    rows-later zero last to m h =
        let here : last + 0 ≡ last = omega arith in
        ap (λ (from : ℕ). rows_from from to m) here ∙ sym (drop-none (rows_from last to m))
    rows-later (suc count) last to m h =
        let next : M = step m (inputs (last + 1)) in
        let here : last + suc count ≡ last + 1 + count = omega arith in
        let left : to - last ≡ suc (to - (last + 1)) = omega (arith, h) in
        ap (λ (from : ℕ). rows_from from to (after_steps step inputs count (last + 1) next)) here
        ∙ rows-later count (last + 1) to next (omega (arith, h))
        ∙ sym (ap (λ (k : ℕ). drop count (rows_after step row_at inputs k last m)) left)

    -- the rows of a batch are the last ones of those of the run
    rows-of-batch : (from to : ℕ) (first : M) → from ≤ to → rows_from from to (after_steps step inputs from 0 first) ≡ drop from (rows_of step row_at inputs first to)
    rows-of-batch from to first h =
        let here : 0 + from ≡ from = omega arith in
        let all : to - 0 ≡ to = omega arith in
        ap (λ (k : ℕ). rows_from k to (after_steps step inputs from 0 first)) (sym here)
        ∙ rows-later from 0 to first (omega (arith, h))
        ∙ ap (λ (k : ℕ). drop from (rows_of step row_at inputs first k)) all

-- ---- the batches of an engine

module _ {M : Type 0} (step : M → List BitVector → M) (input_widths : M → List ℕ) (stimulus : InputVectors) where
  abbrev inputs : InputsByCycle
  inputs = inputs_of stimulus

  module _ (first now : M) (at to : ℕ) (stands : StandsAfter step input_widths first now stimulus at) (up : at ≤ to) where
    -- the rows of a batch
    pub rows-in-batch : (row_at : M → Row) → row_at now ∷ rows_after step row_at inputs (to - at) at now ≡ drop at (rows_of step row_at inputs first to)
    rows-in-batch row_at =
        ap (λ (m : M). row_at m ∷ rows_after step row_at inputs (to - at) at m) stands.steps ∙ rows-of-batch step inputs row_at at to first up

    -- and after it the machine has run up to its last cycle
    pub stands-next : (next same : M) → next ≡ after_steps step inputs (to - at) at now → same ≡ first → ((m : M) (given : List BitVector) → input_widths (step m given) ≡ input_widths m)
        → StandsAfter step input_widths same next stimulus to
    stands-next next same is kept keeps = record {
      steps = is ∙ ap (after_steps step inputs (to - at) at) stands.steps ∙ steps-on step inputs at to first up ∙ ap (after_steps step inputs to 0) (sym kept);
      widths = stands.widths ∙ sym (ap input_widths is ∙ steps-keep step inputs input_widths keeps (to - at) at now);
    }

    -- what is true of each row of the run is true of the rows of the moments after it
    pub row-later : (row_at : M → Row) (P : Row → Type 0) → ((n : ℕ) → AllByRecursion P (rows_of step row_at inputs first n)) → (k : ℕ) → P (row_at (after_steps step inputs k at now))
    row-later row_at P all k =
        let count : at + k - at ≡ k = omega arith in
        let same : after_steps step inputs k at now ≡ after_steps step inputs (at + k) 0 first =
        ap (after_steps step inputs k at) stands.steps
        ∙ ap (λ (n : ℕ). after_steps step inputs n at (after_steps step inputs at 0 first)) (sym count)
        ∙ steps-on step inputs at (at + k) first (omega arith) in
        subst (λ (m : M). P (row_at m)) (sym same) (row-of-last step inputs row_at P first (at + k) (all (at + k)))

  -- no batch changes what no step changes
  pub batch-keeps : {X : Type 0} (f : M → X) → ((m : M) (given : List BitVector) → f (step m given) ≡ f m) → (now next : M) (count at : ℕ) → next ≡ after_steps step inputs count at now → f next ≡ f now
  batch-keeps f keeps now next count at is = ap f is ∙ steps-keep step inputs f keeps count at now
