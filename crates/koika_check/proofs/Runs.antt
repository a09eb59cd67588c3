-- The sizes of parts in a row, with one more part behind them, and how the code counts them.
use Rattle.std.proofs.Common.{◌≡◌, ℕ, zero, suc, ◌+◌, ◌-◌, ◌<◌, min, max, List, [], ◌∷◌, ◌++◌, length, map, take, get_or, sum_by, ap, ap₂, ◌∙◌, refl, arith}
use Rattle.std.proofs.Math.Seq.{take-suc}
use Rattle.std.proofs.lemmas.List.{map-append, length-map, length-take-le}
use Rattle.std.proofs.lemmas.List.Sums.{sum_by-cons}
use Rattle.koika_check.specs.Sizes.{Size, StepSize, arms_size, bodies_depths, both, chain_depths, chain_size, deeper, deepest, falling, heavier, one_deeper, rising, side_by_side, size, steps_depths, steps_size, weights}

deepest-push : (ds : List ℕ) (d : ℕ) → deepest (ds ++ d ∷ []) ≡ max (deepest ds) d
deepest-push [] d = grind arith
deepest-push (x ∷ ds) d = ap (λ m. max x m) (deepest-push ds d) ∙ grind arith

weights-push : (xs : List Size) (x : Size) → weights (xs ++ x ∷ []) ≡ weights xs + x.weight
weights-push [] x = grind arith
weights-push (y ∷ xs) x = sum_by-cons (λ (s : Size). s.weight) y (xs ++ x ∷ []) ∙ ap (λ w. y.weight + w) (weights-push xs x) ∙ omega (arith, sum_by-cons (λ (s : Size). s.weight) y xs)

same_depth : {a b : ℕ} → a ≡ b → (x : Size) → (a + x.depth) ∷ [] ≡ (b + x.depth) ∷ []
same_depth e x = ap (λ d. (d + x.depth) ∷ []) e

rising-push : (from : ℕ) (xs : List Size) (x : Size) → rising from (xs ++ x ∷ []) ≡ rising from xs ++ (from + length xs + x.depth) ∷ []
rising-push from [] x = same_depth (omega arith) x
rising-push from (y ∷ xs) x = ap (λ ds. (from + y.depth) ∷ ds) (rising-push (from + 1) xs x ∙ ap (λ ds. rising (from + 1) xs ++ ds) (same_depth (omega arith) x))

falling-push : (from : ℕ) (xs : List Size) (x : Size) → falling from (xs ++ x ∷ []) ≡ falling from xs ++ (from - length xs + x.depth) ∷ []
falling-push from [] x = same_depth (omega arith) x
falling-push from (y ∷ xs) x = ap (λ ds. (from + y.depth) ∷ ds) (falling-push (from - 1) xs x ∙ ap (λ ds. falling (from - 1) xs ++ ds) (same_depth (omega arith) x))

bodies-push : (k arms : ℕ) (xs : List Size) (x : Size) → bodies_depths (k + 1) arms (xs ++ x ∷ []) ≡ bodies_depths (k + 1) arms xs ++ (k + min (length xs + 1) arms + x.depth) ∷ []
bodies-push k zero [] x = same_depth (grind arith) x
bodies-push k (suc arms) [] x = same_depth (grind arith) x
bodies-push k zero (y ∷ xs) x = ap (λ ds. (k + 1 - 1 + y.depth) ∷ ds) (bodies-push k zero xs x ∙ ap (λ ds. bodies_depths (k + 1) zero xs ++ ds) (same_depth (grind arith) x))
bodies-push k (suc arms) (y ∷ xs) x = ap (λ ds. (k + 1 + y.depth) ∷ ds) (bodies-push (k + 1) arms xs x ∙ ap (λ ds. bodies_depths (k + 1 + 1) arms xs ++ ds) (same_depth (grind arith) x))

chain-push : (n : ℕ) (xs : List Size) (x : Size) → chain_depths n (xs ++ x ∷ []) ≡ chain_depths n xs ++ (n - (length xs - 1) + x.depth) ∷ []
chain-push n [] x = same_depth (omega arith) x
chain-push n (y ∷ xs) x = ap (λ ds. (n + y.depth) ∷ ds) (falling-push n xs x ∙ ap (λ ds. falling n xs ++ ds) (same_depth (omega arith) x))

deepest_by : (ds ds' : List ℕ) (d : ℕ) → ds ≡ ds' ++ d ∷ [] → deepest ds ≡ max (deepest ds') d
deepest_by ds ds' d e = ap deepest e ∙ deepest-push ds' d

pub side_by_side-push : (xs : List Size) (x : Size) → side_by_side (xs ++ x ∷ []) ≡ both (side_by_side xs) x
side_by_side-push xs x = ap₂ size (weights-push xs x) (deepest_by _ (map (λ (s : Size). s.depth) xs) x.depth (map-append (λ (s : Size). s.depth) xs (x ∷ [])))

pub one_deeper-push : (xs : List Size) (x : Size) → one_deeper (xs ++ x ∷ []) ≡ both (one_deeper xs) (deeper (1 + length xs) x)
one_deeper-push xs x = ap₂ size (weights-push xs x) (deepest_by _ _ _ (rising-push 1 xs x))

pub arms-push : (arms : ℕ) (xs : List Size) (x : Size) → arms_size arms (xs ++ x ∷ []) ≡ both (arms_size arms xs) (deeper (min (length xs + 1) arms) x)
arms-push arms xs x = ap₂ size (weights-push xs x) (deepest_by _ (bodies_depths 1 arms xs) _ (bodies-push 0 arms xs x) ∙ ap (λ d. max (deepest (bodies_depths 1 arms xs)) (d + x.depth)) (omega arith))

pub chain_size-push : (n : ℕ) (xs : List Size) (x : Size) → chain_size n (xs ++ x ∷ []) ≡ both (chain_size n xs) (deeper (n - (length xs - 1)) x)
chain_size-push n xs x = ap₂ size (weights-push xs x) (deepest_by _ _ _ (chain-push n xs x))

-- steps without what is behind them; how deep that is
abbrev pub run_depths : ℕ → List StepSize → List ℕ
run_depths from [] = []
run_depths from (s ∷ steps) = (from + s.value.depth) ∷ run_depths (from + s.statement) steps

abbrev step_weights : List StepSize → ℕ
step_weights = sum_by (λ (s : StepSize). s.statement + s.value.weight)

abbrev pub run_size : ℕ → List StepSize → Size
run_size from steps = size (sum_by (λ (s : StepSize). s.statement + s.value.weight) steps) (deepest (run_depths from steps))

abbrev pub behind : ℕ → List StepSize → ℕ
behind from [] = from
behind from (s ∷ steps) = behind (from + s.statement) steps

step_weights-push : (xs : List StepSize) (x : StepSize) → step_weights (xs ++ x ∷ []) ≡ step_weights xs + (x.statement + x.value.weight)
step_weights-push [] x = grind arith
step_weights-push (y ∷ xs) x =
    sum_by-cons (λ (s : StepSize). s.statement + s.value.weight) y (xs ++ x ∷ []) ∙ ap (λ w. y.statement + y.value.weight + w) (step_weights-push xs x) ∙ omega (arith, sum_by-cons (λ (s : StepSize). s.statement + s.value.weight) y xs)

run-push : (from : ℕ) (xs : List StepSize) (x : StepSize) → run_depths from (xs ++ x ∷ []) ≡ run_depths from xs ++ (behind from xs + x.value.depth) ∷ []
run-push from [] x = refl
run-push from (y ∷ xs) x = ap (λ ds. (from + y.value.depth) ∷ ds) (run-push (from + y.statement) xs x)

pub behind-push : (from : ℕ) (xs : List StepSize) (x : StepSize) → behind from (xs ++ x ∷ []) ≡ behind from xs + x.statement
behind-push from [] x = refl
behind-push from (y ∷ xs) x = behind-push (from + y.statement) xs x

pub run_size-push : (from : ℕ) (xs : List StepSize) (x : StepSize) → run_size from (xs ++ x ∷ []) ≡ both (run_size from xs) (heavier x.statement (deeper (behind from xs) x.value))
run_size-push from xs x = ap₂ size (step_weights-push xs x) (deepest_by _ _ _ (run-push from xs x))

steps-deepest : (from : ℕ) (xs : List StepSize) → deepest (steps_depths from xs) ≡ max (deepest (run_depths from xs)) (behind from xs)
steps-deepest from [] = grind arith
steps-deepest from (y ∷ xs) = ap (λ d. max (from + y.value.depth) d) (steps-deepest (from + y.statement) xs) ∙ grind arith

pub steps_size-is : (xs : List StepSize) → steps_size xs ≡ both (run_size 1 xs) (size 0 (behind 1 xs))
steps_size-is xs = ap₂ size (omega arith) (steps-deepest 1 xs)

-- the values of a list's first items and of one more
pub taken : {X Y : Type 0} (f : X → Y) (xs : List X) (i : ℕ) (x : X) → i < length xs → map f (take (suc i) xs) ≡ map f (take i xs) ++ f (get_or xs i x) ∷ []
taken f xs i x lt = ap (map f) (take-suc xs i x lt) ∙ map-append f (take i xs) (get_or xs i x ∷ [])

pub taken-length : {X Y : Type 0} (f : X → Y) (xs : List X) (i : ℕ) → i < length xs → length (map f (take i xs)) ≡ i
taken-length f xs i lt = length-map (take i xs) f ∙ length-take-le i xs (omega arith)
