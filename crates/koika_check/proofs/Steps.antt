-- One more part, counted by capped numbers.
use Rattle.std.proofs.Common.{◌≡◌, ℕ, suc, ◌+◌, ◌-◌, ◌<◌, min, List, [], ◌∷◌, ◌++◌, length, map, take, get_or, slice_get, ap, ap₂, sym, ◌∙◌, refl, arith}
use Rattle.std.proofs.Math.Seq.{take-suc}
use Rattle.std.proofs.lemmas.List.{get_or-map, length-map, map-append}
use Rattle.std.proofs.lemmas.List.Sums.{sum_by-cons}
use Rattle.typed_core.specs.declared.design.Node.{Node}
use Rattle.koika_check.specs.Capped as counts
use Rattle.koika_check.specs.inner.Capped as inner_counts
use Rattle.koika_check.specs.Sizes.{Size, StepSize, both, deeper, arms_size, chain_size, body_of, bodies_behind, node_weights, one_deeper, side_by_side, size, size_of}
use Rattle.koika_check.specs.declared.checked.Checked.{Checked}
use Rattle.koika_check.specs.declared.checked.CheckedFunction.{CheckedFunction}
use Rattle.koika_check.specs.declared.measure.Measure.{Measure}
use Rattle.koika_check.proofs.Caps.{capped-both, capped-deeper, capped-heavier}
use Rattle.koika_check.proofs.Runs.{arms-push, behind, behind-push, chain_size-push, one_deeper-push, run_size, run_size-push, side_by_side-push, taken, taken-length}

plus_one : (i : ℕ) → i + 1 ≡ suc i
plus_one i = omega arith

-- what is found of one more item
one_more : {X Y Z : Type 0} (f : X → Y) (g : List Y → Z) (xs : List X) (i : ℕ) (x : X) → i < length xs → x ≡ get_or xs i x →
    g (map f (take (i + 1) xs)) ≡ g (map f (take i xs) ++ f x ∷ [])
one_more f g xs i x lt is = ap (λ k. g (map f (take k xs))) (plus_one i) ∙ ap g (taken f xs i x lt) ∙ ap (λ y. g (map f (take i xs) ++ f y ∷ [])) (sym is)

pub count-part : {X : Type 0} (f : X → Size) (xs : List X) (i : ℕ) (x : X) (all one : Measure) → i < length xs → x ≡ get_or xs i x →
    all ≡ counts.capped (side_by_side (map f (take i xs))) → one ≡ counts.capped (f x) →
    inner_counts.both all one ≡ counts.capped (side_by_side (map f (take (i + 1) xs)))
count-part f xs i x all one lt is before new =
    let now = one_more f side_by_side xs i x lt is ∙ side_by_side-push (map f (take i xs)) (f x) in
    ap₂ inner_counts.both before new ∙ capped-both _ _ ∙ ap counts.capped (sym now)

count : {X : Type 0} (f : X → Size) (g : List Size → Size) (d : ℕ) (xs : List X) (i : ℕ) (x : X) (all one : Measure) → i < length xs → x ≡ get_or xs i x →
    g (map f (take i xs) ++ f x ∷ []) ≡ both (g (map f (take i xs))) (deeper d (f x)) →
    all ≡ counts.capped (g (map f (take i xs))) → one ≡ counts.capped (f x) →
    inner_counts.both all (inner_counts.deeper d one) ≡ counts.capped (g (map f (take (i + 1) xs)))
count f g d xs i x all one lt is push before new =
    let now = one_more f g xs i x lt is ∙ push in
    ap₂ inner_counts.both before (ap (inner_counts.deeper d) new ∙ capped-deeper d (f x)) ∙ capped-both _ _ ∙ ap counts.capped (sym now)

pub count-deeper : {X : Type 0} (f : X → Size) (xs : List X) (i : ℕ) (x : X) (all one : Measure) → i < length xs → x ≡ get_or xs i x →
    all ≡ counts.capped (one_deeper (map f (take i xs))) → one ≡ counts.capped (f x) →
    inner_counts.both all (inner_counts.deeper (i + 1) one) ≡ counts.capped (one_deeper (map f (take (i + 1) xs)))
count-deeper f xs i x all one lt is before new =
    count f one_deeper (i + 1) xs i x all one lt is
    (one_deeper-push (map f (take i xs)) (f x) ∙ ap (λ d. both (one_deeper (map f (take i xs))) (deeper d (f x))) (omega (arith, taken-length f xs i lt)))
    before new

pub count-arm : {X : Type 0} (f : X → Size) (arms : ℕ) (xs : List X) (i : ℕ) (x : X) (all one : Measure) → i < length xs → x ≡ get_or xs i x →
    all ≡ counts.capped (arms_size arms (map f (take i xs))) → one ≡ counts.capped (f x) →
    inner_counts.both all (inner_counts.deeper (min (i + 1) arms) one) ≡ counts.capped (arms_size arms (map f (take (i + 1) xs)))
count-arm f arms xs i x all one lt is before new =
    count f (arms_size arms) (min (i + 1) arms) xs i x all one lt is
    (arms-push arms (map f (take i xs)) (f x) ∙ ap (λ n. both (arms_size arms (map f (take i xs))) (deeper (min (n + 1) arms) (f x))) (taken-length f xs i lt))
    before new

pub count-operand : {X : Type 0} (f : X → Size) (n : ℕ) (xs : List X) (i : ℕ) (x : X) (all one : Measure) → i < length xs → x ≡ get_or xs i x →
    all ≡ counts.capped (chain_size n (map f (take i xs))) → one ≡ counts.capped (f x) →
    inner_counts.both all (inner_counts.deeper (n - (i - 1)) one) ≡ counts.capped (chain_size n (map f (take (i + 1) xs)))
count-operand f n xs i x all one lt is before new =
    count f (chain_size n) (n - (i - 1)) xs i x all one lt is
    (chain_size-push n (map f (take i xs)) (f x) ∙ ap (λ k. both (chain_size n (map f (take i xs))) (deeper (n - (k - 1)) (f x))) (taken-length f xs i lt))
    before new

pub count-step : {X : Type 0} (f : X → StepSize) (xs : List X) (i : ℕ) (x : X) (all one : Measure) (own depth : ℕ) → i < length xs → x ≡ get_or xs i x →
    own ≡ (f x).statement → depth ≡ behind 1 (map f (take i xs)) →
    all ≡ counts.capped (run_size 1 (map f (take i xs))) → one ≡ counts.capped (f x).value →
    inner_counts.both all (inner_counts.heavier own (inner_counts.deeper depth one)) ≡ counts.capped (run_size 1 (map f (take (i + 1) xs)))
count-step f xs i x all one own depth lt is own_is depth_is before new =
    let now = one_more f (run_size 1) xs i x lt is ∙ run_size-push 1 (map f (take i xs)) (f x) in
    let below = ap₂ inner_counts.deeper depth_is new ∙ capped-deeper _ (f x).value in
    ap₂ inner_counts.both before (ap₂ inner_counts.heavier own_is below ∙ capped-heavier _ _) ∙ capped-both _ _ ∙ ap counts.capped (sym now)

pub step-behind : {X : Type 0} (f : X → StepSize) (xs : List X) (i : ℕ) (x : X) (own depth : ℕ) → i < length xs → x ≡ get_or xs i x →
    own ≡ (f x).statement → depth ≡ behind 1 (map f (take i xs)) → depth + own ≡ behind 1 (map f (take (i + 1) xs))
step-behind f xs i x own depth lt is own_is depth_is =
    ap₂ (λ a b. a + b) depth_is own_is ∙ sym (one_more f (behind 1) xs i x lt is ∙ behind-push 1 (map f (take i xs)) (f x))

-- ---- whole designs

pub count-node : (w : ℕ) (s : Size) → inner_counts.heavier (counts.capped s).weight (counts.capped (size w 0)) ≡ counts.capped (size (w + s.weight) 0)
count-node w s = ap (λ v. counts.counted v 0) (heavier_by w s.weight 32769)
  where
    heavier_by : (a b m : ℕ) → min (min a m + min b m) m ≡ min (a + b) m
    heavier_by a b m = grind arith

map_same : {X : Type 0} (xs : List X) → map (λ x. x) xs ≡ xs
map_same [] = refl
map_same (x ∷ xs) = ap (λ l. x ∷ l) (map_same xs)

pub get_or-default : {X : Type 0} (xs : List X) (i : ℕ) (x y : X) → i < length xs → get_or xs i x ≡ get_or xs i y
get_or-default xs i x y lt = sym (get_or-map (λ z. z) xs i x (get_or xs i x) lt) ∙ get_or-map (λ z. z) xs i y (get_or xs i x) lt

-- counted sizes, in order, are counted as one size
pub count-counted : (parts : List Size) (rules : List Measure) (i : ℕ) (all one : Measure) → rules ≡ map counts.capped parts → i < length rules → one ≡ get_or rules i one →
    all ≡ counts.capped (side_by_side (take i parts)) → inner_counts.both all one ≡ counts.capped (side_by_side (take (i + 1) parts))
count-counted parts rules i all one e lt is before =
    let within : i < length parts = omega (arith, ap length e, length-map parts counts.capped) in
    let x : Size = get_or parts i (size 0 0) in
    let new : one ≡ counts.capped x = is ∙ ap (λ l. get_or l i one) e ∙ get_or-map counts.capped parts i (size 0 0) one within in
    let same : get_or parts i x ≡ x = get_or-default parts i x (size 0 0) within in
    count-part (λ (s : Size). s) parts i x all one within (sym same) (before ∙ ap (λ l. counts.capped (side_by_side l)) (sym (map_same (take i parts)))) new
    ∙ ap (λ l. counts.capped (side_by_side l)) (map_same (take (i + 1) parts))

node_weights-push : (parts : List Size) (nodes : List Node) (n : Node) → node_weights parts (nodes ++ n ∷ []) ≡ node_weights parts nodes + (body_of (slice_get parts n.rule)).weight
node_weights-push parts [] n = grind arith
node_weights-push parts (m ∷ nodes) n =
    sum_by-cons (λ (k : Node). (body_of (slice_get parts k.rule)).weight) m (nodes ++ n ∷ []) ∙ ap (λ w. (body_of (slice_get parts m.rule)).weight + w) (node_weights-push parts nodes n)
    ∙ omega (arith, sum_by-cons (λ (k : Node). (body_of (slice_get parts k.rule)).weight) m nodes)

pub node_weights-taken : (parts : List Size) (nodes : List Node) (i : ℕ) (n : Node) → i < length nodes → n ≡ get_or nodes i n →
    node_weights parts (take (i + 1) nodes) ≡ node_weights parts (take i nodes) + (body_of (slice_get parts n.rule)).weight
node_weights-taken parts nodes i n lt is =
    ap (λ k. node_weights parts (take k nodes)) (plus_one i) ∙ ap (node_weights parts) (take-suc nodes i n lt) ∙ node_weights-push parts (take i nodes) (get_or nodes i n)
    ∙ ap (λ (m : Node). node_weights parts (take i nodes) + (body_of (slice_get parts m.rule)).weight) (sym is)

bodies-push : (d : Checked) (before : List Size) (fs : List CheckedFunction) (f : CheckedFunction) →
    bodies_behind d before (fs ++ f ∷ []) ≡ bodies_behind d before fs ++ size_of (record { design = d; bodies = bodies_behind d before fs }) f.body ∷ []
bodies-push d before [] f = refl
bodies-push d before (g ∷ fs) f = bodies-push d (before ++ size_of (record { design = d; bodies = before }) g.body ∷ []) fs f

pub bodies-taken : (d : Checked) (fs : List CheckedFunction) (i : ℕ) (f : CheckedFunction) → i < length fs → f ≡ get_or fs i f →
    bodies_behind d [] (take (i + 1) fs) ≡ bodies_behind d [] (take i fs) ++ size_of (record { design = d; bodies = bodies_behind d [] (take i fs) }) f.body ∷ []
bodies-taken d fs i f lt is =
    ap (λ k. bodies_behind d [] (take k fs)) (plus_one i) ∙ ap (bodies_behind d []) (take-suc fs i f lt) ∙ bodies-push d [] (take i fs) (get_or fs i f)
    ∙ ap (λ (g : CheckedFunction). bodies_behind d [] (take i fs) ++ size_of (record { design = d; bodies = bodies_behind d [] (take i fs) }) g.body ∷ []) (sym is)

pub map-push : {X Y : Type 0} (g : X → Y) (xs : List X) (x : X) → map g (xs ++ x ∷ []) ≡ map g xs ++ g x ∷ []
map-push g xs x = map-append g xs (x ∷ [])

-- one more function's body, counted
pub measured : (d : Checked) (fs : List CheckedFunction) (i : ℕ) (f : CheckedFunction) (before new : List Measure) (m : Measure) → i < length fs → f ≡ get_or fs i f →
    before ≡ map counts.capped (bodies_behind d [] (take i fs)) →
    m ≡ counts.capped (size_of (record { design = d; bodies = bodies_behind d [] (take i fs) }) f.body) →
    new ≡ before ++ m ∷ [] → new ≡ map counts.capped (bodies_behind d [] (take (i + 1) fs))
measured d fs i f before new m lt is was now pushed =
    pushed ∙ ap₂ (λ (ms : List Measure) (n : Measure). ms ++ n ∷ []) was now
    ∙ sym (map-append counts.capped (bodies_behind d [] (take i fs)) (size_of (record { design = d; bodies = bodies_behind d [] (take i fs) }) f.body ∷ []))
    ∙ ap (map counts.capped) (sym (bodies-taken d fs i f lt is))
