-- The first cycle of a rule in the rows so far and in a batch that goes on from them.
use Rattle.std.proofs.Common.{◌≡◌, ℕ, ◌+◌, ◌-◌, ◌<◌, Bool, true, false, cond, List, [], ◌∷◌, ◌++◌, length, map, replicate, take, drop, get_or, Option, None, Some, refl, sym, ap, ◌∙◌, subst, arith}
use Rattle.std.specs.List.{position_from, zip}
use Rattle.std.specs.Option.{option_or}
use Rattle.std.proofs.lemmas.List.{ext_get_or, get_or-map, length-map, take_all}
use Rattle.std.proofs.lemmas.Slice.Zip.{get_or-zip}
use Rattle.one_rule.specs.declared.rows.Row.{Row}
use Rattle.stim_report.specs.Batches.{joined, last_cycle}
use Rattle.stim_report.specs.Summary.{has_fired}
use Rattle.stim_report.proofs.TotalsOfBatches.{cycles_joined}
use Rattle.koika_assert.specs.inner.Marks.{AddsFirsts}
use Rattle.koika_assert.specs.Violations.{Watched, first_from, first_violated, watched, watched_on}

or_later : (b : Bool) (i : ℕ) (x y : Option ℕ) → cond b (Some i) (option_or x y) ≡ option_or (cond b (Some i) x) y
or_later true i x y = refl
or_later false i x y = refl

-- the first place in two lists joined is the one in the first of them, or else the one in the second
pub position_joined : {X : Type 0} (p : X → Bool) (i : ℕ) (xs ys : List X) → position_from p i (xs ++ ys) ≡ option_or (position_from p i xs) (position_from p (i + length xs) ys)
position_joined p i [] ys = ap (λ (n : ℕ). position_from p n ys) (omega arith)
position_joined p i (x ∷ xs) ys =
    ap (cond (p x) (Some i)) (position_joined p (i + 1) xs ys) ∙ or_later (p x) i (position_from p (i + 1) xs) (position_from p (i + 1 + length xs) ys)
    ∙ ap (λ (n : ℕ). option_or (position_from p i (x ∷ xs)) (position_from p n ys)) (omega arith)

-- the same of the cycles of a rule
pub first_joined : (before batch : List Row) (mark : ℕ)
    → option_or (first_violated before mark) (position_from (has_fired mark) (last_cycle before + 1) (drop 1 batch)) ≡ first_violated (joined before batch) mark
first_joined [] batch mark = refl
first_joined (row ∷ rows) batch mark =
    ap (λ (n : ℕ). option_or (first_violated (row ∷ rows) mark) (position_from (has_fired mark) n (drop 1 batch))) (omega arith) ∙ sym (position_joined (has_fired mark) 1 rows (drop 1 batch))

-- the first cycles of all marks
pub firsts_joined : (before batch : List Row) (marks : List ℕ) (new : List (Option ℕ))
    → AddsFirsts marks (last_cycle before + 1) (drop 1 batch) (map (first_violated before) marks) new → new ≡ map (first_violated (joined before batch)) marks
firsts_joined before batch marks new adds =
    let count : length new ≡ length marks = adds.count ∙ length-map marks (first_violated before) in
    ext_get_or None new (map (first_violated (joined before batch)) marks) (count ∙ sym (length-map marks (first_violated (joined before batch))))
    (λ k below.
    adds.added k (omega (arith, below, adds.count))
    ∙ ap (λ (o : Option ℕ). option_or o (position_from (has_fired (get_or marks k 0)) (last_cycle before + 1) (drop 1 batch))) (get_or-map (first_violated before) marks k 0 None (omega (arith, below, count)))
    ∙ first_joined before batch (get_or marks k 0)
    ∙ sym (get_or-map (first_violated (joined before batch)) marks k 0 None (omega (arith, below, count))))

-- what the rows and the batch tell of marks
pub watched_joined : (names : List (List ℕ)) (marks : List ℕ) (before batch : List Row) (known : Watched) (firsts : List (Option ℕ)) (cycles : ℕ) → known ≡ watched names marks before → 0 < length batch
    → AddsFirsts known.marks (known.cycles + 1) (drop 1 batch) known.firsts firsts → cycles ≡ known.cycles + length (drop 1 batch)
    → record { names = known.names; marks = known.marks; cycles = cycles; firsts = firsts } ≡ watched names marks (joined before batch)
unfolding watched
watched_joined names marks before batch known firsts cycles is some adds more =
    let P : Watched → Type 0 = λ w. AddsFirsts w.marks (w.cycles + 1) (drop 1 batch) w.firsts firsts → cycles ≡ w.cycles + length (drop 1 batch)
    → record { names = w.names; marks = w.marks; cycles = cycles; firsts = firsts } ≡ watched names marks (joined before batch) in
    subst P (sym is)
    (λ adds more.
    ap (λ (c : ℕ). record { names = names; marks = marks; cycles = c; firsts = firsts }) (more ∙ sym (cycles_joined before batch some))
    ∙ ap (λ (fs : List (Option ℕ)). record { names = names; marks = marks; cycles = last_cycle (joined before batch); firsts = fs }) (firsts_joined before batch marks firsts adds))
    adds more

-- there is a pair for each
pub zip_count : (xs : List (Option ℕ)) (ys : List ℕ) → length xs ≡ length ys → length (zip xs ys) ≡ length xs
zip_count [] ys same = refl
zip_count (x ∷ xs) [] same = absurd (omega (arith, same))
zip_count (x ∷ xs) (y ∷ ys) same = let rest = zip_count xs ys (omega (arith, same)) in omega (arith, rest)

-- the first cycles of all marks, by those that there were
pub firsts_on : (marks : List ℕ) (cycle : ℕ) (rows : List Row) (old new : List (Option ℕ)) → length old ≡ length marks → AddsFirsts marks cycle rows old new → new ≡ map (first_from cycle rows) (zip old marks)
firsts_on marks cycle rows old new each adds =
    let pairs = zip old marks in
    let count = zip_count old marks each in
    let turned = length-map pairs (first_from cycle rows) in
    ext_get_or None new (map (first_from cycle rows) pairs) (adds.count ∙ sym (turned ∙ count))
    (λ k below.
    let within : k < length old = omega (arith, below, adds.count) in
    adds.added k within
    ∙ ap (first_from cycle rows) (sym (get_or-zip old marks k (None, 0) within (omega (arith, within, each))))
    ∙ sym (get_or-map (first_from cycle rows) pairs k (None, 0) None (omega (arith, within, count))))

-- what a batch adds to what is known of marks
pub watched_more : (batch : List Row) (known : Watched) (firsts : List (Option ℕ)) (cycles : ℕ) → length known.firsts ≡ length known.marks → AddsFirsts known.marks (known.cycles + 1) (drop 1 batch) known.firsts firsts
    → cycles ≡ known.cycles + length (drop 1 batch) → record { names = known.names; marks = known.marks; cycles = cycles; firsts = firsts } ≡ watched_on known batch
unfolding watched_on
watched_more batch known firsts cycles each adds more =
    ap (λ (c : ℕ). record { names = known.names; marks = known.marks; cycles = c; firsts = firsts }) more
    ∙ ap (λ (fs : List (Option ℕ)). record { names = known.names; marks = known.marks; cycles = known.cycles + length (drop 1 batch); firsts = fs })
    (firsts_on known.marks (known.cycles + 1) (drop 1 batch) known.firsts firsts each adds)

-- no rows tell of no cycle
pub none_yet : (marks : List ℕ) → replicate (length marks) None ≡ map (first_violated []) marks
none_yet [] = refl
none_yet (mark ∷ marks) = ap (λ (firsts : List (Option ℕ)). None ∷ firsts) (none_yet marks)

-- all behind the first
pub behind_first : {X : Type 0} (xs : List X) → take (length xs - 1) (drop 1 xs) ≡ drop 1 xs
behind_first [] = refl
behind_first (x ∷ xs) = take_all (length (x ∷ xs) - 1) xs (omega arith)

-- what is known of rows has the cycle that they end with
pub cycles_known : (names : List (List ℕ)) (marks : List ℕ) (rows : List Row) (known : Watched) → known ≡ watched names marks rows → known.cycles ≡ last_cycle rows
unfolding watched
cycles_known names marks rows known is = ap (λ (w : Watched). w.cycles) is
