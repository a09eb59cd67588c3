-- Cycles that are counted one by one are those of a batch.
use Rattle.std.proofs.Common.{◌≡◌, ℕ, ◌+◌, ◌<◌, Bool, true, false, cond, List, [], ◌∷◌, ◌++◌, length, length-append, map, Option, None, Some, refl, sym, ap, ap₂, ◌∙◌, append-nil, append_assoc, arith}
use Rattle.std.specs.List.{position_from, zip}
use Rattle.std.specs.Option.{option_or}
use Rattle.std.proofs.lemmas.List.{ext_get_or, get_or-map, length-map}
use Rattle.std.proofs.lemmas.Slice.Zip.{get_or-zip}
use Rattle.one_rule.specs.declared.rows.Row.{Row}
use Rattle.stim_report.specs.Batches.{joined, last_cycle}
use Rattle.stim_report.specs.Summary.{has_fired}
use Rattle.koika_assert.specs.inner.Marks.{AddsCycle}
use Rattle.koika_assert.specs.Violations.{Watched, counted, counted_all, first_after, first_from, first_violated, watched, watched_on}
use Rattle.koika_assert.proofs.FirstsJoined.{first_joined, zip_count}

-- ---- what the call does

-- the first cycles of all marks, by those that there were
firsts_after : (marks : List ℕ) (cycle : ℕ) (fired : List Bool) (old new : List (Option ℕ)) → length old ≡ length marks → AddsCycle marks cycle fired old new → new ≡ map (first_after cycle fired) (zip old marks)
firsts_after marks cycle fired old new each adds =
    let pairs = zip old marks in
    let count = zip_count old marks each in
    ext_get_or None new (map (first_after cycle fired) pairs) (adds.count ∙ sym (length-map pairs (first_after cycle fired) ∙ count))
    (λ k below.
    let within : k < length old = omega (arith, below, adds.count) in
    adds.added k within
    ∙ ap (first_after cycle fired) (sym (get_or-zip old marks k (None, 0) within (omega (arith, within, each))))
    ∙ sym (get_or-map (first_after cycle fired) pairs k (None, 0) None (omega (arith, within, count))))

-- what a cycle adds to what is known of marks
pub watched_after : (fired : List Bool) (known : Watched) (firsts : List (Option ℕ)) (cycles : ℕ) → length known.firsts ≡ length known.marks → AddsCycle known.marks cycles fired known.firsts firsts
    → cycles ≡ known.cycles + 1 → record { names = known.names; marks = known.marks; cycles = cycles; firsts = firsts } ≡ counted known fired
unfolding counted
watched_after fired known firsts cycles each adds more =
    ap₂ (λ (c : ℕ) (fs : List (Option ℕ)). record { names = known.names; marks = known.marks; cycles = c; firsts = fs }) more
    (firsts_after known.marks cycles fired known.firsts firsts each adds ∙ ap (λ (c : ℕ). map (first_after c fired) (zip known.firsts known.marks)) more)

-- ---- the law, cycle by cycle

firsts_next : (first : Row) (rows : List Row) (row : Row) (marks : List ℕ) (cycle : ℕ) → cycle ≡ last_cycle (first ∷ rows) + 1
    → map (first_after cycle row.fired) (zip (map (first_violated (first ∷ rows)) marks) marks) ≡ map (first_violated (first ∷ (rows ++ row ∷ []))) marks
firsts_next first rows row [] cycle is = refl
firsts_next first rows row (mark ∷ marks) cycle is =
    ap₂ (λ (f : Option ℕ) (fs : List (Option ℕ)). f ∷ fs)
    (ap (λ (c : ℕ). first_after c row.fired (first_violated (first ∷ rows) mark, mark)) is ∙ first_joined (first ∷ rows) (row ∷ row ∷ []) mark) (firsts_next first rows row marks cycle is)

-- after rows, a cycle more is one row more
pub counted_next : (names : List (List ℕ)) (marks : List ℕ) (rows : List Row) (row : Row) → 0 < length rows → counted (watched names marks rows) row.fired ≡ watched names marks (rows ++ row ∷ [])
unfolding watched counted
counted_next names marks [] row some = absurd (omega (arith, some))
counted_next names marks (first ∷ rows) row some =
    let cycles : last_cycle (first ∷ rows) + 1 ≡ last_cycle (first ∷ (rows ++ row ∷ [])) = omega (arith, length-append rows (row ∷ [])) in
    ap₂ (λ (c : ℕ) (fs : List (Option ℕ)). record { names = names; marks = marks; cycles = c; firsts = fs }) cycles (firsts_next first rows row marks (last_cycle (first ∷ rows) + 1) refl)

-- the row before all cycles says nothing
pub watched_first : (names : List (List ℕ)) (marks : List ℕ) (row : Row) → watched names marks [] ≡ watched names marks (row ∷ [])
unfolding watched
watched_first names marks row = refl

-- the rows behind some, counted one by one
pub counted_rows : (names : List (List ℕ)) (marks : List ℕ) (rows rest : List Row) → 0 < length rows → counted_all (watched names marks rows) rest ≡ watched names marks (rows ++ rest)
counted_rows names marks rows [] some = ap (watched names marks) (sym (append-nil rows))
counted_rows names marks rows (row ∷ rest) some =
    ap (λ (k : Watched). counted_all k rest) (counted_next names marks rows row some)
    ∙ counted_rows names marks (rows ++ row ∷ []) rest (omega (arith, length-append rows (row ∷ [])))
    ∙ ap (watched names marks) (append_assoc rows (row ∷ []) rest)

-- ---- the law, batch by batch

none_after : (firsts : List (Option ℕ)) (marks : List ℕ) (cycle : ℕ) → length firsts ≡ length marks → firsts ≡ map (first_from cycle []) (zip firsts marks)
none_after [] marks cycle each = refl
none_after (first ∷ firsts) [] cycle each = absurd (omega (arith, each))
none_after (None ∷ firsts) (mark ∷ marks) cycle each = ap (λ (fs : List (Option ℕ)). None ∷ fs) (none_after firsts marks cycle (omega (arith, each)))
none_after (Some c ∷ firsts) (mark ∷ marks) cycle each = ap (λ (fs : List (Option ℕ)). Some c ∷ fs) (none_after firsts marks cycle (omega (arith, each)))

then_later : (first : Option ℕ) (b : Bool) (cycle : ℕ) (later : Option ℕ) → option_or (option_or first (cond b (Some cycle) None)) later ≡ option_or first (cond b (Some cycle) later)
then_later (Some c) b cycle later = refl
then_later None true cycle later = refl
then_later None false cycle later = refl

more_after : (firsts : List (Option ℕ)) (marks : List ℕ) (cycle : ℕ) (row : Row) (rows : List Row)
    → map (first_from (cycle + 1) rows) (zip (map (first_after cycle row.fired) (zip firsts marks)) marks) ≡ map (first_from cycle (row ∷ rows)) (zip firsts marks)
more_after [] marks cycle row rows = refl
more_after (first ∷ firsts) [] cycle row rows = refl
more_after (first ∷ firsts) (mark ∷ marks) cycle row rows =
    ap₂ (λ (f : Option ℕ) (fs : List (Option ℕ)). f ∷ fs) (then_later first (has_fired mark row) cycle (position_from (has_fired mark) (cycle + 1) rows)) (more_after firsts marks cycle row rows)

after_count : (firsts : List (Option ℕ)) (marks : List ℕ) (cycle : ℕ) (fired : List Bool) → length firsts ≡ length marks → length (map (first_after cycle fired) (zip firsts marks)) ≡ length marks
after_count firsts marks cycle fired each = length-map (zip firsts marks) (first_after cycle fired) ∙ zip_count firsts marks each ∙ each

-- the rows behind the first of a batch, counted one by one, are the batch
pub counts_watched : (known : Watched) (row : Row) (rest : List Row) → length known.firsts ≡ length known.marks → counted_all known rest ≡ watched_on known (row ∷ rest)
unfolding counted watched_on
counts_watched known row [] each =
    let cycles : known.cycles ≡ known.cycles + 0 = omega arith in
    ap₂ (λ (c : ℕ) (fs : List (Option ℕ)). record { names = known.names; marks = known.marks; cycles = c; firsts = fs }) cycles (none_after known.firsts known.marks (known.cycles + 1) each)
counts_watched known row (next ∷ rest) each =
    let cycles : known.cycles + 1 + length rest ≡ known.cycles + length (next ∷ rest) = omega arith in
    counts_watched (counted known next.fired) next rest (after_count known.firsts known.marks (known.cycles + 1) next.fired each)
    ∙ ap₂ (λ (c : ℕ) (fs : List (Option ℕ)). record { names = known.names; marks = known.marks; cycles = c; firsts = fs }) cycles (more_after known.firsts known.marks (known.cycles + 1) next rest)

-- and so what is known of the rows so far becomes what is known of these rows and the batch
pub counts_joined : (names : List (List ℕ)) (marks : List ℕ) (before : List Row) (known : Watched) (row : Row) (rest : List Row) → known ≡ watched names marks before
    → counted_all known rest ≡ watched names marks (joined before (row ∷ rest))
counts_joined names marks [] known row rest is =
    ap (λ (k : Watched). counted_all k rest) (is ∙ watched_first names marks row) ∙ counted_rows names marks (row ∷ []) rest (omega arith)
counts_joined names marks (first ∷ before) known row rest is =
    ap (λ (k : Watched). counted_all k rest) is ∙ counted_rows names marks (first ∷ before) rest (omega arith)
