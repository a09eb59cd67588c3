-- What a teller and a watch know before all rows, and what is told of no marks.
use Rattle.std.proofs.Common.{◌≡◌, ℕ, zero, suc, ◌+◌, ◌∷◌, ◌++◌, List, [], sym, ap, ap₂, ◌∙◌, append-nil, arith}
use Rattle.std.specs.List.{range_with_len}
use Rattle.one_rule.specs.declared.rows.Row.{Row}
use Rattle.stim_report.specs.declared.shape.Shape.{Shape}
use Rattle.koika_assert.specs.Violations.{Watched, violations, watched}
use Rattle.front_end.specs.Marks.{Marks}
use Rattle.koika_top.specs.Sim.{rows_text}
use Rattle.koika_top.specs.inner.Telling.{HasRows, all_told, marks_in, shown_by}
use Rattle.koika_top.specs.declared.shown.Shown.{Shown}
use Rattle.koika_top.specs.declared.teller.Teller.{Teller}

-- one number more
pub range-more : (from n to : ℕ) → from + n ≡ to → range_with_len from (suc n) ≡ range_with_len from n ++ to ∷ []
range-more from zero to e = let same : from ≡ to = omega (arith, e) in ap (λ (k : ℕ). k ∷ []) same
range-more from (suc n) to e = ap (λ (rest : List ℕ). from ∷ rest) (range-more (from + 1) n to (omega (arith, e)))

pub range-next : (from n to : ℕ) → from + n ≡ to → range_with_len from (n + 1) ≡ range_with_len from n ++ to ∷ []
range-next from n to e = let on : n + 1 ≡ suc n = omega arith in ap (range_with_len from) on ∙ range-more from n to e

-- ---- watches

-- a watch has the names and marks that it was made of
pub watched-names : (w : Watched) (names : List (List ℕ)) (marks : List ℕ) (rows : List Row) → w ≡ watched names marks rows → w.names ≡ names
unfolding watched
watched-names w names marks rows h = ap (λ (k : Watched). k.names) h

pub watched-marks : (w : Watched) (names : List (List ℕ)) (marks : List ℕ) (rows : List Row) → w ≡ watched names marks rows → w.marks ≡ marks
unfolding watched
watched-marks w names marks rows h = ap (λ (k : Watched). k.marks) h

pub watched-own : (w : Watched) (names : List (List ℕ)) (marks : List ℕ) (rows : List Row) → w ≡ watched names marks rows → w ≡ watched w.names w.marks rows
watched-own w names marks rows h =
    h ∙ sym (ap₂ (λ (ns : List (List ℕ)) (ms : List ℕ). watched ns ms rows) (watched-names w names marks rows h) (watched-marks w names marks rows h))

-- of no names nothing is told
pub none-told : (names : List (List ℕ)) (marks : List ℕ) (rows : List Row) → names ≡ [] → violations names marks rows ≡ []
unfolding watched
none-told names marks rows none = ap (λ (ns : List (List ℕ)). violations ns marks rows) none

-- ---- tellers

-- a teller has no rows of its own marks where it has none of the marks that it was made of
pub has-own : (teller : Teller) (shape : Shape) (marks : Marks) → HasRows teller shape marks [] → HasRows teller shape (marks_in teller) []
has-own teller shape marks h = (h.0, watched-own teller.watch marks.names marks.rules [] h.1)

-- and watches the marks that it was made of
pub marks-same : (teller : Teller) (shape : Shape) (marks : Marks) → HasRows teller shape marks [] → marks_in teller ≡ marks
marks-same teller shape marks none =
    ap₂ (λ (names : List (List ℕ)) (rules : List ℕ). record { names = names; rules = rules })
    (watched-names teller.watch marks.names marks.rules [] none.1) (watched-marks teller.watch marks.names marks.rules [] none.1)

-- of no marks it tells nothing after the rows
pub nothing-after : (teller : Teller) (shape : Shape) (marks : Marks) (shown : Shown) (rows : List Row) → marks.names ≡ [] → HasRows teller shape marks [] → shown_by teller ≡ shown
    → all_told (shown_by teller) shape (marks_in teller) rows ≡ rows_text shown shape rows
nothing-after teller shape marks shown rows none h is =
    ap (λ (s : Shown). all_told s shape (marks_in teller) rows) is
    ∙ ap (λ (l : List ℕ). rows_text shown shape rows ++ l) (none-told teller.watch.names teller.watch.marks rows (watched-names teller.watch marks.names marks.rules [] h.1 ∙ none))
    ∙ append-nil (rows_text shown shape rows)

-- and of the marks that it was made of what is shown of the rows and their violations
pub marked-told : (teller : Teller) (shape : Shape) (marks : Marks) (shown : Shown) (rows : List Row) → HasRows teller shape marks [] → shown_by teller ≡ shown
    → all_told (shown_by teller) shape (marks_in teller) rows ≡ rows_text shown shape rows ++ violations marks.names marks.rules rows
marked-told teller shape marks shown rows h is =
    ap (λ (s : Shown). all_told s shape (marks_in teller) rows) is
    ∙ ap (λ (m : Marks). all_told shown shape m rows) (marks-same teller shape marks h)
