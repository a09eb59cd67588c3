-- The report of a run that is made in batches.
use Rattle.std.proofs.Common.{◌≡◌, ◌≢◌, ℕ, suc, ◌+◌, ◌≤◌, List, [], ◌∷◌, ◌++◌, length, length-append, drop, refl, sym, ap, ◌∙◌, append_assoc, append-nil, arith}
use Rattle.std.specs.List.{AllByRecursion, fold}
use Rattle.one_rule.specs.declared.rows.Row.{Row}
use Rattle.stim_report.specs.Batches.{PartsJoin, BatchesJoin, joined, last_cycle, reports_behind}
use Rattle.stim_report.specs.Report.{line_of, lines_from, report, report_part}
use Rattle.stim_report.specs.declared.shape.Shape.{Shape}

lines-append : (shape : Shape) (cycle : ℕ) (rows more : List Row) → lines_from shape cycle (rows ++ more) ≡ lines_from shape cycle rows ++ lines_from shape (cycle + length rows) more
lines-append shape cycle [] more = let e : cycle + 0 ≡ cycle = omega arith in ap (λ n. lines_from shape n more) (sym e)
lines-append shape cycle (row ∷ rows) more =
    let e : cycle + 1 + length rows ≡ cycle + length (row ∷ rows) = omega arith in
    ap (λ text. line_of shape cycle row ++ text) (lines-append shape (cycle + 1) rows more ∙ ap (λ n. lines_from shape (cycle + 1) rows ++ lines_from shape n more) e)
    ∙ sym (append_assoc (line_of shape cycle row) (lines_from shape (cycle + 1) rows) (lines_from shape (cycle + length (row ∷ rows)) more))

-- a part that begins behind a cycle has the lines behind its first row
part_behind : (shape : Shape) (batch : List Row) (before : ℕ) → report_part shape batch (suc before) ≡ lines_from shape (suc before + 1) (drop 1 batch)
part_behind shape [] before = refl
part_behind shape (row ∷ batch) before = refl

pub parts_join : (shape : Shape) → PartsJoin shape
parts_join shape [] batch some = refl
parts_join shape (row ∷ []) batch some = absurd (some refl)
parts_join shape (row ∷ next ∷ rows) batch some =
    let all = row ∷ next ∷ rows in
    let e : last_cycle all ≡ suc (length rows) = omega arith in
    let behind : suc (length rows) + 1 ≡ 0 + length all = omega arith in
    ap (λ n. report shape all ++ report_part shape batch n) e ∙ ap (λ text. report shape all ++ text) (part_behind shape batch (length rows) ∙ ap (λ n. lines_from shape n (drop 1 batch)) behind)
    ∙ sym (lines-append shape 0 all (drop 1 batch))

length-joined : (rows batch : List Row) → 2 ≤ length batch → length (joined rows batch) ≢ 1
length-joined [] batch many = λ one. omega (arith, many, one)
length-joined (row ∷ rows) [] many = absurd (omega (arith, many))
length-joined (row ∷ rows) (first ∷ []) many = absurd (omega (arith, many))
length-joined (row ∷ rows) (first ∷ second ∷ batch) many = λ one. omega (arith, one, length-append (row ∷ rows) (second ∷ batch))

join_behind : (shape : Shape) (batches : List (List Row)) (rows : List Row) → AllByRecursion (λ (batch : List Row). 2 ≤ length batch) batches → length rows ≢ 1
    → report shape rows ++ reports_behind shape rows batches ≡ report shape (fold joined rows batches)
join_behind shape [] rows many some = append-nil (report shape rows)
join_behind shape (batch ∷ batches) rows many some =
    sym (append_assoc (report shape rows) (report_part shape batch (last_cycle rows)) (reports_behind shape (joined rows batch) batches))
    ∙ ap (λ text. text ++ reports_behind shape (joined rows batch) batches) (parts_join shape rows batch some)
    ∙ join_behind shape batches (joined rows batch) many.1 (length-joined rows batch many.0)

pub batches_join : (shape : Shape) → BatchesJoin shape
batches_join shape batches many = join_behind shape batches [] many (λ one. absurd (omega (arith, one)))
