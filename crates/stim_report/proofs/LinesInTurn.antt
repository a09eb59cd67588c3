-- The lines of a report, one by one.
use Rattle.std.proofs.Common.{◌≡◌, ℕ, ◌+◌, ◌<◌, ◌≤◌, ◌^◌, List, [], ◌∷◌, ◌++◌, length, length-append, drop, get_or, sym, ap, ap₂, ◌∙◌, subst, arith, decimal}
use Rattle.std.proofs.lemmas.Fmt.{length-decimal-le}
use Rattle.std.proofs.lemmas.List.{drop_more}
use Rattle.kw_bits.specs.BitVector.{BitVector}
use Rattle.kw_bits.specs.Reserved.{ReservedList}
use Rattle.one_rule.specs.declared.rows.Row.{Row}
use Rattle.stim_report.specs.inner.Pages.{Leaves}
use Rattle.stim_report.specs.Report.{fired_names, line_of, lines_from, listed, registers_text}
use Rattle.stim_report.specs.Shapes.{RowsFit}
use Rattle.stim_report.specs.declared.shape.Shape.{Shape}

-- a row's line, and those behind it
lines_more : (shape : Shape) (cycle : ℕ) (rows : List Row) (i : ℕ) (row : Row) → i < length rows → row ≡ get_or rows i row
    → lines_from shape (cycle + i) (drop i rows) ≡ line_of shape (cycle + i) row ++ lines_from shape (cycle + (i + 1)) (drop (i + 1) rows)
lines_more shape cycle rows i row h is =
    let next : cycle + i + 1 ≡ cycle + (i + 1) = omega arith in
    ap (lines_from shape (cycle + i)) (drop_more rows i row h)
    ∙ ap₂ (λ (r : Row) (n : ℕ). line_of shape (cycle + i) r ++ lines_from shape n (drop (i + 1) rows)) (sym is) next

pub line_left : {old now : ReservedList ℕ} {whole : List ℕ} (shape : Shape) (cycle : ℕ) (rows : List Row) (i : ℕ) (row : Row) → i < length rows → row ≡ get_or rows i row
    → Leaves old whole now (lines_from shape (cycle + i) (drop i rows))
    → Leaves old whole now (line_of shape (cycle + i) row ++ lines_from shape (cycle + (i + 1)) (drop (i + 1) rows))
line_left {old} {now} {whole} shape cycle rows i row h is left = subst (λ (text : List ℕ). Leaves old whole now text) (lines_more shape cycle rows i row h is) left

-- the rows behind a row fit
pub rows_behind : (shape : Shape) (rows : List Row) (i : ℕ) (row : Row) → i < length rows → RowsFit shape (drop i rows) → RowsFit shape (drop (i + 1) rows)
rows_behind shape rows i row h fit = (subst (RowsFit shape) (drop_more rows i row h) fit).1

-- how long a line is
line_bound : (shape : Shape) (cycle : ℕ) (row : Row) (registers : ℕ) → cycle < 2 ^ 64 → ((values : List BitVector) → length (registers_text shape.registers values) ≤ registers)
    → length (line_of shape cycle row) ≤ 23 + length (listed (fired_names shape.rules row.fired)) + registers
line_bound shape cycle row registers few bound =
    let digits = decimal cycle in
    let names = listed (fired_names shape.rules row.fired) in
    let values = registers_text shape.registers row.regs in
    omega (
      arith,
      length-append digits (32 ∷ names),
      length-append (digits ++ 32 ∷ names) values,
      length-append ((digits ++ 32 ∷ names) ++ values) (10 ∷ []),
      bound row.regs,
      length-decimal-le 20 cycle (omega arith) (omega (arith, few)) few,
    )

pub lines_bound : (shape : Shape) (cycle : ℕ) (rows : List Row) (i : ℕ) (row : Row) (registers : ℕ) → i < length rows → row ≡ get_or rows i row → cycle + length rows < 2 ^ 64
    → ((values : List BitVector) → length (registers_text shape.registers values) ≤ registers)
    → length (lines_from shape (cycle + i) (drop i rows))
    ≤ 23 + length (listed (fired_names shape.rules row.fired)) + registers + length (lines_from shape (cycle + (i + 1)) (drop (i + 1) rows))
lines_bound shape cycle rows i row registers h is few bound =
    let rest = lines_from shape (cycle + (i + 1)) (drop (i + 1) rows) in
    omega (arith, ap length (lines_more shape cycle rows i row h is), length-append (line_of shape (cycle + i) row) rest, line_bound shape (cycle + i) row registers (omega (arith, h, few)) bound)
