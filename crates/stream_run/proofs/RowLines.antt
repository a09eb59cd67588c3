-- The line of the second of two rows.
use Rattle.std.proofs.Common.{◌≡◌, ℕ, zero, suc, ◌+◌, ◌<◌, ◌≤◌, List, [], ◌∷◌, ◌++◌, length, length-append, take, drop, sym, ap, ap₂, subst, ◌∙◌, append-nil, arith}
use Rattle.std.proofs.Math.Seq.{drop-append_seam}
use Rattle.one_rule.specs.declared.rows.Row.{Row}
use Rattle.stim_report.specs.Report.{line_of, lines_from, report, report_part}
use Rattle.stim_report.specs.Shapes.{RowsFit}
use Rattle.stim_report.specs.declared.shape.Shape.{Shape}

module _ (shape : Shape) where
  -- after some cycles
  pub later-line : (first next : Row) (before : ℕ) → 0 < before → report_part shape (first ∷ next ∷ []) before ≡ line_of shape (before + 1) next
  later-line first next zero some = absurd (omega (arith, some))
  later-line first next (suc before) some = append-nil (line_of shape (suc before + 1) next)

  -- after none
  pub first-line : (first next : Row) (rows : List Row) (text head : List ℕ) (before : ℕ) → rows ≡ first ∷ next ∷ [] → before ≡ 0 → text ≡ report_part shape rows before → head ≡ report shape (take 1 rows)
      → drop (length head) text ≡ line_of shape (before + 1) next
  first-line first next rows text head before is none told front =
      let one : head ≡ line_of shape 0 first = front ∙ ap (λ (all : List Row). report shape (take 1 all)) is ∙ append-nil (line_of shape 0 first) in
      let both : text ≡ line_of shape 0 first ++ (line_of shape 1 next ++ []) = told ∙ ap₂ (λ (all : List Row) (n : ℕ). report_part shape all n) is none in
      ap₂ (λ (h t : List ℕ). drop (length h) t) one both ∙ drop-append_seam (line_of shape 0 first) (line_of shape 1 next ++ []) ∙ append-nil (line_of shape 1 next)
      ∙ ap (λ n. line_of shape (n + 1) next) (sym none)

  -- the first row's line is no longer than all lines
  pub front-length : (rows : List Row) (text head : List ℕ) (before : ℕ) → before ≡ 0 → text ≡ report_part shape rows before → head ≡ report shape (take 1 rows) → length head ≤ length text
  front-length rows text head before none told front =
      let all : text ≡ report shape rows = told ∙ ap (report_part shape rows) none in
      omega (arith, ap length all, ap length front, shorter rows)
    where
      shorter : (rows : List Row) → length (report shape (take 1 rows)) ≤ length (report shape rows)
      shorter [] = omega arith
      shorter (row ∷ []) = omega arith
      shorter (row ∷ next ∷ rows) = omega (arith, length-append (line_of shape 0 row) [], length-append (line_of shape 0 row) (lines_from shape 1 (next ∷ rows)))

  pub fit-front : (rows : List Row) → RowsFit shape rows → RowsFit shape (take 1 rows)
  fit-front [] fit = tt
  fit-front (row ∷ rows) fit = (fit.0, tt)
