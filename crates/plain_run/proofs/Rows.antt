-- One row more of a run.
use Rattle.std.proofs.Common.{◌≡◌, ℕ, suc, ◌+◌, ◌-◌, ◌<◌, List, [], ◌∷◌, ◌++◌, sym, ap, ◌∙◌, arith, append_assoc}
use Rattle.typed_core.specs.declared.design.Parts.{Parts}
use Rattle.one_rule.specs.declared.rows.Row.{Row}
use Rattle.one_rule.specs.Cycle.{System, cycle}
use Rattle.one_rule.specs.Rows.{RowFits, RowsFit}
use Rattle.one_rule.specs.Run.{InputsByCycle, rows_after}

-- the rows that are left begin with the next cycle's
rows_after-next : (system : System) (inputs : InputsByCycle) (n i : ℕ) (last next : Row) → i < n → next ≡ cycle system (inputs (i + 1)) last.regs → rows_after system inputs (n - i) i last.regs ≡ next ∷ rows_after system inputs (n - (i + 1)) (i + 1) next.regs
rows_after-next system inputs n i last next h e =
    let left : n - i ≡ suc (n - (i + 1)) = omega arith in
    ap (λ count. rows_after system inputs count i last.regs) left ∙ ap (λ row. row ∷ rows_after system inputs (n - (i + 1)) (i + 1) row.regs) (sym e)

-- a row moves from the one that is next to those that stand
pub run_step : (system : System) (inputs : InputsByCycle) (n i : ℕ) (rows rows' all : List Row) (last next : Row) → i < n → rows' ≡ rows ++ last ∷ [] → next ≡ cycle system (inputs (i + 1)) last.regs → rows ++ last ∷ rows_after system inputs (n - i) i last.regs ≡ all → rows' ++ next ∷ rows_after system inputs (n - (i + 1)) (i + 1) next.regs ≡ all
run_step system inputs n i rows rows' all last next h pushed e same =
    let rest = next ∷ rows_after system inputs (n - (i + 1)) (i + 1) next.regs in
    ap (λ front. front ++ rest) pushed ∙ append_assoc rows (last ∷ []) rest
    ∙ ap (λ left. rows ++ last ∷ left) (sym (rows_after-next system inputs n i last next h e)) ∙ same

pub RowsFit-push : (design : Parts) (rows : List Row) (row : Row) → RowsFit design rows → RowFits design row → RowsFit design (rows ++ row ∷ [])
RowsFit-push design [] row f g = (g, tt)
RowsFit-push design (x ∷ rows) row f g = (f.0, RowsFit-push design rows row f.1 g)
