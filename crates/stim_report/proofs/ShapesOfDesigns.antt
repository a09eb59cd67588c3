-- Rows that fit a design match its shape, and fit it.
use Rattle.std.proofs.Common.{◌≡◌, ℕ, List, [], ◌∷◌, map, length, refl, sym, ap, ◌∙◌, subst, arith}
use Rattle.std.specs.List.{AllByRecursion}
use Rattle.std.proofs.lemmas.List.{length-map}
use Rattle.typed_core.specs.Widths.{HaveWidths}
use Rattle.typed_core.specs.declared.design.Parts.{Parts}
use Rattle.typed_core.specs.declared.design.RegDecl.{RegDecl}
use Rattle.one_rule.specs.Rows as rows
use Rattle.one_rule.specs.declared.rows.Row.{Row}
use Rattle.stim_report.specs.Shapes as shapes
use Rattle.stim_report.specs.declared.shape.NameWidth.{NameWidth}

widths_named : (decls : List RegDecl) → map (λ (decl : RegDecl). decl.width) decls ≡ shapes.widths_of (map shapes.of_register decls)
widths_named [] = refl
widths_named (decl ∷ decls) = ap (λ (widths : List ℕ). decl.width ∷ widths) (widths_named decls)

row_matches : (design : Parts) (registers : List NameWidth) (rules : List (List ℕ)) → registers ≡ map shapes.of_register design.regs → rules ≡ map shapes.name_of design.rules
    → (row : Row) → rows.RowFits design row → shapes.RowMatches registers rules row
row_matches design registers rules is named row fits = record {
  values = subst (λ (widths : List ℕ). HaveWidths widths row.regs) (widths_named design.regs ∙ ap shapes.widths_of (sym is)) fits.registers;
  flags = fits.flags ∙ sym (length-map design.rules shapes.name_of) ∙ ap length (sym named);
}

pub rows_match : (design : Parts) (registers : List NameWidth) (rules : List (List ℕ)) → registers ≡ map shapes.of_register design.regs → rules ≡ map shapes.name_of design.rules
    → (run : List Row) → rows.RowsFit design run → AllByRecursion (shapes.RowMatches registers rules) run
rows_match design registers rules is named [] fit = tt
rows_match design registers rules is named (row ∷ run) fit = (row_matches design registers rules is named row fit.0, rows_match design registers rules is named run fit.1)

-- texts can show rows that match
pub match_fit : (registers : List NameWidth) (rules : List (List ℕ)) (run : List Row) → AllByRecursion (shapes.RowMatches registers rules) run → AllByRecursion (shapes.RowFits registers rules) run
match_fit registers rules [] all = tt
match_fit registers rules (row ∷ run) all = (record { values = all.0.values; flags = omega (arith, all.0.flags) }, match_fit registers rules run all.1)

pub rows_fit : (design : Parts) (registers : List NameWidth) (rules : List (List ℕ)) → registers ≡ map shapes.of_register design.regs → rules ≡ map shapes.name_of design.rules
    → (run : List Row) → rows.RowsFit design run → AllByRecursion (shapes.RowFits registers rules) run
rows_fit design registers rules is named run fit = match_fit registers rules run (rows_match design registers rules is named run fit)
