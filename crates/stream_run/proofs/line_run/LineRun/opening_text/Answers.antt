use Rattle.std.proofs.Common.{◌≡◌, ℕ, List, [], ◌∷◌, ◌++◌, length, sym, ap, ap₂, subst, ◌∙◌, append-nil}
use Rattle.std.proofs.lemmas.Result.{IfOk-weaker}
use Rattle.std.specs.Arc.{arc_value}
use Rattle.typed_core.specs.declared.design.Parts.{Parts}
use Rattle.one_rule.specs.Rows as core_rows
use Rattle.one_rule.specs.Run.{opening}
use Rattle.one_rule.specs.declared.rows.Row.{Row}
use Rattle.stim_report.specs.Report.{line_of, report}
use Rattle.stim_report.specs.Shapes.{RowsFit}
use Rattle.stim_report.specs.declared.shape.Shape.{Shape}
use Rattle.front_end.specs.Sources.{shape_of}
use Rattle.front_end.proofs.LoweredRuns.{rules-count}
use Rattle.stream_run.proofs.Cycles.{rows-shown}
use Rattle.stream_run.proofs.line_run.LineRun.opening_text.Goals as goal

pub report-requires : goal.report-requires
report-requires c =
    let it = c.args.lowered.now in
    let design = arc_value it.design in
    let row = c.in_ok-opening.field-0 in
    let pushed : c.push.new.self ≡ row ∷ [] = c.in_ok-push.ensures.ok ∙ ap (λ (rows : List Row). rows ++ row ∷ []) c.new-rows.ensures in
    let fits : core_rows.RowFits design row = subst (λ (parts : Parts). core_rows.RowFits parts row) c.deref-design.ensures c.in_ok-opening.ensures.fits in
    subst (λ (shape : Shape). RowsFit shape c.push.new.self) (sym it.shape_fits)
    (rows-shown it.checked design it.lowered c.push.new.self (subst (core_rows.RowsFit design) (sym pushed) (fits, tt)))

pub returns : goal.returns
returns c =
    let it = c.args.lowered.now in
    let design = arc_value it.design in
    let row = c.in_ok-opening.field-0 in
    let pushed : c.push.new.self ≡ row ∷ [] = c.in_ok-push.ensures.ok ∙ ap (λ (rows : List Row). rows ++ row ∷ []) c.new-rows.ensures in
    let count : length c.deref-design.result.now.rules ≡ length it.checked.rules = ap (λ (parts : Parts). length parts.rules) c.deref-design.ensures ∙ rules-count it.checked design it.lowered in
    let values = c.in_ok-regs.ensures ∙ c.as_slice.ensures in
    let first : row ≡ opening (length it.checked.rules) c.args.self.now.regs = c.in_ok-opening.ensures.row ∙ (λ i. opening (count i) (values i)) in
    IfOk-weaker c.report.result (λ (text : List ℕ). text ≡ report it.shape c.push.new.self) _
    (λ text same.
    same ∙ ap₂ (λ (shape : Shape) (rows : List Row). report shape rows) it.shape_fits (pushed ∙ ap (λ (one : Row). one ∷ []) first)
    ∙ append-nil (line_of (shape_of it.checked) 0 (opening (length it.checked.rules) c.args.self.now.regs)))
    c.report.ensures
