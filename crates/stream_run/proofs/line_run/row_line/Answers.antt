use Rattle.std.proofs.Common.{◌≡◌, ℕ, List, drop, ap, ◌∙◌, arith}
use Rattle.std.proofs.lemmas.Result.{IfOk-weaker}
use Rattle.stim_report.specs.Report.{report}
use Rattle.stream_run.proofs.RowLines.{first-line}
use Rattle.stream_run.proofs.line_run.row_line.Goals as goal

pub returns : goal.returns
returns c =
    let none : c.args.before ≡ 0 = omega (arith, c.if-before-gt0.false) in
    IfOk-weaker c.from_slice.result (λ (text : List ℕ). text ≡ c.split_at.result.1.now) _
    (λ text same first next is.
    same ∙ c.split_at.ensures.back ∙ (λ i. drop (c.len.ensures i) (c.as_slice.ensures i))
    ∙ first-line c.args.shape.now first next c.args.rows c.in_ok-text.text c.in_ok-first.first c.args.before is none c.in_ok-text.ensures (c.in_ok-first.ensures ∙ ap (report c.args.shape.now) c.truncate.ensures))
    c.from_slice.ensures
