use Rattle.std.proofs.Common.{ℕ, List, Some, sym, ap₂, ◌∙◌, arith}
use Rattle.stim_report.proofs.Equals.{parts_none, parts_some}
use Rattle.journal_check.proofs.access.name_and_value.Goals as goal

pub returns-then-start-lt2 : goal.returns-then-start-lt2
returns-then-start-lt2 c = parts_none c.args.token.now c.start_of_value-start.result c.start_of_value-start.ensures (omega arith)

pub returns : goal.returns
returns c =
    parts_some c.args.token.now c.start_of_value-start.result c.start_of_value-start.ensures c.if-start-lt2.false
    ∙ ap₂ (λ (name value : List ℕ). Some (name, value)) (sym c.split_at.ensures.front) (sym c.split_at-2.ensures.back)
