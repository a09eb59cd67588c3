use Rattle.std.proofs.Common.{ℕ, List, Some, sym, ap₂, ◌∙◌, arith}
use Rattle.stim_report.proofs.Equals.{parts_none, parts_some}
use Rattle.stim_report.proofs.stimulus.name_and_value.Goals as goal

pub returns-then-start-lt2-clause-absent : goal.returns-then-start-lt2-clause-absent
returns-then-start-lt2-clause-absent c = parts_none c.args.word.now c.start_of_value-start.result c.start_of_value-start.ensures (omega arith)

pub returns-clause-found : goal.returns-clause-found
returns-clause-found c =
    parts_some c.args.word.now c.start_of_value-start.result c.start_of_value-start.ensures c.if-start-lt2.false
    ∙ ap₂ (λ (name value : List ℕ). Some (name, value)) (sym c.split_at.ensures.front) (sym c.split_at-2.ensures.back)
