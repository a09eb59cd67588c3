use Rattle.std.proofs.Common.{◌≡◌, ℕ, List, [], ap, ap₂, ◌∙◌, arith}
use Rattle.std.specs.Arc.{arc_value}
use Rattle.one_rule.specs.Run.{first_values}
use Rattle.koika_assert.specs.Violations.{watched}
use Rattle.koika_assert.proofs.FirstsJoined.{cycles_known}
use Rattle.front_end.proofs.LoweredRuns.{first-same}
use Rattle.stream_run.proofs.Places.{place-first}
use Rattle.stream_run.proofs.line_run.LineRun.first.Goals as goal

pub invariant_of-result : goal.invariant_of-result
invariant_of-result c = record { cycles = cycles_known _ _ [] _ c.in_ok-watch.ensures; few = omega arith }

pub returns-clause-place : goal.returns-clause-place
returns-clause-place c =
    let it = c.args.lowered.now in
    place-first it.checked c.args.line c.in_ok-regs.regs c.in_ok-watch.watch
    (c.in_ok-regs.ensures.values ∙ ap first_values c.deref-design.ensures ∙ first-same it.checked (arc_value it.design) it.lowered)
    (c.in_ok-watch.ensures ∙ ap₂ (λ (names : List (List ℕ)) (marks : List ℕ). watched names marks []) c.in_ok-names.ensures (c.in_ok-marks.ensures ∙ c.asserts.ensures))
