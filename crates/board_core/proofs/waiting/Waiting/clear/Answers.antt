use Rattle.std.proofs.Common.{suc, ◌≡◌, ℕ, ◌+◌, ◌<◌, length, None, List, ◌++◌, replicate, drop, ap, ◌∙◌, arith}
use Rattle.std.specs.Prelude.{slice_set}
use Rattle.std.specs.Prelude.{Option}
use Rattle.attempt_log.specs.Attempt.{Attempted}
use Rattle.board_core.proofs.Flags.{set_next}
use Rattle.board_core.proofs.waiting.Waiting.clear.Goals as goal

pub loop-rule-preserved : goal.loop-rule-preserved
loop-rule-preserved c =
    let old = c.args.self.now in
    let rule = c.loop-rule.rule in
    let within : rule < length old = omega (arith, c.loop-rule-test.true, c.loop-rule.auto.rule-end, c.len-rule-end.ensures, c.self.inside.attempts.ok, ap (λ (slots : List (Option Attempted)). length slots) c.self.view_is) in
    let next : suc rule ≡ rule + 1 = omega arith in
    ap (λ (slots : List (Option Attempted)). slice_set slots rule None) c.loop-rule.invariant ∙ set_next rule None old within
    ∙ ap (λ (n : ℕ). replicate n None ++ drop n old) next
