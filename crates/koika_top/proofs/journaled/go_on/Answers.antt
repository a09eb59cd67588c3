use Rattle.std.proofs.Common.{◌≡◌, true, ap, inl, inr}
use Rattle.cycle_driver.proofs.Heads.{awaits_head, needs_head, past_last}
use Rattle.attempt_log.specs.Seats.{is_finished}
use Rattle.koika_top.proofs.journaled.go_on.Goals as goal

pub do_head-requires-clause-awaits : goal.do_head-requires-clause-awaits
do_head-requires-clause-awaits c =
    let told = c.in_ok-settle_head.field-0 in
    let needs : needs_head told ≡ true = elim c.in-Stale.is [ inl stale ↦ ap needs_head stale.3 | inr waiting ↦ ap needs_head waiting.2 ] in
    awaits_head c.args.core.now c.settle_head.new.core c.recall.ensures c.settle_head.ensures.plain c.settle_head.ensures.opening told c.in_ok-settle_head.ensures.step needs

pub returns-in-Finished-clause-finished : goal.returns-in-Finished-clause-finished
returns-in-Finished-clause-finished c more =
    let told = c.in_ok-settle_head.field-0 in
    past_last c.args.core.now c.settle_head.new.core c.recall.ensures c.settle_head.ensures.plain c.settle_head.ensures.opening told c.in_ok-settle_head.ensures.step (ap is_finished c.in-Finished.is)
