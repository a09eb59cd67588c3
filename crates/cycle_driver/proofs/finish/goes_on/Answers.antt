use Rattle.std.proofs.Common.{◌≡◌, true, ap, inl, inr}
use Rattle.cycle_driver.proofs.Heads.{awaits_head, needs_head, past_last}
use Rattle.attempt_log.specs.Seats.{is_finished}
use Rattle.cycle_driver.proofs.finish.goes_on.Goals as goal

pub settle_head-requires : goal.settle_head-requires
settle_head-requires c =
    let needs : needs_head c.settle.result ≡ true = elim c.in-Stale.is [ inl stale ↦ ap needs_head stale.3 | inr waiting ↦ ap needs_head waiting.2 ] in
    awaits_head c.args.core.now c.settle.new.self c.recall.ensures c.settle.ensures.plain c.settle.ensures.opening c.settle.result c.settle.ensures.step needs

pub returns-in-Finished-clause-finished : goal.returns-in-Finished-clause-finished
returns-in-Finished-clause-finished c more =
    past_last c.args.core.now c.settle.new.self c.recall.ensures c.settle.ensures.plain c.settle.ensures.opening c.settle.result c.settle.ensures.step (ap is_finished c.in-Finished.is)
