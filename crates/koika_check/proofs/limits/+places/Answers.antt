use Rattle.std.proofs.Common.{◌∙◌, ◌++◌, arith}
use Rattle.koika_syntax.specs.declared.tree.Choice.{out-Choice}
use Rattle.koika_syntax.specs.declared.tree.Scheduler.{out-Scheduler}
use Rattle.koika_check.specs.Checks.{places_if, scheduler_places}
use Rattle.koika_check.proofs.Surplus.{choice-first, choice-rest, last_places, scheduler-split}
use Rattle.koika_check.proofs.limits.+places.Goals as goal

pub in_choice-returns-then-left-eq0 : goal.in_choice-returns-then-left-eq0
in_choice-returns-then-left-eq0 t c behind = choice-first c.args.of.now behind c.args.left.now c.if-left-eq0.true

pub in_choice-returns-in-Some : goal.in_choice-returns-in-Some
in_choice-returns-in-Some t c behind =
    choice-rest c.args.of.now behind c.args.left.now (omega arith) ∙ c.in-Some.ensures (scheduler_places (out-Choice c.args.of.now).otherwise ++ behind)

pub in_choice-returns-in-None : goal.in_choice-returns-in-None
in_choice-returns-in-None t c behind =
    choice-rest c.args.of.now behind c.args.left.now (omega arith) ∙ c.in-None.ensures (scheduler_places (out-Choice c.args.of.now).otherwise ++ behind)
    ∙ c.in_scheduler-in-None.ensures behind

pub in_scheduler-returns-in-Some : goal.in_scheduler-returns-in-Some
in_scheduler-returns-in-Some t c behind =
    scheduler-split c.args.of.now c.as_slice.result.now behind c.args.left.now c.as_slice.ensures ∙ c.in-Some.ensures (places_if (last_places (out-Scheduler c.args.of.now).last) ++ behind)

pub in_scheduler-returns-in-None : goal.in_scheduler-returns-in-None
in_scheduler-returns-in-None t c behind =
    scheduler-split c.args.of.now c.as_slice.result.now behind c.args.left.now c.as_slice.ensures ∙ c.in-None.ensures (places_if (last_places (out-Scheduler c.args.of.now).last) ++ behind)
    ∙ c.in_last.ensures behind
