use Rattle.std.proofs.Common.{Bool, [], ap₂, ◌∙◌}
use Rattle.std.specs.Prelude.{◌||◌}
use Rattle.typed_core.specs.Widths.{register_widths}
use Rattle.net_action.proofs.Growth.{grows_on, log_kept, values_before, wire_kept}
use Rattle.net_action.proofs.ports.refuses_write.Goals as goal

pub refuses-requires-2-clause-log : goal.refuses-requires-2-clause-log
refuses-requires-2-clause-log c = log_kept [] c.args.net.now c.refuses.new.net (register_widths c.args.design.now) c.args.run.now.log (c.refuses.ensures.grows []) c.requires.run

pub returns-in_err-by_rule-clause-grows : goal.returns-in_err-by_rule-clause-grows
returns-in_err-by_rule-clause-grows c inputs = grows_on inputs c.args.net.now c.refuses.new.net c.refuses-2.new.net (c.refuses.ensures.grows inputs) (c.refuses-2.ensures.grows inputs)

pub either-requires-clause-a : goal.either-requires-clause-a
either-requires-clause-a c = wire_kept [] c.refuses.new.net c.refuses-2.new.net c.in_ok-by_scheduler.by_scheduler 1 (c.refuses-2.ensures.grows []) c.in_ok-by_scheduler.ensures.wire

pub returns-in_err-refused-clause-grows : goal.returns-in_err-refused-clause-grows
returns-in_err-refused-clause-grows c inputs = grows_on inputs c.args.net.now c.refuses-2.new.net c.either.new.net (grows_on inputs c.args.net.now c.refuses.new.net c.refuses-2.new.net (c.refuses.ensures.grows inputs) (c.refuses-2.ensures.grows inputs)) (c.either.ensures.grows inputs)

pub returns-clause-grows : goal.returns-clause-grows
returns-clause-grows c inputs = grows_on inputs c.args.net.now c.refuses-2.new.net c.either.new.net (grows_on inputs c.args.net.now c.refuses.new.net c.refuses-2.new.net (c.refuses.ensures.grows inputs) (c.refuses-2.ensures.grows inputs)) (c.either.ensures.grows inputs)

pub returns-clause-up : goal.returns-clause-up
returns-clause-up c s values events own are st so =
    let second = values_before s [] c.refuses-2.new.net c.either.new.net values (c.either.ensures.grows []) are in
    let first = values_before s [] c.refuses.new.net c.refuses-2.new.net values (c.refuses-2.ensures.grows []) second in
    c.in_ok-refused.ensures.up s values are
    ∙ ap₂ (λ (a b : Bool). a || b) (c.in_ok-by_scheduler.ensures.up s values events first st) (c.in_ok-by_rule.ensures.up s values own second so)
