use Rattle.stim_report.proofs.FiredRules.{rule_shown}
use Rattle.stim_report.proofs.Pages.{room_first, room_left, goes_on}
use Rattle.stim_report.proofs.fired.push_fired.Goals as goal

pub push_if_fired-is_first-requires : goal.push_if_fired-is_first-requires
push_if_fired-is_first-requires c =
    let l = c.loop-number in
    room_first _ (room_left c.requires.room (rule_shown l.is_first c.args.rules.now c.args.fired.now l.number c.index-rules-number.result c.loop-number-test.true c.requires.flags c.index-rules-number.is l.invariant))

pub loop-number-preserved : goal.loop-number-preserved
loop-number-preserved c =
    let l = c.loop-number in
    let call = c.push_if_fired-is_first in
    rw call.ensures.first (goes_on (rule_shown l.is_first c.args.rules.now c.args.fired.now l.number c.index-rules-number.result c.loop-number-test.true c.requires.flags c.index-rules-number.is l.invariant) call.ensures.text)
