use Rattle.stim_report.proofs.ValueLines.{value_at, values_end, values_more}
use Rattle.stim_report.proofs.tally.push_values.Goals as goal

pub push_value-requires : goal.push_value-requires
push_value-requires c =
    value_at c.args.registers.now c.args.values.now c.loop-number.number c.index-registers-number.result c.index-values-number.result c.loop-number-test.true c.requires.few c.requires.are c.index-registers-number.is c.index-values-number.is

pub loop-number-preserved : goal.loop-number-preserved
loop-number-preserved c =
    values_more c.args.registers.now c.args.values.now c.loop-number.number c.index-registers-number.result c.index-values-number.result c.loop-number-test.true c.requires.few c.index-registers-number.is c.index-values-number.is
    _ _ _ c.loop-number.invariant c.in_ok-push_value.ensures

pub returns : goal.returns
returns c = values_end c.args.registers.now c.args.values.now c.loop-number.number c.loop-number-test.false _ _ c.loop-number.invariant
