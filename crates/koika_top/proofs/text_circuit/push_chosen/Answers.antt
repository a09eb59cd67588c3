use Rattle.std.proofs.Common.{arith}
use Rattle.koika_top.proofs.ChosenOutputs.{push-more}
use Rattle.koika_top.proofs.text_circuit.push_chosen.Goals as goal

pub loop-number-preserved : goal.loop-number-preserved
loop-number-preserved c =
    push-more c.args.mask.now c.args.wires.now c.args.all.now c.loop-number.all c.push_if.new.all c.loop-number.number _ c.index-wires-number.result c.loop-number-test.true
    (omega (arith, c.loop-number-test.true, c.requires)) c.loop-number.invariant c.index-wires-number.is c.in_ok-push_if.ensures
