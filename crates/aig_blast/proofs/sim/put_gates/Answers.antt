use Rattle.aig_blast.proofs.SimValues.{both-AreBoth, gate-step}
use Rattle.aig_blast.proofs.sim.put_gates.Goals as goal

pub gate_value-value-requires-clause-both : goal.gate_value-value-requires-clause-both
gate_value-value-requires-clause-both c = both-AreBoth _ _ c.loop-k.invariant

pub loop-k-preserved : goal.loop-k-preserved
loop-k-preserved c =
    gate-step c.args.values.now c.loop-k.values c.put_value.new.values c.args.gates.now c.args.sources c.loop-k.k c.gate_value-value.result _ c.loop-k-test.true c.loop-k.invariant c.gate_value-value.ensures c.put_value.ensures
