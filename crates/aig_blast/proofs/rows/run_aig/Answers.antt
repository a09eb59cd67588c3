use Rattle.std.proofs.Common.{ap, ◌∙◌}
use Rattle.one_rule.specs.Stimulus.{inputs_of}
use Rattle.aig_blast.specs.AigSims.{rows_from, Simulation}
use Rattle.aig_blast.proofs.AigRows.{run-begins}
use Rattle.aig_blast.proofs.rows.run_aig.Goals as goal

pub returns : goal.returns
returns c =
    c.in_ok-rows.ensures.rows ∙ ap (λ (s : Simulation). rows_from s (inputs_of c.args.stimulus.now) 0 c.args.n) c.in_ok-sim.ensures ∙ run-begins c.args.aig.now (inputs_of c.args.stimulus.now) c.args.n
