use Rattle.std.proofs.Common.{◌∙◌, false, arith}
use Rattle.std.proofs.lemmas.List.{length-set}
use Rattle.stim_report.proofs.GivenInputs.{first_input, none_left, other_inputs, taken_back}
use Rattle.stim_report.proofs.given.clear_given.Goals as goal

pub loop-assignment-preserved : goal.loop-assignment-preserved
loop-assignment-preserved c =
    let l = c.loop-assignment in
    let a = c.assignment-item in
    let within = first_input _ c.args.line.now l.assignment-index a.result c.loop-assignment-test.true a.is l.invariant.inputs in
    record {
      count = length-set l.given.items a.result.0 false ∙ l.invariant.count;
      inputs = other_inputs _ c.args.line.now l.assignment-index a.result c.loop-assignment-test.true l.invariant.inputs;
      left = taken_back l.given.items c.args.line.now l.assignment-index a.result c.loop-assignment-test.true a.is (omega (arith, within, l.invariant.count)) l.invariant.left;
    }

pub returns-clause-given : goal.returns-clause-given
returns-clause-given c = none_left c.loop-assignment.given.items c.args.line.now c.loop-assignment.assignment-index c.loop-assignment-test.false c.loop-assignment.invariant.left
