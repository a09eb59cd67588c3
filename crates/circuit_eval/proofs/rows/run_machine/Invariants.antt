use Rattle.std.proofs.Common.{◌≡◌, ◌-◌, ◌++◌, ◌∷◌}
use Rattle.one_rule.specs.Stimulus.{inputs_of}
use Rattle.circuit_eval.specs.Machines.{after_steps, rows_after}
use Rattle.circuit_eval.proofs.rows.run_machine.Given as goal

-- the rows so far, and those of the cycles to come, are those from the start; the steps up to now are made
abbrev pub invariant-loop-last : goal.invariant-loop-last
invariant-loop-last g l = record {
  widths : g.M.Machine.input_widths l.machine ≡ g.M.Machine.input_widths l.fn.machine;
  rows : l.rows ++ rows_after g.M.Machine.after_step g.M.Machine.row_at (inputs_of l.stimulus) (l.to - l.last) l.last l.machine
      ≡ g.M.Machine.row_at l.fn.machine ∷ rows_after g.M.Machine.after_step g.M.Machine.row_at (inputs_of l.stimulus) (l.to - l.from) l.from l.fn.machine;
  made : l.machine ≡ after_steps g.M.Machine.after_step (inputs_of l.stimulus) (l.last - l.from) l.from l.fn.machine;
}
