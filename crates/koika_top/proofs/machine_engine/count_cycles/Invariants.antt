use Rattle.std.proofs.Common.{◌≡◌, ◌-◌, length}
use Rattle.one_rule.specs.Stimulus.{inputs_of}
use Rattle.circuit_eval.specs.Machines.{after_steps, rows_after}
use Rattle.koika_top.specs.inner.Telling.{GoesOnFrom, counted_all}
use Rattle.koika_top.proofs.machine_engine.count_cycles.Given as goal

-- the steps up to now are made, and the teller has counted their cycles
abbrev pub invariant-loop-last : goal.invariant-loop-last
invariant-loop-last g l = record {
  widths : g.M.Machine.input_widths l.machine ≡ g.M.Machine.input_widths l.fn.machine;
  room : length l.fired.items ≡ g.M.Machine.flag_count l.machine;
  made : l.machine ≡ after_steps g.M.Machine.after_step (inputs_of l.stimulus) (l.last - l.fn.ends.from) l.fn.ends.from l.fn.machine;
  counted : l.teller ≡ counted_all l.fn.teller (rows_after g.M.Machine.after_step g.M.Machine.row_at (inputs_of l.stimulus) (l.last - l.fn.ends.from) l.fn.ends.from l.fn.machine);
  goes_on : GoesOnFrom l.teller l.shape l.last;
}
