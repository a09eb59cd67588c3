use Rattle.std.proofs.Common.{◌≡◌, ◌+◌, ◌-◌, ◌∷◌, ◌++◌, length}
use Rattle.one_rule.specs.Cycle.{system_of}
use Rattle.one_rule.specs.Rows.{RowFits, RowsFit}
use Rattle.one_rule.specs.Run.{rows_after, run}
use Rattle.one_rule.specs.Stimulus.{inputs_of}
use Rattle.plain_run.specs.inner.Walking.{AreEmpty}
use Rattle.plain_run.proofs.runs.run_from.Given as goal

-- the rows that stand, the last one and those that are left make the run
abbrev pub invariant-loop-before : goal.invariant-loop-before
invariant-loop-before l =
    record {
      same : l.rows.items ++ l.last ∷ rows_after (system_of l.design) (inputs_of l.stimulus) (l.to - l.before) l.before l.last.regs ≡ run (system_of l.design) (inputs_of l.stimulus) l.regs l.from l.to;
      room : l.rows.capacity ≡ l.to - l.from + 1;
      count : length l.rows.items + l.from ≡ l.before;
      fit : RowsFit l.design l.rows.items;
      last : RowFits l.design l.last;
      logs : AreEmpty l.design l.logs;
    }
