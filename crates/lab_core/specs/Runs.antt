-- The cycles of a run, each with the registers that it finds and its trials.
use Rattle.std.specs.Prelude.{ℕ, ◌-◌, List, map}
use Rattle.std.specs.List.{range_with_len}
use Rattle.kw_bits.specs.BitVector.{BitVector}
use Rattle.typed_core.specs.declared.design.Parts.{Parts}
use Rattle.one_rule.specs.Cycle.{system_of}
use Rattle.one_rule.specs.Run.{InputsByCycle, first_values, last_registers, run_of}
use Rattle.lab_core.specs.Trials.{trials}
use Rattle.lab_core.specs.declared.trial.Trial.{Trial}

-- the registers that a cycle finds: those that the run up to the cycle before ends with
abbrev pub registers_before : Parts → InputsByCycle → ℕ → List BitVector
registers_before design inputs cycle = last_registers (first_values design) (run_of design inputs (cycle - 1))

-- the trials of a cycle of the run
abbrev pub trials_in : Parts → InputsByCycle → ℕ → List Trial
trials_in design inputs cycle = trials (system_of design) (inputs cycle) (registers_before design inputs cycle)

-- the trials of the cycles 1 to n
abbrev pub trials_of_run : Parts → InputsByCycle → ℕ → List (List Trial)
trials_of_run design inputs n = map (trials_in design inputs) (range_with_len 1 n)
