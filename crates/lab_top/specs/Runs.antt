-- What the lab says of a run of a typed design: why its rules fired or didn't, cycle by cycle, and how often; and its
-- waves.
use Rattle.std.specs.Prelude.{ℕ, ◌-◌, Bool, List, ◌++◌, length, map, Option, None, Some, option_map}
use Rattle.std.specs.List.{flat_map, range_with_len}
use Rattle.kw_bits.specs.BitVector.{BitVector}
use Rattle.koika_check.specs.declared.checked.Checked.{Checked}
use Rattle.one_rule.specs.Run.{InputsByCycle, last_registers}
use Rattle.journal_check.specs.Tokens.{number_named}
use Rattle.front_end.specs.Sources.{name_of, shape_of}
use Rattle.front_end.specs.Systems.{first_values, run_of, system_of}
use Rattle.lab_core.specs.Numbers.{RunNumbers, fails_strictly, numbers_of}
use Rattle.lab_core.specs.Profiles.{profile_text}
use Rattle.lab_core.specs.Trials.{trials}
use Rattle.lab_core.specs.Why.{cycle_line, trials_text}
use Rattle.lab_core.specs.declared.trial.Trial.{Trial}
use Rattle.wave_text.specs.Waves.{dump}
use Rattle.lab_top.specs.Named.{declared}

-- the registers that a cycle of the run finds: those that the cycles before it leave
abbrev pub registers_before : Checked → InputsByCycle → ℕ → List BitVector
registers_before d inputs cycle = last_registers (first_values d) (run_of d inputs (cycle - 1))

-- the trials of a cycle of the run
abbrev pub trials_in : Checked → InputsByCycle → ℕ → List Trial
trials_in d inputs cycle = trials (system_of d) (inputs cycle) (registers_before d inputs cycle)

-- the number of the first rule of a name, if there is one
abbrev pub rule_named : Checked → List ℕ → Option ℕ
rule_named d name = number_named (map name_of d.rules) name

-- the rule that is asked for, or none where it is all of them; it has to be there
abbrev pub asked_of : Checked → Option (List ℕ) → Option (Option ℕ)
asked_of d None = Some None
asked_of d (Some name) = option_map (λ rule. Some rule) (rule_named d name)

-- what `why` writes of a cycle: its inputs and registers, and the trials in it, of all rules or of one
abbrev pub text_in : Checked → Option ℕ → InputsByCycle → ℕ → List ℕ
text_in d only inputs cycle =
    cycle_line (declared d) cycle (inputs cycle) (registers_before d inputs cycle)
    ++ trials_text (declared d) only (trials_in d inputs cycle)

-- and of that many cycles from this one on
abbrev pub why_text : Checked → Option ℕ → InputsByCycle → ℕ → ℕ → List ℕ
why_text d only inputs cycle cycles = flat_map (text_in d only inputs) (range_with_len cycle cycles)

-- what is counted of the trials of the cycles 1 to n
abbrev pub numbers_in : Checked → InputsByCycle → ℕ → RunNumbers
numbers_in d inputs n = numbers_of (length d.rules) (map (trials_in d inputs) (range_with_len 1 n))

-- what `profile` writes of them
abbrev pub profile_in : Checked → InputsByCycle → ℕ → List ℕ
profile_in d inputs n = profile_text (declared d) d.asserts (numbers_in d inputs n)

-- some assertion was violated, or a cycle says nothing of it
abbrev pub is_in_doubt : Checked → InputsByCycle → ℕ → Bool
is_in_doubt d inputs n = fails_strictly d.asserts (numbers_in d inputs n)

-- the value change dump of its first n cycles
abbrev pub waves_in : Checked → InputsByCycle → ℕ → List ℕ
waves_in d inputs n = dump (shape_of d) inputs (run_of d inputs n)
