-- How long a run may be. The limits are this project's own.
use Rattle.std.specs.Prelude.{◌≡◌, ◌⊎◌, ℕ, ◌*◌, ◌||◌, nat_lt, min, Bool, true, List, length}
use Rattle.kw_base.specs.declared.fault.Fault.{Fault}
use Rattle.kw_bits.specs.declared.host.HostSpec.{HostSpec}
use Rattle.koika_check.specs.declared.checked.Checked.{Checked}
use Rattle.one_rule.specs.Stimulus.{InputVectors}
use Rattle.front_end.specs.Sources.{IsUnspelled, Spells, fault_of_source}

-- A run of more than 16,777,216 cycles is too long, and so is one with more than 4,194,304 register values or rule flags in
-- 256 cycles, or in all of its cycles if they are fewer.
abbrev pub is_too_long : (cycles registers rules : ℕ) → Bool
is_too_long cycles registers rules = nat_lt 16777216 cycles || nat_lt 4194304 (min cycles 256 * registers) || nat_lt 4194304 (min cycles 256 * rules)

-- whether a run of the design for these cycles is longer than runs may be
abbrev pub is_too_long_for : ℕ → Checked → Bool
is_too_long_for cycles d = is_too_long cycles (length d.registers) (length d.rules)

-- 45 where the run is too long
abbrev pub RunsTooLong : List HostSpec → ℕ → List ℕ → Fault → Type 0
RunsTooLong hosts cycles source fault =
    (fault ≡ fault_of_source 45) × ((design : Checked) × (stimulus : InputVectors) × Spells hosts source design stimulus × (is_too_long_for cycles design ≡ true))

-- the source has no run of that many cycles, and this is why
abbrev pub HasNoRun : List HostSpec → ℕ → List ℕ → Fault → Type 0
HasNoRun hosts cycles source fault = IsUnspelled hosts source fault ⊎ RunsTooLong hosts cycles source fault
