-- What the private functions of a log say to one another: the value of its last write of a register, and what has become
-- of one register while another log joins it. No public contract cites it.
use Rattle.std.specs.Prelude.{◌≡◌, ℕ, zero, suc, Bool, true, ◌==◌, ◌&&◌, ◌||◌, if◌then◌else◌}
use Rattle.kw_bits.specs.BitVector.{BitVector}
use Rattle.typed_core.specs.Valid.{IsPort}
use Rattle.rule_log.specs.StandsFor.{RegisterLog, is_set, written}

-- the value of the write at the highest port below this one, or else the start value
abbrev pub written_below : RegisterLog → ℕ → ℕ → BitVector → BitVector
written_below log zero register start = start
written_below log (suc port) register start =
    if is_set log true port register then written log port register else written_below log port register start

-- one port of one register
abbrev pub is_same_place : ℕ → ℕ → ℕ → ℕ → Bool
is_same_place port register at other = (port == at) && (register == other)

-- at this register, the log has what the two others have, and where both have a write at a port, the second's value
pub record JoinedAt (first second both : RegisterLog) (register : ℕ) : Type 0 where
  pub flags : (write : Bool) (port : ℕ) → IsPort port → is_set both write port register ≡ (is_set first write port register || is_set second write port register)
  pub values : (port : ℕ) → IsPort port → written both port register ≡ (if is_set second true port register then written second port register else written first port register)

-- at this register, the logs are the same
pub record SameAt (old new : RegisterLog) (register : ℕ) : Type 0 where
  pub flags : (write : Bool) (port : ℕ) → IsPort port → is_set new write port register ≡ is_set old write port register
  pub values : (port : ℕ) → IsPort port → written new port register ≡ written old port register
