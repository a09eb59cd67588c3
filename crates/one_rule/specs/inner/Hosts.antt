-- What private functions alone cite of this crate's `Hosts`.
use Rattle.std.specs.Prelude.{◌≡◌, ℕ, ◌<◌, ◌^◌, List, length, slice_index_or}
use Rattle.kw_bits.specs.BitVector.{BitVector}
use Rattle.kw_bits.specs.Host as host
use Rattle.typed_core.specs.Valid.{IsHost}
use Rattle.kw_bits.specs.declared.host.HostSpec.{HostSpec}

-- what is answered to the input of this number
abbrev pub value_at : HostSpec → ℕ → BitVector
value_at spec number = host.value spec.kind (record { width = spec.in_width; number = number })

-- the list has the value of each input
pub record AreValues (spec : HostSpec) (values : List BitVector) : Type 0 where
  pub takes : IsHost spec
  pub count : length values ≡ 2 ^ spec.in_width
  pub each : (number : ℕ) (d : BitVector) → number < 2 ^ spec.in_width → slice_index_or values number d ≡ value_at spec number
