use Rattle.std.proofs.Common.{◌≡◌, ℕ, ◌<◌, length}
use Rattle.std.specs.Prelude.{slice_index_or}
use Rattle.kw_bits.specs.BitVector.{BitVector}
use Rattle.host_fn.specs.Stored.{spec_of}
use Rattle.one_rule.specs.inner.Hosts.{value_at}
use Rattle.one_rule.proofs.externs.values.HostValues.new.Given as goal

abbrev pub invariant-loop-number : goal.invariant-loop-number
invariant-loop-number g l =
    (length l.values ≡ l.number) × ((number : ℕ) (d : BitVector) → number < l.number → slice_index_or l.values number d ≡ value_at (spec_of l.function) number)
