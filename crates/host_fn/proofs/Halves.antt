-- What a stored function's answer is: a bit vector, to an input that its halves make up.
use Rattle.std.proofs.Common.{◌≡◌, ℕ, ◌+◌, ◌*◌, ◌/◌, ◌^◌}
use Rattle.std.proofs.lemmas.Nat.{div-add-mod'}
use Rattle.kw_bits.specs.BitVector.{IsBitVector}
use Rattle.kw_bits.specs.Host.{TakesWidth, answer, out_width, value, high_half, low_half}
use Rattle.kw_bits.specs.declared.host.HostKind.{HostKind}
use Rattle.kw_bits.proofs.OperatorLaws.{host-HasWidth}

-- the answer to an input that the kind takes is a bit vector of its output width
pub answer_within : (kind : HostKind) (w x : ℕ) → IsBitVector w x → TakesWidth kind w → IsBitVector (out_width kind w) (answer kind w x)
unfolding value
answer_within kind w x p takes = (host-HasWidth kind (record { width = w; number = x }) p takes).0

-- an input is its high half above its low half
pub halves-joined : (w x : ℕ) → high_half w x * 2 ^ (w / 2) + low_half w x ≡ x
unfolding high_half low_half
halves-joined w x = div-add-mod' x (2 ^ (w / 2))
