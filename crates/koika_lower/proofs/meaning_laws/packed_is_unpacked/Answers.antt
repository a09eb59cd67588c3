use Rattle.koika_lower.proofs.Unpacking.{packed-unpacked}
use Rattle.koika_lower.proofs.meaning_laws.packed_is_unpacked.Goals as goal

pub returns : goal.returns
returns c = λ d t v is valid of. packed-unpacked d is t v valid of
