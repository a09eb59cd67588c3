use Rattle.koika_lower.proofs.Values.{unpacked-stands}
use Rattle.koika_lower.proofs.meaning_laws.unpacked_is_packed.Goals as goal

pub returns : goal.returns
returns c = λ d t bits is valid wide. let stands = unpacked-stands d is t bits valid wide in (stands.0, stands.1)
