-- The flags of outputs of one bit.
use Rattle.std.proofs.Common.{◌≡◌, ℕ, suc, Bool, true, cond, filter, List, [], ◌∷◌, map, nat_eq, arith, refl, ap, ◌∙◌}
use Rattle.std.specs.Prelude.{All}
use Rattle.kw_bits.specs.BitVector.{BitVector}
use Rattle.circuit_eval.specs.Run.{flags, is_one, is_one_bit}
use Rattle.circuit_eval.specs.declared.circuit.OutputWire.{OutputWire}

-- outputs of one bit are all flags
pub flags_of : (value : OutputWire → BitVector) (outputs : List OutputWire)
    → All (λ (wire : OutputWire). (value wire).width ≡ 1) outputs
    → flags (map value outputs) ≡ map (λ (wire : OutputWire). is_one (value wire)) outputs
flags_of value [] bits = refl
flags_of value (wire ∷ outputs) bits =
    let own : is_one_bit (value wire) ≡ true = ap (λ (n : ℕ). nat_eq n 1) (bits 0 wire (omega arith)) in
    let rest = flags_of value outputs (λ k d within. bits (suc k) d (omega (arith, within))) in
    ap (λ (b : Bool). map is_one (cond b (value wire ∷ filter is_one_bit (map value outputs)) (filter is_one_bit (map value outputs)))) own
    ∙ ap (λ (bs : List Bool). is_one (value wire) ∷ bs) rest
