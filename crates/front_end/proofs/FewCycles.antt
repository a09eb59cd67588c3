-- A run that isn't too long has few cycles.
use Rattle.std.proofs.Common.{◌≡◌, ℕ, ◌≤◌, Bool, true, false, refl}
use Rattle.std.specs.Prelude.{◌||◌, ◌*◌, min, nat_lt}
use Rattle.std.proofs.lemmas.Bool.{ltb-false}
use Rattle.front_end.specs.Lengths as lengths

-- neither side of what is false is true
pub or-sides : (b c : Bool) → (b || c) ≡ false → (b ≡ false) × (c ≡ false)
or-sides true c e = absurd cc
or-sides false c e = (refl, e)

-- a run that isn't too long has few cycles
pub few-cycles : (cycles registers rules : ℕ) → lengths.is_too_long cycles registers rules ≡ false → cycles ≤ 16777216
few-cycles cycles registers rules e =
    let states = nat_lt 4194304 (min cycles 256 * registers) in
    let flags = nat_lt 4194304 (min cycles 256 * rules) in
    let short = or-sides (nat_lt 16777216 cycles || states) flags e in
    ltb-false 16777216 cycles (or-sides (nat_lt 16777216 cycles) states short.0).0
