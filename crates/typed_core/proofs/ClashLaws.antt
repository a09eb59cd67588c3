-- The table of clashes, pair by pair.
use Rattle.std.proofs.Common.{◌≡◌, ℕ, Bool, true, false, refl, sym, ap, ◌∙◌, eq-eqb, arith}
use Rattle.std.specs.Prelude.{◌==◌, ◌&&◌, nat_lt, nat_le}
use Rattle.std.proofs.lemmas.Bool.{ne_eqb}
use Rattle.typed_core.specs.Clash.{ports_clash}
use Rattle.typed_core.specs.Laws.{OtherRegister, ReadAfterRead, ReadAfterWrite, WriteAfterRead, WriteAfterWrite}

-- accesses of one register clash where their ports do
same_register : (register : ℕ) (b : Bool) → ((register == register) && b) ≡ b
same_register register b = ap (λ c. c && b) (eq-eqb register register refl)

no_clash : (b : Bool) → (b && false) ≡ false
no_clash true = refl
no_clash false = refl

pub read_after_write : ReadAfterWrite
read_after_write i j register = (
  (λ h. let p : nat_le i j ≡ true = sym (same_register register (nat_le i j)) ∙ h in grind (arith, p)),
  (λ h. let p : nat_le i j ≡ true = grind (arith, h) in same_register register (nat_le i j) ∙ p),
)

pub write_after_read : WriteAfterRead
write_after_read i j register = (
  (λ h. let p : nat_lt i j ≡ true = sym (same_register register (nat_lt i j)) ∙ h in grind (arith, p)),
  (λ h. let p : nat_lt i j ≡ true = grind (arith, h) in same_register register (nat_lt i j) ∙ p),
)

pub write_after_write : WriteAfterWrite
write_after_write i j register = (
  (λ h. let p : nat_le i j ≡ true = sym (same_register register (nat_le i j)) ∙ h in grind (arith, p)),
  (λ h. let p : nat_le i j ≡ true = grind (arith, h) in same_register register (nat_le i j) ∙ p),
)

pub read_after_read : ReadAfterRead
read_after_read i j r q = no_clash (r == q)

pub other_register : OtherRegister
other_register later earlier h =
    ap (λ b. b && ports_clash later.write later.port earlier.write earlier.port) (ne_eqb later.register earlier.register h)
