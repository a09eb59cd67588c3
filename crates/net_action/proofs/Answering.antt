-- What tables and host functions answer, by the bits of their input.
use Rattle.std.proofs.Common.{◌≡◌, ℕ, zero, suc, ◌+◌, ◌-◌, ◌*◌, ◌/◌, ◌%◌, ◌^◌, ◌<◌, ◌≤◌, refl, sym, ap, ap₂, subst, ◌∙◌, arith}
use Rattle.std.specs.Prelude.{All, nat_eq, if◌then◌else◌}
use Rattle.std.proofs.Math.Nat.{div-add-mod, div-div-eq-div-mul, div-eq_of_lt, mul_assoc, mul-le-mul_right, pow-suc}
use Rattle.kw_bits.specs.BitVector.{BitVector}
use Rattle.kw_bits.specs.Laws.{HasWidth}
use Rattle.kw_bits.specs.Operators as op
use Rattle.typed_core.specs.Evaluation.{Externs}
use Rattle.typed_core.specs.Valid.{IsHost, IsTable}
use Rattle.typed_core.proofs.Values.{answer_fits, entry_fits, found_holds}
use Rattle.net_action.specs.inner.Parts.{AskedHasWidth, answer_to}
use Rattle.net_action.specs.declared.lookup.Asked.{Asked}
use Rattle.net_action.specs.declared.lookup.Asked.TheVariants.{Table, Host}

pub answer_width : (externs : Externs) (asked : Asked) (operand width : ℕ) (x : BitVector) → All IsTable externs.tables → All IsHost externs.hosts → AskedHasWidth externs asked operand width → HasWidth x operand → HasWidth (answer_to externs asked x) width
answer_width externs (Table table) operand width x tables hosts t h = entry_fits externs.tables table operand width x tables t h
answer_width externs (Host host) operand width x tables hosts t h = answer_fits externs.hosts host operand width x hosts t h

-- what is asked takes at most 12 bits
pub asked_few : (externs : Externs) (asked : Asked) (operand width : ℕ) → All IsTable externs.tables → All IsHost externs.hosts → AskedHasWidth externs asked operand width → operand ≤ 12
asked_few externs (Table table) operand width tables hosts (spec, at, takes, gives) = omega (arith, (found_holds IsTable externs.tables table spec tables at).few_inputs, takes)
asked_few externs (Host host) operand width tables hosts (spec, at, takes, gives) = subst (λ (n : ℕ). n ≤ 12) takes (few (found_holds IsHost externs.hosts host spec hosts at))
  where
    few : IsHost spec → spec.in_width ≤ 12
    few h = h.no_wider

-- ---- halves

pow_two : (level : ℕ) → 1 ≤ level → 2 ^ level ≡ 2 ^ (level - 1) * 2
pow_two level some = let e : level ≡ suc (level - 1) = omega arith in ap (λ (k : ℕ). 2 ^ k) e ∙ pow-suc 2 (level - 1)

pub upper_half : (high level width : ℕ) → 1 ≤ level → (high + 1) * 2 ^ level ≤ 2 ^ width → (2 * high + 1 + 1) * 2 ^ (level - 1) ≤ 2 ^ width
upper_half high level width some h = subst (λ (n : ℕ). n ≤ 2 ^ width) whole h
  where
    p : ℕ
    p = 2 ^ (level - 1)

    whole : (high + 1) * 2 ^ level ≡ (2 * high + 1 + 1) * 2 ^ (level - 1)
    whole =
        let turn : 2 ^ (level - 1) * 2 ≡ 2 * 2 ^ (level - 1) = omega arith in
        let twice : (high + 1) * 2 ≡ 2 * high + 1 + 1 = omega arith in
        ap (λ (k : ℕ). (high + 1) * k) (pow_two level some ∙ turn) ∙ sym (mul_assoc (high + 1) 2 (2 ^ (level - 1))) ∙ ap (λ (k : ℕ). k * 2 ^ (level - 1)) twice

pub lower_half : (high level width : ℕ) → 1 ≤ level → (high + 1) * 2 ^ level ≤ 2 ^ width → (2 * high + 1) * 2 ^ (level - 1) ≤ 2 ^ width
lower_half high level width some h =
    let less = mul-le-mul_right {m = 2 * high + 1} {n = 2 * high + 1 + 1} (2 ^ (level - 1)) (omega arith) in
    omega (arith, less, upper_half high level width some h)

pub bit_of : (x : BitVector) (below : ℕ) → (op.slice x below below).number ≡ x.number / 2 ^ below % 2
unfolding op.slice
bit_of x below = let one : below - below + 1 ≡ 1 = omega arith in ap (λ (k : ℕ). x.number / 2 ^ below % 2 ^ k) one

-- the answer is that of the half in which the number lies
pub half_taken : (n level high : ℕ) (a1 a0 answer : BitVector) → 1 ≤ level → n / 2 ^ level ≡ high → (n / 2 ^ (level - 1) ≡ 2 * high + 1 → a1 ≡ answer) → (n / 2 ^ (level - 1) ≡ 2 * high → a0 ≡ answer)
    → (if nat_eq (n / 2 ^ (level - 1) % 2) 1 then a1 else a0) ≡ answer
half_taken n level high a1 a0 answer some h f1 f0 = by (m % 2) refl (omega arith)
  where
    m : ℕ
    m = n / 2 ^ (level - 1)

    half : n / 2 ^ (level - 1) / 2 ≡ high
    half = div-div-eq-div-mul n (2 ^ (level - 1)) 2 ∙ ap (λ (k : ℕ). n / k) (sym (pow_two level some)) ∙ h

    by : (r : ℕ) → n / 2 ^ (level - 1) % 2 ≡ r → r < 2 → (if nat_eq r 1 then a1 else a0) ≡ answer
    by zero e lt = f0 (omega (arith, div-add-mod (n / 2 ^ (level - 1)) 2, half, e))
    by (suc zero) e lt = f1 (omega (arith, div-add-mod (n / 2 ^ (level - 1)) 2, half, e))
    by (suc (suc r)) e lt = absurd (omega arith)

-- a number is all of its bits
pub number_is : (x : BitVector) (level width high : ℕ) → level ≡ 0 → x.width ≡ width → x.number / 2 ^ level ≡ high → x ≡ record { width = width; number = high }
number_is x level width high e w h =
    let whole : x.number / 1 ≡ x.number = omega arith in
    let same : x.number ≡ high = sym whole ∙ ap (λ (k : ℕ). x.number / 2 ^ k) (sym e) ∙ h in
    ap₂ (λ (a b : ℕ). record { width = a; number = b }) w same

pub none_above : (x : BitVector) (width : ℕ) → HasWidth x width → x.number / 2 ^ width ≡ 0
none_above x width h = div-eq_of_lt (subst (λ (w : ℕ). x.number < 2 ^ w) h.1 h.0.in_range)
