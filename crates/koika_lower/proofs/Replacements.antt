-- Bits that are replaced in joined vectors.
use Rattle.std.proofs.Common.{◌≡◌, ℕ, ◌+◌, ◌-◌, ◌≤◌, ◌<◌, Bool, true, false, if◌then◌else◌, arith, refl, ap, ap₂, sym, ◌∙◌}
use Rattle.std.specs.Prelude.{nat_lt}
use Rattle.std.proofs.lemmas.Bool.Decides.{nat_tests}
use Rattle.kw_bits.specs.BitVector.{BitVector, IsBits}
use Rattle.kw_bits.specs.Operators.{concat, slice}
use Rattle.kw_bits.proofs.OperatorLaws.{concat-slice, slice-concat}
use Rattle.koika_types.proofs.Stacks.{concat_assoc}
use Rattle.koika_lower.specs.inner.Applied.{range_at, with_high, with_low, with_part}
use Rattle.koika_lower.proofs.Slices.{slice-high, slice-low}

yes : (m n : ℕ) → m < n → nat_lt m n ≡ true
yes m n h = grind (arith, nat_tests, h)

no : (m n : ℕ) → n ≤ m → nat_lt m n ≡ false
no m n h = grind (arith, nat_tests, h)

under : (m n : ℕ) → nat_lt m n ≡ true → m < n
under m n h = grind (arith, nat_tests, h)

over : (m n : ℕ) → nat_lt m n ≡ false → n ≤ m
over m n h = grind (arith, nat_tests, h)

choice : {b c : Bool} (x y : BitVector) → b ≡ c → (if b then x else y) ≡ (if c then x else y)
choice x y e = ap (λ (t : Bool). if t then x else y) e

-- more above
module _ (x r y : BitVector) (hx : IsBits x) (hr : IsBits r) where
  high-above : (above : ℕ) (b : Bool) → nat_lt above r.width ≡ b → above ≤ r.width → with_high above (x.width + r.width) (concat x r) y ≡ concat x (with_high above r.width r y)
  high-above above true e le =
      let some = hx.some_bit in
      let below = under above r.width e in
      choice (concat (slice (concat x r) (x.width + r.width - 1) above) y) y (yes above (x.width + r.width) (omega arith)) ∙
      ap (λ h. concat h y)
      (sym (concat-slice (concat x r) (x.width + r.width - 1) (r.width - 1) above (omega arith) (omega arith))
      ∙ ap₂ concat
      (ap (λ k. slice (concat x r) (x.width + r.width - 1) k) (omega arith) ∙ (slice-concat x r hx hr).0)
      (slice-low x r (r.width - 1) above hx hr (omega arith) (omega arith))) ∙
      concat_assoc x (slice r (r.width - 1) above) y ∙
      ap (concat x) (choice (concat (slice r (r.width - 1) above) y) y (sym e))
  high-above above false e le =
      let some = hx.some_bit in
      let same : above ≡ r.width = let o = over above r.width e in omega arith in
      choice (concat (slice (concat x r) (x.width + r.width - 1) above) y) y (yes above (x.width + r.width) (omega arith)) ∙
      ap (λ h. concat h y) (ap (λ k. slice (concat x r) (x.width + r.width - 1) k) same ∙ (slice-concat x r hx hr).0) ∙
      ap (concat x) (choice (concat (slice r (r.width - 1) above) y) y (sym e))

  low-above : (low : ℕ) (h : BitVector) (b : Bool) → nat_lt 0 low ≡ b → low ≤ r.width → with_low low (concat x r) (concat x h) ≡ concat x (with_low low r h)
  low-above low h true e le =
      let some = under 0 low e in
      choice (concat (concat x h) (slice (concat x r) (low - 1) 0)) (concat x h) e ∙
      ap (concat (concat x h)) (slice-low x r (low - 1) 0 hx hr (omega arith) (omega arith)) ∙
      concat_assoc x h (slice r (low - 1) 0) ∙
      ap (concat x) (choice (concat h (slice r (low - 1) 0)) h (sym e))
  low-above low h false e le =
      choice (concat (concat x h) (slice (concat x r) (low - 1) 0)) (concat x h) e ∙ ap (concat x) (choice (concat h (slice r (low - 1) 0)) h (sym e))

  pub replace-below : (low w : ℕ) → low + w ≤ r.width → with_part (range_at low w) (x.width + r.width) (concat x r) y ≡ concat x (with_part (range_at low w) r.width r y)
  replace-below low w within =
      ap (with_low low (concat x r)) (high-above (low + w) (nat_lt (low + w) r.width) refl within) ∙
      low-above low (with_high (low + w) r.width r y) (nat_lt 0 low) refl (omega arith)

  -- the upper of two vectors
  pub replace-upper : with_part (range_at r.width x.width) (x.width + r.width) (concat x r) y ≡ concat y r
  replace-upper =
      let some = hr.some_bit in
      ap (with_low r.width (concat x r)) (choice (concat (slice (concat x r) (x.width + r.width - 1) (r.width + x.width)) y) y (no (r.width + x.width) (x.width + r.width) (omega arith))) ∙
      choice (concat y (slice (concat x r) (r.width - 1) 0)) y (yes 0 r.width (omega arith)) ∙
      ap (concat y) (slice-concat x r hx hr).1

-- more below
module _ (a x y : BitVector) (ha : IsBits a) (hx : IsBits x) where
  high-under : (above : ℕ) (b : Bool) → nat_lt above a.width ≡ b → with_high (above + x.width) (a.width + x.width) (concat a x) y ≡ with_high above a.width a y
  high-under above true e =
      let below = under above a.width e in
      choice (concat (slice (concat a x) (a.width + x.width - 1) (above + x.width)) y) y (yes (above + x.width) (a.width + x.width) (omega arith)) ∙
      ap (λ h. concat h y) (ap₂ (λ u l. slice (concat a x) u l) (omega arith) (omega arith) ∙ slice-high a x (a.width - 1) above ha hx (omega arith) (omega arith)) ∙
      choice (concat (slice a (a.width - 1) above) y) y (sym e)
  high-under above false e =
      let o = over above a.width e in
      choice (concat (slice (concat a x) (a.width + x.width - 1) (above + x.width)) y) y (no (above + x.width) (a.width + x.width) (omega arith)) ∙
      choice (concat (slice a (a.width - 1) above) y) y (sym e)

  low-under : (low : ℕ) (h : BitVector) (b : Bool) → nat_lt 0 low ≡ b → low ≤ a.width → with_low (low + x.width) (concat a x) h ≡ concat (with_low low a h) x
  low-under low h true e le =
      let some = under 0 low e in
      let bit = hx.some_bit in
      choice (concat h (slice (concat a x) (low + x.width - 1) 0)) h (yes 0 (low + x.width) (omega arith)) ∙
      ap (concat h)
      (sym (concat-slice (concat a x) (low + x.width - 1) (x.width - 1) 0 (omega arith) (omega arith))
      ∙ ap₂ concat
      (ap₂ (λ u l. slice (concat a x) u l) (omega arith) (omega arith) ∙ slice-high a x (low - 1) 0 ha hx (omega arith) (omega arith))
      (slice-concat a x ha hx).1) ∙
      sym (concat_assoc h (slice a (low - 1) 0) x) ∙
      ap (λ k. concat k x) (choice (concat h (slice a (low - 1) 0)) h (sym e))
  low-under low h false e le =
      let none : low ≡ 0 = let o = over 0 low e in omega arith in
      let bit = hx.some_bit in
      choice (concat h (slice (concat a x) (low + x.width - 1) 0)) h (yes 0 (low + x.width) (omega arith)) ∙
      ap (concat h) (ap (λ k. slice (concat a x) k 0) (omega arith) ∙ (slice-concat a x ha hx).1) ∙
      ap (λ k. concat k x) (choice (concat h (slice a (low - 1) 0)) h (sym e))

  pub replace-above : (low w : ℕ) → low + w ≤ a.width → with_part (range_at (low + x.width) w) (a.width + x.width) (concat a x) y ≡ concat (with_part (range_at low w) a.width a y) x
  replace-above low w within =
      ap (with_low (low + x.width) (concat a x)) (ap (λ k. with_high k (a.width + x.width) (concat a x) y) (omega arith) ∙ high-under (low + w) (nat_lt (low + w) a.width) refl) ∙
      low-under low (with_high (low + w) a.width a y) (nat_lt 0 low) refl (omega arith)

  -- the lower of two vectors
  pub replace-lower : with_part (range_at 0 x.width) (a.width + x.width) (concat a x) y ≡ concat a y
  replace-lower =
      let some = ha.some_bit in
      choice (concat (with_high (0 + x.width) (a.width + x.width) (concat a x) y) (slice (concat a x) (0 - 1) 0)) (with_high (0 + x.width) (a.width + x.width) (concat a x) y) (no 0 0 (omega arith)) ∙
      choice (concat (slice (concat a x) (a.width + x.width - 1) (0 + x.width)) y) y (yes (0 + x.width) (a.width + x.width) (omega arith)) ∙
      ap (λ h. concat h y) (ap (λ k. slice (concat a x) (a.width + x.width - 1) k) (omega arith) ∙ (slice-concat a x ha hx).0)

-- one vector alone
pub replace-all : (x y : BitVector) (width : ℕ) → with_part (range_at 0 width) width x y ≡ y
replace-all x y width =
    choice (concat (with_high (0 + width) width x y) (slice x (0 - 1) 0)) (with_high (0 + width) width x y) (no 0 0 (omega arith)) ∙
    choice (concat (slice x (width - 1) (0 + width)) y) y (no (0 + width) width (omega arith))
