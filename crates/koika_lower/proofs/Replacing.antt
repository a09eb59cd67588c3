-- Bits that are replaced by others.
use Rattle.std.proofs.Common.{◌≡◌, ℕ, ◌+◌, ◌-◌, ◌≤◌, ◌<◌, ◌∷◌, true, false, if◌then◌else◌, arith, refl, sym, subst, ◌∙◌}
use Rattle.std.specs.Prelude.{nat_lt}
use Rattle.kw_bits.specs.Operators as op
use Rattle.typed_core.specs.Evaluation.{◌>>=◌, comes_to}
use Rattle.typed_core.specs.Valid.{ActionHasWidth}
use Rattle.typed_core.specs.declared.action.Action.{Action}
use Rattle.typed_core.specs.declared.action.Action.TheVariants as action
use Rattle.typed_core.specs.declared.action.TwoOp.TheVariants.{Concat}
use Rattle.koika_lower.specs.inner.Actions.{IsSlice, IsTwo}
use Rattle.koika_lower.specs.inner.Applied.{IsReplaced, IsWithHigh, IsWithLow, with_high, with_low}
use Rattle.koika_lower.specs.declared.selecting.Range.{Range}

pub high-some : (above width : ℕ) (part high a : Action) → nat_lt above width ≡ true → above < width → IsSlice (action.Local 1) (width - 1) above high → IsTwo Concat high part a → IsWithHigh above width part a
high-some above width part high a test below is two = record {
  means = λ value h env ports new whole locals.
      two.means env ports (new ∷ whole ∷ locals) ∙
      (λ i. is.means env ports (new ∷ whole ∷ locals) i >>= λ x. h env ports new whole locals i >>= λ y. comes_to (op.concat x y)) ∙
      (λ i. comes_to (if sym test i then op.concat (op.slice whole (width - 1) above) (value new whole) else value new whole));
  typed = λ d widths new w h some le few.
      let e : width - 1 - above + 1 ≡ width - above = omega arith in
      two.typed d (new ∷ width ∷ widths) (width - 1 - above + 1) w (width - above + w) (is.typed d (new ∷ width ∷ widths) width refl (omega arith) (omega arith)) h (omega arith) some (omega (arith, e), omega (arith, e));
}

pub high-none : (above width : ℕ) (part : Action) → nat_lt above width ≡ false → width ≤ above → IsWithHigh above width part part
high-none above width part test below = record {
  means = λ value h env ports new whole locals.
      h env ports new whole locals ∙ (λ i. comes_to (if sym test i then op.concat (op.slice whole (width - 1) above) (value new whole) else value new whole));
  typed = λ d widths new w h some le few. subst (λ k. ActionHasWidth d part (new ∷ width ∷ widths) k) (omega arith) h;
}

pub low-some : (lowest : ℕ) (part low a : Action) → nat_lt 0 lowest ≡ true → 0 < lowest → IsSlice (action.Local 1) (lowest - 1) 0 low → IsTwo Concat part low a → IsWithLow lowest part a
low-some lowest part low a test below is two = record {
  means = λ value h env ports new whole locals.
      two.means env ports (new ∷ whole ∷ locals) ∙
      (λ i. h env ports new whole locals i >>= λ x. is.means env ports (new ∷ whole ∷ locals) i >>= λ y. comes_to (op.concat x y)) ∙
      (λ i. comes_to (if sym test i then op.concat (value new whole) (op.slice whole (lowest - 1) 0) else value new whole));
  typed = λ d widths new width w h some le few.
      let e : lowest - 1 - 0 + 1 ≡ lowest = omega arith in
      two.typed d (new ∷ width ∷ widths) w (lowest - 1 - 0 + 1) (w + lowest) h (is.typed d (new ∷ width ∷ widths) width refl (omega arith) (omega arith)) some (omega arith) (omega (arith, e), omega (arith, e));
}

pub low-none : (lowest : ℕ) (part : Action) → nat_lt 0 lowest ≡ false → lowest ≤ 0 → IsWithLow lowest part part
low-none lowest part test below = record {
  means = λ value h env ports new whole locals.
      h env ports new whole locals ∙ (λ i. comes_to (if sym test i then op.concat (value new whole) (op.slice whole (lowest - 1) 0) else value new whole));
  typed = λ d widths new width w h some le few. subst (λ k. ActionHasWidth d part (new ∷ width ∷ widths) k) (omega arith) h;
}

pub replaced-both : (range : Range) (width above : ℕ) (high a : Action) → above ≡ range.lowest + range.width → range.lowest + range.width ≤ width → width ≤ 128 →
    IsWithHigh above width (action.Local 0) high → IsWithLow range.lowest high a → IsReplaced range width a
replaced-both range width above high a e within few h l = record {
  means = λ env ports new whole locals.
      l.means (λ new whole. with_high above width whole new) (h.means (λ new whole. new) (λ env ports new whole locals. refl)) env ports new whole locals ∙
      (λ i. comes_to (with_low range.lowest whole (with_high (e i) width whole new)));
  typed = λ d widths some.
      subst (λ k. ActionHasWidth d a (range.width ∷ width ∷ widths) k) (omega (arith, e))
      (l.typed d widths range.width width (width - above + range.width) (h.typed d widths range.width range.width refl some (omega (arith, e)) (omega (arith, e))) (omega arith) (omega arith) (omega (arith, e)));
}
