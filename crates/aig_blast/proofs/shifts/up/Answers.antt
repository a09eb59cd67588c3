use Rattle.std.proofs.Common.{◌≡◌, ◌<◌, ◌≤◌, ◌^◌, min, length, get_or, sym, ap, ◌∙◌, arith}
use Rattle.aig_blast.specs.Steps as step
use Rattle.aig_blast.specs.inner.Steps as inner_step
use Rattle.aig_blast.specs.Words.{word}
use Rattle.aig_blast.proofs.Making.{Makes-element, MakesWord-as}
use Rattle.aig_blast.proofs.StepsMore.{more}
use Rattle.aig_blast.proofs.PartsOfWords.{MakesWord-width, MakesWord-up, MakesWord-by, MakesWord-at, choose-width, up-width, up-min, twice-min}
use Rattle.aig_blast.proofs.shifts.up.Goals as goal

pub loop-y-preserved : goal.loop-y-preserved
loop-y-preserved c =
    let g = c.args.graph.now in
    let a = c.args.a.now in
    let b = c.args.b.now in
    let k = c.loop-y.y-index in
    let so_far = c.loop-y.invariant.so_far in
    let made = MakesWord-at c.deref.ensures.value so_far in
    let wide : length c.deref.result.now ≡ length a = ap length c.deref.ensures.value ∙ c.loop-y.invariant.width in
    let within_b : k < length b = omega arith in
    let within : c.loop-y.amount ≤ length c.deref.result.now = omega (arith, c.loop-y.invariant.places, wide) in
    let shifted = MakesWord-at c.deref-in-loop-y.ensures.value (MakesWord-up c.loop-y.amount within c.in_ok-shifted.ensures made) in
    let still = MakesWord-at c.deref-in-loop-y-2.ensures.value so_far in
    let chosen = MakesWord-by step.choose (Makes-element k b so_far.keeps c.requires.b within_b) shifted still c.in_ok-chosen.ensures in
    let same : length c.deref-in-loop-y.result.now ≡ length c.deref-in-loop-y-2.result.now = ap length c.deref-in-loop-y.ensures.value ∙ up-width c.deref.result.now c.in_ok-shifted.shifted.items c.loop-y.amount 0 within c.in_ok-shifted.ensures ∙ wide ∙ sym (ap length c.deref-in-loop-y-2.ensures.value ∙ c.loop-y.invariant.width) in
    record {
      so_far =
          MakesWord-as _
          (λ i.
          let zs = inner_step.up_after (word i g a) (word i g b) k in
          let places : c.loop-y.amount ≡ min (2 ^ k) (length zs) = c.loop-y.invariant.places ∙ ap (min (2 ^ k)) (sym (MakesWord-width i made ∙ wide)) in
          ap (λ ws. step.choose (step.bit_of (word i g b) k) ws zs) (ap (λ n. inner_step.up n zs) places ∙ up-min (2 ^ k) zs) ∙ more (inner_step.up_after (word i g a) (word i g b)) k)
          chosen;
      width = choose-width (get_or b k 0) c.deref-in-loop-y.result.now c.deref-in-loop-y-2.result.now same c.in_ok-chosen.ensures ∙ ap length c.deref-in-loop-y-2.ensures.value ∙ c.loop-y.invariant.width;
      places = c.twice-amount.ensures ∙ twice-min k (length a) c.loop-y.amount c.loop-y.invariant.places;
    }
