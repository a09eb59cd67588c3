use Rattle.std.proofs.Common.{◌≡◌, ◌<◌, ◌≤◌, Bool, false, List, length, get_or, replicate, sym, ap, ◌∙◌, arith, rules}
use Rattle.std.proofs.lemmas.List.{length-replicate}
use Rattle.aig_blast.specs.BitLists.{as_bits}
use Rattle.aig_blast.specs.Steps as step
use Rattle.aig_blast.specs.inner.Steps as inner_step
use Rattle.aig_blast.proofs.Formulas.{mul-formula}
use Rattle.aig_blast.specs.Words.{word}
use Rattle.aig_blast.proofs.Making.{Makes-element, MakesWord-as, MakesWord-given, MakesWord-kept, width}
use Rattle.aig_blast.proofs.StepsMore.{more}
use Rattle.aig_blast.proofs.PartsOfWords.{MakesWord-zeros, MakesWord-width, MakesWord-up, MakesWord-by, MakesWord-at, Makes-false, MakesBits-from, gated-width, sum-width, up-width}
use Rattle.aig_blast.proofs.arithmetic.mul.Goals as goal

pub loop-k-init : goal.loop-k-init
loop-k-init c =
    let g = c.args.graph.now in
    let a = c.args.a.now in
    let zeros : c.in_ok-product.product.items ≡ replicate (length a) 0 = search rules in
    record {
      so_far = MakesWord-as _ (λ i. ap inner_step.zeros (sym (width i g a))) (MakesWord-zeros g (length a) zeros);
      width = ap length zeros ∙ length-replicate (length a) 0;
    }

pub ripple-requires-clause-width : goal.ripple-requires-clause-width
ripple-requires-clause-width c =
    let a = c.args.a.now in
    let k = c.loop-k.k in
    let shifted : length c.in_ok-shifted.shifted.items ≡ length a = up-width a c.in_ok-shifted.shifted.items k 0 (omega arith) c.in_ok-shifted.ensures in
    let row : length c.in_ok-row.row.items ≡ length c.deref.result.now = gated-width (get_or c.args.b.now k 0) c.deref.result.now c.in_ok-row.ensures in
    ap length c.deref-in-loop-k.ensures.value ∙ c.loop-k.invariant.width ∙ sym (ap length c.deref-in-loop-k-2.ensures.value ∙ row ∙ ap length c.deref.ensures.value ∙ shifted)

pub loop-k-preserved : goal.loop-k-preserved
loop-k-preserved c =
    let g = c.args.graph.now in
    let a = c.args.a.now in
    let b = c.args.b.now in
    let k = c.loop-k.k in
    let so_far = c.loop-k.invariant.so_far in
    let within : k < length b = omega arith in
    let shifts : k ≤ length a = omega arith in
    let shifted = MakesWord-at c.deref.ensures.value (MakesWord-up k shifts c.in_ok-shifted.ensures (MakesWord-given a so_far.keeps c.requires.a)) in
    let row = MakesWord-by (λ y p q. step.gated y p) (Makes-element k b so_far.keeps c.requires.b within) shifted shifted c.in_ok-row.ensures in
    let before = MakesWord-at c.deref-in-loop-k.ensures.value (MakesWord-kept so_far c.in_ok-row.ensures.keeps) in
    let sum = MakesWord-by (λ x p q. step.sum_after x p q (length c.deref-in-loop-k.result.now)) (Makes-false row.keeps) before (MakesWord-at c.deref-in-loop-k-2.ensures.value row) c.in_ok-sum.ensures.sum in
    record {
      so_far =
          MakesWord-as _
          (λ i. ap (step.sum_after false (inner_step.product_after (word i g a) (word i g b) k) (step.gated (step.bit_of (word i g b) k) (inner_step.up k (word i g a)))) (sym (MakesWord-width i before))
          ∙ more (inner_step.product_after (word i g a) (word i g b)) k)
          sum;
      width = sum-width (length c.deref-in-loop-k.result.now) (λ i. false) (λ i. inner_step.product_after (word i g a) (word i g b) k) (λ i. step.gated (step.bit_of (word i g b) k) (inner_step.up k (word i g a))) sum ∙ ap length c.deref-in-loop-k.ensures.value ∙ c.loop-k.invariant.width;
    }

pub returns : goal.returns
returns c =
    let g = c.args.graph.now in
    let a = c.args.a.now in
    let b = c.args.b.now in
    let all : (i : List Bool) → c.loop-k.k ≡ length (word i g b) = λ i. rw width (omega arith) in
    MakesBits-from _ (λ i. ap (λ k. as_bits (inner_step.product_after (word i g a) (word i g b) k)) (all i) ∙ mul-formula (word i g a) (word i g b)) c.loop-k.invariant.so_far
