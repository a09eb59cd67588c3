use Rattle.std.proofs.Common.{◌≡◌, true, false, not, length, map, replicate, sym, ap, ap₂, ◌∙◌, rules}
use Rattle.std.proofs.lemmas.List.{length-replicate}
use Rattle.aig_blast.specs.BitLists.{as_bits}
use Rattle.aig_blast.specs.Steps as step
use Rattle.aig_blast.specs.inner.Steps as inner_step
use Rattle.aig_blast.proofs.Formulas.{neg-formula}
use Rattle.aig_blast.proofs.Values.{Keeps-refl}
use Rattle.aig_blast.specs.Words.{word}
use Rattle.aig_blast.proofs.Making.{MakesWord-given, width}
use Rattle.aig_blast.proofs.PartsOfWords.{MakesWord-invert, MakesWord-zeros, MakesWord-by, MakesWord-at, Makes-true, MakesBits-from, AreLits-negation}
use Rattle.aig_blast.proofs.arithmetic.neg.Goals as goal

pub ripple-requires-clause-b : goal.ripple-requires-clause-b
ripple-requires-clause-b c = rw (c.deref-2.ensures.value, c.in_ok-inverse.ensures) (AreLits-negation c.args.graph.now c.args.a.now c.requires)

pub returns : goal.returns
returns c =
    let g = c.args.graph.now in
    let a = c.args.a.now in
    let zeros : c.in_ok-zeros.zeros.items ≡ replicate (length a) 0 = search rules in
    let nothing = MakesWord-at c.deref.ensures.value (MakesWord-zeros g (length a) zeros) in
    let inverse = MakesWord-invert (c.deref-2.ensures.value ∙ c.in_ok-inverse.ensures) (MakesWord-given a (Keeps-refl g) c.requires) in
    let sum = MakesWord-by (λ x p q. step.sum_after x p q (length c.deref.result.now)) (Makes-true (Keeps-refl g)) nothing inverse c.in_ok-sum.ensures.sum in
    let wide = ap length (c.deref.ensures.value ∙ zeros) ∙ length-replicate (length a) 0 in
    MakesBits-from _
    (λ i. ap₂ (λ n m. as_bits (step.sum_after true (inner_step.zeros n) (map not (word i g a)) m)) (sym (width i g a)) (wide ∙ sym (width i g a) ∙ sym (length-replicate (length (word i g a)) false))
    ∙ neg-formula (word i g a))
    sum
