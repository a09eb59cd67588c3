use Rattle.std.proofs.Common.{true, not, length, map, sym, ap, ◌∙◌}
use Rattle.aig_blast.specs.BitLists.{as_bits}
use Rattle.aig_blast.specs.Steps as step
use Rattle.aig_blast.proofs.Formulas.{sub-formula}
use Rattle.aig_blast.proofs.Values.{Keeps-refl}
use Rattle.aig_blast.specs.Words.{word}
use Rattle.aig_blast.proofs.Making.{MakesWord-given, same_widths, width}
use Rattle.aig_blast.proofs.PartsOfWords.{MakesWord-invert, MakesWord-by, Makes-true, MakesBits-from, AreLits-negation}
use Rattle.aig_blast.proofs.arithmetic.sub.Goals as goal

pub ripple-requires-clause-b : goal.ripple-requires-clause-b
ripple-requires-clause-b c = rw (c.deref.ensures.value, c.in_ok-inverse.ensures) (AreLits-negation c.args.graph.now c.args.b.now c.requires.b)

pub returns : goal.returns
returns c =
    let g = c.args.graph.now in
    let a = c.args.a.now in
    let b = c.args.b.now in
    let inverse = MakesWord-invert (c.deref.ensures.value ∙ c.in_ok-inverse.ensures) (MakesWord-given b (Keeps-refl g) c.requires.b) in
    let sum = MakesWord-by (λ x p q. step.sum_after x p q (length a)) (Makes-true (Keeps-refl g)) (MakesWord-given a (Keeps-refl g) c.requires.a) inverse c.in_ok-sum.ensures.sum in
    MakesBits-from _ (λ i. ap (λ w. as_bits (step.sum_after true (word i g a) (map not (word i g b)) w)) (sym (width i g a)) ∙ sub-formula (word i g a) (word i g b) (same_widths i g a b c.requires.width)) sum
