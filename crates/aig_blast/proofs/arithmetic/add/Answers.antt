use Rattle.std.proofs.Common.{false, length, sym, ap, ◌∙◌}
use Rattle.aig_blast.specs.BitLists.{as_bits}
use Rattle.aig_blast.specs.Steps as step
use Rattle.aig_blast.proofs.Formulas.{add-formula}
use Rattle.aig_blast.proofs.Values.{Keeps-refl}
use Rattle.aig_blast.specs.Words.{word}
use Rattle.aig_blast.proofs.Making.{MakesWord-given, same_widths, width}
use Rattle.aig_blast.proofs.PartsOfWords.{MakesWord-by, Makes-false, MakesBits-from}
use Rattle.aig_blast.proofs.arithmetic.add.Goals as goal

pub returns : goal.returns
returns c =
    let g = c.args.graph.now in
    let a = c.args.a.now in
    let b = c.args.b.now in
    let sum = MakesWord-by (λ x p q. step.sum_after x p q (length a)) (Makes-false (Keeps-refl g)) (MakesWord-given a (Keeps-refl g) c.requires.a) (MakesWord-given b (Keeps-refl g) c.requires.b) c.in_ok-sum.ensures.sum in
    MakesBits-from _ (λ i. ap (λ w. as_bits (step.sum_after false (word i g a) (word i g b) w)) (sym (width i g a)) ∙ add-formula (word i g a) (word i g b) (same_widths i g a b c.requires.width)) sum
