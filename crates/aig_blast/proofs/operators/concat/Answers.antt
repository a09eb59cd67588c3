use Rattle.std.proofs.Common.{◌++◌, ap, ◌∙◌}
use Rattle.aig_blast.proofs.Formulas.{concat-formula}
use Rattle.aig_blast.proofs.Values.{Keeps-refl}
use Rattle.aig_blast.specs.Words.{word}
use Rattle.aig_blast.proofs.Making.{MakesWord-given}
use Rattle.aig_blast.proofs.PartsOfWords.{MakesWord-append, MakesBits-from}
use Rattle.aig_blast.proofs.operators.concat.Goals as goal

pub returns : goal.returns
returns c = λ g high_are low_are.
    let low = c.args.low.now in
    let high = c.args.high.now in
    let is = c.in_ok-extend_from_slice-2.ensures.items ∙ ap (λ x. x ++ high) (c.in_ok-extend_from_slice.ensures.items ∙ ap (λ x. x ++ low) c.new-made.ensures.items) in
    MakesBits-from _ (λ i. concat-formula (word i g high) (word i g low)) (MakesWord-append is (MakesWord-given low (Keeps-refl g) low_are) (MakesWord-given high (Keeps-refl g) high_are))
