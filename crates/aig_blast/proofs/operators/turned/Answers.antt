use Rattle.aig_blast.proofs.Formulas.{not-formula}
use Rattle.aig_blast.proofs.Values.{Keeps-refl}
use Rattle.aig_blast.specs.Words.{word}
use Rattle.aig_blast.proofs.Making.{MakesWord-given}
use Rattle.aig_blast.proofs.PartsOfWords.{MakesWord-invert, MakesBits-from}
use Rattle.aig_blast.proofs.operators.turned.Goals as goal

pub returns : goal.returns
returns c = λ g are.
    MakesBits-from _ (λ i. not-formula (word i g c.args.a.now)) (MakesWord-invert c.in_ok-made.ensures (MakesWord-given c.args.a.now (Keeps-refl g) are))
