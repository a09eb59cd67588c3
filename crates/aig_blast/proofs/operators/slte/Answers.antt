use Rattle.aig_blast.proofs.Formulas.{slte-formula}
use Rattle.aig_blast.proofs.Gates.{Makes-not}
use Rattle.aig_blast.specs.Words.{word}
use Rattle.aig_blast.proofs.Making.{same_widths, width}
use Rattle.aig_blast.proofs.PartsOfWords.{MakesBits-flag}
use Rattle.aig_blast.proofs.operators.slte.Goals as goal

pub returns : goal.returns
returns c =
    let g = c.args.graph.now in
    let a = c.args.a.now in
    let b = c.args.b.now in
    MakesBits-flag _ (λ i. slte-formula (word i g a) (word i g b) (rw width c.requires.some) (same_widths i g a b c.requires.width)) (Makes-not c.not.ensures.negation c.in_ok-above.ensures.value)
