use Rattle.aig_blast.proofs.Formulas.{choose-formula}
use Rattle.aig_blast.specs.Graphs.{value}
use Rattle.aig_blast.specs.Words.{word}
use Rattle.aig_blast.proofs.PartsOfWords.{MakesBits-from}
use Rattle.aig_blast.proofs.operators.ite.Goals as goal

pub returns : goal.returns
returns c =
    let g = c.args.graph.now in
    let a = c.args.a.now in
    let b = c.args.b.now in
    MakesBits-from _ (λ i. choose-formula (value i g c.args.condition) (word i g a) (word i g b)) c.in_ok-made.ensures
