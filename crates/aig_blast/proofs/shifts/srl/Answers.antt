use Rattle.std.proofs.Common.{length, ap, ◌∙◌}
use Rattle.aig_blast.specs.BitLists.{as_bits}
use Rattle.aig_blast.specs.inner.Steps as inner_step
use Rattle.aig_blast.proofs.ShortShifts.{srl_short-formula}
use Rattle.aig_blast.proofs.Gates.{value-false}
use Rattle.aig_blast.specs.Words.{word}
use Rattle.aig_blast.specs.inner.Words.{stages}
use Rattle.aig_blast.proofs.Making.{width}
use Rattle.aig_blast.proofs.PartsOfWords.{MakesBits-from, stages-enough}
use Rattle.aig_blast.proofs.shifts.srl.Goals as goal

pub returns : goal.returns
returns c =
    let g = c.args.graph.now in
    let a = c.args.a.now in
    let b = c.args.b.now in
    MakesBits-from _
    (λ i. ap (λ f. as_bits (inner_step.down_short f (stages (length a)) (word i g a) (word i g b))) (value-false i g) ∙ srl_short-formula (stages (length a)) (word i g a) (word i g b) (rw width (stages-enough (length a) c.requires.most)))
    c.in_ok-made.ensures
