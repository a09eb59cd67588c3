use Rattle.std.proofs.Common.{◌<◌, ◌-◌, length, sym, ap, ◌∙◌, arith}
use Rattle.aig_blast.specs.BitLists.{as_bits}
use Rattle.aig_blast.specs.Steps as step
use Rattle.aig_blast.specs.inner.Steps as inner_step
use Rattle.aig_blast.proofs.ShortShifts.{sra_short-formula}
use Rattle.aig_blast.proofs.Values.{Keeps-refl}
use Rattle.aig_blast.specs.Words.{word}
use Rattle.aig_blast.specs.inner.Words.{stages}
use Rattle.aig_blast.proofs.Making.{Makes-element, width}
use Rattle.aig_blast.proofs.PartsOfWords.{MakesBits-from, stages-enough}
use Rattle.aig_blast.proofs.shifts.sra.Goals as goal

pub returns : goal.returns
returns c =
    let g = c.args.graph.now in
    let a = c.args.a.now in
    let b = c.args.b.now in
    let last : length a - 1 < length a = omega (arith, c.requires.some) in
    let sign = Makes-element (length a - 1) a (Keeps-refl g) c.requires.a last in
    MakesBits-from _
    (λ i. ap (λ f. as_bits (inner_step.down_short f (stages (length a)) (word i g a) (word i g b))) (sign.has_value i ∙ ap (λ n. step.bit_of (word i g a) (n - 1)) (sym (width i g a)))
    ∙ sra_short-formula (stages (length a)) (word i g a) (word i g b) (rw width c.requires.some) (rw width (stages-enough (length a) c.requires.most)))
    c.in_ok-made.ensures
