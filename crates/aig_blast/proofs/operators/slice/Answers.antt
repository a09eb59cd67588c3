use Rattle.std.proofs.Common.{◌≡◌, ◌+◌, ◌-◌, ◌++◌, take, drop, ap, ◌∙◌, arith}
use Rattle.aig_blast.proofs.Formulas.{slice-formula}
use Rattle.aig_blast.proofs.Values.{Keeps-refl}
use Rattle.aig_blast.specs.Words.{word}
use Rattle.aig_blast.proofs.Making.{MakesWord-given, width}
use Rattle.aig_blast.proofs.PartsOfWords.{MakesWord-slice, MakesBits-from}
use Rattle.aig_blast.proofs.operators.slice.Goals as goal

pub returns : goal.returns
returns c = λ g are.
    let a = c.args.a.now in
    let upper = c.args.upper in
    let lower = c.args.lower in
    let count : upper + 1 - lower ≡ upper - lower + 1 = omega arith in
    let is = c.in_ok-extend_from_slice.ensures.items ∙ ap (λ x. x ++ take (upper + 1 - lower) (drop lower a)) c.new-made.ensures.items ∙ ap (λ n. take n (drop lower a)) count in
    MakesBits-from _ (λ i. slice-formula (word i g a) upper lower c.requires.order (rw width c.requires.within)) (MakesWord-slice (upper - lower + 1) lower is (MakesWord-given a (Keeps-refl g) are))
