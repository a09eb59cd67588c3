use Rattle.std.proofs.Common.{◌≡◌, ◌+◌, ◌++◌, replicate, refl, ap, ap₂, ◌∙◌, rules}
use Rattle.kw_bits.specs.Operators as op
use Rattle.aig_blast.proofs.Formulas.{zext-formula}
use Rattle.aig_blast.proofs.Values.{Keeps-refl}
use Rattle.aig_blast.specs.Words.{word, bits}
use Rattle.aig_blast.proofs.Making.{MakesWord-given, width}
use Rattle.aig_blast.proofs.PartsOfWords.{MakesWord-append, MakesWord-replicate, Makes-false, MakesBits-from}
use Rattle.aig_blast.proofs.operators.uext.Goals as goal

pub returns : goal.returns
returns c = λ g are.
    let a = c.args.a.now in
    let n = c.args.added in
    let above : c.in_ok-above.above.items ≡ replicate n 0 = search rules in
    let is = c.in_ok-extend_from_slice-2.ensures.items ∙ ap₂ (λ x y. x ++ y) (c.in_ok-extend_from_slice.ensures.items ∙ ap (λ x. x ++ a) c.new-made.ensures.items) (c.deref.ensures.value ∙ above) in
    let given = MakesWord-given a (Keeps-refl g) are in
    MakesBits-from _ (λ i. zext-formula (word i g a) n ∙ ap (λ w. op.zext (bits i g a) (w + n)) (width i g a)) (MakesWord-append is given (MakesWord-replicate n refl (Makes-false (Keeps-refl g))))
