use Rattle.std.proofs.Common.{◌≡◌, ◌+◌, ◌-◌, ◌<◌, ◌++◌, length, get_or, replicate, refl, sym, ap, ap₂, ◌∙◌, arith, rules}
use Rattle.kw_bits.specs.Operators as op
use Rattle.aig_blast.specs.BitLists.{as_bits}
use Rattle.aig_blast.specs.Steps as step
use Rattle.aig_blast.proofs.Formulas.{sext-formula}
use Rattle.aig_blast.proofs.Values.{Keeps-refl}
use Rattle.aig_blast.specs.Words.{word, bits}
use Rattle.aig_blast.proofs.Making.{Makes-element, MakesWord-given, width}
use Rattle.aig_blast.proofs.PartsOfWords.{MakesWord-append, MakesWord-replicate, MakesBits-from}
use Rattle.aig_blast.proofs.operators.sext.Goals as goal

pub returns : goal.returns
returns c = λ g are.
    let a = c.args.a.now in
    let n = c.args.added in
    let above : c.in_ok-above.above.items ≡ replicate n (get_or a (length a - 1) 0) = search rules in
    let is = c.in_ok-extend_from_slice-2.ensures.items ∙ ap₂ (λ x y. x ++ y) (c.in_ok-extend_from_slice.ensures.items ∙ ap (λ x. x ++ a) c.new-made.ensures.items) (c.deref.ensures.value ∙ above) in
    let given = MakesWord-given a (Keeps-refl g) are in
    let last : length a - 1 < length a = omega (arith, c.requires) in
    let sign = Makes-element (length a - 1) a (Keeps-refl g) are last in
    MakesBits-from _
    (λ i. ap (λ w. as_bits (word i g a ++ replicate n (step.bit_of (word i g a) (w - 1)))) (sym (width i g a)) ∙ sext-formula (word i g a) n (rw width c.requires) ∙ ap (λ w. op.sext (bits i g a) (w + n)) (width i g a))
    (MakesWord-append is given (MakesWord-replicate n refl sign))
