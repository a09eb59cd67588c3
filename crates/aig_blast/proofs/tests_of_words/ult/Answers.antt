use Rattle.std.proofs.Common.{true, not, length, map, sym, ap, ◌∙◌}
use Rattle.aig_blast.specs.Steps as step
use Rattle.aig_blast.proofs.Formulas.{ult-formula}
use Rattle.aig_blast.proofs.Values.{Keeps-refl}
use Rattle.aig_blast.proofs.Gates.{Makes-not}
use Rattle.aig_blast.specs.Words.{word}
use Rattle.aig_blast.proofs.Making.{Makes-like, MakesWord-given, same_widths, width}
use Rattle.aig_blast.proofs.PartsOfWords.{MakesWord-invert, Makes-by_words, Makes-true, MakesBits-flag, AreLits-negation}
use Rattle.aig_blast.proofs.tests_of_words.ult.Goals as goal

pub carries-requires-clause-b : goal.carries-requires-clause-b
carries-requires-clause-b c = rw (c.deref.ensures.value, c.in_ok-inverse.ensures) (AreLits-negation c.args.graph.now c.args.b.now c.requires.b)

value_of : goal.returns-clause-value
value_of c =
    let g = c.args.graph.now in
    let a = c.args.a.now in
    let b = c.args.b.now in
    let inverse = MakesWord-invert (c.deref.ensures.value ∙ c.in_ok-inverse.ensures) (MakesWord-given b (Keeps-refl g) c.requires.b) in
    let carry = Makes-by_words (λ x p q. step.carry_after x p q (length a)) (Makes-true (Keeps-refl g)) (MakesWord-given a (Keeps-refl g) c.requires.a) inverse c.in_ok-carry.ensures in
    Makes-like _ (λ i. ap (λ n. not (step.carry_after true (word i g a) (map not (word i g b)) n)) (sym (width i g a))) (Makes-not c.not.ensures.negation carry)

pub returns-clause-value : goal.returns-clause-value
returns-clause-value c = value_of c

pub returns-clause-bits : goal.returns-clause-bits
returns-clause-bits c =
    let g = c.args.graph.now in
    let a = c.args.a.now in
    let b = c.args.b.now in
    MakesBits-flag _ (λ i. ult-formula (word i g a) (word i g b) (same_widths i g a b c.requires.width)) (value_of c)
