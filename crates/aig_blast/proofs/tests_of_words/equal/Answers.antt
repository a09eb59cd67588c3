use Rattle.std.proofs.Common.{◌≡◌, ◌<◌, Bool, ◌&&◌, List, [], ◌∷◌, length, ap, ◌∙◌, arith}
use Rattle.aig_blast.specs.BitLists.{as_bits, xor}
use Rattle.aig_blast.specs.inner.Steps as inner_step
use Rattle.aig_blast.proofs.Formulas.{eq_bits-formula}
use Rattle.aig_blast.proofs.Values.{Keeps-refl}
use Rattle.aig_blast.proofs.Gates.{Makes-kept, Makes-not, Makes-by}
use Rattle.aig_blast.specs.Words.{word}
use Rattle.aig_blast.proofs.Making.{Makes-like, Makes-element, same_widths, width}
use Rattle.aig_blast.proofs.StepsMore.{more}
use Rattle.aig_blast.proofs.PartsOfWords.{Makes-true, MakesBits-flag}
use Rattle.aig_blast.proofs.tests_of_words.equal.Goals as goal

pub loop-k-init : goal.loop-k-init
loop-k-init c = Makes-true (Keeps-refl c.args.graph.now)

pub loop-k-preserved : goal.loop-k-preserved
loop-k-preserved c =
    let g = c.args.graph.now in
    let k = c.loop-k.k in
    let a = c.args.a.now in
    let b = c.args.b.now in
    let same = c.loop-k.invariant in
    let within : k < length a = omega arith in
    let within_b : k < length b = omega arith in
    let differs = Makes-by xor (Makes-element k a same.keeps c.requires.a within) (Makes-element k b same.keeps c.requires.b within_b) c.in_ok-differs.ensures in
    let still = Makes-by (λ x y. x && y) (Makes-kept same c.in_ok-differs.ensures.keeps) (Makes-not c.not.ensures.negation differs) c.in_ok-still.ensures in
    Makes-like _ (λ i. more (inner_step.equal_after (word i g a) (word i g b)) k) still

pub returns : goal.returns
returns c =
    let g = c.args.graph.now in
    let a = c.args.a.now in
    let b = c.args.b.now in
    let all : (i : List Bool) → c.loop-k.k ≡ length (word i g a) = λ i. rw width (omega arith) in
    MakesBits-flag _ (λ i. ap (λ k. as_bits (inner_step.equal_after (word i g a) (word i g b) k ∷ [])) (all i) ∙ eq_bits-formula (word i g a) (word i g b) (same_widths i g a b c.requires.width)) c.loop-k.invariant
