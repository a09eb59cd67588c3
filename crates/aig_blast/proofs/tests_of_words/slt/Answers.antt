use Rattle.std.proofs.Common.{ℕ, ◌-◌, ◌<◌, Bool, List, length, sym, ap₂, arith}
use Rattle.aig_blast.specs.BitLists.{xor, choice}
use Rattle.aig_blast.specs.Steps as step
use Rattle.aig_blast.proofs.Formulas.{slt-formula}
use Rattle.aig_blast.proofs.Gates.{Makes-kept, Makes-by}
use Rattle.aig_blast.specs.Words.{word}
use Rattle.aig_blast.proofs.Making.{Makes-by3, Makes-like, Makes-element, same_widths, width}
use Rattle.aig_blast.proofs.PartsOfWords.{MakesBits-flag}
use Rattle.aig_blast.proofs.tests_of_words.slt.Goals as goal

value_of : goal.returns-clause-value
value_of c =
    let g = c.args.graph.now in
    let a = c.args.a.now in
    let b = c.args.b.now in
    let below = c.in_ok-below.ensures.value in
    let last : length a - 1 < length a = omega (arith, c.requires.some) in
    let last_b : length b - 1 < length b = omega (arith, c.requires.some) in
    let differ = Makes-by xor (Makes-element (length a - 1) a below.keeps c.requires.a last) (Makes-element (length b - 1) b below.keeps c.requires.b last_b) c.in_ok-differ.ensures in
    let chosen = Makes-by3 choice differ (Makes-element (length a - 1) a differ.keeps c.requires.a last) (Makes-kept below c.in_ok-differ.ensures.keeps) c.in_ok-chosen.ensures in
    let sign_by = λ (xs : List Bool) (n : ℕ). step.bit_of xs (n - 1) in
    Makes-like _
    (λ i. ap₂ (λ n m. choice (xor (sign_by (word i g a) n) (sign_by (word i g b) m)) (sign_by (word i g a) n) (step.ult (word i g a) (word i g b))) (sym (width i g a)) (sym (width i g b)))
    chosen

pub returns-clause-value : goal.returns-clause-value
returns-clause-value c = value_of c

pub returns-clause-bits : goal.returns-clause-bits
returns-clause-bits c =
    let g = c.args.graph.now in
    let a = c.args.a.now in
    let b = c.args.b.now in
    MakesBits-flag _ (λ i. slt-formula (word i g a) (word i g b) (rw width c.requires.some) (same_widths i g a b c.requires.width)) (value_of c)
