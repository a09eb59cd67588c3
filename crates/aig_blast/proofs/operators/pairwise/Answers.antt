use Rattle.std.proofs.Common.{◌≡◌, Bool, List, length}
use Rattle.aig_blast.specs.BitLists.{as_bits, zip_with}
use Rattle.aig_blast.proofs.Formulas.{and-formula, or-formula, xor-formula}
use Rattle.aig_blast.specs.Words.{word, pair_value, pair_bits}
use Rattle.aig_blast.specs.declared.bitwise.Pair.{Pair}
use Rattle.aig_blast.specs.declared.bitwise.Pair.TheVariants.{And, Or, Xor}
use Rattle.aig_blast.proofs.Making.{same_widths}
use Rattle.aig_blast.proofs.PartsOfWords.{MakesBits-from}
use Rattle.aig_blast.proofs.operators.pairwise.Goals as goal

formula : (gate : Pair) (xs ys : List Bool) → length xs ≡ length ys → as_bits (zip_with (pair_value gate) xs ys) ≡ pair_bits gate (as_bits xs) (as_bits ys)
formula And xs ys same = and-formula xs ys same
formula Or xs ys same = or-formula xs ys same
formula Xor xs ys same = xor-formula xs ys same

pub returns : goal.returns
returns c =
    let g = c.args.graph.now in
    let a = c.args.a.now in
    let b = c.args.b.now in
    MakesBits-from _ (λ i. formula c.args.gate (word i g a) (word i g b) (same_widths i g a b c.requires.width)) c.in_ok-made.ensures
