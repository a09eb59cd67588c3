use Rattle.std.proofs.Common.{◌≡◌, ℕ, Bool, ◌&&◌, ◌||◌, List, [], ◌∷◌, length, sym, ap, ap₂, ◌∙◌}
use Rattle.aig_blast.specs.BitLists.{as_bits, xor}
use Rattle.aig_blast.specs.Steps as step
use Rattle.aig_blast.proofs.Formulas.{redand-formula, redor-formula, redxor-formula}
use Rattle.aig_blast.specs.Graphs.{value}
use Rattle.aig_blast.specs.Graphs.{Gates}
use Rattle.aig_blast.proofs.Gates.{value-false, value-true}
use Rattle.aig_blast.specs.Words.{word, bits, pair_value, reduced_bits}
use Rattle.aig_blast.specs.inner.Words.{start_lit}
use Rattle.aig_blast.specs.declared.bitwise.Pair.{Pair}
use Rattle.aig_blast.specs.declared.bitwise.Pair.TheVariants.{And, Or, Xor}
use Rattle.aig_blast.proofs.Making.{width}
use Rattle.aig_blast.proofs.PartsOfWords.{MakesBits-flag}
use Rattle.aig_blast.proofs.operators.reduced.Goals as goal

formula : (gate : Pair) (i : List Bool) (g : Gates) (a : List ℕ) → as_bits (step.joined_after (pair_value gate) (value i g (start_lit gate)) (word i g a) (length a) ∷ []) ≡ reduced_bits gate (bits i g a)
formula And i g a = ap₂ (λ b n. as_bits (step.joined_after (λ x y. x && y) b (word i g a) n ∷ [])) (value-true i g) (sym (width i g a)) ∙ redand-formula (word i g a)
formula Or i g a = ap₂ (λ b n. as_bits (step.joined_after (λ x y. x || y) b (word i g a) n ∷ [])) (value-false i g) (sym (width i g a)) ∙ redor-formula (word i g a)
formula Xor i g a = ap₂ (λ b n. as_bits (step.joined_after xor b (word i g a) n ∷ [])) (value-false i g) (sym (width i g a)) ∙ redxor-formula (word i g a)

pub returns : goal.returns
returns c =
    let g = c.args.graph.now in
    let a = c.args.a.now in
    MakesBits-flag _ (λ i. ap (λ s. as_bits (step.joined_after (pair_value c.args.gate) (value i g s) (word i g a) (length a) ∷ [])) c.start.ensures.start ∙ formula c.args.gate i g a) c.in_ok-lit.ensures
