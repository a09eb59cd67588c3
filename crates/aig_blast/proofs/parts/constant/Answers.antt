use Rattle.std.proofs.Common.{◌≡◌, ◌/◌, ◌^◌, refl, ap₂, ◌∙◌, arith}
use Rattle.aig_blast.specs.BitLists.{as_bits}
use Rattle.aig_blast.specs.Steps.{digits}
use Rattle.aig_blast.proofs.Digits.{digits-formula}
use Rattle.aig_blast.proofs.Values.{Keeps-refl}
use Rattle.aig_blast.proofs.Making.{MakesWord-as, MakesWord-push, MakesWord-none}
use Rattle.aig_blast.proofs.StepsMore.{more}
use Rattle.aig_blast.proofs.PartsOfWords.{Makes-digit, MakesBits-from, MakesWord-at}
use Rattle.aig_blast.proofs.parts.constant.Goals as goal

pub loop-k-init : goal.loop-k-init
loop-k-init c = λ g. MakesWord-at c.in_ok-made.ensures.items (MakesWord-none g _ (λ i. refl))

pub loop-k-preserved : goal.loop-k-preserved
loop-k-preserved c = λ g.
    let k = c.loop-k.k in
    let n = c.number-number.result in
    let bit = Makes-digit g c.bit_of.result (n / 2 ^ k) c.bit_of.ensures.bit in
    MakesWord-at c.in_ok-push.ensures.items (MakesWord-as _ (λ i. more (digits n) k) (MakesWord-push (c.loop-k.invariant g) (Keeps-refl g) bit))

pub returns : goal.returns
returns c = λ g.
    let value = c.args.value in
    let all : c.loop-k.k ≡ value.width = omega (arith, c.width-width.ensures.width) in
    MakesBits-from _ (λ i. ap₂ (λ n k. as_bits (digits n k)) c.number-number.ensures.number all ∙ digits-formula value.width value.number c.width-width.ensures.bits.in_range) (c.loop-k.invariant g)
