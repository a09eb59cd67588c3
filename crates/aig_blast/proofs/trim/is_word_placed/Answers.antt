use Rattle.std.proofs.Common.{subst, All}
use Rattle.std.proofs.lemmas.List.{take_all}
use Rattle.std.proofs.lemmas.List.Elements.{All-more}
use Rattle.aig_blast.specs.inner.Trims.{IsPlaced}
use Rattle.aig_blast.proofs.trim.is_word_placed.Goals as goal

pub loop-lit-preserved : goal.loop-lit-preserved
loop-lit-preserved c =
    All-more (IsPlaced c.args.places.now) c.args.word.now c.loop-lit.lit-index 0 c.loop-lit-test.true c.loop-lit.invariant (c.is_placed.ensures c.if-not-is_placed.false)

pub returns : goal.returns
returns c is = subst (All (IsPlaced c.args.places.now)) (take_all c.loop-lit.lit-index c.args.word.now c.loop-lit-test.false) c.loop-lit.invariant
