use Rattle.std.proofs.Common.{ℕ, ap, subst, ◌∙◌, arith, refl}
use Rattle.kw_bits.specs.BitVector.{BitVector}
use Rattle.kw_bits.specs.Laws.{HasWidth}
use Rattle.net_action.specs.inner.Parts.{answer_to}
use Rattle.net_action.specs.Wires.{HasWire}
use Rattle.net_action.proofs.Answering.{answer_width}
use Rattle.net_action.proofs.lookup.leaf.Goals as goal

pub returns-clause-wire : goal.returns-clause-wire
returns-clause-wire g c out t =
    let externs = g.E.Outside.kept c.args.question.now.externs.now in
    let x : BitVector = record { width = c.args.width; number = c.args.number } in
    let bits : HasWidth x c.args.width = (record { some_bit = c.requires.some; no_wider = omega (arith, c.requires.few); in_range = c.requires.within }, refl) in
    let is = c.answer_to.ensures ∙ ap (answer_to externs c.args.question.now.asked) c.bits-x.ensures in
    subst (λ (w : ℕ). HasWire c.constant.new.net c.in_ok-wire.wire w)
    (ap (λ (v : BitVector). v.width) is ∙ (answer_width externs c.args.question.now.asked c.args.width out x c.requires.tables c.requires.hosts t bits).1) c.in_ok-wire.ensures.wire
