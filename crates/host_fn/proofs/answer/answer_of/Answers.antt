use Rattle.std.proofs.Common.{ap₂, ◌∙◌, ap}
use Rattle.std.proofs.lemmas.Bool.{false≢true}
use Rattle.kw_bits.specs.BitVector.{IsBitVector}
use Rattle.kw_bits.specs.Host.{value, out_width}
use Rattle.host_fn.proofs.Halves.{answer_within}
use Rattle.host_fn.proofs.answer.answer_of.Goals as goal

pub unreachable-requires : goal.unreachable-requires
unreachable-requires c =
    let x = c.args.x in
    let p = answer_within c.args.kind x.width x.number c.width.ensures.bits c.requires.takes in
    let q : IsBitVector c.out_width.result c.args.answer = rw (c.out_width.ensures, c.width.ensures.width, c.requires.answers) p in
    false≢true (c.in-None.ensures.some.1 q)

pub returns : goal.returns
unfolding value
returns c =
    let made = c.in-Some.ensures in
    ap₂ (λ w n. record { width = w; number = n })
    (made.width ∙ c.out_width.ensures ∙ ap (out_width c.args.kind) c.width.ensures.width) (made.number ∙ c.requires.answers)
