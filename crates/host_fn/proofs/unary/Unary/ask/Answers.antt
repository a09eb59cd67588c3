use Rattle.std.proofs.Common.{ℕ, ◌^◌, ◌<◌, sym, ap₂, subst, ◌∙◌}
use Rattle.kw_bits.specs.Host.{answer}
use Rattle.host_fn.proofs.unary.Unary.ask.Goals as goal

pub answer_of-requires-clause-answers : goal.answer_of-requires-clause-answers
answer_of-requires-clause-answers g c =
    let f = c.args.self.now in
    let below : c.number.result < 2 ^ f.in_width =
    rw c.number.ensures.number (subst (λ (w : ℕ). c.args.x.number < 2 ^ w) c.requires c.number.ensures.bits.in_range) in
    (f.answers c.number.result below).1 c.call.result c.call.ensures.0 ∙ ap₂ (answer f.kind) (sym c.requires) c.number.ensures.number
