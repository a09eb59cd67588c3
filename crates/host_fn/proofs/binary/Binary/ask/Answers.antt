use Rattle.std.proofs.Common.{◌≡◌, ℕ, ◌+◌, ◌*◌, ◌/◌, ◌^◌, ◌<◌, sym, ap, subst, ◌∙◌}
use Rattle.kw_bits.specs.Host.{answer}
use Rattle.host_fn.proofs.Halves.{halves-joined}
use Rattle.host_fn.proofs.binary.Binary.ask.Goals as goal

pub call-requires : goal.call-requires
call-requires g c κs =
    let f = c.args.self.now in
    let high = subst (λ (w : ℕ). c.high_half.result < 2 ^ (w / 2)) c.requires c.high_half.ensures.below in
    let low = subst (λ (w : ℕ). c.low_half.result < 2 ^ (w / 2)) c.requires c.low_half.ensures.below in
    ((tt, (tt, (tt, tt))), (tt, (f.answers c.high_half.result c.low_half.result high low).0))

pub answer_of-requires-clause-answers : goal.answer_of-requires-clause-answers
answer_of-requires-clause-answers g c =
    let f = c.args.self.now in
    let x = c.args.x in
    let high = subst (λ (w : ℕ). c.high_half.result < 2 ^ (w / 2)) c.requires c.high_half.ensures.below in
    let low = subst (λ (w : ℕ). c.low_half.result < 2 ^ (w / 2)) c.requires c.low_half.ensures.below in
    let whole : c.high_half.result * 2 ^ (x.width / 2) + c.low_half.result ≡ x.number =
    rw (c.high_half.ensures.half, c.low_half.ensures.half) (halves-joined x.width x.number) in
    let e = (f.answers c.high_half.result c.low_half.result high low).1 c.call.result c.call.ensures.0 in
    e ∙ ap (λ w. answer f.kind w (c.high_half.result * 2 ^ (w / 2) + c.low_half.result)) (sym c.requires) ∙ ap (answer f.kind x.width) whole
