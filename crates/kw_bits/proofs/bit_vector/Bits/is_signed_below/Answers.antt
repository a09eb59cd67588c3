use Rattle.kw_bits.proofs.Signs.{int_lt-signed}
use Rattle.kw_bits.proofs.bit_vector.Bits.is_signed_below.Goals as goal

pub returns-then-is_negative : goal.returns-then-is_negative
returns-then-is_negative c =
    let p = c.is_negative-is_negative.ensures in
    let q = c.is_negative.ensures in
    let e = int_lt-signed _ _ c.args.self c.args.b c.requires p.bits.in_range q.bits.in_range p.sign q.sign in
    let chosen = rw c.if-is_negative.true at e in
    cc

pub returns-else-is_negative : goal.returns-else-is_negative
returns-else-is_negative c =
    let p = c.is_negative-is_negative.ensures in
    let q = c.is_negative.ensures in
    let e = int_lt-signed _ _ c.args.self c.args.b c.requires p.bits.in_range q.bits.in_range p.sign q.sign in
    let chosen = rw c.if-is_negative.false at e in
    cc
