use Rattle.std.proofs.Common.{◌≡◌, Bool, true, false, [], sym, subst, arith, rules}
use Rattle.typed_core.specs.Alone.{is_refused}
use Rattle.typed_core.specs.Widths.{register_widths}
use Rattle.net_action.specs.Wires.{is_set, is_up, wire_at, written}
use Rattle.net_action.proofs.Accesses.{read_up, write_up}
use Rattle.net_action.proofs.Growth.{grows_on, values_before, wire_kept}
use Rattle.net_action.proofs.ports.refuses.Goals as goal

pub returns-then-not-write-clause-up : goal.returns-then-not-write-clause-up
returns-then-not-write-clause-up c s values events are stands =
    let is : c.args.write ≡ false = search rules in
    subst (λ (w : Bool). is_up values c.in_ok-is_written.is_written ≡ is_refused events (record { write = w; port = c.args.port; register = c.args.register })) (sym is)
    (read_up (register_widths c.args.design.now) (is_set values c.args.log.now) (written values c.args.log.now) events stands c.args.register c.requires.register c.args.port (is_up values c.in_ok-is_written.is_written) (c.in_ok-is_written.ensures.down s values are))

pub any_from-requires-2-clause-wires : goal.any_from-requires-2-clause-wires
any_from-requires-2-clause-wires c at p = wire_kept [] c.args.net.now c.any_from.new.net (wire_at c.args.log.now.was_read at c.args.register) 1 (c.any_from.ensures.grows []) (c.requires.log.each_read at c.args.register p c.requires.register)

pub returns-in_err-is_read-clause-grows : goal.returns-in_err-is_read-clause-grows
returns-in_err-is_read-clause-grows c inputs = grows_on inputs c.args.net.now c.any_from.new.net c.any_from-2.new.net (c.any_from.ensures.grows inputs) (c.any_from-2.ensures.grows inputs)

pub either-requires-clause-a : goal.either-requires-clause-a
either-requires-clause-a c = wire_kept [] c.any_from.new.net c.any_from-2.new.net c.in_ok-is_written.is_written 1 (c.any_from-2.ensures.grows []) c.in_ok-is_written.ensures.wire

pub returns-in_err-refused-clause-grows : goal.returns-in_err-refused-clause-grows
returns-in_err-refused-clause-grows c inputs = grows_on inputs c.args.net.now c.any_from-2.new.net c.either.new.net (grows_on inputs c.args.net.now c.any_from.new.net c.any_from-2.new.net (c.any_from.ensures.grows inputs) (c.any_from-2.ensures.grows inputs)) (c.either.ensures.grows inputs)

pub returns-clause-grows : goal.returns-clause-grows
returns-clause-grows c inputs = grows_on inputs c.args.net.now c.any_from-2.new.net c.either.new.net (grows_on inputs c.args.net.now c.any_from.new.net c.any_from-2.new.net (c.any_from.ensures.grows inputs) (c.any_from-2.ensures.grows inputs)) (c.either.ensures.grows inputs)

pub returns-clause-up : goal.returns-clause-up
returns-clause-up c s values events are stands =
    let is : c.args.write ≡ true = search rules in
    let second = values_before s [] c.any_from-2.new.net c.either.new.net values (c.either.ensures.grows []) are in
    let first = values_before s [] c.any_from.new.net c.any_from-2.new.net values (c.any_from-2.ensures.grows []) second in
    let reads = c.in_ok-is_read.ensures.down s values second in
    subst (λ (w : Bool). is_up values c.in_ok-refused.refused ≡ is_refused events (record { write = w; port = c.args.port; register = c.args.register })) (sym is)
    (write_up (register_widths c.args.design.now) (is_set values c.args.log.now) (written values c.args.log.now) events stands c.args.register c.requires.register c.args.port (is_up values c.in_ok-refused.refused) (is_up values c.in_ok-is_written.is_written) (is_up values c.in_ok-is_read.is_read)
    (c.in_ok-refused.ensures.up s values are) (c.in_ok-is_written.ensures.down s values first)
    (λ h at lt p. reads.0 h at (omega (arith, lt)) p, λ k. reads.1 (λ at le p. k at (omega (arith, le)) p)))
