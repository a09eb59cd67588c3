use Rattle.std.proofs.Common.{ℕ, [], List, ap, sym, subst, ◌∙◌}
use Rattle.std.specs.Prelude.{nat_eq}
use Rattle.kw_bits.specs.BitVector.{BitVector}
use Rattle.typed_core.specs.Widths.{register_widths}
use Rattle.net_action.specs.Wires.{AreLogWires, HasWire, LogStandsFor}
use Rattle.net_action.proofs.Beginning.{nothing_stands, nothing_wires}
use Rattle.net_action.proofs.Growth.{grows_on, log_kept, values_before, wire_kept}
use Rattle.net_action.proofs.rule.beginning.Goals as goal

pub returns-in_err-up-clause-grows : goal.returns-in_err-up-clause-grows
returns-in_err-up-clause-grows c inputs = grows_on inputs c.args.net.now c.constant.new.net c.constant-2.new.net (c.constant.ensures.grows inputs) (c.constant-2.ensures.grows inputs)

pub returns-in_err-filled-clause-grows : goal.returns-in_err-filled-clause-grows
returns-in_err-filled-clause-grows c inputs = grows_on inputs c.args.net.now c.constant.new.net c.constant-2.new.net (c.constant.ensures.grows inputs) (c.constant-2.ensures.grows inputs)

pub returns-in_err-filled-2-clause-grows : goal.returns-in_err-filled-2-clause-grows
returns-in_err-filled-2-clause-grows c inputs = grows_on inputs c.args.net.now c.constant.new.net c.constant-2.new.net (c.constant.ensures.grows inputs) (c.constant-2.ensures.grows inputs)

pub returns-in_err-from_slice-clause-grows : goal.returns-in_err-from_slice-clause-grows
returns-in_err-from_slice-clause-grows c inputs = grows_on inputs c.args.net.now c.constant.new.net c.constant-2.new.net (c.constant.ensures.grows inputs) (c.constant-2.ensures.grows inputs)

pub returns-clause-grows : goal.returns-clause-grows
returns-clause-grows c inputs = grows_on inputs c.args.net.now c.constant.new.net c.constant-2.new.net (c.constant.ensures.grows inputs) (c.constant-2.ensures.grows inputs)

pub returns-clause-running : goal.returns-clause-running
returns-clause-running c =
    let log = c.args.ports.now.log in
    let down : HasWire c.constant.new.net c.in_ok-down.down 1 = subst (λ (v : BitVector). HasWire c.constant.new.net c.in_ok-down.down v.width) c.zero.ensures c.in_ok-down.ensures.wire in
    let wires = nothing_wires (register_widths c.args.design.now) c.in_ok-down.down c.len-places.result (c.len-places.ensures ∙ c.requires.log.values) c.in_ok-filled.field-0 c.in_ok-filled-2.field-0 c.in_ok-filled.ensures c.in_ok-filled-2.ensures log
    c.constant-2.new.net (wire_kept [] c.constant.new.net c.constant-2.new.net c.in_ok-down.down 1 (c.constant-2.ensures.grows []) down)
    (log_kept [] c.constant.new.net c.constant-2.new.net (register_widths c.args.design.now) log (c.constant-2.ensures.grows []) (log_kept [] c.args.net.now c.constant.new.net (register_widths c.args.design.now) log (c.constant.ensures.grows []) c.requires.log)) in
    record {
      fires = subst (λ (v : BitVector). HasWire c.constant-2.new.net c.in_ok-up.up v.width) c.one.ensures c.in_ok-up.ensures.wire;
      log = subst (λ (ws : List ℕ). AreLogWires c.constant-2.new.net (register_widths c.args.design.now) (record { was_read = c.in_ok-filled.field-0; was_written = c.in_ok-filled-2.field-0; values = ws })) (sym (c.in_ok-from_slice.ensures ∙ c.as_slice.ensures)) wires;
    }

pub returns-clause-fires : goal.returns-clause-fires
returns-clause-fires c s values are =
    ap (λ (v : BitVector). nat_eq v.number 1) (c.in_ok-up.ensures.value s values are ∙ c.one.ensures)

pub returns-clause-none : goal.returns-clause-none
returns-clause-none c s values are =
    let log = c.args.ports.now.log in
    let first = values_before s [] c.constant.new.net c.constant-2.new.net values (c.constant-2.ensures.grows []) are in
    let off = ap (λ (v : BitVector). nat_eq v.number 1) (c.in_ok-down.ensures.value s values first ∙ c.zero.ensures) in
    subst (λ (ws : List ℕ). LogStandsFor (register_widths c.args.design.now) values (record { was_read = c.in_ok-filled.field-0; was_written = c.in_ok-filled-2.field-0; values = ws }) []) (sym (c.in_ok-from_slice.ensures ∙ c.as_slice.ensures))
    (nothing_stands (register_widths c.args.design.now) c.in_ok-down.down c.len-places.result (c.len-places.ensures ∙ c.requires.log.values) c.in_ok-filled.field-0 c.in_ok-filled-2.field-0 c.in_ok-filled.ensures c.in_ok-filled-2.ensures log values off)
