use Rattle.std.proofs.Common.{◌≡◌, ◌*◌, ℕ, [], length, replicate, ap, subst, ◌∙◌, arith}
use Rattle.std.specs.Prelude.{nat_eq, slice_set}
use Rattle.std.proofs.lemmas.List.{length-map}
use Rattle.kw_bits.specs.BitVector.{BitVector}
use Rattle.typed_core.specs.Valid.{IsValid}
use Rattle.typed_core.specs.Widths.{register_widths}
use Rattle.typed_core.specs.declared.design.Parts.{Parts}
use Rattle.typed_core.specs.declared.design.RegDecl.{RegDecl}
use Rattle.typed_core.specs.declared.limits.TheConstants.{PORTS}
use Rattle.net_action.specs.Wires.{HasWire}
use Rattle.net_action.proofs.Growth.{grows_on, values_before, wire_kept}
use Rattle.net_sched.specs.declared.cycle.CycleWires.{CycleWires}
use Rattle.net_sched.proofs.Beginnings.{begins_stand, begins_wires, states_kept}
use Rattle.net_sched.proofs.Joining.{places_of}
use Rattle.net_sched.proofs.cycle.beginning.Goals as goal

pub no_access-requires : goal.no_access-requires
no_access-requires c =
    let valid = subst IsValid c.design.view_is c.design.invariant in
    omega (arith, c.requires.count, length-map c.args.design.now.regs (λ (decl : RegDecl). decl.width), valid.few_registers)

pub returns-in_err-up-clause-grows : goal.returns-in_err-up-clause-grows
returns-in_err-up-clause-grows c inputs = grows_on inputs c.args.net.now c.constant.new.net c.constant-2.new.net (c.constant.ensures.grows inputs) (c.constant-2.ensures.grows inputs)

pub returns-in_err-log-clause-grows : goal.returns-in_err-log-clause-grows
returns-in_err-log-clause-grows c inputs = grows_on inputs c.args.net.now c.constant.new.net c.constant-2.new.net (c.constant.ensures.grows inputs) (c.constant-2.ensures.grows inputs)

pub returns-in_err-visited-clause-grows : goal.returns-in_err-visited-clause-grows
returns-in_err-visited-clause-grows c inputs = grows_on inputs c.args.net.now c.constant.new.net c.constant-2.new.net (c.constant.ensures.grows inputs) (c.constant-2.ensures.grows inputs)

pub returns-in_err-fired-clause-grows : goal.returns-in_err-fired-clause-grows
returns-in_err-fired-clause-grows c inputs = grows_on inputs c.args.net.now c.constant.new.net c.constant-2.new.net (c.constant.ensures.grows inputs) (c.constant-2.ensures.grows inputs)

pub returns-clause-grows : goal.returns-clause-grows
returns-clause-grows c inputs = grows_on inputs c.args.net.now c.constant.new.net c.constant-2.new.net (c.constant.ensures.grows inputs) (c.constant-2.ensures.grows inputs)

pub returns-clause-wires : goal.returns-clause-wires
returns-clause-wires c =
    let design = c.args.design.now in
    let made : CycleWires = record { ports = record { start = c.args.start; log = c.in_ok-log.log }; visited = c.in_ok-visited.visited; fired = c.in_ok-fired.fired } in
    let counted = c.requires.count ∙ length-map design.regs (λ (decl : RegDecl). decl.width) in
    let grows = grows_on [] c.args.net.now c.constant.new.net c.constant-2.new.net (c.constant.ensures.grows []) (c.constant-2.ensures.grows []) in
    let visited = c.in_ok-visited.ensures ∙ ap (λ (n : ℕ). slice_set (replicate n c.in_ok-down.down) 0 c.in_ok-up.up) (subst (λ (d : Parts). c.len.result ≡ length d.nodes) c.design.view_is c.len.ensures) in
    let fired = c.in_ok-fired.ensures ∙ ap (λ (n : ℕ). replicate n c.in_ok-down.down) (subst (λ (d : Parts). c.len-2.result ≡ length d.rules) c.design.view_is c.len-2.ensures) in
    let down = wire_kept [] c.constant.new.net c.constant-2.new.net c.in_ok-down.down 1 (c.constant-2.ensures.grows []) (subst (λ (v : BitVector). HasWire c.constant.new.net c.in_ok-down.down v.width) c.zero.ensures c.in_ok-down.ensures.wire) in
    let up = subst (λ (v : BitVector). HasWire c.constant-2.new.net c.in_ok-up.up v.width) c.one.ensures c.in_ok-up.ensures.wire in
    begins_wires (register_widths design) design.nodes (length design.rules) c.in_ok-down.down c.in_ok-up.up (PORTS * length c.args.start) (places_of design (length c.args.start) counted) made
    c.in_ok-log.ensures.was_read c.in_ok-log.ensures.was_written c.in_ok-log.ensures.count c.in_ok-log.ensures.values visited fired c.constant-2.new.net (states_kept c.args.net.now c.constant-2.new.net (register_widths design) c.args.start grows c.requires) down up

pub returns-clause-walk : goal.returns-clause-walk
returns-clause-walk c s values are =
    let design = c.args.design.now in
    let made : CycleWires = record { ports = record { start = c.args.start; log = c.in_ok-log.log }; visited = c.in_ok-visited.visited; fired = c.in_ok-fired.fired } in
    let counted = c.requires.count ∙ length-map design.regs (λ (decl : RegDecl). decl.width) in
    let grows = grows_on [] c.args.net.now c.constant.new.net c.constant-2.new.net (c.constant.ensures.grows []) (c.constant-2.ensures.grows []) in
    let visited = c.in_ok-visited.ensures ∙ ap (λ (n : ℕ). slice_set (replicate n c.in_ok-down.down) 0 c.in_ok-up.up) (subst (λ (d : Parts). c.len.result ≡ length d.nodes) c.design.view_is c.len.ensures) in
    let fired = c.in_ok-fired.ensures ∙ ap (λ (n : ℕ). replicate n c.in_ok-down.down) (subst (λ (d : Parts). c.len-2.result ≡ length d.rules) c.design.view_is c.len-2.ensures) in
    let first = values_before s [] c.constant.new.net c.constant-2.new.net values (c.constant-2.ensures.grows []) are in
    let off = ap (λ (v : BitVector). nat_eq v.number 1) (c.in_ok-down.ensures.value s values first ∙ c.zero.ensures) in
    let on = ap (λ (v : BitVector). nat_eq v.number 1) (c.in_ok-up.ensures.value s values are ∙ c.one.ensures) in
    begins_stand (register_widths design) design.nodes (length design.rules) c.in_ok-down.down c.in_ok-up.up (PORTS * length c.args.start) (places_of design (length c.args.start) counted) made
    c.in_ok-log.ensures.was_read c.in_ok-log.ensures.was_written c.in_ok-log.ensures.count c.in_ok-log.ensures.values visited fired c.constant-2.new.net (states_kept c.args.net.now c.constant-2.new.net (register_widths design) c.args.start grows c.requires) s values are off on
