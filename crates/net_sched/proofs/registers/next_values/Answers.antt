use Rattle.std.proofs.Common.{◌≡◌, ◌<◌, ◌+◌, ℕ, List, [], length, sym, subst, ap, ◌∙◌}
use Rattle.std.specs.Prelude.{slice_index_or}
use Rattle.std.proofs.lemmas.Option.{slice_get-get_or}
use Rattle.kw_bits.specs.BitVector.{BitVector}
use Rattle.net_graph.specs.Values.{value_at}
use Rattle.typed_core.specs.Alone.{seen}
use Rattle.typed_core.specs.Evaluation.{unit}
use Rattle.typed_core.specs.Widths.{register_widths}
use Rattle.typed_core.specs.declared.design.Parts.{Parts}
use Rattle.typed_core.specs.declared.limits.TheConstants.{PORTS}
use Rattle.net_action.specs.Wires.{HasWire}
use Rattle.net_action.proofs.Growth.{grows_on, log_kept, values_before, wire_kept}
use Rattle.net_sched.specs.inner.Cycles.{nth}
use Rattle.net_sched.proofs.Pushing.{longer, pushed}
use Rattle.net_sched.proofs.StateWires.{within_widths}
use Rattle.net_sched.proofs.registers.next_values.Goals as goal

pub last_value-requires-clause-start : goal.last_value-requires-clause-start
last_value-requires-clause-start c =
    let widths = register_widths c.args.design.now in
    let i = c.loop-register.register in
    let within = within_widths c.args.design.now c.len-register-end.result i (subst (λ (d : Parts). c.len-register-end.result ≡ length d.regs) c.design.view_is c.len-register-end.ensures) c.loop-register-test.true in
    subst (λ (w : ℕ). HasWire c.loop-register.net w (nth widths i)) (sym c.nth-start.ensures)
    (wire_kept [] c.args.net.now c.loop-register.net (nth c.args.ports.now.start i) (nth widths i) (c.loop-register.invariant.grows []) (c.requires.ports.each_start i (nth widths i) (slice_get-get_or widths i 0 within)))

pub last_value-requires-clause-log : goal.last_value-requires-clause-log
last_value-requires-clause-log c = log_kept [] c.args.net.now c.loop-register.net (register_widths c.args.design.now) c.args.ports.now.log (c.loop-register.invariant.grows []) c.requires.ports.log

pub returns-in_err-wire-clause-grows : goal.returns-in_err-wire-clause-grows
returns-in_err-wire-clause-grows c inputs = grows_on inputs c.args.net.now c.loop-register.net c.last_value.new.net (c.loop-register.invariant.grows inputs) (c.last_value.ensures.grows inputs)

pub returns-in_err-push-clause-grows : goal.returns-in_err-push-clause-grows
returns-in_err-push-clause-grows c inputs = grows_on inputs c.args.net.now c.loop-register.net c.last_value.new.net (c.loop-register.invariant.grows inputs) (c.last_value.ensures.grows inputs)

pub loop-register-preserved : goal.loop-register-preserved
loop-register-preserved c =
    let widths = register_widths c.args.design.now in
    let old = c.loop-register.net in
    let new = c.last_value.new.net in
    let wires = c.loop-register.wires in
    let i = c.loop-register.register in
    let id = c.in_ok-wire.wire in
    let inv = c.loop-register.invariant in
    let is = c.in_ok-push.ensures.ok in
    let within = within_widths c.args.design.now c.len-register-end.result i (subst (λ (d : Parts). c.len-register-end.result ≡ length d.regs) c.design.view_is c.len-register-end.ensures) c.loop-register-test.true in
    record {
      grows = λ inputs. grows_on inputs c.args.net.now old new (inv.grows inputs) (c.last_value.ensures.grows inputs);
      count = ap length is ∙ longer wires id i inv.count;
      wires = subst (λ (ws : List ℕ). (k : ℕ) → k < i + 1 → HasWire new (nth ws k) (nth widths k)) (sym is)
          (pushed (λ k w. HasWire new w (nth widths k)) wires id i inv.count (λ k h. wire_kept [] old new (nth wires k) (nth widths k) (c.last_value.ensures.grows []) (inv.wires k h)) c.in_ok-wire.ensures.wire);
      values = λ s values events regs are stands.
          let P : ℕ → ℕ → Type 0 = λ k w. value_at values w ≡ seen PORTS k events (slice_index_or regs k unit) in
          let own : P i id =
          c.in_ok-wire.ensures.value s values events are stands.log
          ∙ ap (λ (v : BitVector). seen PORTS i events v) (ap (value_at values) c.nth-start.ensures ∙ stands.start i within) in
          subst (λ (ws : List ℕ). (k : ℕ) → k < i + 1 → P k (nth ws k)) (sym is)
          (pushed P wires id i inv.count (inv.values s values events regs (values_before s [] old new values (c.last_value.ensures.grows []) are) stands) own);
    }
