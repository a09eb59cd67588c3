-- The wires of a rule that has made no access.
use Rattle.std.proofs.Common.{◌≡◌, Option, ℕ, ◌+◌, ◌*◌, ◌<◌, Bool, true, false, List, [], length, replicate, sym, ap, subst, ◌∙◌, arith}
use Rattle.std.proofs.lemmas.List.{get_or-replicate, length-replicate}
use Rattle.kw_bits.specs.BitVector.{BitVector}
use Rattle.net_graph.specs.declared.node.NetOp.{NetOp}
use Rattle.typed_core.specs.Valid.{IsPort}
use Rattle.typed_core.specs.declared.limits.TheConstants.{PORTS}
use Rattle.rule_log.proofs.Telling.{tells_none}
use Rattle.net_graph.specs.Values.{Sources}
use Rattle.typed_core.specs.Evaluation.{Ending, Stop, Value, evaluate}
use Rattle.typed_core.specs.Valid.{Declarations}
use Rattle.typed_core.specs.declared.access.Event.{Event}
use Rattle.typed_core.specs.declared.action.Action.{Action}
use Rattle.typed_core.specs.declared.outcome.Stopped.{Stopped}
use Rattle.one_rule.specs.PortRun.{ports_behind}
use Rattle.net_action.specs.inner.Parts.{ComesTo, IsPart, environment_in}
use Rattle.net_action.specs.Wires.{AreLogWires, AreValues, EndsAs, HasWire, LogStandsFor, PortsStandFor, RuleStandsFor, is_set, is_up, wire_at, written}
use Rattle.net_action.specs.declared.wires.PortWires.{PortWires}
use Rattle.net_action.specs.declared.wires.RuleNet.{RuleNet}
use Rattle.net_action.specs.declared.wires.LogWires.{LogWires}

module _ (widths : List ℕ) (down places : ℕ) (count : places ≡ PORTS * length widths) where
  all_down : (wires : List ℕ) → wires ≡ replicate places down → (port register : ℕ) → IsPort port → register < length widths → wire_at wires port register ≡ down
  all_down wires are port register p within =
      ap (λ (ws : List ℕ). wire_at ws port register) are ∙ get_or-replicate places (PORTS * register + port) down 0 (omega (arith, count))

  long : (wires : List ℕ) → wires ≡ replicate places down → length wires ≡ PORTS * length widths
  long wires are = ap length are ∙ length-replicate places down ∙ count

  module _ (reads writes : List ℕ) (first : reads ≡ replicate places down) (second : writes ≡ replicate places down) (log : LogWires) where
    abbrev pub nothing : LogWires
    nothing = record { was_read = reads; was_written = writes; values = log.values }

    pub nothing_wires : (net : List NetOp) → HasWire net down 1 → AreLogWires net widths log → AreLogWires net widths nothing
    nothing_wires net wire are = record {
      was_read = long reads first;
      was_written = long writes second;
      values = are.values;
      each_read = λ port register p within. subst (λ (w : ℕ). HasWire net w 1) (sym (all_down reads first port register p within)) wire;
      each_written = λ port register p within. subst (λ (w : ℕ). HasWire net w 1) (sym (all_down writes second port register p within)) wire;
      each_value = are.each_value;
    }

    pub nothing_stands : (values : List BitVector) → is_up values down ≡ false → LogStandsFor widths values nothing []
    nothing_stands values off = tells_none widths (is_set values nothing) (written values nothing) none
      where
        none : (write : Bool) (port register : ℕ) → IsPort port → register < length widths → is_set values nothing write port register ≡ false
        none true port register p within = ap (is_up values) (all_down writes second port register p within) ∙ off
        none false port register p within = ap (is_up values) (all_down reads first port register p within) ∙ off

-- the wires of a whole body
ends_as : (widths : List ℕ) (values : List BitVector) (run : RuleNet) (wire : Option ℕ) (events : List Event) (ending : Ending BitVector Stopped) → ComesTo widths values run wire events ending → EndsAs widths values run events ending
ends_as widths values run wire events (Value value) (up, stands, is) = (up, stands)
ends_as widths values run wire events (Stop cause) down = down

pub rule_stands : (d : Declarations) (ports : PortWires) (old new : List NetOp) (r0 r1 : RuleNet) (body : Action) (locals : List ℕ) (wire : Option ℕ) (s : Sources) (values : List BitVector) (events : List Event) (regs : List BitVector)
    → locals ≡ [] → IsPart d ports old r0 body locals new r1 wire → AreValues s new values → PortsStandFor d.regs values ports events regs → is_up values r0.fires ≡ true → LogStandsFor d.regs values r0.log []
    → RuleStandsFor d.regs values r1 (evaluate (environment_in d s) (ports_behind events regs) body [] [])
rule_stands d ports old new r0 r1 body locals wire s values events regs none made are st up stands =
    let m = (subst (λ (names : List ℕ). IsPart d ports old r0 body names new r1 wire) none made).means s values events regs are st in
    let end = evaluate (environment_in d s) (ports_behind events regs) body [] [] in
    ends_as d.regs values r1 wire end.events end.ending (m.runs [] up stands)
