-- The wires of a cycle that has come past no node.
use Rattle.std.proofs.Common.{◌≡◌, ℕ, zero, suc, ◌+◌, ◌*◌, ◌≤◌, ◌<◌, true, false, List, [], ◌∷◌, length, replicate, refl, sym, ap, ◌∙◌, subst, arith, Some}
use Rattle.std.specs.Prelude.{◌==◌, slice_get, slice_set}
use Rattle.std.proofs.lemmas.Bool.{ne_eqb}
use Rattle.std.proofs.lemmas.List.{get_or-replicate, get_or-set_other, get_or-set_same, length-replicate, length-set}
use Rattle.std.proofs.lemmas.Option.{get_or_from_slice_get, slice_get_within}
use Rattle.kw_bits.specs.BitVector.{BitVector}
use Rattle.net_graph.specs.Values.{Sources}
use Rattle.net_graph.specs.declared.node.NetOp.{NetOp}
use Rattle.net_graph.specs.declared.node.NetOp.TheVariants.{State}
use Rattle.typed_core.specs.Valid.{IsPort}
use Rattle.typed_core.specs.declared.design.Node.{Node}
use Rattle.typed_core.specs.declared.limits.TheConstants.{PORTS}
use Rattle.one_rule.specs.Walk.{start}
use Rattle.typed_core.specs.Continuations.{is_at, root}
use Rattle.net_action.specs.Gates.{Grows}
use Rattle.net_action.specs.Wires.{AreLogWires, AreValues, HasWire, is_up, wire_at}
use Rattle.net_action.specs.declared.wires.LogWires.{LogWires}
use Rattle.net_action.proofs.Beginning.{nothing_stands}
use Rattle.net_action.proofs.Growth.{found_more, wire_kept}
use Rattle.net_sched.specs.inner.Cycles.{AreCycleWires, AreFlags, AreStates, CycleStandsFor, nothing, nth}
use Rattle.net_sched.specs.declared.cycle.CycleWires.{CycleWires}

pub states_kept : (old new : List NetOp) (widths wires : List ℕ) → Grows [] old new → AreStates old widths wires → AreStates new widths wires
states_kept old new widths wires grows are = record {
  count = are.count;
  reads = λ register within. subst (λ (net : List NetOp). slice_get net (nth wires register) ≡ Some (State register (nth widths register))) (sym grows.more.1) (found_more old grows.more.0 (nth wires register) (State register (nth widths register)) (are.reads register within));
  each = λ register within. wire_kept [] old new (nth wires register) (nth widths register) grows (are.each register within);
}

flags_filled : (net : List NetOp) (down count : ℕ) (wires : List ℕ) → wires ≡ replicate count down → HasWire net down 1 → AreFlags net count wires
flags_filled net down count wires is wire = record {
  count = ap length is ∙ length-replicate count down;
  each = λ number within. subst (λ (w : ℕ). HasWire net w 1) (sym (ap (λ (ws : List ℕ). nth ws number) is ∙ get_or-replicate count number down 0 within)) wire;
}

-- the first of the nodes is the root
at_root : (nodes : List Node) (number : ℕ) → number < length nodes → is_at number (root nodes) ≡ (number == 0)
at_root [] number within = absurd (omega (arith, within))
at_root (node ∷ nodes) number within = refl

module _ (widths : List ℕ) (nodes : List Node) (rules down up places : ℕ) (same : places ≡ PORTS * length widths) (cycle : CycleWires)
    (reads : cycle.ports.log.was_read ≡ replicate places down) (writes : cycle.ports.log.was_written ≡ replicate places down)
    (count : length cycle.ports.log.values ≡ PORTS * length cycle.ports.start)
    (each : (port register : ℕ) → IsPort port → register < length cycle.ports.start → wire_at cycle.ports.log.values port register ≡ nth cycle.ports.start register)
    (visited : cycle.visited ≡ slice_set (replicate (length nodes) down) 0 up) (fired : cycle.fired ≡ replicate rules down)
    (net : List NetOp) (states : AreStates net widths cycle.ports.start) where
  abbrev log : LogWires
  log = cycle.ports.log

  first : (number : ℕ) → number < length nodes → 0 < number → nth cycle.visited number ≡ down
  first number within some =
      ap (λ (ws : List ℕ). nth ws number) visited ∙ get_or-set_other (replicate (length nodes) down) 0 number up 0 (λ e. omega (arith, e, some))
      ∙ get_or-replicate (length nodes) number down 0 within

  here : 0 < length nodes → nth cycle.visited 0 ≡ up
  here some =
      ap (λ (ws : List ℕ). nth ws 0) visited ∙ get_or-set_same (replicate (length nodes) down) 0 up 0 (omega (arith, some, length-replicate (length nodes) down))

  log_wires : HasWire net down 1 → AreLogWires net widths log
  log_wires off =
      let r = flags_filled net down places log.was_read reads off in
      let w = flags_filled net down places log.was_written writes off in
      record {
        was_read = r.count ∙ same;
        was_written = w.count ∙ same;
        values = omega (arith, count, states.count);
        each_read = λ port register p within. r.each (PORTS * register + port) (omega (arith, same));
        each_written = λ port register p within. w.each (PORTS * register + port) (omega (arith, same));
        each_value = λ port register width p declared.
            let within : register < length widths = slice_get_within widths register width declared in
            subst (λ (n : ℕ). HasWire net (wire_at log.values port register) n) (get_or_from_slice_get widths register width 0 declared)
            (subst (λ (n : ℕ). HasWire net n (nth widths register)) (sym (each port register p (omega (arith, within, states.count)))) (states.each register within));
      }

  pub begins_wires : HasWire net down 1 → HasWire net up 1 → AreCycleWires net widths (length nodes) rules cycle
  begins_wires off on = record {
    ports = record {
      count = states.count;
      each_start = λ register width declared.
          subst (λ (n : ℕ). HasWire net (nth cycle.ports.start register) n) (get_or_from_slice_get widths register width 0 declared) (states.each register (slice_get_within widths register width declared));
      log = log_wires off;
    };
    visited = record { count = ap length visited ∙ length-set (replicate (length nodes) down) 0 up ∙ length-replicate (length nodes) down; each = at };
    fired = flags_filled net down rules cycle.fired fired off;
  }
    where
      at : (number : ℕ) → number < length nodes → HasWire net (nth cycle.visited number) 1
      at zero within = subst (λ (w : ℕ). HasWire net w 1) (sym (here within)) on
      at (suc number) within = subst (λ (w : ℕ). HasWire net w 1) (sym (first (suc number) within (omega arith))) off

  pub begins_stand : (s : Sources) (values : List BitVector) → AreValues s net values → is_up values down ≡ false → is_up values up ≡ true
      → CycleStandsFor widths (length nodes) rules values s.states cycle 0 (start nodes nothing)
  begins_stand s values are off on = record {
    ports = record {
      start = λ register within. are.follow (nth cycle.ports.start register) (State register (nth widths register)) (states.reads register within);
      log = nothing_stands widths down places same log.was_read log.was_written reads writes log values off;
    };
    visited = at;
    fired = λ rule within. ap (λ (ws : List ℕ). is_up values (nth ws rule)) fired ∙ ap (is_up values) (get_or-replicate rules rule down 0 within) ∙ off;
  }
    where
      at : (number : ℕ) → 0 ≤ number → number < length nodes → is_up values (nth cycle.visited number) ≡ is_at number (root nodes)
      at zero later within = ap (is_up values) (here within) ∙ on ∙ sym (at_root nodes 0 within)
      at (suc number) later within = ap (is_up values) (first (suc number) within (omega arith)) ∙ off
          ∙ sym (at_root nodes (suc number) within ∙ ne_eqb (suc number) 0 (λ e. omega (arith, e)))
