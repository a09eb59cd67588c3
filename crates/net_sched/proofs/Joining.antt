-- A rule's log joins the scheduler log where it fires.
use Rattle.std.proofs.Common.{◌≡◌, ◌⊎◌, ℕ, zero, suc, ◌+◌, ◌*◌, ◌<◌, ◌≤◌, Bool, true, false, List, [], ◌++◌, length, refl, sym, ap, ◌∙◌, subst, inl, inr, arith, Option, Some, None}
use Rattle.std.specs.Prelude.{◌&&◌, ◌||◌, not, if◌then◌else◌}
use Rattle.std.proofs.lemmas.Bool.{cases_lt}
use Rattle.std.proofs.lemmas.List.{length-map}
use Rattle.std.proofs.lemmas.Option.{slice_get-get_or, slice_get_within}
use Rattle.kw_bits.specs.BitVector.{BitVector}
use Rattle.net_graph.specs.Values.{value_at}
use Rattle.net_graph.specs.declared.node.NetOp.{NetOp}
use Rattle.typed_core.specs.Evaluation.{Ending, Environment, Stop, Value}
use Rattle.typed_core.specs.Valid.{IsPort}
use Rattle.typed_core.specs.Widths.{register_widths}
use Rattle.typed_core.specs.declared.design.Parts.{Parts}
use Rattle.typed_core.specs.declared.design.RegDecl.{RegDecl}
use Rattle.typed_core.specs.declared.access.Event.{Event}
use Rattle.typed_core.specs.declared.design.Rule.{Rule}
use Rattle.typed_core.specs.declared.limits.TheConstants.{PORTS}
use Rattle.typed_core.specs.declared.outcome.Stopped.{Stopped}
use Rattle.one_rule.specs.PortRun.{PortState, merge, port_run_if}
use Rattle.rule_log.specs.StandsFor.{WritesFollow}
use Rattle.rule_log.proofs.Telling.{tells_both}
use Rattle.action_interp.proofs.ByLog.{writes_follow}
use Rattle.net_action.specs.inner.Parts.{SameLog}
use Rattle.net_action.specs.Wires.{AreLogWires, EndsAs, HasWire, LogStandsFor, is_set, is_up, wire_at, written}
use Rattle.net_action.specs.declared.wires.LogWires.{LogWires}
use Rattle.net_action.specs.declared.wires.RuleNet.{RuleNet}
use Rattle.net_action.proofs.Running.{stands_same}
use Rattle.net_sched.specs.inner.Cycles.{AreFlags, IsVisit, Joins, JoinsFlags, nth}
use Rattle.net_sched.specs.declared.visit.NodeWires.{NodeWires}

-- ---- places in a log

-- a place is that of a port of a register
pub record IsPlace (place : ℕ) : Type 0 where
  pub port : ℕ
  pub register : ℕ
  pub is_port : IsPort port
  pub is : place ≡ PORTS * register + port

pub port_of_place : (place : ℕ) → IsPlace place
port_of_place zero = record { port = 0; register = 0; is_port = omega arith; is = refl }
port_of_place (suc place) = next (port_of_place place)
  where
    next : IsPlace place → IsPlace (suc place)
    next at = chosen (cases_lt (suc at.port) PORTS)
      where
        chosen : (suc at.port < PORTS) ⊎ (PORTS ≤ suc at.port) → IsPlace (suc place)
        chosen (inl lt) = record { port = suc at.port; register = at.register; is_port = lt; is = omega (arith, at.is) }
        chosen (inr ge) = record { port = 0; register = suc at.register; is_port = omega arith; is = omega (arith, at.is, at.is_port) }

-- a design has so many places
pub places_of : (d : Parts) (count : ℕ) → count ≡ length d.regs → PORTS * count ≡ PORTS * length (register_widths d)
places_of d count is = omega (arith, is, length-map d.regs (λ (decl : RegDecl). decl.width))

-- flags by port and register are flags by place
pub flags_by_place : (net : List NetOp) (widths wires : List ℕ) (places : ℕ) → places ≡ PORTS * length widths → length wires ≡ PORTS * length widths
    → ((port register : ℕ) → IsPort port → register < length widths → HasWire net (wire_at wires port register) 1) → AreFlags net places wires
flags_by_place net widths wires places same count each = record {
  count = count ∙ sym same;
  each = λ number within.
      let at = port_of_place number in
      let inside : at.register < length widths = omega (arith, at.is, within, same) in
      subst (λ (n : ℕ). HasWire net (nth wires n) 1) (sym at.is) (each at.port at.register at.is_port inside);
}

-- two logs have values of one width at each place
pub one_width : (net : List NetOp) (widths : List ℕ) (sched rule : LogWires) (places : ℕ) → places ≡ PORTS * length widths → AreLogWires net widths sched → AreLogWires net widths rule
    → (place : ℕ) → place < places → (width : ℕ) × HasWire net (nth rule.values place) width × HasWire net (nth sched.values place) width
one_width net widths sched rule places same a b place within =
    let at = port_of_place place in
    let inside : at.register < length widths = omega (arith, at.is, within, same) in
    let declared = slice_get-get_or widths at.register 0 inside in
    let width : ℕ = nth widths at.register in (
      width,
      subst (λ (n : ℕ). HasWire net (nth rule.values n) width) (sym at.is) (b.each_value at.port at.register width at.is_port declared),
      subst (λ (n : ℕ). HasWire net (nth sched.values n) width) (sym at.is) (a.each_value at.port at.register width at.is_port declared),
    )

module _ (widths : List ℕ) (sched rule : LogWires) (places : ℕ) (same : places ≡ PORTS * length widths) (reads writes kept : List ℕ) where
  abbrev both : LogWires
  both = record { was_read = reads; was_written = writes; values = kept }

  -- the lists are the wires of a log
  pub both_wires : (old new : List NetOp) → AreLogWires old widths sched → AreFlags new places reads → AreFlags new places writes → length kept ≡ places
      → ((place width : ℕ) → place < places → HasWire old (nth sched.values place) width → HasWire new (nth kept place) width) → AreLogWires new widths both
  both_wires old new are r w count wide = record {
    was_read = r.count ∙ same;
    was_written = w.count ∙ same;
    values = count ∙ same;
    each_read = λ port register p within. r.each (PORTS * register + port) (omega (arith, same));
    each_written = λ port register p within. w.each (PORTS * register + port) (omega (arith, same));
    each_value = λ port register width p declared.
        let within : register < length widths = slice_get_within widths register width declared in
        wide (PORTS * register + port) width (omega (arith, same)) (are.each_value port register width p declared);
  }

  -- and have the accesses of both
  pub both_join : (values : List BitVector) (fires : Bool) → JoinsFlags values sched.was_read rule.was_read fires places reads → JoinsFlags values sched.was_written rule.was_written fires places writes
      → ((place : ℕ) → place < places → value_at values (nth kept place) ≡ (if fires && is_up values (nth rule.was_written place) then value_at values (nth rule.values place) else value_at values (nth sched.values place)))
      → Joins widths values sched rule fires both
  both_join values fires r w v = record {
    flags = flags;
    value = λ port register p within. v (PORTS * register + port) (omega (arith, same));
  }
    where
      flags : (write : Bool) (port register : ℕ) → IsPort port → register < length widths → is_set values both write port register ≡ (is_set values sched write port register || (fires && is_set values rule write port register))
      flags true port register p within = w (PORTS * register + port) (omega (arith, same))
      flags false port register p within = r (PORTS * register + port) (omega (arith, same))

-- ---- a rule that is tried

or_false : (a : Bool) → (a || false) ≡ a
or_false true = refl
or_false false = refl

-- the scheduler log refuses no write that is noted behind it
pub follows : (env : Environment) (log : List Event) (regs : List BitVector) (found : Option Rule) → WritesFollow log (port_run_if env log regs found).events
follows env log regs None = tt
follows env log regs (Some rule) = writes_follow env log regs rule.body [] [] tt

module _ (widths : List ℕ) (values : List BitVector) (sched : LogWires) (tried : RuleNet) (visit : NodeWires) (joins : Joins widths values sched tried.log (is_up values visit.fires) visit.log) where
  abbrev pub Up : ℕ → Bool
  Up wire = is_up values wire

  still : Up visit.fires ≡ false → (events : List Event) → LogStandsFor widths values sched events → LogStandsFor widths values visit.log events
  still off events stands = stands_same widths values sched visit.log events same stands
    where
      j : Joins widths values sched tried.log false visit.log
      j = subst (λ (b : Bool). Joins widths values sched tried.log b visit.log) off joins

      same : SameLog widths values sched visit.log
      same = record {
        flags = λ write port register p r. j.flags write port register p r ∙ or_false (is_set values sched write port register);
        value = λ port register p r. j.value port register p r;
      }

  fired : Up visit.fires ≡ true → (events later : List Event) → LogStandsFor widths values sched events → LogStandsFor widths values tried.log later → WritesFollow events later → LogStandsFor widths values visit.log (events ++ later)
  fired on events later a b follow =
      let j : Joins widths values sched tried.log true visit.log = subst (λ (b : Bool). Joins widths values sched tried.log b visit.log) on joins in
      tells_both widths (is_set values sched) (is_set values tried.log) (is_set values visit.log) (written values visit.log) (written values sched) (written values tried.log) events later a b follow
      (λ write port register p r. j.flags write port register p r) (λ port register p r. j.value port register p r)

  -- a node's wires are what the walk makes of it
  pub is_visit : (here : Bool) (rule : ℕ) (state : PortState) (events : List Event) (ending : Ending BitVector Stopped) → Up visit.fires ≡ (here && Up tried.fires) → Up visit.fails ≡ (here && not (Up tried.fires))
      → LogStandsFor widths values sched state.log → EndsAs widths values tried events ending → WritesFollow state.log events → IsVisit widths values visit here state (merge state rule events ending)
  is_visit false rule state events ending f g stands ends follow = (f, g, still f state.log stands)
  is_visit true rule state events (Value value) f g stands (up, log) follow =
      let on : Up visit.fires ≡ true = f ∙ up in
      (on, g ∙ ap not up, fired on state.log events stands log follow)
  is_visit true rule state events (Stop cause) f g stands down follow =
      let off : Up visit.fires ≡ false = f ∙ down in
      (off, g ∙ ap not down, still off state.log stands)
