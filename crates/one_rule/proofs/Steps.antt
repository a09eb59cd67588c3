-- Where a part of an action came to, for the evaluator's proof.
use Rattle.std.proofs.Common.{◌≡◌, ◌⊎◌, inl, inr, ℕ, ◌≤◌, List, ◌∷◌, Err, sym, ap, ◌∙◌, subst, refl}
use Rattle.kw_bits.specs.BitVector.{BitVector}
use Rattle.kw_bits.specs.Laws.{HasWidth}
use Rattle.typed_core.specs.Evaluation.{Ending, Environment, Ports, Progress, Value, evaluate, unit}
use Rattle.typed_core.specs.Fits.{CanEvaluate, EnvironmentFits, EventsFit, PortsFit}
use Rattle.typed_core.specs.inner.Fits.{CanBeOperand}
use Rattle.typed_core.specs.Valid.{ActionHasWidth, Declarations}
use Rattle.typed_core.specs.Widths.{HaveWidths}
use Rattle.typed_core.specs.declared.access.Event.{Event}
use Rattle.typed_core.specs.declared.action.Action.{Action}
use Rattle.typed_core.specs.declared.outcome.Stopped.{Stopped}
use Rattle.typed_core.proofs.Ready.{CameTo, events_after, operand_value}
use Rattle.typed_core.proofs.Typed.{value_fits}
use Rattle.typed_core.proofs.Values.{bits_of}
use Rattle.typed_core.proofs.WidthLists.{HaveWidths-cons}
use Rattle.one_rule.specs.Answers.{Answers, value_of}
use Rattle.one_rule.specs.inner.Parts.{AreReady, HasBody, Interrupts, Leaves}
use Rattle.one_rule.specs.declared.evaluation.Interrupt.{Interrupt}
use Rattle.one_rule.specs.declared.evaluation.Interrupt.TheVariants as interrupt
use Rattle.one_rule.specs.declared.evaluation.part.End.{End}
use Rattle.one_rule.specs.declared.evaluation.part.End.TheVariants as ends
use Rattle.one_rule.specs.declared.evaluation.part.Slot.{Slot}

-- where a part of an action came to, and what is known of the ports behind it
module _ (d : Declarations) (env : Environment) (fits : EnvironmentFits d env) (widths : List ℕ) (reading : Ports Stopped) (stands_for : List Event → Type 0) (ports : AreReady d widths reading stands_for) (a : Action) (values : List BitVector) (x : BitVector) (widths' : List ℕ) (reading' : Ports Stopped) (stands_for' : List Event → Type 0) (ready : CanEvaluate d a values)
    (answers : (events : List Event) → stands_for events → stands_for' (evaluate env reading a values events).events × ((evaluate env reading a values events).ending ≡ Value x)) where
  came_to : CameTo d env reading a values x
  came_to =
      let (events, stands, fit) = ports.events in
      let after = answers events stands in
      record {
        events = events;
        after = (evaluate env reading a values events).events;
        fit = subst (λ (ws : List ℕ). EventsFit ws events) ports.registers fit;
        came = ap (λ (e : Ending BitVector Stopped). let p : Progress BitVector Stopped = record { events = (evaluate env reading a values events).events; ending = e } in p) after.1;
      }

  keeps : PortsFit d.regs reading
  keeps = subst (λ (ws : List ℕ). PortsFit ws reading) ports.registers ports.fit

  -- the ports are ready for the next part
  pub ready_behind : reading' ≡ reading → widths' ≡ widths → AreReady d widths' reading' stands_for'
  unfolding came_to
  ready_behind r w =
      let (events, stands, fit) = ports.events in
      let after = answers events stands in
      let regs : widths' ≡ d.regs = w ∙ ports.registers in
      let c = came_to in
      record {
        registers = regs;
        fit = subst (λ (p : Ports Stopped). PortsFit widths' p) (sym r) (subst (λ (ws : List ℕ). PortsFit ws reading) (sym regs) keeps);
        abort = ap (λ (p : Ports Stopped). p.abort) r ∙ ports.abort;
        events = (c.after, after.0, subst (λ (ws : List ℕ). EventsFit ws c.after) (sym regs) (events_after d env reading fits keeps a values c.events c.after (Value x) ready c.fit c.came));
      }

  -- its value has the width that the action was found to have
  pub value_has_width : (ws : List ℕ) (width : ℕ) → HaveWidths ws values → ActionHasWidth d a ws width → 1 ≤ width → HasWidth x width
  value_has_width ws width l t some =
      let c = came_to in
      bits_of width x some (value_fits d env reading fits keeps a ws values width c.events c.after x t l c.fit c.came)

-- the ports are ready behind a part that isn't interrupted
module _ (d : Declarations) (env : Environment) (fits : EnvironmentFits d env) (widths : List ℕ) (reading : Ports Stopped) (stands_for : List Event → Type 0) (ports : AreReady d widths reading stands_for) (a : Action) (values : List BitVector) (widths' : List ℕ) (reading' : Ports Stopped) (stands_for' : List Event → Type 0) (ready : CanEvaluate d a values) (slot : Slot) where
  pub ready_after : (end : End) → (end ≡ ends.Interrupt → ⊥)
      → ((events : List Event) → stands_for events → Leaves stands_for' end slot (evaluate env reading a values events))
      → reading' ≡ reading → widths' ≡ widths → AreReady d widths' reading' stands_for'
  ready_after ends.Unit other leaves r w = ready_behind d env fits widths reading stands_for ports a values unit widths' reading' stands_for' ready leaves r w
  ready_after ends.Value other leaves r w = ready_behind d env fits widths reading stands_for ports a values slot.value widths' reading' stands_for' ready leaves r w
  ready_after ends.Interrupt other leaves r w = absurd (other refl)

-- a part that comes to a value or to none isn't interrupted
pub goes_on_at : (end : End) → (end ≡ ends.Unit) ⊎ (end ≡ ends.Value) → end ≡ ends.Interrupt → ⊥
goes_on_at end (inl e) other = absurd cc
goes_on_at end (inr e) other = absurd cc

-- a body can be evaluated where a name stands for a value of its width
pub body_ready : (d : Declarations) (a body : Action) (values : List BitVector) (x : BitVector) → HasBody d a body values
    → ((ws : List ℕ) (width : ℕ) → HaveWidths ws values → ActionHasWidth d a ws width → 1 ≤ width → HasWidth x width) → CanEvaluate d body (x ∷ values)
body_ready d a body values x (ws, l, bound, width, t, some, u) has = (bound ∷ ws, HaveWidths-cons bound ws x values (has ws bound l t some) l, (width, u))

-- what interrupts a part says the same of its answer
pub answers_interrupted : (stands_for : List Event → Type 0) (i : Interrupt) (p : Progress BitVector Stopped) → Interrupts stands_for i p → Answers value_of stands_for (Err i) p
answers_interrupted stands_for (interrupt.Stop cause) p h = h
answers_interrupted stands_for interrupt.NoMemory p h = h

-- an operand doesn't come to no value
module _ (d : Declarations) (env : Environment) (fits : EnvironmentFits d env) (widths : List ℕ) (reading : Ports Stopped) (stands_for : List Event → Type 0) (ports : AreReady d widths reading stands_for) where
  pub has_value : (a : Action) (values : List BitVector) (stands_for' : List Event → Type 0) → CanBeOperand d a values
      → ((events : List Event) → stands_for events → stands_for' (evaluate env reading a values events).events × ((evaluate env reading a values events).ending ≡ Value unit)) → ⊥
  has_value a values stands_for' ready answers =
      let (events, stands, fit) = ports.events in
      let after = answers events stands in
      let end = evaluate env reading a values events in
      let keeps : PortsFit d.regs reading = subst (λ (ws : List ℕ). PortsFit ws reading) ports.registers ports.fit in
      let fit' : EventsFit d.regs events = subst (λ (ws : List ℕ). EventsFit ws events) ports.registers fit in
      operand_value d env reading fits keeps a values events end.events ready fit' (ap (λ (e : Ending BitVector Stopped). let p : Progress BitVector Stopped = record { events = end.events; ending = e } in p) after.1)
