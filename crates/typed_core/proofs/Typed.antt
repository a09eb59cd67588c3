-- A part of a valid design's rule that comes to a value comes to one of its width and notes events that fit, at ports
-- that keep it so. At ports that only add events, a part only adds events.
use Rattle.std.proofs.Common.{◌≡◌, ℕ, Bool, true, false, List, [], ◌∷◌, ◌++◌, Some, sym, subst, arith}
use Rattle.std.specs.Prelude.{nat_eq, slice_get, if◌then◌else◌}
use Rattle.kw_bits.specs.BitVector.{BitVector}
use Rattle.kw_bits.specs.Laws.{HasWidth}
use Rattle.kw_bits.specs.Operators as op
use Rattle.typed_core.specs.Evaluation.{answer_of, bind, entry_of, evaluate, Ending, Environment, Externs, Evaluation, Ports, Progress, Stop, Value, unit}
use Rattle.typed_core.specs.Alone.{alone, is_refused, alone_ports}
use Rattle.typed_core.specs.Fits.{EndingFits, EnvironmentFits, EventsFit, PortsFit, ProgressFits, ValueFits}
use Rattle.typed_core.specs.Valid.{ActionHasWidth, Declarations, IsPort, IsTyped, IsWidth}
use Rattle.typed_core.specs.inner.Valid.{IsOperand}
use Rattle.typed_core.specs.Widths.{HaveWidths}
use Rattle.typed_core.specs.declared.access.Access.{Access}
use Rattle.typed_core.specs.declared.access.Event.{Event}
use Rattle.typed_core.specs.declared.action.Action.{Action}
use Rattle.typed_core.specs.declared.action.Action.TheVariants as action
use Rattle.typed_core.specs.declared.outcome.Stopped.{Stopped}
use Rattle.typed_core.specs.declared.outcome.Stopped.TheVariants.{Refused}
use Rattle.typed_core.proofs.Events.{EventsFit-append, seen_fits}
use Rattle.typed_core.proofs.Values.{ValueFits-unit, ValueFits-bits, bits_of, one_fits, two_fits, slice_fits, zext_fits, sext_fits, entry_fits, answer_fits, found_holds}
use Rattle.typed_core.proofs.WidthLists.{HaveWidths-cons, HaveWidths-empty}

-- what goes on with a fitting value from fitting events comes to what fits
bind_fits : {S : Type 0} (widths : List ℕ) (v w : ℕ) (events : List Event) (ending : Ending BitVector S) (next : BitVector → Evaluation BitVector S) → EventsFit widths events → EndingFits v ending → ((value : BitVector) (es : List Event) → ValueFits v value → EventsFit widths es → ProgressFits widths w (next value es)) → ProgressFits widths w (bind events ending next)
bind_fits widths v w events (Value value) next e f k = k value events f e
bind_fits widths v w events (Stop cause) next e f k = (e, tt)

no_value : (width : ℕ) → width ≡ 0 → ValueFits width unit
no_value width none = subst (λ (n : ℕ). ValueFits n unit) (sym none) ValueFits-unit

choose_fits : {S : Type 0} (widths : List ℕ) (width : ℕ) (is_zero : Bool) (first second : Evaluation BitVector S) (events : List Event) → ProgressFits widths width (first events) → ProgressFits widths width (second events) → ProgressFits widths width ((if is_zero then second else first) events)
choose_fits widths width true first second events f g = g
choose_fits widths width false first second events f g = f

-- an action of a width comes to a value of that width and keeps the events fitting
module _ {S : Type 0} (d : Declarations) (env : Environment) (ports : Ports S) (fits : EnvironmentFits d env) (keeps : PortsFit d.regs ports) where
  pub evaluate_fits : (action : Action) (locals : List ℕ) (values : List BitVector) (width : ℕ) → ActionHasWidth d action locals width → HaveWidths locals values → (events : List Event) → EventsFit d.regs events → ProgressFits d.regs width (evaluate env ports action values events)
  evaluate_fits action.Unit locals values width t l events e = (e, no_value width t)
  evaluate_fits (action.Const value) locals values width t l events e = (e, ValueFits-bits width value t)
  evaluate_fits (action.Local name) locals values width t l events e = (e, ValueFits-bits width _ (l.each name width t))
  evaluate_fits (action.Input input) locals values width t l events e = (e, ValueFits-bits width _ (fits.inputs.each input width t))
  evaluate_fits (action.One' operator p a) locals values width (operand, ta, some, t) l events e =
      let first = evaluate_fits a locals values operand ta l events e in
      bind_fits d.regs operand width _ _ _ first.0 first.1 (λ x es fx ex. (ex, ValueFits-bits width _ (one_fits operator operand width x (bits_of operand x some fx) t)))
  evaluate_fits (action.Two' operator p a q b) locals values width (left, right, ta, tb, some, some', t) l events e =
      let first = evaluate_fits a locals values left ta l events e in
      bind_fits d.regs left width _ _ _ first.0 first.1 (λ x es fx ex.
      let second = evaluate_fits b locals values right tb l es ex in
      bind_fits d.regs right width _ _ _ second.0 second.1 (λ y fs fy ey. (ey, ValueFits-bits width _ (two_fits operator left right width x y (bits_of left x some fx) (bits_of right y some' fy) t))))
  evaluate_fits (action.Slice' p a upper lower) locals values width (operand, ta, order, within, t) l events e =
      let first = evaluate_fits a locals values operand ta l events e in
      bind_fits d.regs operand width _ _ _ first.0 first.1 (λ x es fx ex.
      (ex, ValueFits-bits width _ (subst (λ (n : ℕ). HasWidth (op.slice x upper lower) n) (sym t) (slice_fits operand upper lower x (bits_of operand x (omega (arith, within)) fx) order within))))
  evaluate_fits (action.Zext' p a to) locals values width (operand, ta, some, wider, most, t) l events e =
      let first = evaluate_fits a locals values operand ta l events e in
      bind_fits d.regs operand width _ _ _ first.0 first.1 (λ x es fx ex.
      (ex, ValueFits-bits width _ (subst (λ (n : ℕ). HasWidth (op.zext x to) n) (sym t) (zext_fits operand to x (bits_of operand x some fx) wider most))))
  evaluate_fits (action.Sext' p a to) locals values width (operand, ta, some, wider, most, t) l events e =
      let first = evaluate_fits a locals values operand ta l events e in
      bind_fits d.regs operand width _ _ _ first.0 first.1 (λ x es fx ex.
      (ex, ValueFits-bits width _ (subst (λ (n : ℕ). HasWidth (op.sext x to) n) (sym t) (sext_fits operand to x (bits_of operand x some fx) wider most))))
  evaluate_fits (action.Table' table p a) locals values width (operand, ta, some, t) l events e =
      let first = evaluate_fits a locals values operand ta l events e in
      bind_fits d.regs operand width _ _ _ first.0 first.1 (λ x es fx ex.
      (ex, ValueFits-bits width _ (subst (λ (externs : Externs). HasWidth (entry_of (slice_get externs.tables table) x) width) (sym fits.externs) (entry_fits d.externs.tables table operand width x fits.tables t (bits_of operand x some fx)))))
  evaluate_fits (action.Host' number p a) locals values width (operand, ta, some, t) l events e =
      let first = evaluate_fits a locals values operand ta l events e in
      bind_fits d.regs operand width _ _ _ first.0 first.1 (λ x es fx ex.
      (ex, ValueFits-bits width _ (subst (λ (externs : Externs). HasWidth (answer_of (slice_get externs.hosts number) x) width) (sym fits.externs) (answer_fits d.externs.hosts number operand width x fits.hosts t (bits_of operand x some fx)))))
  evaluate_fits (action.Let' p value q body) locals values width (bound, ta, some, tb) l events e =
      let first = evaluate_fits value locals values bound ta l events e in
      bind_fits d.regs bound width _ _ _ first.0 first.1 (λ x es fx ex. evaluate_fits body (bound ∷ locals) (x ∷ values) width tb (HaveWidths-cons bound locals x values (bits_of bound x some fx) l) es ex)
  evaluate_fits (action.If' p condition q first r second) locals values width (tc, ta, tb) l events e =
      let test = evaluate_fits condition locals values 1 tc l events e in
      bind_fits d.regs 1 width _ _ _ test.0 test.1 (λ x es fx ex.
      choose_fits d.regs width (nat_eq x.number 0) (evaluate env ports first values) (evaluate env ports second values) es (evaluate_fits first locals values width ta l es ex) (evaluate_fits second locals values width tb l es ex))
  evaluate_fits (action.Seq' p first q second) locals values width (dropped, ta, tb) l events e =
      let one = evaluate_fits first locals values dropped ta l events e in
      bind_fits d.regs dropped width _ _ _ one.0 one.1 (λ x es fx ex. evaluate_fits second locals values width tb l es ex)
  evaluate_fits (action.Read port register) locals values width t l events e = keeps.read port register width events t.0 t.1 e
  evaluate_fits (action.Write' port register p a) locals values width (held, ta, at_port, r, t) l events e =
      let first = evaluate_fits a locals values held ta l events e in
      bind_fits d.regs held width _ _ _ first.0 first.1 (λ x es fx ex.
      subst (λ (n : ℕ). ProgressFits d.regs n (ports.write port register x es)) (sym t)
      (keeps.write port register held x es at_port r (bits_of held x (found_holds IsWidth d.regs register held fits.registers r).0 fx) ex))
  evaluate_fits action.Abort locals values width t l events e = (e, tt)

-- ---- a rule alone

-- the ports of a rule that runs alone keep events fitting
pub PortsFit-alone : (widths : List ℕ) (regs : List BitVector) → HaveWidths widths regs → PortsFit widths (alone_ports regs)
PortsFit-alone widths regs fits = record { read = reads; write = writes }
  where
    reads : (port register width : ℕ) (events : List Event) → IsPort port → slice_get widths register ≡ Some width → EventsFit widths events → ProgressFits widths width ((alone_ports regs).read port register events)
    reads port register width events at_port r e =
        let value = seen_fits widths port register width events _ r e (fits.each register width r) in
        (EventsFit-append widths events _ e (record { port = at_port; value = (width, r, value) }, tt), ValueFits-bits width _ value)

    chosen : (port register width : ℕ) (value : BitVector) (refused : Bool) (events : List Event) → IsPort port → slice_get widths register ≡ Some width → HasWidth value width → EventsFit widths events
        → let w : Access = record { write = true; port = port; register = register } in
        let p : Progress BitVector Stopped = if refused then record { events = events; ending = Stop (Refused w) } else record { events = events ++ record { access = w; value = value } ∷ []; ending = Value unit } in
        ProgressFits widths 0 p
    chosen port register width value true events at_port r h e = (e, tt)
    chosen port register width value false events at_port r h e =
        (EventsFit-append widths events _ e (record { port = at_port; value = (width, r, h) }, tt), ValueFits-unit)

    writes : (port register width : ℕ) (value : BitVector) (events : List Event) → IsPort port → slice_get widths register ≡ Some width → HasWidth value width → EventsFit widths events → ProgressFits widths 0 ((alone_ports regs).write port register value events)
    writes port register width value events at_port r h e =
        chosen port register width value (is_refused events (record { write = true; port = port; register = register })) events at_port r h e

-- a rule of a valid design notes events that fit when it runs alone
pub alone_fits : (d : Declarations) (env : Environment) (regs : List BitVector) (body : Action) → EnvironmentFits d env → HaveWidths d.regs regs → IsTyped d body [] → EventsFit d.regs (alone env regs body).events
alone_fits d env regs body fits holds (width, t) =
    (evaluate_fits d env (alone_ports regs) fits (PortsFit-alone d.regs regs holds) body [] [] width t HaveWidths-empty [] tt).0

-- ---- the same for a caller that knows where an evaluation came to

module _ {S : Type 0} (d : Declarations) (env : Environment) (ports : Ports S) (fits : EnvironmentFits d env) (keeps : PortsFit d.regs ports) where
  -- the events stay fitting
  pub events_fit : (action : Action) (locals : List ℕ) (values : List BitVector) (events events' : List Event) (ending : Ending BitVector S) → IsTyped d action locals → HaveWidths locals values → EventsFit d.regs events → evaluate env ports action values events ≡ record { events = events'; ending = ending } → EventsFit d.regs events'
  events_fit action locals values events events' ending (width, t) l e h =
      subst (λ (p : Progress BitVector S). EventsFit d.regs p.events) h (evaluate_fits d env ports fits keeps action locals values width t l events e).0

  -- the value has the action's width
  pub value_fits : (action : Action) (locals : List ℕ) (values : List BitVector) (width : ℕ) (events events' : List Event) (value : BitVector) → ActionHasWidth d action locals width → HaveWidths locals values → EventsFit d.regs events → evaluate env ports action values events ≡ record { events = events'; ending = Value value } → ValueFits width value
  value_fits action locals values width events events' value t l e h =
      subst (λ (p : Progress BitVector S). EndingFits width p.ending) h (evaluate_fits d env ports fits keeps action locals values width t l events e).1

  -- an operand doesn't come to no value
  pub operand_has_value : (action : Action) (locals : List ℕ) (values : List BitVector) (events events' : List Event) → IsOperand d action locals → HaveWidths locals values → EventsFit d.regs events → evaluate env ports action values events ≡ record { events = events'; ending = Value unit } → ⊥
  operand_has_value action locals values events events' (width, t, some) l e h =
      let v = value_fits action locals values width events events' unit t l e h in
      omega (arith, v.as_wide, some)
