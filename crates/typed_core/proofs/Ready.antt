-- The parts of an action that can be evaluated can be evaluated, and the values of its operands have the widths
-- that its operator asks for.
use Rattle.std.proofs.Common.{◌≡◌, ℕ, ◌<◌, ◌≤◌, List, ◌∷◌, length, Option, Some, None, sym, subst, arith}
use Rattle.std.specs.Prelude.{slice_get}
use Rattle.std.proofs.lemmas.Option.{slice_get_within}
use Rattle.kw_bits.specs.BitVector.{BitVector}
use Rattle.kw_bits.specs.Laws.{HasWidth}
use Rattle.typed_core.specs.Evaluation.{Ending, Environment, Externs, Ports, Value, evaluate, unit}
use Rattle.typed_core.specs.Fits.{CanEvaluate, EnvironmentFits, EventsFit, PortsFit}
use Rattle.typed_core.specs.inner.Fits.{CanBeOperand}
use Rattle.typed_core.specs.Valid.{ActionHasWidth, Declarations, HostHasWidth, IsPort, IsWidth, TableHasWidth, TakesTwo, TwoHasWidth}
use Rattle.typed_core.specs.Widths.{HaveWidths}
use Rattle.typed_core.specs.declared.access.Event.{Event}
use Rattle.typed_core.specs.declared.action.TwoOp.{TwoOp}
use Rattle.typed_core.specs.declared.action.Action.{Action}
use Rattle.typed_core.specs.declared.action.Action.TheVariants as action
use Rattle.typed_core.proofs.Values.{bits_of, found_holds}
use Rattle.typed_core.proofs.Typed.{events_fit, value_fits, operand_has_value}
use Rattle.typed_core.proofs.WidthLists.{HaveWidths-cons}

-- the part that comes first in an action and is an operand of it
unfoldable pub first_operand : Action → Option Action
first_operand (action.One' operator p a) = Some a
first_operand (action.Two' operator p a q b) = Some a
first_operand (action.Slice' p a upper lower) = Some a
first_operand (action.Zext' p a to) = Some a
first_operand (action.Sext' p a to) = Some a
first_operand (action.Table' table p a) = Some a
first_operand (action.Host' number p a) = Some a
first_operand (action.Let' p value q body) = Some value
first_operand (action.If' p condition q first r second) = Some condition
first_operand (action.Write' port register p a) = Some a
first_operand _ = None

some_same : (a b : Action) → Some a ≡ Some b → a ≡ b
some_same a b e = cc

operand_at : (d : Declarations) (a b : Action) (widths : List ℕ) (values : List BitVector) (width : ℕ) → HaveWidths widths values → Some a ≡ Some b → ActionHasWidth d a widths width → 1 ≤ width → CanBeOperand d b values
operand_at d a b widths values width l e t some = subst (λ (x : Action). CanBeOperand d x values) (some_same a b e) (widths, l, (width, t, some))

-- it can be evaluated and comes to a value
pub first_ready : (d : Declarations) (env : Environment) (part : Action) (a : Action) (values : List BitVector) → EnvironmentFits d env → CanEvaluate d part values → first_operand part ≡ Some a → CanBeOperand d a values
unfolding first_operand
first_ready d env (action.One' operator p x) a values fits (widths, l, (width, (operand, t, some, rest))) e = operand_at d x a widths values operand l e t some
first_ready d env (action.Two' operator p x q y) a values fits (widths, l, (width, (left, right, t, u, some, others, rest))) e = operand_at d x a widths values left l e t some
first_ready d env (action.Slice' p x upper lower) a values fits (widths, l, (width, (operand, t, order, inside, rest))) e = operand_at d x a widths values operand l e t (omega (arith, inside))
first_ready d env (action.Zext' p x to) a values fits (widths, l, (width, (operand, t, some, wider, most, rest))) e = operand_at d x a widths values operand l e t some
first_ready d env (action.Sext' p x to) a values fits (widths, l, (width, (operand, t, some, wider, most, rest))) e = operand_at d x a widths values operand l e t some
first_ready d env (action.Table' table p x) a values fits (widths, l, (width, (operand, t, some, rest))) e = operand_at d x a widths values operand l e t some
first_ready d env (action.Host' number p x) a values fits (widths, l, (width, (operand, t, some, rest))) e = operand_at d x a widths values operand l e t some
first_ready d env (action.Let' p x q body) a values fits (widths, l, (width, (bound, t, some, rest))) e = operand_at d x a widths values bound l e t some
first_ready d env (action.If' p x q first r second) a values fits (widths, l, (width, (t, u, v))) e = operand_at d x a widths values 1 l e t (omega arith)
first_ready d env (action.Write' port register p x) a values fits (widths, l, (width, (held, t, at_port, r, none))) e = operand_at d x a widths values held l e t (found_holds IsWidth d.regs register held fits.registers r).0
first_ready d env action.Unit a values fits ready e = absurd cc
first_ready d env (action.Const value) a values fits ready e = absurd cc
first_ready d env (action.Local name) a values fits ready e = absurd cc
first_ready d env (action.Input input) a values fits ready e = absurd cc
first_ready d env (action.Seq' p x q y) a values fits ready e = absurd cc
first_ready d env (action.Read port register) a values fits ready e = absurd cc
first_ready d env action.Abort a values fits ready e = absurd cc

-- an operand can be evaluated
pub CanEvaluate-operand : (d : Declarations) (a : Action) (values : List BitVector) → CanBeOperand d a values → CanEvaluate d a values
CanEvaluate-operand d a values (widths, l, (width, t, some)) = (widths, l, (width, t))

-- ---- what needs no evaluation

module _ (d : Declarations) (part : Action) (values : List BitVector) (ready : CanEvaluate d part values) where
  -- what holds of all actions of the form that can be evaluated holds of this one
  at_form : (form : Action) {P : Type 0} → part ≡ form → (CanEvaluate d form values → P) → P
  at_form form is k = k (subst (λ (x : Action). CanEvaluate d x values) is ready)

  -- a register that is read has a value, and is read at one of its ports
  pub read_ready : (port register : ℕ) → part ≡ action.Read port register → IsPort port × (register < length d.regs)
  read_ready port register is = at_form (action.Read port register) is (λ (widths, l, (width, (at_port, t))). (at_port, slice_get_within d.regs register width t))

  -- the second operand can be evaluated and comes to a value
  pub second_ready : (operator : TwoOp) (p : _) (a : Action) (q : _) (b : Action) → part ≡ action.Two' operator p a q b → CanBeOperand d b values
  second_ready operator p a q b is = at_form (action.Two' operator p a q b) is (λ (widths, l, (width, (left, right, t, u, some, others, rest))). (widths, l, (right, u, others)))

  -- both arms can be evaluated
  pub arms_ready : (p : _) (condition : Action) (q : _) (first : Action) (r : _) (second : Action) → part ≡ action.If' p condition q first r second → CanEvaluate d first values × CanEvaluate d second values
  arms_ready p condition q first r second is = at_form (action.If' p condition q first r second) is (λ (widths, l, (width, (t, u, v))). ((widths, l, (width, u)), (widths, l, (width, v))))

  -- both actions of a sequence can be evaluated
  pub sequence_ready : (p : _) (first : Action) (q : _) (second : Action) → part ≡ action.Seq' p first q second → CanEvaluate d first values × CanEvaluate d second values
  sequence_ready p first q second is = at_form (action.Seq' p first q second) is (λ (widths, l, (width, (dropped, t, u))). ((widths, l, (dropped, t)), (widths, l, (width, u))))

-- ---- what an evaluation came to

module _ {S : Type 0} (d : Declarations) (env : Environment) (ports : Ports S) (fits : EnvironmentFits d env) (keeps : PortsFit d.regs ports) where
  -- after a part that can be evaluated the events fit
  pub events_after : (a : Action) (values : List BitVector) (events events' : List Event) (ending : Ending BitVector S) → CanEvaluate d a values → EventsFit d.regs events → evaluate env ports a values events ≡ record { events = events'; ending = ending } → EventsFit d.regs events'
  events_after a values events events' ending (widths, l, typed) e h = events_fit d env ports fits keeps a widths values events events' ending typed l e h

  -- an operand doesn't come to no value
  pub operand_value : (a : Action) (values : List BitVector) (events events' : List Event) → CanBeOperand d a values → EventsFit d.regs events → evaluate env ports a values events ≡ record { events = events'; ending = Value unit } → ⊥
  operand_value a values events events' (widths, l, typed) e h = operand_has_value d env ports fits keeps a widths values events events' typed l e h

-- where an operand came to in the evaluation of an action, from events that fit
pub record CameTo {S : Type 0} (d : Declarations) (env : Environment) (ports : Ports S) (a : Action) (values : List BitVector) (x : BitVector) : Type 0 where
  pub events : List Event
  pub after : List Event
  pub fit : EventsFit d.regs events
  pub came : evaluate env ports a values events ≡ record { events = after; ending = Value x }

module _ {S : Type 0} (d : Declarations) (env : Environment) (ports : Ports S) (fits : EnvironmentFits d env) (keeps : PortsFit d.regs ports) (values : List BitVector) (x : BitVector) where
  -- the value that a part came to has the width that it was found to have
  width_is : (a : Action) (widths : List ℕ) (width : ℕ) → HaveWidths widths values → ActionHasWidth d a widths width → CameTo d env ports a values x → x.width ≡ width
  width_is a widths width l t c = (value_fits d env ports fits keeps a widths values width c.events c.after x t l c.fit c.came).as_wide

  bits_are : (a : Action) (widths : List ℕ) (width : ℕ) → HaveWidths widths values → ActionHasWidth d a widths width → 1 ≤ width → CameTo d env ports a values x → HasWidth x width
  bits_are a widths width l t some c = bits_of width x some (value_fits d env ports fits keeps a widths values width c.events c.after x t l c.fit c.came)

module _ {S : Type 0} (d : Declarations) (env : Environment) (ports : Ports S) (fits : EnvironmentFits d env) (keeps : PortsFit d.regs ports) (part : Action) (values : List BitVector) (ready : CanEvaluate d part values) (x : BitVector) where
  pub two_ready : (operator : TwoOp) (p : _) (a : Action) (q : _) (b : Action) (y : BitVector) → part ≡ action.Two' operator p a q b → CameTo d env ports a values x → CameTo d env ports b values y → TakesTwo operator x y
  two_ready operator p a q b y is c e =
      at_form d part values ready (action.Two' operator p a q b) is (λ (widths, l, (width, (left, right, t, u, some, others, rest))).
      let first = width_is d env ports fits keeps values x a widths left l t c in
      let second = width_is d env ports fits keeps values y b widths right l u e in
      (width, subst (λ (n : ℕ). TwoHasWidth operator n y.width width) (sym first) (subst (λ (n : ℕ). TwoHasWidth operator left n width) (sym second) rest)))

  pub slice_ready : (p : _) (a : Action) (upper lower : ℕ) → part ≡ action.Slice' p a upper lower → CameTo d env ports a values x → (lower ≤ upper) × (upper < x.width)
  slice_ready p a upper lower is c =
      at_form d part values ready (action.Slice' p a upper lower) is (λ (widths, l, (width, (operand, t, order, inside, rest))).
      (order, omega (arith, inside, width_is d env ports fits keeps values x a widths operand l t c)))

  pub zext_ready : (p : _) (a : Action) (to : ℕ) → part ≡ action.Zext' p a to → CameTo d env ports a values x → (x.width ≤ to) × (to ≤ 128)
  zext_ready p a to is c =
      at_form d part values ready (action.Zext' p a to) is (λ (widths, l, (width, (operand, t, some, wider, most, rest))).
      (omega (arith, wider, width_is d env ports fits keeps values x a widths operand l t c), most))

  pub sext_ready : (p : _) (a : Action) (to : ℕ) → part ≡ action.Sext' p a to → CameTo d env ports a values x → (x.width ≤ to) × (to ≤ 128)
  sext_ready p a to is c =
      at_form d part values ready (action.Sext' p a to) is (λ (widths, l, (width, (operand, t, some, wider, most, rest))).
      (omega (arith, wider, width_is d env ports fits keeps values x a widths operand l t c), most))

  pub table_ready : (table : ℕ) (p : _) (a : Action) → part ≡ action.Table' table p a → CameTo d env ports a values x → (width : ℕ) × TableHasWidth env.externs.tables table x.width width
  table_ready table p a is c =
      at_form d part values ready (action.Table' table p a) is (λ (widths, l, (width, (operand, t, some, rest))).
      (width, subst (λ (externs : Externs). TableHasWidth externs.tables table x.width width) (sym fits.externs) (subst (λ (n : ℕ). TableHasWidth d.externs.tables table n width) (sym (width_is d env ports fits keeps values x a widths operand l t c)) rest)))

  pub host_ready : (number : ℕ) (p : _) (a : Action) → part ≡ action.Host' number p a → CameTo d env ports a values x → (width : ℕ) × HostHasWidth env.externs.hosts number x.width width
  host_ready number p a is c =
      at_form d part values ready (action.Host' number p a) is (λ (widths, l, (width, (operand, t, some, rest))).
      (width, subst (λ (externs : Externs). HostHasWidth externs.hosts number x.width width) (sym fits.externs) (subst (λ (n : ℕ). HostHasWidth d.externs.hosts number n width) (sym (width_is d env ports fits keeps values x a widths operand l t c)) rest)))

  -- a body can be evaluated with the value that its name is bound to
  pub body_ready : (p : _) (a : Action) (q : _) (body : Action) → part ≡ action.Let' p a q body → CameTo d env ports a values x → CanEvaluate d body (x ∷ values)
  body_ready p a q body is c =
      at_form d part values ready (action.Let' p a q body) is (λ (widths, l, (width, (n, t, some, u))).
      (n ∷ widths, HaveWidths-cons n widths x values (bits_are d env ports fits keeps values x a widths n l t some c) l, (width, u)))

  -- what is written has the register's width
  pub write_ready : (port register : ℕ) (p : _) (a : Action) → part ≡ action.Write' port register p a → CameTo d env ports a values x → IsPort port × (slice_get d.regs register ≡ Some x.width) × HasWidth x x.width
  write_ready port register p a is c =
      at_form d part values ready (action.Write' port register p a) is (λ (widths, l, (width, (held, t, at_port, r, none))).
      let h = bits_are d env ports fits keeps values x a widths held l t (found_holds IsWidth d.regs register held fits.registers r).0 c in
      (at_port, subst (λ (n : ℕ). slice_get d.regs register ≡ Some n) (sym h.1) r, subst (λ (n : ℕ). HasWidth x n) (sym h.1) h))
