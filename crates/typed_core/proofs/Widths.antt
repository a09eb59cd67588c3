-- An action has one width at most, and a search for the width of an action is a search for what its parts leave open.
use Rattle.std.proofs.Common.{◌≡◌, ℕ, ◌+◌, ◌-◌, ◌≤◌, ◌<◌, List, ◌∷◌, Option, Some, None, sym, ap, ◌∙◌, inl, inr, subst, arith}
use Rattle.std.specs.Prelude.{◌⊎◌, slice_get}
use Rattle.kw_bits.specs.Host as host
use Rattle.typed_core.proofs.WidthLists.{found-same}
use Rattle.typed_core.specs.inner.Finds.{Finds}
use Rattle.typed_core.specs.Valid.{ActionHasWidth, Declarations, HostHasWidth, IsPort, OneHasWidth, TableHasWidth, TwoHasWidth}
use Rattle.typed_core.specs.declared.action.OneOp.{OneOp}
use Rattle.typed_core.specs.declared.action.OneOp.TheVariants.{Not, Neg, RedAnd, RedOr, RedXor}
use Rattle.typed_core.specs.declared.action.TwoOp.{TwoOp}
use Rattle.typed_core.specs.declared.action.TwoOp.TheVariants.{And, Or, Xor, Add, Sub, Mul, Sll, Srl, Sra, EqBits, Ult, Ulte, Slt, Slte, Concat}
use Rattle.typed_core.specs.declared.action.Action.{Action}
use Rattle.typed_core.specs.declared.action.Action.TheVariants as action
use Rattle.kw_bits.specs.declared.host.HostSpec.{HostSpec}
use Rattle.kw_bits.specs.declared.table.TableSpec.{TableSpec}

-- ---- one width at most

table-same : (tables : List TableSpec) (table a b v w : ℕ) → TableHasWidth tables table a v → TableHasWidth tables table b w → v ≡ w
table-same tables table a b v w (x, e, i, f) (y, g, j, h) = sym f ∙ ap (λ (t : TableSpec). t.out_width) (found-same tables table x y e g) ∙ h

host-same : (hosts : List HostSpec) (number a b v w : ℕ) → HostHasWidth hosts number a v → HostHasWidth hosts number b w → v ≡ w
host-same hosts number a b v w (x, e, i, f) (y, g, j, h) = sym f ∙ ap (λ (s : HostSpec). host.out_width s.kind s.in_width) (found-same hosts number x y e g) ∙ h

one-same : (operator : OneOp) (a b v w : ℕ) → a ≡ b → OneHasWidth operator a v → OneHasWidth operator b w → v ≡ w
one-same Not a b v w e f g = sym f ∙ e ∙ g
one-same Neg a b v w e f g = sym f ∙ e ∙ g
one-same RedAnd a b v w e f g = f ∙ sym g
one-same RedOr a b v w e f g = f ∙ sym g
one-same RedXor a b v w e f g = f ∙ sym g

two-same : (operator : TwoOp) (a b c d v w : ℕ) → a ≡ c → b ≡ d → TwoHasWidth operator a b v → TwoHasWidth operator c d w → v ≡ w
two-same And a b c d v w e f g h = omega (arith, g.1, h.1)
two-same Or a b c d v w e f g h = omega (arith, g.1, h.1)
two-same Xor a b c d v w e f g h = omega (arith, g.1, h.1)
two-same Add a b c d v w e f g h = omega (arith, g.1, h.1)
two-same Sub a b c d v w e f g h = omega (arith, g.1, h.1)
two-same Mul a b c d v w e f g h = omega (arith, g.1, h.1)
two-same Sll a b c d v w e f g h = omega (arith, g.1, h.1)
two-same Srl a b c d v w e f g h = omega (arith, g.1, h.1)
two-same Sra a b c d v w e f g h = omega (arith, g.1, h.1)
two-same EqBits a b c d v w e f g h = g.1 ∙ sym h.1
two-same Ult a b c d v w e f g h = g.1 ∙ sym h.1
two-same Ulte a b c d v w e f g h = g.1 ∙ sym h.1
two-same Slt a b c d v w e f g h = g.1 ∙ sym h.1
two-same Slte a b c d v w e f g h = g.1 ∙ sym h.1
two-same Concat a b c d v w e f g h = omega (arith, g.1, h.1)

-- an action has one width at most
pub ActionHasWidth-same : (d : Declarations) (a : Action) (locals : List ℕ) (v w : ℕ) → ActionHasWidth d a locals v → ActionHasWidth d a locals w → v ≡ w
ActionHasWidth-same d action.Unit locals v w t u = t ∙ sym u
ActionHasWidth-same d (action.Const value) locals v w t u = sym t.1 ∙ u.1
ActionHasWidth-same d (action.Local name) locals v w t u = found-same locals name v w t u
ActionHasWidth-same d (action.Input input) locals v w t u = found-same d.inputs input v w t u
ActionHasWidth-same d (action.One' operator p a) locals v w (x, ta, some, t) (y, ua, some', u) =
    one-same operator x y v w (ActionHasWidth-same d a locals x y ta ua) t u
ActionHasWidth-same d (action.Two' operator p a q b) locals v w (x, x', ta, tb, _, _, t) (y, y', ua, ub, _, _, u) =
    two-same operator x x' y y' v w (ActionHasWidth-same d a locals x y ta ua) (ActionHasWidth-same d b locals x' y' tb ub) t u
ActionHasWidth-same d (action.Slice' p a upper lower) locals v w (x, ta, _, _, t) (y, ua, _, _, u) = t ∙ sym u
ActionHasWidth-same d (action.Zext' p a to) locals v w (x, ta, _, _, _, t) (y, ua, _, _, _, u) = t ∙ sym u
ActionHasWidth-same d (action.Sext' p a to) locals v w (x, ta, _, _, _, t) (y, ua, _, _, _, u) = t ∙ sym u
ActionHasWidth-same d (action.Table' table p a) locals v w (x, ta, _, t) (y, ua, _, u) = table-same d.externs.tables table x y v w t u
ActionHasWidth-same d (action.Host' number p a) locals v w (x, ta, _, t) (y, ua, _, u) = host-same d.externs.hosts number x y v w t u
ActionHasWidth-same d (action.Let' p value q body) locals v w (x, ta, _, tb) (y, ua, _, ub) =
    ActionHasWidth-same d body (y ∷ locals) v w (subst (λ (n : ℕ). ActionHasWidth d body (n ∷ locals) v) (ActionHasWidth-same d value locals x y ta ua) tb) ub
ActionHasWidth-same d (action.If' p condition q first r second) locals v w t u = ActionHasWidth-same d first locals v w t.1 u.1
ActionHasWidth-same d (action.Seq' p first q second) locals v w (x, ta, tb) (y, ua, ub) = ActionHasWidth-same d second locals v w tb ub
ActionHasWidth-same d (action.Read port register) locals v w t u = found-same d.regs register v w t.1 u.1
ActionHasWidth-same d (action.Write' port register p a) locals v w (x, ta, _, _, t) (y, ua, _, _, u) = t ∙ sym u
ActionHasWidth-same d action.Abort locals v w t u = t ∙ sym u

-- ---- searches

-- what is found for one property is found for another that holds of the same numbers
pub Finds-by : (P Q : ℕ → Type 0) (r : Option ℕ) → ((w : ℕ) → P w → Q w) → ((w : ℕ) → Q w → P w) → Finds P r → Finds Q r
Finds-by P Q None f g h = λ w q. h w (g w q)
Finds-by P Q (Some w) f g h = f w h

-- the same at an action of a form that is known
module _ (d : Declarations) (locals : List ℕ) (x : Action) (r : Option ℕ) where
  at_form : (a : Action) (P : ℕ → Type 0) → x ≡ a → ((w : ℕ) → P w → ActionHasWidth d a locals w) → ((w : ℕ) → ActionHasWidth d a locals w → P w) → Finds P r → Finds (ActionHasWidth d x locals) r
  at_form a P is f g h = subst (λ (y : Action). Finds (ActionHasWidth d y locals) r) (sym is) (Finds-by P (ActionHasWidth d a locals) r f g h)

  pub finds_input : {input : ℕ} → x ≡ action.Input input → Finds (λ w. slice_get d.inputs input ≡ Some w) r → Finds (ActionHasWidth d x locals) r
  finds_input {input} is h = at_form (action.Input input) _ is (λ w t. t) (λ w t. t) h

  pub finds_read : {port register : ℕ} → x ≡ action.Read port register → Finds (λ w. IsPort port × (slice_get d.regs register ≡ Some w)) r → Finds (ActionHasWidth d x locals) r
  finds_read {port} {register} is h = at_form (action.Read port register) _ is (λ w t. t) (λ w t. t) h

  pub finds_two : {operator : TwoOp} {p : _} {a : Action} {q : _} {b : Action} (left right : ℕ) → x ≡ action.Two' operator p a q b → ActionHasWidth d a locals left × (1 ≤ left) → ActionHasWidth d b locals right × (1 ≤ right) → Finds (TwoHasWidth operator left right) r → Finds (ActionHasWidth d x locals) r
  finds_two {operator} {p} {a} {q} {b} left right is ta tb h =
      at_form (action.Two' operator p a q b) _ is (λ w t. (left, right, ta.0, tb.0, ta.1, tb.1, t))
      (λ w (v, v', ua, ub, _, _, u). rw (ActionHasWidth-same d a locals left v ta.0 ua, ActionHasWidth-same d b locals right v' tb.0 ub) u) h

  pub finds_slice : {p : _} {a : Action} {upper lower : ℕ} (operand : ℕ) → x ≡ action.Slice' p a upper lower → ActionHasWidth d a locals operand → Finds (λ w. (lower ≤ upper) × (upper < operand) × (w ≡ upper - lower + 1)) r → Finds (ActionHasWidth d x locals) r
  finds_slice {p} {a} {upper} {lower} operand is ta h =
      at_form (action.Slice' p a upper lower) _ is (λ w t. (operand, ta, t.0, t.1, t.2))
      (λ w (v, ua, order, within, u). (order, rw (ActionHasWidth-same d a locals operand v ta ua) within, u)) h

  pub finds_extended : {p : _} {a : Action} {to : ℕ} (operand : ℕ) → (x ≡ action.Zext' p a to) ⊎ (x ≡ action.Sext' p a to) → ActionHasWidth d a locals operand × (1 ≤ operand) → Finds (λ w. (operand ≤ to) × (to ≤ 128) × (w ≡ to)) r → Finds (ActionHasWidth d x locals) r
  finds_extended {p} {a} {to} operand (inl is) ta h =
      at_form (action.Zext' p a to) _ is (λ w t. (operand, ta.0, ta.1, t.0, t.1, t.2))
      (λ w (v, ua, _, wider, most, u). (rw (ActionHasWidth-same d a locals operand v ta.0 ua) wider, most, u)) h
  finds_extended {p} {a} {to} operand (inr is) ta h =
      at_form (action.Sext' p a to) _ is (λ w t. (operand, ta.0, ta.1, t.0, t.1, t.2))
      (λ w (v, ua, _, wider, most, u). (rw (ActionHasWidth-same d a locals operand v ta.0 ua) wider, most, u)) h

  pub finds_table : {table : ℕ} {p : _} {a : Action} (operand : ℕ) → x ≡ action.Table' table p a → ActionHasWidth d a locals operand × (1 ≤ operand) → Finds (TableHasWidth d.externs.tables table operand) r → Finds (ActionHasWidth d x locals) r
  finds_table {table} {p} {a} operand is ta h =
      at_form (action.Table' table p a) _ is (λ w t. (operand, ta.0, ta.1, t))
      (λ w (v, ua, _, u). rw (ActionHasWidth-same d a locals operand v ta.0 ua) u) h

  pub finds_host : {number : ℕ} {p : _} {a : Action} (operand : ℕ) → x ≡ action.Host' number p a → ActionHasWidth d a locals operand × (1 ≤ operand) → Finds (HostHasWidth d.externs.hosts number operand) r → Finds (ActionHasWidth d x locals) r
  finds_host {number} {p} {a} operand is ta h =
      at_form (action.Host' number p a) _ is (λ w t. (operand, ta.0, ta.1, t))
      (λ w (v, ua, _, u). rw (ActionHasWidth-same d a locals operand v ta.0 ua) u) h

  pub finds_let : {p : _} {value : Action} {q : _} {body : Action} (bound : ℕ) → x ≡ action.Let' p value q body → ActionHasWidth d value locals bound × (1 ≤ bound) → Finds (ActionHasWidth d body (bound ∷ locals)) r → Finds (ActionHasWidth d x locals) r
  finds_let {p} {value} {q} {body} bound is ta h =
      at_form (action.Let' p value q body) _ is (λ w t. (bound, ta.0, ta.1, t))
      (λ w (v, ua, _, u). rw (ActionHasWidth-same d value locals bound v ta.0 ua) u) h

  pub finds_if : {p : _} {condition : Action} {q : _} {first : Action} {s : _} {second : Action} (u v w : ℕ) → x ≡ action.If' p condition q first s second → ActionHasWidth d condition locals u → ActionHasWidth d first locals v → ActionHasWidth d second locals w → Finds (λ n. (u ≡ 1) × (v ≡ n) × (w ≡ n)) r → Finds (ActionHasWidth d x locals) r
  finds_if {p} {condition} {q} {first} {s} {second} u v w is tc ta tb h =
      at_form (action.If' p condition q first s second) _ is
      (λ n t. (subst (ActionHasWidth d condition locals) t.0 tc, subst (ActionHasWidth d first locals) t.1 ta, subst (ActionHasWidth d second locals) t.2 tb))
      (λ n t. (ActionHasWidth-same d condition locals u 1 tc t.0, ActionHasWidth-same d first locals v n ta t.1, ActionHasWidth-same d second locals w n tb t.2)) h

  pub finds_write : {port register : ℕ} {p : _} {a : Action} (held : ℕ) → x ≡ action.Write' port register p a → ActionHasWidth d a locals held → Finds (λ w. IsPort port × (slice_get d.regs register ≡ Some held) × (w ≡ 0)) r → Finds (ActionHasWidth d x locals) r
  finds_write {port} {register} {p} {a} held is ta h =
      at_form (action.Write' port register p a) _ is (λ w t. (held, ta, t.0, t.1, t.2))
      (λ w (v, ua, at_port, reg, u). (at_port, rw (ActionHasWidth-same d a locals held v ta ua) reg, u)) h

-- a search finds the width that there is
pub Finds-only : (d : Declarations) (a : Action) (locals : List ℕ) (w : ℕ) (r : Option ℕ) → Finds (ActionHasWidth d a locals) r → ActionHasWidth d a locals w → r ≡ Some w
Finds-only d a locals w None f t = absurd (f w t)
Finds-only d a locals w (Some v) f t = ap (λ (n : ℕ). Some n) (ActionHasWidth-same d a locals v w f t)
