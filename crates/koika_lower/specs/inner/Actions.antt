-- What actions that are made of others evaluate to and what widths they have, wherever their parts lie in memory. All
-- of it serves private functions alone.
use Rattle.std.specs.Prelude.{◌≡◌, ℕ, ◌+◌, ◌-◌, ◌<◌, ◌≤◌, List, ◌∷◌}
use Rattle.kw_bits.specs.BitVector.{BitVector}
use Rattle.kw_bits.specs.Operators as op
use Rattle.typed_core.specs.Evaluation.{Environment, Evaluation, Ports, ◌>>=◌, apply_one, apply_two, choose, comes_to, evaluate}
use Rattle.typed_core.specs.Valid.{ActionHasWidth, Declarations, OneHasWidth, TwoHasWidth}
use Rattle.typed_core.specs.declared.action.Action.{Action}
use Rattle.typed_core.specs.declared.action.OneOp.{OneOp}
use Rattle.typed_core.specs.declared.action.TwoOp.{TwoOp}
use Rattle.typed_core.specs.declared.outcome.Stopped.{Stopped}

-- what an action evaluates to, by the values of the names that are bound round it
abbrev pub Value : Type 0
Value = List BitVector → Evaluation BitVector Stopped

-- the action evaluates to this, wherever it is evaluated
abbrev pub ComesTo : Action → (Environment → Ports Stopped → Value) → Type 0
ComesTo action value = (env : Environment) (ports : Ports Stopped) (locals : List BitVector) → evaluate env ports action locals ≡ value env ports locals

pub record IsOne (operator : OneOp) (a action : Action) : Type 0 where
  pub means : ComesTo action (λ env ports locals. evaluate env ports a locals >>= λ x. comes_to (apply_one operator x))
  pub typed : (d : Declarations) (widths : List ℕ) (operand width : ℕ) → ActionHasWidth d a widths operand → 1 ≤ operand →
      OneHasWidth operator operand width → ActionHasWidth d action widths width

pub record IsTwo (operator : TwoOp) (a b action : Action) : Type 0 where
  pub means : ComesTo action (λ env ports locals. evaluate env ports a locals >>= λ x. evaluate env ports b locals >>= λ y. comes_to (apply_two operator x y))
  pub typed : (d : Declarations) (widths : List ℕ) (left right width : ℕ) → ActionHasWidth d a widths left → ActionHasWidth d b widths right →
      1 ≤ left → 1 ≤ right → TwoHasWidth operator left right width → ActionHasWidth d action widths width

pub record IsSlice (a : Action) (upper lower : ℕ) (action : Action) : Type 0 where
  pub means : ComesTo action (λ env ports locals. evaluate env ports a locals >>= λ x. comes_to (op.slice x upper lower))
  pub typed : (d : Declarations) (widths : List ℕ) (operand : ℕ) → ActionHasWidth d a widths operand → lower ≤ upper → upper < operand →
      ActionHasWidth d action widths (upper - lower + 1)

pub record IsLet (value body action : Action) : Type 0 where
  pub means : ComesTo action (λ env ports locals. evaluate env ports value locals >>= λ x. evaluate env ports body (x ∷ locals))
  pub typed : (d : Declarations) (widths : List ℕ) (bound width : ℕ) → ActionHasWidth d value widths bound → 1 ≤ bound →
      ActionHasWidth d body (bound ∷ widths) width → ActionHasWidth d action widths width

pub record IsIf (condition first second action : Action) : Type 0 where
  pub means : ComesTo action (λ env ports locals. evaluate env ports condition locals >>= λ x. choose x (evaluate env ports first locals) (evaluate env ports second locals))
  pub typed : (d : Declarations) (widths : List ℕ) (width : ℕ) → ActionHasWidth d condition widths 1 → ActionHasWidth d first widths width →
      ActionHasWidth d second widths width → ActionHasWidth d action widths width

pub record IsSeq (first second action : Action) : Type 0 where
  pub means : ComesTo action (λ env ports locals. evaluate env ports first locals >>= λ _. evaluate env ports second locals)
  pub typed : (d : Declarations) (widths : List ℕ) (dropped width : ℕ) → ActionHasWidth d first widths dropped →
      ActionHasWidth d second widths width → ActionHasWidth d action widths width
