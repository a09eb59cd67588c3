-- Which designs are equal by value. Where the parts of an action lie in memory is no part of its value.
use Rattle.std.specs.Prelude.{◌≡◌, List, [], ◌∷◌, map}
use Rattle.typed_core.specs.Evaluation.{Environment, Ports, evaluate}
use Rattle.typed_core.specs.declared.action.Action.{Action}
use Rattle.typed_core.specs.declared.action.Action.TheVariants as action
use Rattle.typed_core.specs.declared.design.Rule.{Rule}
use Rattle.typed_core.specs.declared.design.Parts.{Parts}

-- the actions are of one form, with the same operators, numbers and values, and their parts are the same
abbrev pub SameAction : Action → Action → Type 0
SameAction action.Unit action.Unit = Unit {0}
SameAction (action.Const value) (action.Const value') = value ≡ value'
SameAction (action.Local name) (action.Local name') = name ≡ name'
SameAction (action.Input input) (action.Input input') = input ≡ input'
SameAction (action.One' operator p a) (action.One' operator' p' a') = (operator ≡ operator') × SameAction a a'
SameAction (action.Two' operator p a q b) (action.Two' operator' p' a' q' b') = (operator ≡ operator') × SameAction a a' × SameAction b b'
SameAction (action.Slice' p a upper lower) (action.Slice' p' a' upper' lower') = SameAction a a' × (upper ≡ upper') × (lower ≡ lower')
SameAction (action.Zext' p a width) (action.Zext' p' a' width') = SameAction a a' × (width ≡ width')
SameAction (action.Sext' p a width) (action.Sext' p' a' width') = SameAction a a' × (width ≡ width')
SameAction (action.Table' table p a) (action.Table' table' p' a') = (table ≡ table') × SameAction a a'
SameAction (action.Host' number p a) (action.Host' number' p' a') = (number ≡ number') × SameAction a a'
SameAction (action.Let' p value q body) (action.Let' p' value' q' body') = SameAction value value' × SameAction body body'
SameAction (action.If' p c q first r second) (action.If' p' c' q' first' r' second') = SameAction c c' × SameAction first first' × SameAction second second'
SameAction (action.Seq' p first q second) (action.Seq' p' first' q' second') = SameAction first first' × SameAction second second'
SameAction (action.Read port register) (action.Read port' register') = (port ≡ port') × (register ≡ register')
SameAction (action.Write' port register p a) (action.Write' port' register' p' a') = (port ≡ port') × (register ≡ register') × SameAction a a'
SameAction action.Abort action.Abort = Unit {0}
SameAction a b = ⊥

-- the rules have one name and the same body
abbrev pub SameRule : Rule → Rule → Type 0
SameRule rule rule' = (rule.name ≡ rule'.name) × SameAction rule.body rule'.body

-- the rules are the same, one by one
abbrev pub SameRules : List Rule → List Rule → Type 0
SameRules [] [] = Unit {0}
SameRules (rule ∷ rules) (rule' ∷ rules') = SameRule rule rule' × SameRules rules rules'
SameRules rules rules' = ⊥

-- the designs are equal by value
pub record SameDesign (d e : Parts) : Type 0 where
  pub regs : d.regs ≡ e.regs
  pub inputs : d.inputs ≡ e.inputs
  pub tables : d.tables ≡ e.tables
  pub hosts : d.hosts ≡ e.hosts
  pub rules : SameRules d.rules e.rules
  pub nodes : d.nodes ≡ e.nodes

-- the designs have the same declarations, names and scheduler, and each rule's body evaluates to the same in every
-- environment, whatever the ports answer
pub record DoTheSame (S : Type 0) (d e : Parts) : Type 0 where
  pub regs : d.regs ≡ e.regs
  pub inputs : d.inputs ≡ e.inputs
  pub tables : d.tables ≡ e.tables
  pub hosts : d.hosts ≡ e.hosts
  pub names : map (λ (rule : Rule). rule.name) d.rules ≡ map (λ (rule : Rule). rule.name) e.rules
  pub bodies : (env : Environment) (ports : Ports S) → map (λ (rule : Rule). evaluate env ports rule.body [] []) d.rules ≡ map (λ (rule : Rule). evaluate env ports rule.body [] []) e.rules
  pub nodes : d.nodes ≡ e.nodes
