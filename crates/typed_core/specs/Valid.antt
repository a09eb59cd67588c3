-- Which designs are valid: the conditions on a design's parts that its type keeps, after the typing of
-- Kôika's core (Bourgeat et al., PLDI 2020) at bit vectors of 1 to 128 bits. It says nothing of how large a body is.
use Rattle.std.specs.Prelude.{◌≡◌, ℕ, ◌+◌, ◌-◌, ◌<◌, ◌≤◌, ◌⊎◌, List, [], ◌∷◌, length, All, AllPairs, slice_get, Some, ◌≢◌}
use Rattle.kw_bits.specs.BitVector.{BitVector}
use Rattle.kw_bits.specs.Host as host
use Rattle.kw_bits.specs.Laws.{HasWidth}
pub use Rattle.kw_bits.specs.Tables.{IsTable}
use Rattle.typed_core.specs.Evaluation.{Externs}
use Rattle.typed_core.specs.Widths.{input_widths, register_widths}
use Rattle.typed_core.specs.declared.action.OneOp.{OneOp}
use Rattle.typed_core.specs.declared.action.OneOp.TheVariants.{Not, Neg, RedAnd, RedOr, RedXor}
use Rattle.typed_core.specs.declared.action.TwoOp.{TwoOp}
use Rattle.typed_core.specs.declared.action.TwoOp.TheVariants.{And, Or, Xor, Add, Sub, Mul, Sll, Srl, Sra, EqBits, Ult, Ulte, Slt, Slte, Concat}
use Rattle.typed_core.specs.declared.action.Action.{Action}
use Rattle.typed_core.specs.declared.action.Action.TheVariants as action
use Rattle.kw_bits.specs.declared.host.HostSpec.{HostSpec}
use Rattle.typed_core.specs.declared.design.RegDecl.{RegDecl}
use Rattle.typed_core.specs.declared.design.InputDecl.{InputDecl}
use Rattle.kw_bits.specs.declared.table.TableSpec.{TableSpec}
use Rattle.typed_core.specs.declared.design.Rule.{Rule}
use Rattle.typed_core.specs.declared.design.Node.{Node}
use Rattle.typed_core.specs.declared.design.Next.{Next}
use Rattle.typed_core.specs.declared.design.Next.TheVariants as next
use Rattle.typed_core.specs.declared.design.Parts.{Parts}
use Rattle.typed_core.specs.declared.limits.TheConstants.{PORTS, MAX_REGISTERS, MAX_INPUTS, MAX_RULES, MAX_NODES}

-- a width of bit vectors
abbrev pub IsWidth : ℕ → Type 0
IsWidth width = (1 ≤ width) × (width ≤ 128)

-- a port of a register
abbrev pub IsPort : ℕ → Type 0
IsPort port = port < PORTS

-- what the actions of a design may name: registers and inputs of these widths, and tables and host functions
pub record Declarations : Type 0 where
  pub regs : List ℕ
  pub inputs : List ℕ
  pub externs : Externs

-- the tables and the host functions that a design declares
abbrev pub externs_of : Parts → Externs
externs_of design = record { tables = design.tables; hosts = design.hosts }

abbrev pub declarations : Parts → Declarations
declarations design = record { regs = register_widths design; inputs = input_widths design; externs = externs_of design }

-- the table, and the host function, of this number takes vectors of one width and answers ones of another
abbrev pub TableHasWidth : List TableSpec → ℕ → ℕ → ℕ → Type 0
TableHasWidth tables table operand width = (spec : TableSpec) × (slice_get tables table ≡ Some spec) × (spec.in_width ≡ operand) × (spec.out_width ≡ width)

abbrev pub HostHasWidth : List HostSpec → ℕ → ℕ → ℕ → Type 0
HostHasWidth hosts number operand width = (spec : HostSpec) × (slice_get hosts number ≡ Some spec) × (spec.in_width ≡ operand) × (host.out_width spec.kind spec.in_width ≡ width)

-- an operand of this width has a result of this width
abbrev pub OneHasWidth : OneOp → ℕ → ℕ → Type 0
OneHasWidth Not operand width = operand ≡ width
OneHasWidth Neg operand width = operand ≡ width
OneHasWidth RedAnd operand width = width ≡ 1
OneHasWidth RedOr operand width = width ≡ 1
OneHasWidth RedXor operand width = width ≡ 1

-- operands of these widths have a result of this width
abbrev pub TwoHasWidth : TwoOp → ℕ → ℕ → ℕ → Type 0
TwoHasWidth And left right width = (left ≡ right) × (width ≡ left)
TwoHasWidth Or left right width = (left ≡ right) × (width ≡ left)
TwoHasWidth Xor left right width = (left ≡ right) × (width ≡ left)
TwoHasWidth Add left right width = (left ≡ right) × (width ≡ left)
TwoHasWidth Sub left right width = (left ≡ right) × (width ≡ left)
TwoHasWidth Mul left right width = (left ≡ right) × (width ≡ left)
TwoHasWidth Sll left right width = (left ≡ right) × (width ≡ left)
TwoHasWidth Srl left right width = (left ≡ right) × (width ≡ left)
TwoHasWidth Sra left right width = (left ≡ right) × (width ≡ left)
TwoHasWidth EqBits left right width = (left ≡ right) × (width ≡ 1)
TwoHasWidth Ult left right width = (left ≡ right) × (width ≡ 1)
TwoHasWidth Ulte left right width = (left ≡ right) × (width ≡ 1)
TwoHasWidth Slt left right width = (left ≡ right) × (width ≡ 1)
TwoHasWidth Slte left right width = (left ≡ right) × (width ≡ 1)
TwoHasWidth Concat left right width = (left + right ≤ 128) × (width ≡ left + right)

-- the operator has a result on these operands
abbrev pub TakesTwo : TwoOp → BitVector → BitVector → Type 0
TakesTwo operator x y = (width : ℕ) × TwoHasWidth operator x.width y.width width

-- The action has a value of this width, or none where the width is 0, with names of these widths bound round
-- it, the innermost first. Operands have values.
abbrev pub ActionHasWidth : Declarations → Action → List ℕ → ℕ → Type 0
ActionHasWidth d action.Unit locals width = width ≡ 0
ActionHasWidth d (action.Const value) locals width = HasWidth value width
ActionHasWidth d (action.Local name) locals width = slice_get locals name ≡ Some width
ActionHasWidth d (action.Input input) locals width = slice_get d.inputs input ≡ Some width
ActionHasWidth d (action.One' operator p a) locals width =
    (operand : ℕ) × ActionHasWidth d a locals operand × (1 ≤ operand) × OneHasWidth operator operand width
ActionHasWidth d (action.Two' operator p a q b) locals width =
    (left : ℕ) × (right : ℕ) × ActionHasWidth d a locals left × ActionHasWidth d b locals right × (1 ≤ left) × (1 ≤ right) × TwoHasWidth operator left right width
ActionHasWidth d (action.Slice' p a upper lower) locals width =
    (operand : ℕ) × ActionHasWidth d a locals operand × (lower ≤ upper) × (upper < operand) × (width ≡ upper - lower + 1)
ActionHasWidth d (action.Zext' p a to) locals width =
    (operand : ℕ) × ActionHasWidth d a locals operand × (1 ≤ operand) × (operand ≤ to) × (to ≤ 128) × (width ≡ to)
ActionHasWidth d (action.Sext' p a to) locals width =
    (operand : ℕ) × ActionHasWidth d a locals operand × (1 ≤ operand) × (operand ≤ to) × (to ≤ 128) × (width ≡ to)
ActionHasWidth d (action.Table' table p a) locals width =
    (operand : ℕ) × ActionHasWidth d a locals operand × (1 ≤ operand) × TableHasWidth d.externs.tables table operand width
ActionHasWidth d (action.Host' number p a) locals width =
    (operand : ℕ) × ActionHasWidth d a locals operand × (1 ≤ operand) × HostHasWidth d.externs.hosts number operand width
ActionHasWidth d (action.Let' p value q body) locals width =
    (bound : ℕ) × ActionHasWidth d value locals bound × (1 ≤ bound) × ActionHasWidth d body (bound ∷ locals) width
ActionHasWidth d (action.If' p condition q first r second) locals width =
    ActionHasWidth d condition locals 1 × ActionHasWidth d first locals width × ActionHasWidth d second locals width
ActionHasWidth d (action.Seq' p first q second) locals width =
    (dropped : ℕ) × ActionHasWidth d first locals dropped × ActionHasWidth d second locals width
ActionHasWidth d (action.Read port register) locals width = IsPort port × (slice_get d.regs register ≡ Some width)
ActionHasWidth d (action.Write' port register p a) locals width =
    (held : ℕ) × ActionHasWidth d a locals held × IsPort port × (slice_get d.regs register ≡ Some held) × (width ≡ 0)
ActionHasWidth d action.Abort locals width = width ≡ 0

-- the action is typed: it has a width, which is 0 for one that has no value
abbrev pub IsTyped : Declarations → Action → List ℕ → Type 0
IsTyped d action locals = (width : ℕ) × ActionHasWidth d action locals width

-- a register's first value has its width
abbrev pub IsRegister : RegDecl → Type 0
IsRegister decl = HasWidth decl.first decl.width

-- a host function's input may have its width
abbrev pub IsHost : HostSpec → Type 0
IsHost spec = host.TakesWidth spec.kind spec.in_width

-- a continuation of a node is the end or a node of a greater number
abbrev pub IsContinuation : ℕ → ℕ → Next → Type 0
IsContinuation nodes node (next.Node to) = (node < to) × (to < nodes)
IsContinuation nodes node next.End = Unit {0}

-- the node of this number tries a rule that there is, and goes on to greater numbers
pub record IsNode (rules nodes number : ℕ) (node : Node) : Type 0 where
  pub rule : node.rule < rules
  pub yes : IsContinuation nodes number node.yes
  pub no : IsContinuation nodes number node.no

-- each of the nodes is valid
abbrev pub AreNodes : ℕ → List Node → Type 0
AreNodes rules nodes = (number : ℕ) (node : Node) → slice_get nodes number ≡ Some node → IsNode rules (length nodes) number node

-- the second node is a continuation of the first
abbrev pub LeadsTo : List Node → ℕ → ℕ → Type 0
LeadsTo nodes from to = (node : Node) × (slice_get nodes from ≡ Some node) × ((node.yes ≡ next.Node to) ⊎ (node.no ≡ next.Node to))

-- the scheduler may go along these nodes
abbrev pub IsPath : List Node → ℕ → List ℕ → Type 0
IsPath nodes from [] = from < length nodes
IsPath nodes from (to ∷ path) = LeadsTo nodes from to × IsPath nodes to path

-- two nodes that don't try the same rule
abbrev pub TryOthers : List Node → ℕ → ℕ → Type 0
TryOthers nodes a b = (m n : Node) → slice_get nodes a ≡ Some m → slice_get nodes b ≡ Some n → m.rule ≢ n.rule

-- no rule occurs twice on a path from the root
abbrev pub TriesNoneTwice : List Node → Type 0
TriesNoneTwice nodes = (path : List ℕ) → IsPath nodes 0 path → AllPairs (TryOthers nodes) (0 ∷ path)

-- a design of these parts is valid
pub record IsValid (parts : Parts) : Type 0 where
  pub few_registers : length parts.regs ≤ MAX_REGISTERS
  pub registers : All IsRegister parts.regs
  pub few_inputs : length parts.inputs ≤ MAX_INPUTS
  pub inputs : All (λ (input : InputDecl). IsWidth input.width) parts.inputs
  pub tables : All IsTable parts.tables
  pub hosts : All IsHost parts.hosts
  pub few_rules : length parts.rules ≤ MAX_RULES
  pub rules : All (λ (rule : Rule). ActionHasWidth (declarations parts) rule.body [] 0) parts.rules
  pub few_nodes : length parts.nodes ≤ MAX_NODES
  pub nodes : AreNodes (length parts.rules) parts.nodes
  pub once : TriesNoneTwice parts.nodes
