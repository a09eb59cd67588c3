-- What a design of the core is that a well typed design is lowered to: the same registers with packed first values, inputs,
-- tables, host functions, rules by name and nodes of the scheduler, and each rule does the same, alone and at all ports that
-- fit the registers. After the compilation of Kôika (Bourgeat et al., PLDI 2020).
use Rattle.std.specs.Prelude.{◌≡◌, ℕ, List, [], Option, Some, map, slice_get}
use Rattle.kw_bits.specs.BitVector.{BitVector}
use Rattle.koika_types.specs.Values.{packed}
use Rattle.koika_types.specs.declared.value.Value.{Value}
use Rattle.typed_core.specs.Alone.{alone, outcome_of}
use Rattle.typed_core.specs.Evaluation.{Ports, Progress, evaluate}
use Rattle.typed_core.specs.Fits.{PortsFit}
use Rattle.typed_core.specs.Valid.{externs_of}
use Rattle.typed_core.specs.Widths.{HaveWidths}
use Rattle.typed_core.specs.declared.design.InputDecl.{InputDecl}
use Rattle.typed_core.specs.declared.design.Parts.{Parts}
use Rattle.typed_core.specs.declared.design.RegDecl.{RegDecl}
use Rattle.typed_core.specs.declared.design.Rule.{Rule as CoreRule}
use Rattle.typed_core.specs.declared.outcome.Alone.{Alone}
use Rattle.typed_core.specs.declared.outcome.Stopped.{Stopped}
use Rattle.koika_check.specs.Meaning.{rule_body}
use Rattle.koika_check.specs.TypedAlone.{outcome_of as typed_outcome, typed_alone}
use Rattle.koika_check.specs.declared.checked.Checked.{Checked}
use Rattle.koika_check.specs.declared.checked.Host.{Host}
use Rattle.koika_check.specs.declared.checked.Input.{Input}
use Rattle.koika_check.specs.declared.checked.Register.{Register}
use Rattle.koika_check.specs.declared.checked.CheckedRule.{CheckedRule}
use Rattle.koika_check.specs.declared.checked.Table.{Table}

-- a register of the core: its first value is packed
abbrev pub register_of : Register → RegDecl
register_of r = record { name = r.name; width = r.width; first = packed r.first }

-- an input of the core design
abbrev pub core_input : Input → InputDecl
core_input i = record { name = i.name; width = i.width }

-- the widths of a typed design's registers
abbrev pub register_widths : Checked → List ℕ
register_widths d = map (λ (r : Register). r.width) d.registers

-- the widths of a typed design's inputs
abbrev pub typed_input_widths : Checked → List ℕ
typed_input_widths d = map (λ (i : Input). i.width) d.inputs

-- the rule of the core does alone what the typed tree's rule does, on all inputs and registers
abbrev pub DoesTheSame : Checked → Parts → CheckedRule → CoreRule → Type 0
DoesTheSame d design r c = (inputs regs : List BitVector) → HaveWidths (typed_input_widths d) inputs → HaveWidths (register_widths d) regs →
    alone (record { externs = externs_of design; inputs = inputs }) regs c.body ≡ typed_alone d inputs regs r.body

-- the events and the outcome with which a rule of the core ends, and a rule of the typed tree
abbrev pub ends_of : Progress BitVector Stopped → Alone
ends_of p = record { events = p.events; outcome = outcome_of p.ending }

-- the events and the outcome of a rule that ran alone
abbrev pub typed_ends : Progress (Option Value) Stopped → Alone
typed_ends p = record { events = p.events; outcome = typed_outcome p.ending }

-- so it does at all ports that fit the registers, also at ones that no registers give
abbrev pub DoesTheSameAt : Checked → Parts → CheckedRule → CoreRule → Type 0
DoesTheSameAt d design r c = (inputs : List BitVector) (ports : Ports Stopped) → HaveWidths (typed_input_widths d) inputs → PortsFit (register_widths d) ports →
    ends_of (evaluate (record { externs = externs_of design; inputs = inputs }) ports c.body [] []) ≡ typed_ends (rule_body d inputs ports r.body [])

-- the design of the core is what the typed design is lowered to
pub record IsLowered (d : Checked) (design : Parts) : Type 0 where
  pub registers : design.regs ≡ map register_of d.registers
  pub inputs : design.inputs ≡ map core_input d.inputs
  pub tables : design.tables ≡ map (λ (t : Table). t.spec) d.tables
  pub hosts : design.hosts ≡ map (λ (h : Host). h.spec) d.hosts
  pub names : map (λ (c : CoreRule). c.name) design.rules ≡ map (λ (r : CheckedRule). r.name) d.rules
  pub nodes : design.nodes ≡ d.nodes
  pub alone : (number : ℕ) (r : CheckedRule) (c : CoreRule) → slice_get d.rules number ≡ Some r → slice_get design.rules number ≡ Some c → DoesTheSame d design r c
  pub at_ports : (number : ℕ) (r : CheckedRule) (c : CoreRule) → slice_get d.rules number ≡ Some r → slice_get design.rules number ≡ Some c → DoesTheSameAt d design r c
