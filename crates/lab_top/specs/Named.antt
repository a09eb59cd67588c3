-- A typed design's declarations, by which texts name registers, inputs and rules, in the form that the core's texts
-- take. What rules do is no part of it: their bodies are left empty.
use Rattle.std.specs.Prelude.{[], map}
use Rattle.typed_core.specs.declared.action.Action.TheVariants.{Unit as DoesNothing}
use Rattle.typed_core.specs.declared.design.Parts.{Parts}
use Rattle.typed_core.specs.declared.design.Rule.{Rule as CoreRule}
use Rattle.koika_check.specs.declared.checked.Checked.{Checked}
use Rattle.koika_check.specs.declared.checked.CheckedRule.{CheckedRule}
use Rattle.koika_lower.specs.Lowering.{core_input, register_of}

-- a rule by its name alone
abbrev pub named : CheckedRule → CoreRule
named r = record { name = r.name; body = DoesNothing }

-- a design's names, widths and nodes, without what its rules do
abbrev pub declared : Checked → Parts
declared d = record {
  regs = map register_of d.registers;
  inputs = map core_input d.inputs;
  tables = [];
  hosts = [];
  rules = map named d.rules;
  nodes = d.nodes;
}
