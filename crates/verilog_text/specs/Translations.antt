-- When a text is the Verilog module of a circuit: its ports and registers are the circuit's by name and order, and its
-- run by IEEE 1364-2005 is the circuit's.
use Rattle.std.specs.Prelude.{◌≡◌, ℕ, Bool, false, if◌then◌else◌, None, Some, List, ◌++◌, All, AllPairs, ◌≢◌, codes, map}
use Rattle.net_graph.specs.Nets.{width_at, widths_of}
use Rattle.one_rule.specs.Stimulus.{AlwaysFits, InputVectors, inputs_of}
use Rattle.circuit_eval.specs.Circuits.{input_widths}
use Rattle.circuit_eval.specs.Run as wired
use Rattle.circuit_eval.specs.declared.circuit.InputWire.{InputWire}
use Rattle.circuit_eval.specs.declared.circuit.OutputWire.{OutputWire}
use Rattle.circuit_eval.specs.declared.circuit.StateWire.{StateWire}
use Rattle.circuit_eval.specs.declared.circuit.Wires.{Wires}
use Rattle.verilog_text.specs.Modules.{AreNamed, IsLegal, IsWord}
use Rattle.verilog_text.specs.Names.{own_name, written}
use Rattle.verilog_text.specs.Runs as run
use Rattle.verilog_text.specs.Texts.{text_of}
use Rattle.verilog_text.specs.declared.module.Module.{Module}
use Rattle.verilog_text.specs.declared.module.Output.{Output}
use Rattle.verilog_text.specs.declared.module.Port.{Port}
use Rattle.verilog_text.specs.declared.module.Register.{Register}
use Rattle.verilog_text.specs.declared.verilog.Options.{Options}

-- each output of the circuit has one bit
abbrev pub HasFlags : Wires → Type 0
HasFlags c = All (λ (wire : OutputWire). width_at (widths_of c.net) wire.id ≡ 1) c.outputs

-- the names of the circuit's inputs, outputs and states
abbrev pub names_of : Wires → List (List ℕ)
names_of c =
    map (λ (wire : InputWire). wire.name) c.inputs ++ map (λ (wire : OutputWire). wire.name) c.outputs
    ++ map (λ (wire : StateWire). wire.name) c.states

-- they are words, no two of them equal
pub record HasNames (c : Wires) : Type 0 where
  pub words : All IsWord (names_of c)
  pub distinct : AllPairs (λ a b. a ≢ b) (names_of c)

-- The module has an input for each of the circuit's, an output for each output and a register for each state, in order
-- and of the same names, widths and first values. A clock is there always, a reset and the registers among the ports as
-- asked.
pub record HasParts (c : Wires) (options : Options) (m : Module) : Type 0 where
  pub name : m.name ≡ own_name (names_of c) (codes "koika")
  pub clock : m.clock ≡ own_name (names_of c) (codes "clk")
  pub reset : m.reset ≡ (if options.reset then Some (own_name (names_of c) (codes "rst")) else None)
  pub ports : All (λ (register : Register). register.is_port ≡ options.registers) m.registers
  pub inputs : map (λ (port : Port). port.name) m.inputs ≡ map (λ (wire : InputWire). written wire.name) c.inputs
  pub input_widths : map (λ (port : Port). port.width) m.inputs ≡ input_widths c.inputs
  pub outputs : map (λ (output : Output). output.name) m.outputs ≡ map
      (λ (wire : OutputWire). written wire.name) c.outputs
  pub registers : map (λ (register : Register). register.name) m.registers ≡ map
      (λ (wire : StateWire). written wire.name) c.states
  pub first_values : run.first_values m ≡ wired.first_states c.states

-- the reset is 1 in no cycle
abbrev pub IsNeverReset : Module → (ℕ → Bool) → Type 0
IsNeverReset m resets = (cycle : ℕ) → run.is_reset m.reset (resets cycle) ≡ false

-- on every stimulus for the circuit's inputs, where the reset is 1 in no cycle, the module's rows of every number of
-- cycles are the circuit's
abbrev pub RunsAs : Wires → Module → Type 0
RunsAs c m = (stimulus : InputVectors) (resets : ℕ → Bool) (n : ℕ)
    → stimulus.widths ≡ input_widths c.inputs → AlwaysFits stimulus → IsNeverReset m resets
    → run.run_of m resets (inputs_of stimulus) n ≡ wired.run_of c (inputs_of stimulus) n

-- the text is that of a legal module with the circuit's parts and its run
pub record IsTextOf (c : Wires) (options : Options) (text : List ℕ) : Type 0 where
  pub of : Module
  pub printed : text ≡ text_of of
  pub legal : IsLegal of
  pub named : HasNames c → AreNamed of
  pub parts : HasParts c options of
  pub run : RunsAs c of
