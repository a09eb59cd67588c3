-- What `verilog` answers to a source: a Verilog module of the source's design, whose run by IEEE 1364-2005 is the design's
-- for every stimulus. Which operators it has is left open.
use Rattle.std.specs.Prelude.{◌≡◌, ℕ, Bool, true, if◌then◌else◌, None, Some, List, All, codes, map}
use Rattle.kw_bits.specs.BitVector.{BitVector}
use Rattle.kw_bits.specs.declared.host.HostSpec.{HostSpec}
use Rattle.koika_check.specs.declared.checked.Checked.{Checked}
use Rattle.koika_check.specs.declared.checked.Input.{Input}
use Rattle.koika_check.specs.declared.checked.Register.{Register as Declared}
use Rattle.koika_check.specs.declared.checked.CheckedRule.{CheckedRule}
use Rattle.koika_lower.specs.Lowering.{typed_input_widths}
use Rattle.one_rule.specs.Stimulus.{InputVectors, inputs_of}
use Rattle.front_end.specs.Circuits.{IsStimulusFor}
use Rattle.front_end.specs.Names.{names_of}
use Rattle.front_end.specs.Sources.{name_of}
use Rattle.front_end.specs.Systems as typed
use Rattle.verilog_text.specs.Modules.{AreNamed, IsLegal}
use Rattle.verilog_text.specs.Names.{own_name, written}
use Rattle.verilog_text.specs.Runs as run
use Rattle.verilog_text.specs.Texts.{text_of}
use Rattle.verilog_text.specs.Translations.{IsNeverReset}
use Rattle.verilog_text.specs.declared.module.Module.{Module}
use Rattle.verilog_text.specs.declared.module.Output.{Output}
use Rattle.verilog_text.specs.declared.module.Port.{Port}
use Rattle.verilog_text.specs.declared.module.Register.{Register}
use Rattle.verilog_text.specs.declared.verilog.Options.{Options}
use Rattle.lab_top.specs.OfDesigns.{AnswersOf}
use Rattle.lab_top.specs.declared.answer.LabAnswer.{LabAnswer}

-- The module has an input for each of the design's, an output for each rule and a register for each register, in order and
-- of the same names, widths and first values. A clock is there always, a reset and the registers among the ports as asked.
pub record HasPartsOf (d : Checked) (options : Options) (m : Module) : Type 0 where
  pub name : m.name ≡ own_name (names_of d) (codes "koika")
  pub clock : m.clock ≡ own_name (names_of d) (codes "clk")
  pub reset : m.reset ≡ (if options.reset then Some (own_name (names_of d) (codes "rst")) else None)
  pub ports : All (λ (register : Register). register.is_port ≡ options.registers) m.registers
  pub inputs : map (λ (port : Port). port.name) m.inputs ≡ map (λ (i : Input). written i.name) d.inputs
  pub input_widths : map (λ (port : Port). port.width) m.inputs ≡ typed_input_widths d
  pub outputs : map (λ (output : Output). output.name) m.outputs ≡ map (λ (r : CheckedRule). written (name_of r)) d.rules
  pub registers : map (λ (register : Register). register.name) m.registers ≡ map
      (λ (r : Declared). written r.name) d.registers
  pub first_values : run.first_values m ≡ typed.first_values d

-- on every stimulus for the design's inputs, where the reset is 1 in no cycle, the module's rows of every number of cycles
-- are the design's: its registers, and which rules fire
abbrev pub RunsAs : Checked → Module → Type 0
RunsAs d m = (stimulus : InputVectors) (resets : ℕ → Bool) (n : ℕ) → IsStimulusFor d stimulus → IsNeverReset m resets
    → run.run_of m resets (inputs_of stimulus) n ≡ typed.run_of d (inputs_of stimulus) n

-- a cycle in which the reset is 1 leaves the design's first values, from whatever the registers are
abbrev pub IsResetTo : Checked → Module → Type 0
IsResetTo d m = (name : List ℕ) (inputs registers : List BitVector) → m.reset ≡ Some name
    → (run.row_after m true inputs registers).regs ≡ typed.first_values d

-- the text is that of a legal module with the design's parts and its run
pub record IsModuleOf (options : Options) (d : Checked) (text : List ℕ) : Type 0 where
  pub of : Module
  pub printed : text ≡ text_of of
  pub legal : IsLegal of
  pub named : AreNamed of
  pub parts : HasPartsOf d options of
  pub run : RunsAs d of
  pub resets : IsResetTo d of

-- the answer of `verilog`
abbrev pub AnswersVerilog : List HostSpec → Options → List ℕ → LabAnswer → Type 0
AnswersVerilog hosts options source answer = AnswersOf (IsModuleOf options) hosts source answer
