-- When a bit-level circuit is that of a typed design. Its run is after AIGER (Biere, Heljanko and Wieringa, 2011). Which
-- gates it has is left open.
use Rattle.std.specs.Prelude.{◌≡◌, ℕ, map}
use Rattle.aig_blast.specs.Aigs as aigs
use Rattle.aig_blast.specs.Aigs.{AigParts, latch_widths}
use Rattle.aig_blast.specs.AigRun as bits
use Rattle.aig_blast.specs.declared.aig.InputWord.{InputWord}
use Rattle.aig_blast.specs.declared.aig.LatchWord.{LatchWord}
use Rattle.aig_blast.specs.declared.aig.OutputBit.{OutputBit}
use Rattle.koika_check.specs.declared.checked.Checked.{Checked}
use Rattle.koika_check.specs.declared.checked.Input.{Input}
use Rattle.koika_check.specs.declared.checked.Register.{Register}
use Rattle.koika_lower.specs.Lowering.{typed_input_widths, register_widths}
use Rattle.one_rule.specs.Stimulus.{InputVectors, inputs_of}
use Rattle.front_end.specs.Sources.{name_of}
use Rattle.front_end.specs.Systems as typed
use Rattle.front_end.specs.Circuits.{IsStimulusFor}

-- the greatest bit weight of a design of which a bit-level circuit is made
abbrev pub most_bits : ℕ
most_bits = 1048576

-- on every stimulus for the design's inputs, the circuit's rows of every number of cycles are the design's
abbrev pub AigRunsAs : Checked → AigParts → Type 0
AigRunsAs d aig = (stimulus : InputVectors) (n : ℕ) → IsStimulusFor d stimulus
    → bits.run_of aig (inputs_of stimulus) n ≡ typed.run_of d (inputs_of stimulus) n

-- A bit-level circuit is one of the design: it has a word for each of the design's inputs and registers and an output for
-- each rule, in order and of the same names and widths, and its run.
pub record IsAigOf (d : Checked) (aig : AigParts) : Type 0 where
  pub inputs : map (λ (word : InputWord). word.name) aig.inputs ≡ map (λ (i : Input). i.name) d.inputs
  pub input_widths : aigs.input_word_widths aig.inputs ≡ typed_input_widths d
  pub latches : map (λ (word : LatchWord). word.name) aig.latches ≡ map (λ (r : Register). r.name) d.registers
  pub latch_widths : latch_widths aig.latches ≡ register_widths d
  pub outputs : map (λ (output : OutputBit). output.name) aig.outputs ≡ map name_of d.rules
  pub run : AigRunsAs d aig
