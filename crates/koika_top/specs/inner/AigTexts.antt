-- What reading a source with an AIGER text gives that is run: a bit-level circuit of what the text says. This serves private
-- functions alone.
use Rattle.std.specs.Prelude.{◌≡◌, ℕ, false, List, Ok}
use Rattle.aig_blast.specs.AigRun.{run_of}
use Rattle.aig_blast.specs.Aigs.{AigParts}
use Rattle.aiger_text.specs.AigShapes.{shape_of}
use Rattle.aiger_text.specs.Drafts.{Draft}
use Rattle.aiger_text.specs.Meaning.{IsGraphOf}
use Rattle.one_rule.specs.Stimulus.{InputVectors, inputs_of}
use Rattle.koika_top.specs.Aigsim.{HoldsAigText, is_too_long, stimulus_in}
use Rattle.koika_top.specs.Sim.{rows_text}
use Rattle.koika_top.specs.declared.shown.Shown.{Shown}

-- the source holds a text, and this is a circuit of what it says
pub record HoldsGraph (source : List ℕ) (aig : AigParts) : Type 0 where
  pub said : Draft
  pub holds : HoldsAigText source said
  pub graph : IsGraphOf said aig

-- and this is the stimulus after it, with which its run for these cycles isn't too long
pub record HoldsGraphRun (cycles : ℕ) (source : List ℕ) (aig : AigParts) (stimulus : InputVectors) : Type 0 where
  pub text : HoldsGraph source aig
  pub given : stimulus_in source text.said ≡ Ok stimulus
  pub within : is_too_long cycles text.said ≡ false

-- what is shown of the circuit's run for these cycles
abbrev pub shown_graph : Shown → AigParts → InputVectors → ℕ → List ℕ
shown_graph shown aig stimulus cycles = rows_text shown (shape_of aig) (run_of aig (inputs_of stimulus) cycles)
