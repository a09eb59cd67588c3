-- What reports show of a bit-level circuit: its words of inputs and of latches by name and width, and the names of its
-- outputs.
use Rattle.std.specs.Prelude.{ℕ, List, map}
use Rattle.aig_blast.specs.Aigs.{AigParts}
use Rattle.aig_blast.specs.declared.aig.InputWord.{InputWord}
use Rattle.aig_blast.specs.declared.aig.LatchWord.{LatchWord}
use Rattle.aig_blast.specs.declared.aig.OutputBit.{OutputBit}
use Rattle.stim_report.specs.declared.shape.NameWidth.{NameWidth}
use Rattle.stim_report.specs.declared.shape.Shape.{Shape}

-- an input's name and width
abbrev pub of_input : InputWord → NameWidth
of_input word = record { name = word.name; width = word.width }

-- a latch word's name and width
abbrev pub of_latch : LatchWord → NameWidth
of_latch word = record { name = word.name; width = word.first.width }

-- an output's name
abbrev pub name_of : OutputBit → List ℕ
name_of output = output.name

-- the shape of a bit-level circuit
abbrev pub shape_of : AigParts → Shape
shape_of a = record { inputs = map of_input a.inputs; registers = map of_latch a.latches; rules = map name_of a.outputs }
