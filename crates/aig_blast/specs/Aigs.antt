-- Which parts make a bit-level circuit, after AIGER (Biere, Heljanko and Wieringa, 2011). Inputs and latches come in words.
use Rattle.std.specs.Prelude.{◌≡◌, ◌≢◌, ℕ, ◌+◌, ◌≤◌, ◌^◌, List, [], ◌∷◌, ◌++◌, length, map, sum, All}
use Rattle.kw_bits.specs.BitVector.{IsBits}
use Rattle.aig_blast.specs.Graphs.{AllStand, Below}
use Rattle.aig_blast.specs.declared.gate.Gate.{Gate}
use Rattle.aig_blast.specs.declared.aig.InputWord.{InputWord}
use Rattle.aig_blast.specs.declared.aig.LatchWord.{LatchWord}
use Rattle.aig_blast.specs.declared.aig.OutputBit.{OutputBit}

-- what a bit-level circuit is made of. Variable 0 is false, then come the inputs, the latches and the gates, each in order
pub record AigParts : Type 0 where
  pub inputs : List InputWord
  pub latches : List LatchWord
  pub outputs : List OutputBit
  pub gates : List Gate

-- the widths of the words of inputs, and of latches, in order
abbrev pub input_word_widths : List InputWord → List ℕ
input_word_widths words = map (λ (word : InputWord). word.width) words

-- the widths of words of latches
abbrev pub latch_widths : List LatchWord → List ℕ
latch_widths words = map (λ (word : LatchWord). word.first.width) words

-- how many inputs and latches there are, and how many variables besides variable 0
abbrev pub sources : AigParts → ℕ
sources a = sum (input_word_widths a.inputs) + sum (latch_widths a.latches)

-- how many variables a graph has: its inputs, its latches and its gates
abbrev pub variables : AigParts → ℕ
variables a = sources a + length a.gates

-- a name of a word can be written before an index: a byte or more, no line feed, and no blank at its start
pub record IsWordName (name : List ℕ) : Type 0 where
  pub some : name ≢ []
  pub one_line : All (λ byte. byte ≢ 10) name
  pub begins : (byte : ℕ) (rest : List ℕ) → name ≡ byte ∷ rest → (byte ≢ 32) × (byte ≢ 9)

-- a name can be written at the end of a line: it ends with no carriage return besides
pub record IsSymbol (name : List ℕ) : Type 0 where
  pub word : IsWordName name
  pub ends : (rest : List ℕ) → name ≢ rest ++ 13 ∷ []

-- a word of 1 to 128 inputs
pub record IsInputWord (word : InputWord) : Type 0 where
  pub name : IsWordName word.name
  pub some : 1 ≤ word.width
  pub most : word.width ≤ 128

-- a word of latches has a next literal for each, over this many variables
pub record IsLatchWord (variables : ℕ) (word : LatchWord) : Type 0 where
  pub name : IsWordName word.name
  pub first : IsBits word.first
  pub count : length word.nexts ≡ word.first.width
  pub nexts : All (Below variables) word.nexts

pub record IsOutputBit (variables : ℕ) (output : OutputBit) : Type 0 where
  pub name : IsSymbol output.name
  pub lit : Below variables output.lit

-- the parts make a bit-level circuit of not more than 2 to the 60 variables
pub record IsAig (a : AigParts) : Type 0 where
  pub inputs : All IsInputWord a.inputs
  pub latches : All (IsLatchWord (variables a)) a.latches
  pub outputs : All (IsOutputBit (variables a)) a.outputs
  pub gates : AllStand (sources a) a.gates
  pub few : variables a ≤ 2 ^ 60
