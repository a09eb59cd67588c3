-- How inputs and latches come in words: a longest run with the symbols `x[0]`, `x[1]` and so on, at most 128 of them,
-- is the word `x`. Every other one is a word of one bit, named by its symbol, or else by its kind and index.
use Rattle.std.specs.Prelude.{ℕ, ◌+◌, ◌-◌, ◌&&◌, Bool, true, false, if◌then◌else◌, nat_lt, List, [], ◌∷◌, codes, decimal, length, take, drop, bytes_eq, Option, None, Some}
use Rattle.aig_blast.specs.BitLists.{as_bits}
use Rattle.aig_blast.specs.declared.aig.InputWord.{InputWord}
use Rattle.aig_blast.specs.declared.aig.LatchWord.{LatchWord}
use Rattle.aig_blast.specs.declared.aig.OutputBit.{OutputBit}
use Rattle.aiger_text.specs.Printing.{bit_name}

-- a word so far, and whether it is a run
pub record WordRun : Type 0 where
  pub word : InputWord
  pub is_run : Bool

-- a word of one bit of this name, and a run that begins
abbrev pub alone : List ℕ → WordRun
alone name = record { word = record { name = name; width = 1 }; is_run = false }

-- a run of symbols that begins with bit 0 of a name
abbrev pub run_begun : List ℕ → WordRun
run_begun name = record { word = record { name = name; width = 1 }; is_run = true }

-- a symbol ends with `[0]`, after a byte or more
abbrev pub begins_run : List ℕ → Bool
begins_run symbol = nat_lt 3 (length symbol) && bytes_eq (drop (length symbol - 3) symbol) (codes "[0]")

-- the name of a bit by its kind and index, where it has no symbol, and the run that it begins
abbrev pub name_or : ℕ → ℕ → Option (List ℕ) → List ℕ
name_or kind index None = kind ∷ decimal index
name_or kind index (Some symbol) = symbol

-- the run that a symbol begins: of several bits, or alone
abbrev pub begun_by : List ℕ → WordRun
begun_by symbol = if begins_run symbol then run_begun (take (length symbol - 3) symbol) else alone symbol

-- the run that a symbol or none begins; without one the name is a letter and the index
abbrev pub begun : ℕ → ℕ → Option (List ℕ) → WordRun
begun kind index None = alone (kind ∷ decimal index)
begun kind index (Some symbol) = begun_by symbol

-- a bit goes on with a run that isn't full
abbrev pub has_symbol : Option (List ℕ) → List ℕ → Bool
has_symbol None name = false
has_symbol (Some symbol) name = bytes_eq symbol name

-- whether a symbol is the next bit of a run
abbrev pub goes_on : WordRun → Option (List ℕ) → Bool
goes_on run symbol = run.is_run && (nat_lt run.word.width 128 && has_symbol symbol (bit_name run.word.name run.word.width))

-- a run that is one bit wider
abbrev pub wider : WordRun → WordRun
wider run = record run { word = record { name = run.word.name; width = run.word.width + 1 } }

-- the words from a run on, by the symbols of the bits after it, the first of which has this index
abbrev pub words_from : ℕ → ℕ → WordRun → List (Option (List ℕ)) → List InputWord
words_from kind index run [] = run.word ∷ []
words_from kind index run (symbol ∷ symbols) =
    if goes_on run symbol then words_from kind (index + 1) (wider run) symbols
    else run.word ∷ words_from kind (index + 1) (begun kind index symbol) symbols

-- the words of all bits of a kind, `i` or `l`, by their symbols
unfoldable pub words_of_bits : ℕ → List (Option (List ℕ)) → List InputWord
words_of_bits kind [] = []
words_of_bits kind (symbol ∷ symbols) = words_from kind 1 (begun kind 0 symbol) symbols

-- the words of latches, by the next literals and the resets of all
abbrev pub latch_words : List InputWord → List ℕ → List Bool → List LatchWord
latch_words [] nexts resets = []
latch_words (word ∷ words) nexts resets =
    record { name = word.name; first = as_bits (take word.width resets); nexts = take word.width nexts }
    ∷ latch_words words (drop word.width nexts) (drop word.width resets)

-- the outputs from an index on, by their symbols and literals
abbrev pub output_bits : ℕ → List (Option (List ℕ)) → List ℕ → List OutputBit
output_bits index [] lits = []
output_bits index (symbol ∷ symbols) [] = []
output_bits index (symbol ∷ symbols) (lit ∷ lits) =
    record { name = name_or 111 index symbol; lit = lit } ∷ output_bits (index + 1) symbols lits
