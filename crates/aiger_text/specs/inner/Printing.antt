-- What private functions alone cite of this crate's `Printing`.
use Rattle.std.specs.Prelude.{◌≡◌, length}
use Rattle.aig_blast.specs.declared.aig.LatchWord.{LatchWord}

-- a word of latches has a next literal for each
abbrev pub HasNexts : LatchWord → Type 0
HasNexts word = length word.nexts ≡ word.first.width
