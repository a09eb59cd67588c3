-- What private functions alone cite of this crate's `Answer`.
use Rattle.std.specs.Prelude.{ℕ, Bool, Option}
use Rattle.front_end.specs.Certified.{longest_certified}
use Rattle.koika_top.specs.Btorsim.{longest_circuit}
use Rattle.front_end.specs.Program as program
use Rattle.front_end.specs.Sources.{longest_source}
use Rattle.koika_top.specs.declared.words.Command.{Command}
use Rattle.koika_top.specs.declared.words.Command.TheVariants.{Btorsim, Aigsim, Recheck}
use Rattle.koika_top.specs.Answer.{koika}

-- how many bytes the source of a command may have
abbrev pub longest_of : Command → ℕ
longest_of (Btorsim cycles shown) = longest_circuit
longest_of (Aigsim cycles shown) = longest_circuit
longest_of (Recheck cycles) = longest_certified
longest_of other = longest_source

-- whether words that ask for this are answered by the source
abbrev pub reads_source : Option Command → Bool
reads_source = program.reads_source koika
