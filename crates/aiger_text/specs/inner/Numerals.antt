-- What the calls return that look for the next number of a line. Contracts of private functions alone cite it.
use Rattle.std.specs.Prelude.{◌≡◌, ℕ, List, [], Option, None, Some}
use Rattle.aiger_text.specs.Cuts.{numbers_if_all, numbers_of, words_of}
use Rattle.aiger_text.specs.declared.numbers.Next.{Next}
use Rattle.aiger_text.specs.declared.numbers.Next.TheVariants as nexts

-- a number comes first and others after it, a word that is none, or no word
abbrev pub GivesNumber : Next → Option (List ℕ) → Type 0
GivesNumber (nexts.Number number rest) numbers = numbers ≡ numbers_if_all (Some number) (numbers_of (words_of rest.now))
GivesNumber nexts.Malformed numbers = numbers ≡ None
GivesNumber nexts.End numbers = numbers ≡ Some []
