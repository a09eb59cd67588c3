-- The words of inputs and latches and the outputs are those of a bit-level circuit: their names, widths and literals.
use Rattle.std.proofs.Common.{◌≡◌, ℕ, suc, ◌+◌, ◌-◌, ◌<◌, ◌≤◌, ◌^◌, Bool, true, false, cond, List, [], ◌∷◌, ◌++◌, length, take, drop, Option, None, Some, refl, sym, ap, ◌∙◌, arith}
use Rattle.std.specs.Prelude.{◌≢◌, decimal, IfSome, nat_lt, sum}
use Rattle.std.specs.Char.{digit_value}
use Rattle.std.specs.List.{All, AllByRecursion}
use Rattle.std.specs.Str.Parse.{AllDigits}
use Rattle.std.proofs.lemmas.Bool.{and_parts, ltb-true}
use Rattle.std.proofs.lemmas.Fmt.{decimal_is_IsNumeral}
use Rattle.std.proofs.lemmas.List.{length-append, length-take, length-take-le, take-append-drop}
use Rattle.std.proofs.lemmas.List.Elements.{All-from_recursion, All-take, All-drop}
use Rattle.std.proofs.lemmas.List.Sums.{sum_by-cons}
use Rattle.aig_blast.specs.Aigs.{input_word_widths, IsInputWord, IsLatchWord, IsOutputBit, IsSymbol, IsWordName, latch_widths}
use Rattle.aig_blast.specs.BitLists.{as_bits}
use Rattle.aig_blast.specs.Graphs.{Below}
use Rattle.aig_blast.specs.declared.aig.InputWord.{InputWord}
use Rattle.aig_blast.specs.declared.aig.LatchWord.{LatchWord}
use Rattle.aig_blast.proofs.Numbers.{number-lt}
use Rattle.aiger_text.specs.Runs.{begins_run, begun, begun_by, goes_on, latch_words, name_or, output_bits, WordRun, wider, words_from, words_of_bits}
use Rattle.aiger_text.specs.inner.Sound.{AreSymbols}
use Rattle.aiger_text.proofs.Running.{goes_on-below}

-- ---- names

-- digits are neither line feeds nor carriage returns
digit-other : (b other : ℕ) → digit_value other ≡ 36 → digit_value b < 10 → b ≢ other
digit-other b other is below same = absurd (omega (arith, below, ap digit_value same, is))

pub digits_other : (digits : List ℕ) (other : ℕ) → digit_value other ≡ 36 → AllDigits 10 digits → AllByRecursion (λ (byte : ℕ). byte ≢ other) digits
digits_other [] other is all = tt
digits_other (b ∷ digits) other is all = (digit-other b other is all.0, digits_other digits other is all.1)

pub ends_other : (name rest : List ℕ) (b : ℕ) → AllByRecursion (λ (byte : ℕ). byte ≢ b) name → name ≢ rest ++ b ∷ []
ends_other [] rest b all same = absurd (omega (arith, ap length same, length-append rest (b ∷ [])))
ends_other (x ∷ name) [] b all same = let is : x ≡ b = cc in all.0 is
ends_other (x ∷ name) (r ∷ rest) b all same = let last : name ≡ rest ++ b ∷ [] = cc in ends_other name rest b all.1 last

-- a kind and an index
pub IsSymbol-default : (kind index : ℕ) → kind ≢ 10 → kind ≢ 13 → kind ≢ 32 → kind ≢ 9 → index < 2 ^ 64 → IsSymbol (kind ∷ decimal index)
IsSymbol-default kind index feed return space tab small =
    let digits : AllDigits 10 (decimal index) = (decimal_is_IsNumeral index small).0.1 in
    record {
      word = record {
        some = λ none. absurd (cc);
        one_line = All-from_recursion (λ (byte : ℕ). byte ≢ 10) (kind ∷ decimal index) (feed, digits_other (decimal index) 10 refl digits);
        begins = λ byte rest same. let is : kind ≡ byte = cc in (λ blank. space (is ∙ blank), λ blank. tab (is ∙ blank));
      };
      ends = λ rest. ends_other (kind ∷ decimal index) rest 13 (return, digits_other (decimal index) 13 refl digits);
    }

-- a symbol without its last bytes
IsWordName-front : (symbol : List ℕ) (k : ℕ) → 0 < k → 0 < length symbol → IsSymbol symbol → IsWordName (take k symbol)
IsWordName-front symbol k some filled is = record {
  some = λ none. absurd (omega (arith, ap length none, length-take k symbol));
  one_line = All-take (λ (byte : ℕ). byte ≢ 10) k symbol is.word.one_line;
  begins = λ byte rest same. is.word.begins byte (rest ++ drop k symbol) (sym (take-append-drop k symbol) ∙ ap (λ (front : List ℕ). front ++ drop k symbol) same);
}

-- ---- runs

abbrev pub SymbolIfAny : Option (List ℕ) → Type 0
SymbolIfAny symbol = IfSome symbol IsSymbol

begun_by-word : (symbol : List ℕ) → IsSymbol symbol → IsInputWord (begun_by symbol).word
begun_by-word symbol is = by (begins_run symbol) refl
  where
    by : (t : Bool) → begins_run symbol ≡ t
        → IsInputWord (cond {A = WordRun} t (record { word = record { name = take (length symbol - 3) symbol; width = 1 }; is_run = true }) (record { word = record { name = symbol; width = 1 }; is_run = false })).word
    by true begins =
        let long : 3 < length symbol = ltb-true 3 (length symbol) (and_parts (nat_lt 3 (length symbol)) _ begins).0 in
        record { name = IsWordName-front symbol (length symbol - 3) (omega arith) (omega arith) is; some = omega arith; most = omega arith }
    by false other = record { name = is.word; some = omega arith; most = omega arith }

module _ (kind : ℕ) (feed : kind ≢ 10) (return : kind ≢ 13) (space : kind ≢ 32) (tab : kind ≢ 9) where
  begun-word : (index : ℕ) (symbol : Option (List ℕ)) → index < 2 ^ 64 → SymbolIfAny symbol → IsInputWord (begun kind index symbol).word
  begun-word index None small is = record { name = (IsSymbol-default kind index feed return space tab small).word; some = omega arith; most = omega arith }
  begun-word index (Some symbol) small is = begun_by-word symbol is

  words_from-words : (index : ℕ) (run : WordRun) (symbols : List (Option (List ℕ))) → index + length symbols ≤ 2 ^ 60 → IsInputWord run.word → AreSymbols symbols → AllByRecursion IsInputWord (words_from kind index run symbols)
  words_from-words index run [] few is all = (is, tt)
  words_from-words index run (symbol ∷ symbols) few is all =
      by (λ own. words_from-words (index + 1) (wider run) symbols (omega (arith, few)) own all.1)
      (words_from-words (index + 1) (begun kind index symbol) symbols (omega (arith, few)) (begun-word index symbol (omega (arith, few)) all.0) all.1) (goes_on run symbol) refl
    where
      by : (IsInputWord (wider run).word → AllByRecursion IsInputWord (words_from kind (index + 1) (wider run) symbols)) → AllByRecursion IsInputWord (words_from kind (index + 1) (begun kind index symbol) symbols)
          → (t : Bool) → goes_on run symbol ≡ t → AllByRecursion IsInputWord (cond t (words_from kind (index + 1) (wider run) symbols) (run.word ∷ words_from kind (index + 1) (begun kind index symbol) symbols))
      by more others true goes =
          let below : run.word.width < 128 = goes_on-below run symbol goes in
          more (record { name = is.name; some = omega arith; most = omega (arith, below) })
      by more others false ends = (is, others)

  pub words_of_bits-words : (symbols : List (Option (List ℕ))) → length symbols ≤ 2 ^ 60 → AreSymbols symbols → AllByRecursion IsInputWord (words_of_bits kind symbols)
  unfolding words_of_bits
  words_of_bits-words [] few all = tt
  words_of_bits-words (symbol ∷ symbols) few all = words_from-words 1 (begun kind 0 symbol) symbols (omega (arith, few)) (begun-word 0 symbol (omega arith) all.0) all.1

-- ---- how many bits words have

begun_by-width : (symbol : List ℕ) → (begun_by symbol).word.width ≡ 1
begun_by-width symbol = by (begins_run symbol)
  where
    by : (t : Bool) → (cond {A = WordRun} t (record { word = record { name = take (length symbol - 3) symbol; width = 1 }; is_run = true }) (record { word = record { name = symbol; width = 1 }; is_run = false })).word.width ≡ 1
    by true = refl
    by false = refl

begun-width : (kind index : ℕ) (symbol : Option (List ℕ)) → (begun kind index symbol).word.width ≡ 1
begun-width kind index None = refl
begun-width kind index (Some symbol) = begun_by-width symbol

pub widths-cons : (word : InputWord) (words : List InputWord) → sum (input_word_widths (word ∷ words)) ≡ word.width + sum (input_word_widths words)
widths-cons word words = sum_by-cons (λ (n : ℕ). n) word.width (input_word_widths words)

words_from-width : (kind index : ℕ) (run : WordRun) (symbols : List (Option (List ℕ))) → sum (input_word_widths (words_from kind index run symbols)) ≡ run.word.width + length symbols
words_from-width kind index run [] = widths-cons run.word []
words_from-width kind index run (symbol ∷ symbols) = by (words_from-width kind (index + 1) (wider run) symbols) (words_from-width kind (index + 1) (begun kind index symbol) symbols) (goes_on run symbol)
  where
    by : sum (input_word_widths (words_from kind (index + 1) (wider run) symbols)) ≡ run.word.width + 1 + length symbols
        → sum (input_word_widths (words_from kind (index + 1) (begun kind index symbol) symbols)) ≡ (begun kind index symbol).word.width + length symbols
        → (t : Bool) → sum (input_word_widths (cond t (words_from kind (index + 1) (wider run) symbols) (run.word ∷ words_from kind (index + 1) (begun kind index symbol) symbols))) ≡ run.word.width + suc (length symbols)
    by more others true = omega (arith, more)
    by more others false = omega (arith, widths-cons run.word (words_from kind (index + 1) (begun kind index symbol) symbols), others, begun-width kind index symbol)

pub words_of_bits-width : (kind : ℕ) (symbols : List (Option (List ℕ))) → sum (input_word_widths (words_of_bits kind symbols)) ≡ length symbols
unfolding words_of_bits
words_of_bits-width kind [] = refl
words_of_bits-width kind (symbol ∷ symbols) = omega (arith, words_from-width kind 1 (begun kind 0 symbol) symbols, begun-width kind 0 symbol)

-- ---- latches and outputs

latch_widths-cons : (word : LatchWord) (words : List LatchWord) → sum (latch_widths (word ∷ words)) ≡ word.first.width + sum (latch_widths words)
latch_widths-cons word words = sum_by-cons (λ (n : ℕ). n) word.first.width (latch_widths words)

pub rest-length : {X : Type 0} (n m : ℕ) (xs : List X) → length xs ≡ n + m → length (drop n xs) ≡ m
rest-length n m xs all = omega (arith, ap length (take-append-drop n xs), length-append (take n xs) (drop n xs), length-take-le n xs (omega (arith, all)))

pub latch_words-width : (words : List InputWord) (nexts : List ℕ) (resets : List Bool) → length resets ≡ sum (input_word_widths words) → sum (latch_widths (latch_words words nexts resets)) ≡ sum (input_word_widths words)
latch_words-width [] nexts resets all = refl
latch_words-width (word ∷ words) nexts resets all =
    let wide : length resets ≡ word.width + sum (input_word_widths words) = all ∙ widths-cons word words in
    omega (
      arith,
      latch_widths-cons (record { name = word.name; first = as_bits (take word.width resets); nexts = take word.width nexts }) (latch_words words (drop word.width nexts) (drop word.width resets)),
      widths-cons word words,
      length-take-le word.width resets (omega (arith, wide)),
      latch_words-width words (drop word.width nexts) (drop word.width resets) (rest-length word.width (sum (input_word_widths words)) resets wide),
    )

pub latch_words-words : (count : ℕ) (words : List InputWord) (nexts : List ℕ) (resets : List Bool) → AllByRecursion IsInputWord words → length nexts ≡ sum (input_word_widths words) → length resets ≡ sum (input_word_widths words)
    → All (Below count) nexts → AllByRecursion (IsLatchWord count) (latch_words words nexts resets)
latch_words-words count [] nexts resets are lits bits below = tt
latch_words-words count (word ∷ words) nexts resets are lits bits below =
    let w : ℕ = word.width in
    let left : ℕ = sum (input_word_widths words) in
    let lits' : length nexts ≡ w + left = lits ∙ widths-cons word words in
    let bits' : length resets ≡ w + left = bits ∙ widths-cons word words in
    let own_bits : length (take w resets) ≡ w = length-take-le w resets (omega (arith, bits')) in
    let own_lits : length (take w nexts) ≡ w = length-take-le w nexts (omega (arith, lits')) in
    let some : 1 ≤ w = are.0.some in
    let most : w ≤ 128 = are.0.most in (
      record {
        name = are.0.name;
        first = record { some_bit = omega (arith, own_bits, some); no_wider = omega (arith, own_bits, most); in_range = number-lt (take w resets) };
        count = own_lits ∙ sym own_bits;
        nexts = All-take (Below count) w nexts below;
      },
      latch_words-words count words (drop w nexts) (drop w resets) are.1 (rest-length w left nexts lits') (rest-length w left resets bits') (All-drop (Below count) w nexts below),
    )

name_or-symbol : (index : ℕ) (symbol : Option (List ℕ)) → index < 2 ^ 64 → SymbolIfAny symbol → IsSymbol (name_or 111 index symbol)
name_or-symbol index None small is = IsSymbol-default 111 index (λ same. absurd (omega (arith, same))) (λ same. absurd (omega (arith, same))) (λ same. absurd (omega (arith, same))) (λ same. absurd (omega (arith, same))) small
name_or-symbol index (Some symbol) small is = is

pub output_bits-bits : (count index : ℕ) (symbols : List (Option (List ℕ))) (lits : List ℕ) → index + length symbols < 2 ^ 64 → AreSymbols symbols → AllByRecursion (Below count) lits → AllByRecursion (IsOutputBit count) (output_bits index symbols lits)
output_bits-bits count index [] lits few are below = tt
output_bits-bits count index (symbol ∷ symbols) [] few are below = tt
output_bits-bits count index (symbol ∷ symbols) (lit ∷ lits) few are below =
    (record { name = name_or-symbol index symbol (omega (arith, few)) are.0; lit = below.0 }, output_bits-bits count (index + 1) symbols lits (omega (arith, few)) are.1 below.1)
