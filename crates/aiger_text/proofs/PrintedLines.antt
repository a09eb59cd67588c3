-- The lines that a bit-level circuit is printed as, and what they are read as, line by line.
use Rattle.std.proofs.Common.{◌≡◌, ℕ, ◌<◌, ◌^◌, Bool, true, false, not, ◌||◌, cond, eqb, List, [], ◌∷◌, ◌++◌, length, map, refl, sym, ap, ap₂, ◌∙◌, arith, append_assoc, Option, Some}
use Rattle.std.specs.Prelude.{◌≢◌, decimal}
use Rattle.std.specs.Char.{digit_value}
use Rattle.std.specs.List.{AllByRecursion, flat_map}
use Rattle.std.specs.Str.Parse.{AllDigits, digits_value}
use Rattle.std.proofs.lemmas.Bool.{eqb-true}
use Rattle.std.proofs.lemmas.Fmt.{decimal_is_IsNumeral}
use Rattle.std.proofs.lemmas.List.Elements.{All-from_recursion}
use Rattle.kw_base.specs.Texts.{StopsAt, ends_line, is_blank, is_numeral}
use Rattle.kw_base.proofs.Cutting.{piece_first, whole_lines-more}
use Rattle.kw_base.proofs.Numerals.{tests-from_digits}
use Rattle.kw_base.proofs.Words.{words_of-blank, words_of-nil, words_of-word}
use Rattle.aiger_text.specs.Cuts.{before_bytes, numbers_if_all, lines_of, not_blank, decimal_number, numbers_of, without_returns, words_of}
use Rattle.aiger_text.specs.Printing.{numbers_text, spaced}
use Rattle.aiger_text.proofs.Cutting.{not_return}
use Rattle.aiger_text.proofs.LineEnds.{all_joined, HasNoFeed, IsLine}
use Rattle.aiger_text.proofs.Naming.{digits_other, ends_other}
use Rattle.aiger_text.proofs.Numbering.{number_is}
use Rattle.aiger_text.proofs.Running.{eq-false}

-- ---- texts of lines

abbrev pub closed : List ℕ → List ℕ
closed line = line ++ 10 ∷ []

abbrev pub text_by : List (List ℕ) → List ℕ
text_by [] = []
text_by (line ∷ lines) = closed line ++ text_by lines

pub text_by-append : (xs ys : List (List ℕ)) → text_by (xs ++ ys) ≡ text_by xs ++ text_by ys
text_by-append [] ys = refl
text_by-append (x ∷ xs) ys = ap (λ t. closed x ++ t) (text_by-append xs ys) ∙ sym (append_assoc (closed x) (text_by xs) (text_by ys))

goes_on : (line : List ℕ) → HasNoFeed line → AllByRecursion (λ (b : ℕ). ends_line b ≡ false) line
goes_on [] all = tt
goes_on (b ∷ line) all = (eq-false b 10 all.0, goes_on line all.1)

before-whole : (b : ℕ) (line : List ℕ) → ((rest : List ℕ) → b ∷ line ≢ rest ++ 13 ∷ []) → before_bytes b line ≡ b ∷ line
before-whole b [] ends = ap (λ t. cond t [] (b ∷ [])) (not_return b (λ is. ends [] (ap (λ x. x ∷ []) is)))
before-whole b (c ∷ line) ends = refl

returns-whole : (line : List ℕ) → ((rest : List ℕ) → line ≢ rest ++ 13 ∷ []) → without_returns line ≡ line
returns-whole [] ends = refl
returns-whole (b ∷ line) ends = ap (before_bytes b) (returns-whole line (λ rest same. ends (b ∷ rest) (ap (λ t. b ∷ t) same))) ∙ before-whole b line ends

-- a text of lines has these lines
pub lines_of-text : (lines : List (List ℕ)) → AllByRecursion IsLine lines → lines_of (text_by lines) ≡ lines
unfolding lines_of
lines_of-text [] all = refl
lines_of-text (line ∷ lines) all =
    let own = All-from_recursion (λ (b : ℕ). ends_line b ≡ false) line (goes_on line all.0.one_line) in
    let pieces = piece_first ends_line (closed line ++ text_by lines) line 10 (text_by lines) (append_assoc line (10 ∷ []) (text_by lines)) own refl in
    ap (map without_returns) (whole_lines-more (closed line ++ text_by lines) line (text_by lines) pieces)
    ∙ ap₂ (λ (l : List ℕ) (ls : List (List ℕ)). l ∷ ls) (returns-whole line all.0.ends) (lines_of-text lines all.1)

-- ---- lines of numbers

abbrev pub AllSmall : List ℕ → Type 0
AllSmall numbers = AllByRecursion (λ (n : ℕ). n < 2 ^ 63) numbers

abbrev pub numbers_line : ℕ → List ℕ → List ℕ
numbers_line first others = decimal first ++ flat_map spaced others

pub numbers_text-closed : (first : ℕ) (others : List ℕ) → numbers_text first others ≡ closed (numbers_line first others)
numbers_text-closed first others = sym (append_assoc (decimal first) (flat_map spaced others) (10 ∷ []))

digits_of-decimal : (n : ℕ) → n < 2 ^ 63 → AllDigits 10 (decimal n)
digits_of-decimal n small = (decimal_is_IsNumeral n (omega (arith, small))).0.1

pub spaced_other : (others : List ℕ) (b : ℕ) → digit_value b ≡ 36 → 32 ≢ b → AllSmall others → AllByRecursion (λ (byte : ℕ). byte ≢ b) (flat_map spaced others)
spaced_other [] b is space all = tt
spaced_other (n ∷ others) b is space all = (space, all_joined (λ (byte : ℕ). byte ≢ b) (decimal n) (flat_map spaced others) (digits_other (decimal n) b is (digits_of-decimal n all.0)) (spaced_other others b is space all.1))

numbers_line-other : (first : ℕ) (others : List ℕ) (b : ℕ) → digit_value b ≡ 36 → 32 ≢ b → first < 2 ^ 63 → AllSmall others → AllByRecursion (λ (byte : ℕ). byte ≢ b) (numbers_line first others)
numbers_line-other first others b is space small all = all_joined (λ (byte : ℕ). byte ≢ b) (decimal first) (flat_map spaced others) (digits_other (decimal first) b is (digits_of-decimal first small)) (spaced_other others b is space all)

pub IsLine-numbers : (first : ℕ) (others : List ℕ) → first < 2 ^ 63 → AllSmall others → IsLine (numbers_line first others)
IsLine-numbers first others small all = record {
  one_line = numbers_line-other first others 10 refl (λ same. absurd (omega (arith, same))) small all;
  ends = λ rest. ends_other (numbers_line first others) rest 13 (numbers_line-other first others 13 refl (λ same. absurd (omega (arith, same))) small all);
}

-- a digit isn't blank
digit-not_blank : (b : ℕ) → digit_value b < 10 → not_blank b ≡ true
digit-not_blank b below = by (eqb b 32) (eqb b 9) refl refl
  where
    by : (s t : Bool) → eqb b 32 ≡ s → eqb b 9 ≡ t → not (s || t) ≡ true
    by true t space tab = let six : digit_value 32 ≡ 36 = refl in absurd (omega (arith, below, ap digit_value (eqb-true b 32 space), six))
    by false true space tab = let six : digit_value 9 ≡ 36 = refl in absurd (omega (arith, below, ap digit_value (eqb-true b 9 tab), six))
    by false false space tab = refl

pub digits-not_blank : (digits : List ℕ) → AllDigits 10 digits → AllByRecursion (λ (b : ℕ). not_blank b ≡ true) digits
digits-not_blank [] all = tt
digits-not_blank (b ∷ digits) all = (digit-not_blank b all.0, digits-not_blank digits all.1)

-- the first word
pub word-first : (word rest : List ℕ) → 0 < length word → AllByRecursion (λ (b : ℕ). not_blank b ≡ true) word → StopsAt not_blank rest → words_of (word ++ rest) ≡ word ∷ words_of rest
word-first [] rest some all stops = absurd (omega (arith, some))
word-first (b ∷ word) rest some all stops = words_of-word is_blank b word rest (All-from_recursion (λ (x : ℕ). not_blank x ≡ true) (b ∷ word) all) stops

decimal-first : (n : ℕ) (rest : List ℕ) → n < 2 ^ 63 → StopsAt not_blank rest → words_of (decimal n ++ rest) ≡ decimal n ∷ words_of rest
decimal-first n rest small stops =
    let numeral = decimal_is_IsNumeral n (omega (arith, small)) in
    word-first (decimal n) rest numeral.0.0 (digits-not_blank (decimal n) numeral.0.1) stops

pub spaced-stops : (others : List ℕ) → StopsAt not_blank (flat_map spaced others)
spaced-stops [] = tt
spaced-stops (n ∷ others) = refl

pub words_of-spaced : (others : List ℕ) → AllSmall others → words_of (flat_map spaced others) ≡ map decimal others
words_of-spaced [] all = words_of-nil is_blank
words_of-spaced (n ∷ others) all =
    words_of-blank is_blank 32 (decimal n ++ flat_map spaced others) refl ∙ decimal-first n (flat_map spaced others) all.0 (spaced-stops others) ∙ ap (λ words. decimal n ∷ words) (words_of-spaced others all.1)

pub words_of-numbers : (first : ℕ) (others : List ℕ) → first < 2 ^ 63 → AllSmall others → words_of (numbers_line first others) ≡ map decimal (first ∷ others)
words_of-numbers first others small all = decimal-first first (flat_map spaced others) small (spaced-stops others) ∙ ap (λ words. decimal first ∷ words) (words_of-spaced others all)

-- the numbers of words
numeral : (digits : List ℕ) → 0 < length digits → AllDigits 10 digits → is_numeral 10 digits ≡ true
numeral [] some all = absurd (omega (arith, some))
numeral (b ∷ digits) some all = tests-from_digits 10 (b ∷ digits) all

pub decimal_number-decimal : (n : ℕ) → n < 2 ^ 63 → decimal_number (decimal n) ≡ Some n
decimal_number-decimal n small =
    let is = decimal_is_IsNumeral n (omega (arith, small)) in
    let below : digits_value 10 (decimal n) < 2 ^ 63 = omega (arith, is.1, small) in
    sym (number_is (decimal n) (Some n) (numeral (decimal n) is.0.0 is.0.1) (below, sym is.1))

pub numbers_of-decimals : (numbers : List ℕ) → AllSmall numbers → numbers_of (map decimal numbers) ≡ Some numbers
numbers_of-decimals [] all = refl
numbers_of-decimals (n ∷ numbers) all = ap₂ (λ (first : Option ℕ) (others : Option (List ℕ)). numbers_if_all first others) (decimal_number-decimal n all.0) (numbers_of-decimals numbers all.1)
