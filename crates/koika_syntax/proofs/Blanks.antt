-- Tokens as they are written in decimal, and that none of them goes on over a blank.
use Rattle.std.proofs.Common.{◌≡◌, ℕ, ◌+◌, ◌≤◌, Bool, true, false, not, List, [], ◌∷◌, ◌++◌, length, length-append, get_or, drop, decimal, refl, sym, ap, ◌∙◌, subst, arith}
use Rattle.std.specs.Char.{is_digit}
use Rattle.std.specs.List.{list_all}
use Rattle.std.specs.Str.Parse.{IsNumeral, digits_value}
use Rattle.std.proofs.lemmas.Bool.Decides.{nat_tests}
use Rattle.std.proofs.lemmas.Fmt.{decimal_is_IsNumeral, decimal_is_IsNumeral_wide}
use Rattle.std.proofs.lemmas.List.{append_assoc}
use Rattle.kw_bits.specs.BitVector.{BitVector, IsBitVector}
use Rattle.koika_syntax.specs.Lexemes.{is_blank, continues_word, IsWord, LexemeKind, HasKind, IsLongest}
use Rattle.koika_syntax.specs.Symbols.{symbol_text}
use Rattle.koika_syntax.specs.Tokens.{IsToken}
use Rattle.koika_syntax.specs.declared.literal.Base.TheVariants as bases
use Rattle.koika_syntax.specs.declared.symbol.Symbol.{Symbol}
use Rattle.koika_syntax.specs.declared.symbol.Symbol.TheVariants as symbols
use Rattle.koika_syntax.specs.declared.token.TokenKind.TheVariants as kinds
use Rattle.koika_syntax.proofs.Longest.{NoneLonger, IsLongest-from_none_longer, NoneLonger-from_family, NoneLonger-word, only_kind}
use Rattle.koika_syntax.proofs.LongestNumeral.{NoneLonger-number, NoneLonger-base}
use Rattle.koika_syntax.proofs.Numerals.{number-lt}
use Rattle.koika_syntax.proofs.Runs.{prefix_len-append-cons, list_all-from_digits}
use Rattle.kw_base.proofs.Conjunction.{and-true}
use Rattle.koika_syntax.proofs.LexemeKinds.{family, family-first, length-lexeme, continues-from_begins}

stops_word : (b : ℕ) → is_blank b ≡ true → continues_word b ≡ false
stops_word b blank = grind (arith, nat_tests)

stops_digits : (b : ℕ) → is_blank b ≡ true → is_digit b 10 ≡ false
stops_digits b blank = grind (arith, nat_tests)

no_apostrophe : (b : ℕ) → is_blank b ≡ true → b ≡ 39 → ⊥
no_apostrophe b blank is = grind (arith, nat_tests)

-- each kind of token is the longest lexeme before a blank
pub longest_word : (bytes : List ℕ) (b : ℕ) (rest : List ℕ) → IsWord bytes → is_blank b ≡ true → IsLongest bytes (b ∷ rest)
longest_word [] b rest is blank = absurd is
longest_word (c ∷ cs) b rest is blank =
    let all = and-true (continues_word c) (list_all continues_word cs) (continues-from_begins c is.0) is.1 in
    IsLongest-from_none_longer (c ∷ cs) (b ∷ rest)
    (subst (NoneLonger ((c ∷ cs) ++ b ∷ rest)) (prefix_len-append-cons continues_word (c ∷ cs) b rest all (stops_word b blank)) (NoneLonger-word c (cs ++ b ∷ rest) is.0))

pub longest_number : (digits : List ℕ) (b : ℕ) (rest : List ℕ) → IsNumeral 10 digits → is_blank b ≡ true → IsLongest digits (b ∷ rest)
longest_number digits b rest is blank =
    IsLongest-from_none_longer digits (b ∷ rest)
    (NoneLonger-number digits (b ∷ rest) is
    (prefix_len-append-cons (λ d. is_digit d 10) digits b rest (list_all-from_digits 10 digits is.1) (stops_digits b blank))
    (λ tail e. no_apostrophe b blank (ap (λ l. get_or l 0 0) e)))

longest_parts : (width value : List ℕ) (b : ℕ) (rest : List ℕ) → IsNumeral 10 width → IsNumeral 10 value → is_blank b ≡ true → IsLongest (width ++ 39 ∷ 100 ∷ value) (b ∷ rest)
longest_parts width value b rest is_width is_value blank =
    let run = prefix_len-append-cons (λ d. is_digit d 10) value b rest (list_all-from_digits 10 value is_value.1) (stops_digits b blank) in
    let size : length width + 2 + length value ≡ length (width ++ 39 ∷ 100 ∷ value) = omega (arith, length-append width (39 ∷ 100 ∷ value)) in
    let whole = NoneLonger-base width (value ++ b ∷ rest) bases.Decimal is_width in
    let sized = subst (NoneLonger (width ++ 39 ∷ 100 ∷ (value ++ b ∷ rest))) (ap (λ n. length width + 2 + n) run ∙ size) whole in
    IsLongest-from_none_longer (width ++ 39 ∷ 100 ∷ value) (b ∷ rest)
    (subst (λ l. NoneLonger l (length (width ++ 39 ∷ 100 ∷ value))) (sym (append_assoc width (39 ∷ 100 ∷ value) (b ∷ rest))) sized)

abbrev is_solid : ℕ → Bool
is_solid b = not (is_blank b)

solid_symbol : (s : Symbol) → list_all is_solid (symbol_text s) ≡ true
solid_symbol symbols.LeftBrace = refl
solid_symbol symbols.RightBrace = refl
solid_symbol symbols.LeftParenthesis = refl
solid_symbol symbols.RightParenthesis = refl
solid_symbol symbols.LeftBracket = refl
solid_symbol symbols.RightBracket = refl
solid_symbol symbols.Semicolon = refl
solid_symbol symbols.Colon = refl
solid_symbol symbols.ColonColon = refl
solid_symbol symbols.Comma = refl
solid_symbol symbols.Equals = refl
solid_symbol symbols.Dot = refl
solid_symbol symbols.Arrow = refl
solid_symbol symbols.Plus = refl
solid_symbol symbols.Minus = refl
solid_symbol symbols.Star = refl
solid_symbol symbols.Ampersand = refl
solid_symbol symbols.Bar = refl
solid_symbol symbols.Caret = refl
solid_symbol symbols.Tilde = refl
solid_symbol symbols.EqualsEquals = refl
solid_symbol symbols.NotEquals = refl
solid_symbol symbols.Less = refl
solid_symbol symbols.LessEquals = refl
solid_symbol symbols.Greater = refl
solid_symbol symbols.GreaterEquals = refl
solid_symbol symbols.LessLess = refl
solid_symbol symbols.GreaterGreater = refl
solid_symbol symbols.GreaterGreaterGreater = refl
solid_symbol symbols.PlusPlus = refl

-- bytes without a blank don't go over one
within_solid : (xs ys rest behind : List ℕ) (b : ℕ) → is_blank b ≡ true → list_all is_solid ys ≡ true → xs ++ b ∷ rest ≡ ys ++ behind → length ys ≤ length xs
within_solid xs [] rest behind b blank solid same = omega arith
within_solid [] (y ∷ ys) rest behind b blank solid same =
    let first : b ≡ y = ap (λ l. get_or l 0 0) same in
    absurd (grind (arith, nat_tests))
within_solid (x ∷ xs) (y ∷ ys) rest behind b blank solid same =
    let later = within_solid xs ys rest behind b blank (grind (arith, nat_tests)) (ap (drop 1) same) in omega (arith, later)

pub longest_symbol : (s : Symbol) (b : ℕ) (rest : List ℕ) → is_blank b ≡ true → IsLongest (symbol_text s) (b ∷ rest)
longest_symbol s b rest blank = by (symbol_text s) (s, refl)
  where
    by : (bytes : List ℕ) → HasKind LexemeKind.symbol bytes → IsLongest bytes (b ∷ rest)
    by [] has = absurd (omega (arith, length-lexeme LexemeKind.symbol [] has))
    by (c ∷ cs) has =
        let first = family-first LexemeKind.symbol c cs has in
        IsLongest-from_none_longer (c ∷ cs) (b ∷ rest)
        (NoneLonger-from_family c (cs ++ b ∷ rest) (length (c ∷ cs))
        (λ kind bytes behind same split found.
        let family_is : family kind ≡ LexemeKind.symbol = sym same ∙ first in
        let kind_is : kind ≡ LexemeKind.symbol = sym (only_kind kind (λ is. cc)) ∙ family_is in
        let is_symbol = subst (λ (t : LexemeKind). HasKind t (c ∷ bytes)) kind_is found in
        within_solid (c ∷ cs) (c ∷ bytes) rest behind b blank (ap (list_all is_solid) is_symbol.1 ∙ solid_symbol is_symbol.0) split))

width_numeral : (bits : BitVector) → IsBitVector bits.width bits.number → IsNumeral 10 (decimal bits.width) × (digits_value 10 (decimal bits.width) ≡ bits.width)
width_numeral bits is = let most = is.no_wider in decimal_is_IsNumeral bits.width (omega (arith, most))

value_numeral : (bits : BitVector) → IsBitVector bits.width bits.number → IsNumeral 10 (decimal bits.number) × (digits_value 10 (decimal bits.number) ≡ bits.number)
value_numeral bits is = decimal_is_IsNumeral_wide bits.number (omega (arith, number-lt bits.width bits.number is))

-- a literal in decimal
pub literal_token : (bits : BitVector) → IsBitVector bits.width bits.number → IsToken (kinds.Literal bits) (decimal bits.width ++ 39 ∷ 100 ∷ decimal bits.number)
literal_token bits is =
    let width = width_numeral bits is in
    let value = value_numeral bits is in (
      record { width = decimal bits.width; base = bases.Decimal; value = decimal bits.number },
      record { text = refl; width = width.0; value = value.0 },
      record {
        width = sym width.1;
        number = sym value.1;
        in_range = subst (λ w. IsBitVector w (digits_value 10 (decimal bits.number))) (sym width.1) (subst (λ n. IsBitVector bits.width n) (sym value.1) is);
      },
    )

pub longest_literal : (bits : BitVector) (b : ℕ) (rest : List ℕ) → IsBitVector bits.width bits.number → is_blank b ≡ true → IsLongest (decimal bits.width ++ 39 ∷ 100 ∷ decimal bits.number) (b ∷ rest)
longest_literal bits b rest is blank = longest_parts (decimal bits.width) (decimal bits.number) b rest (width_numeral bits is).0 (value_numeral bits is).0 blank
