-- What a text begins with: for each form that the lexer reads, the piece or the fault.
use Rattle.std.proofs.Common.{◌≡◌, ◌≢◌, ℕ, ◌+◌, ◌<◌, ◌≤◌, ◌^◌, Bool, true, false, cond, List, [], ◌∷◌, ◌++◌, length, length-append, get_or, take, drop, refl, sym, ap, ◌∙◌, subst, arith, lit<, inl, inr, Some, None, take-append-drop, length-take-le}
use Rattle.std.specs.Char.{is_digit, is_ascii_digit}
use Rattle.std.specs.List.{prefix_len, take_while}
use Rattle.std.specs.Str.Parse.{IsNumeral, digits_value}
use Rattle.std.proofs.lemmas.List.{append_assoc}
use Rattle.std.proofs.lemmas.List.Sums.{prefix_len-le-length, take_while-cons}
use Rattle.kw_bits.specs.BitVector.{BitVector, IsBitVector}
use Rattle.koika_syntax.specs.Keywords.{keyword_text}
use Rattle.koika_syntax.specs.Lexemes.{is_blank, begins_word, continues_word, stays_on_line, LexemeKind, IsWord, LiteralParts, IsLiteral, literal_text, letter_of, radix_of, IsLongest}
use Rattle.koika_syntax.specs.inner.LexemeAnswers.{BeginsWithPiece}
use Rattle.koika_syntax.specs.Symbols.{symbol_text}
use Rattle.koika_syntax.specs.inner.Symbols.{BeginsWith}
use Rattle.koika_syntax.specs.Tokens.{IsLiteralOf, IsToken}
use Rattle.koika_syntax.specs.TokenFaults.{BeginsFaulty}
use Rattle.koika_syntax.specs.declared.keyword.Keyword.{Keyword}
use Rattle.koika_syntax.specs.declared.literal.Base.{Base}
use Rattle.koika_syntax.specs.declared.symbol.Symbol.{Symbol}
use Rattle.koika_syntax.specs.declared.token.TokenKind.{TokenKind}
use Rattle.koika_syntax.specs.declared.token.TokenKind.TheVariants as kinds
use Rattle.koika_syntax.proofs.Longest.{NoneLonger, IsLongest-from_none_longer, BeginsNoLexeme-from_none_longer, NoneLonger-blank, NoneLonger-word, NoneLonger-comment, NoneLonger-symbol}
use Rattle.koika_syntax.proofs.LongestNumeral.{NoneLonger-number, NoneLonger-no_base, NoneLonger-base}
use Rattle.koika_syntax.proofs.Runs.{list_all-take_while, digits-from_list_all, prefix_len-some}
use Rattle.koika_syntax.proofs.LexemeKinds.{continues-from_begins, length-lexeme}

-- bytes as long as the longest lexeme are the longest
longest_by_length : (text bytes rest : List ℕ) (most : ℕ) → text ≡ bytes ++ rest → length bytes ≡ most → NoneLonger text most → IsLongest bytes rest
longest_by_length text bytes rest most split same none =
    IsLongest-from_none_longer bytes rest (subst (λ (n : ℕ). NoneLonger (bytes ++ rest) n) (sym same) (subst (λ l. NoneLonger l most) split none))

module _ (width tail : List ℕ) (numeral : IsNumeral 10 width) where
  -- no base follows the apostrophe
  pub faulty_base : ((base : Base) (more : List ℕ) → tail ≢ letter_of base ∷ more) → BeginsFaulty (width ++ 39 ∷ tail) 10 (length width + 1)
  faulty_base other =
      let split = sym (append_assoc width (39 ∷ []) tail) in
      let size : length (width ++ 39 ∷ []) ≡ length width + 1 = length-append width (39 ∷ []) in
      inr (record {
        kind = LexemeKind.unfinished;
        bytes = width ++ 39 ∷ [];
        after = tail;
        front = split;
        lexeme = (width, numeral, inl refl);
        longest = longest_by_length (width ++ 39 ∷ tail) (width ++ 39 ∷ []) tail (length width + 1) split size (NoneLonger-no_base width tail numeral other);
        wrong = (refl, sym size);
      })

module _ (width tail : List ℕ) (base : Base) (numeral : IsNumeral 10 width) where
  abbrev run : ℕ
  run = prefix_len (λ b. is_digit b (radix_of base)) tail

  -- no digit of the base follows it
  pub faulty_digit : run ≡ 0 → BeginsFaulty (width ++ 39 ∷ letter_of base ∷ tail) 10 (length width + 2)
  faulty_digit none =
      let split = sym (append_assoc width (39 ∷ letter_of base ∷ []) tail) in
      let size : length (width ++ 39 ∷ letter_of base ∷ []) ≡ length width + 2 = length-append width (39 ∷ letter_of base ∷ []) in
      let most : length width + 2 + run ≡ length width + 2 = omega (arith, none) in
      inr (record {
        kind = LexemeKind.unfinished;
        bytes = width ++ 39 ∷ letter_of base ∷ [];
        after = tail;
        front = split;
        lexeme = (width, numeral, inr (base, refl));
        longest = longest_by_length (width ++ 39 ∷ letter_of base ∷ tail) (width ++ 39 ∷ letter_of base ∷ []) tail (length width + 2 + run) split (size ∙ sym most) (NoneLonger-base width tail base numeral);
        wrong = (refl, sym size);
      })

  abbrev parts : LiteralParts
  parts = record { width = width; base = base; value = take run tail }

  pub value_numeral : 0 < run → IsNumeral (radix_of base) (take run tail)
  value_numeral some =
      let within = prefix_len-le-length (λ b. is_digit b (radix_of base)) tail in
      (omega (arith, some, length-take-le run tail within), digits-from_list_all (radix_of base) (take run tail) (list_all-take_while (λ b. is_digit b (radix_of base)) tail))

  split : width ++ 39 ∷ letter_of base ∷ tail ≡ literal_text parts ++ drop run tail
  split =
      ap (λ l. width ++ 39 ∷ letter_of base ∷ l) (sym (take-append-drop run tail)) ∙ sym (append_assoc width (39 ∷ letter_of base ∷ take run tail) (drop run tail))

  size : length (literal_text parts) ≡ length width + 2 + run
  size =
      let within = prefix_len-le-length (λ b. is_digit b (radix_of base)) tail in
      omega (arith, length-append width (39 ∷ letter_of base ∷ take run tail), length-take-le run tail within)

  is_literal : 0 < run → IsLiteral parts (literal_text parts)
  is_literal some = record { text = refl; width = numeral; value = value_numeral some }

  longest : IsLongest (literal_text parts) (drop run tail)
  longest = longest_by_length (width ++ 39 ∷ letter_of base ∷ tail) (literal_text parts) (drop run tail) (length width + 2 + run) split size (NoneLonger-base width tail base numeral)

  -- digits of the base follow it
  pub begins_literal : (bits : BitVector) → 0 < run → IsLiteralOf bits parts
      → BeginsWithPiece (width ++ 39 ∷ letter_of base ∷ tail) (Some (kinds.Literal bits)) (length width + 2 + run)
  begins_literal bits some found = record {
    bytes = literal_text parts;
    after = drop run tail;
    front = split;
    some_byte = omega (arith, size);
    len_is = sym size;
    piece = (parts, is_literal some, found);
    longest = longest;
  }

  -- but the literal is out of its range
  pub faulty_literal : 0 < run → ¬ IsBitVector (digits_value 10 width) (digits_value (radix_of base) (take run tail))
      → BeginsFaulty (width ++ 39 ∷ letter_of base ∷ tail) 13 0
  faulty_literal some absent = inr (record {
    kind = LexemeKind.literal;
    bytes = literal_text parts;
    after = drop run tail;
    front = split;
    lexeme = (parts, is_literal some);
    longest = longest;
    wrong = (parts, is_literal some, absent, refl, refl);
  })

module _ (digits behind : List ℕ) (numeral : IsNumeral 10 digits) (whole : prefix_len (λ b. is_digit b 10) (digits ++ behind) ≡ length digits)
    (other : (tail : List ℕ) → behind ≢ 39 ∷ tail) where
  longest_number : IsLongest digits behind
  longest_number = IsLongest-from_none_longer digits behind (NoneLonger-number digits behind numeral whole other)

  -- digits without an apostrophe
  begins_number : (n : ℕ) → n ≡ digits_value 10 digits → n < 2 ^ 32 → BeginsWithPiece (digits ++ behind) (Some (kinds.Number n)) (length digits)
  begins_number n is below = record {
    bytes = digits;
    after = behind;
    front = refl;
    some_byte = numeral.0;
    len_is = refl;
    piece = (numeral, is, below);
    longest = longest_number;
  }

  -- but the number is out of its range
  faulty_number : 2 ^ 32 ≤ digits_value 10 digits → BeginsFaulty (digits ++ behind) 13 0
  faulty_number above = inr (record {
    kind = LexemeKind.number;
    bytes = digits;
    after = behind;
    front = refl;
    lexeme = numeral;
    longest = longest_number;
    wrong = (above, refl, refl);
  })

begins_blank : (b : ℕ) (text : List ℕ) → is_blank b ≡ true → BeginsWithPiece (b ∷ text) None 1
begins_blank b text blank = record {
  bytes = b ∷ [];
  after = text;
  front = refl;
  some_byte = lit< tt;
  len_is = refl;
  piece = inl (b, refl, blank);
  longest = IsLongest-from_none_longer (b ∷ []) text (NoneLonger-blank b text blank);
}

-- a blank
pub text_begins_blank : (text : List ℕ) → 0 < length text → is_blank (get_or text 0 0) ≡ true → BeginsWithPiece text None 1
text_begins_blank [] some blank = absurd (omega (arith, some))
text_begins_blank (b ∷ text) some blank = begins_blank b text blank

-- the run of bytes at the front that pass a test
module _ (test : ℕ → Bool) (text : List ℕ) where
  front_run : text ≡ take_while test text ++ drop (prefix_len test text) text
  front_run = sym (take-append-drop (prefix_len test text) text)

  length-take_while : length (take_while test text) ≡ prefix_len test text
  length-take_while = length-take-le (prefix_len test text) text (prefix_len-le-length test text)

take_while_yes : (test : ℕ → Bool) (b : ℕ) (text : List ℕ) → test b ≡ true → take_while test (b ∷ text) ≡ b ∷ take_while test text
take_while_yes test b text passes = take_while-cons test b text ∙ ap (λ c. cond c (b ∷ take_while test text) []) passes

begins_comment : (text : List ℕ) → BeginsWithPiece (47 ∷ 47 ∷ text) None (prefix_len stays_on_line (47 ∷ 47 ∷ text))
begins_comment text =
    let whole = 47 ∷ 47 ∷ text in
    let size = length-take_while stays_on_line whole in
    let body : take_while stays_on_line whole ≡ 47 ∷ 47 ∷ take_while stays_on_line text =
    take_while_yes stays_on_line 47 (47 ∷ text) refl ∙ ap (λ l. 47 ∷ l) (take_while_yes stays_on_line 47 text refl) in
    record {
      bytes = take_while stays_on_line whole;
      after = drop (prefix_len stays_on_line whole) whole;
      front = front_run stays_on_line whole;
      some_byte = omega (arith, ap length body);
      len_is = sym size;
      piece = inr (take_while stays_on_line text, body, list_all-take_while stays_on_line text);
      longest = longest_by_length whole (take_while stays_on_line whole) (drop (prefix_len stays_on_line whole) whole) (prefix_len stays_on_line whole) (front_run stays_on_line whole) size (NoneLonger-comment (47 ∷ text));
    }

-- a comment
pub text_begins_comment : (text rest : List ℕ) → text ≡ 47 ∷ 47 ∷ rest → BeginsWithPiece text None (prefix_len stays_on_line text)
text_begins_comment text rest is = subst (λ l. BeginsWithPiece l None (prefix_len stays_on_line l)) (sym is) (begins_comment rest)

module _ (b : ℕ) (text : List ℕ) (begins : begins_word b ≡ true) where
  abbrev word_bytes : List ℕ
  word_bytes = take_while continues_word (b ∷ text)

  abbrev word_len : ℕ
  word_len = prefix_len continues_word (b ∷ text)

  word_is : word_bytes ≡ b ∷ take_while continues_word text
  word_is = take_while_yes continues_word b text (continues-from_begins b begins)

  is_word : IsWord word_bytes
  is_word = subst IsWord (sym word_is) (begins, list_all-take_while continues_word text)

  longest_word : IsLongest word_bytes (drop word_len (b ∷ text))
  longest_word =
      longest_by_length (b ∷ text) word_bytes (drop word_len (b ∷ text)) word_len (front_run continues_word (b ∷ text)) (length-take_while continues_word (b ∷ text)) (NoneLonger-word b text begins)

  begins_token : (kind : TokenKind) → IsToken kind word_bytes → BeginsWithPiece (b ∷ text) (Some kind) word_len
  begins_token kind is_token = record {
    bytes = word_bytes;
    after = drop word_len (b ∷ text);
    front = front_run continues_word (b ∷ text);
    some_byte = omega (arith, ap length word_is);
    len_is = sym (length-take_while continues_word (b ∷ text));
    piece = is_token;
    longest = longest_word;
  }

  begins_keyword : (keyword : Keyword) → word_bytes ≡ keyword_text keyword → BeginsWithPiece (b ∷ text) (Some (kinds.Keyword keyword)) word_len
  begins_keyword keyword is = begins_token (kinds.Keyword keyword) is

  begins_name : ((keyword : Keyword) → word_bytes ≢ keyword_text keyword) → word_len ≤ 64 → BeginsWithPiece (b ∷ text) (Some kinds.Name) word_len
  begins_name other short = begins_token kinds.Name (is_word, omega (arith, length-take_while continues_word (b ∷ text), short), other)

  faulty_name : 64 < word_len → BeginsFaulty (b ∷ text) 14 0
  faulty_name long = inr (record {
    kind = LexemeKind.word;
    bytes = word_bytes;
    after = drop word_len (b ∷ text);
    front = front_run continues_word (b ∷ text);
    lexeme = is_word;
    longest = longest_word;
    wrong = (omega (arith, length-take_while continues_word (b ∷ text), long), refl, refl);
  })

-- the same of a text that isn't taken apart
-- a keyword
pub text_begins_keyword : (text : List ℕ) → 0 < length text → begins_word (get_or text 0 0) ≡ true → (keyword : Keyword)
    → take_while continues_word text ≡ keyword_text keyword → BeginsWithPiece text (Some (kinds.Keyword keyword)) (prefix_len continues_word text)
text_begins_keyword [] some first keyword is = absurd (omega (arith, some))
text_begins_keyword (b ∷ text) some first keyword is = begins_keyword b text first keyword is

-- a name
pub text_begins_name : (text : List ℕ) → 0 < length text → begins_word (get_or text 0 0) ≡ true
    → ((keyword : Keyword) → take_while continues_word text ≢ keyword_text keyword) → prefix_len continues_word text ≤ 64
    → BeginsWithPiece text (Some kinds.Name) (prefix_len continues_word text)
text_begins_name [] some first other short = absurd (omega (arith, some))
text_begins_name (b ∷ text) some first other short = begins_name b text first other short

-- a name that is too long
pub text_faulty_name : (text : List ℕ) → 0 < length text → begins_word (get_or text 0 0) ≡ true → 64 < prefix_len continues_word text → BeginsFaulty text 14 0
text_faulty_name [] some first long = absurd (omega (arith, some))
text_faulty_name (b ∷ text) some first long = faulty_name b text first long

module _ (b : ℕ) (text : List ℕ) (blank : is_blank b ≡ false) (word : begins_word b ≡ false) (digit : is_ascii_digit b ≡ false)
    (comment : ¬ BeginsWith (b ∷ text) (47 ∷ 47 ∷ [])) where
  begins_symbol : (s : Symbol) → BeginsWith (b ∷ text) (symbol_text s)
      → ((other : Symbol) → BeginsWith (b ∷ text) (symbol_text other) → length (symbol_text other) ≤ length (symbol_text s))
      → BeginsWithPiece (b ∷ text) (Some (kinds.Symbol s)) (length (symbol_text s))
  begins_symbol s found most = record {
    bytes = symbol_text s;
    after = found.0;
    front = found.1;
    some_byte = length-lexeme LexemeKind.symbol (symbol_text s) (s, refl);
    len_is = refl;
    piece = refl;
    longest = longest_by_length (b ∷ text) (symbol_text s) found.0 (length (symbol_text s)) found.1 refl (NoneLonger-symbol b text (length (symbol_text s)) blank word digit comment most);
  }

  faulty_byte : ((s : Symbol) → ¬ BeginsWith (b ∷ text) (symbol_text s)) → BeginsFaulty (b ∷ text) 10 0
  faulty_byte none = inl (record {
    some_byte = omega arith;
    stray = BeginsNoLexeme-from_none_longer (b ∷ text) (NoneLonger-symbol b text 0 blank word digit comment (λ s found. absurd (none s found)));
    number_is = refl;
    offset_is = refl;
  })

-- a symbol of so many bytes, where no symbol is longer
pub text_begins_symbol : (text : List ℕ) → 0 < length text → is_blank (get_or text 0 0) ≡ false → begins_word (get_or text 0 0) ≡ false
    → is_ascii_digit (get_or text 0 0) ≡ false → ¬ BeginsWith text (47 ∷ 47 ∷ []) → (s : Symbol) (len : ℕ) → length (symbol_text s) ≡ len → BeginsWith text (symbol_text s)
    → ((other : Symbol) → BeginsWith text (symbol_text other) → length (symbol_text other) ≤ len)
    → BeginsWithPiece text (Some (kinds.Symbol s)) len
text_begins_symbol [] some blank word digit comment s len size found most = absurd (omega (arith, some))
text_begins_symbol (b ∷ text) some blank word digit comment s len size found most =
    subst (λ n. BeginsWithPiece (b ∷ text) (Some (kinds.Symbol s)) n) size
    (begins_symbol b text blank word digit comment s found (λ other at. omega (arith, most other at, size)))

-- nothing
pub text_faulty_byte : (text : List ℕ) → 0 < length text → is_blank (get_or text 0 0) ≡ false → begins_word (get_or text 0 0) ≡ false
    → is_ascii_digit (get_or text 0 0) ≡ false → ¬ BeginsWith text (47 ∷ 47 ∷ []) → ((s : Symbol) → ¬ BeginsWith text (symbol_text s)) → BeginsFaulty text 10 0
text_faulty_byte [] some blank word digit comment none = absurd (omega (arith, some))
text_faulty_byte (b ∷ text) some blank word digit comment none = faulty_byte b text blank word digit comment none

-- the decimal digits that a text begins with
module _ (text : List ℕ) (some : 0 < length text) (first : is_digit (get_or text 0 0) 10 ≡ true) where
  abbrev digits : List ℕ
  digits = take_while (λ b. is_digit b 10) text

  abbrev behind : List ℕ
  behind = drop (prefix_len (λ b. is_digit b 10) text) text

  pub first_digits : IsNumeral 10 digits
  first_digits = (
    omega (arith, length-take_while (λ b. is_digit b 10) text, prefix_len-some (λ b. is_digit b 10) text some first),
    digits-from_list_all 10 digits (list_all-take_while (λ b. is_digit b 10) text),
  )

  whole : digits ++ behind ≡ text
  whole = take-append-drop (prefix_len (λ b. is_digit b 10) text) text

  -- they end where the text goes on with another byte
  end : prefix_len (λ b. is_digit b 10) (digits ++ behind) ≡ length digits
  end = ap (prefix_len (λ b. is_digit b 10)) whole ∙ sym (length-take_while (λ b. is_digit b 10) text)

  pub text_begins_number : ((tail : List ℕ) → behind ≢ 39 ∷ tail) → (n : ℕ) → n ≡ digits_value 10 digits → n < 2 ^ 32
      → BeginsWithPiece text (Some (kinds.Number n)) (length digits)
  text_begins_number other n is below =
      subst (λ l. BeginsWithPiece l (Some (kinds.Number n)) (length digits)) whole (begins_number digits behind first_digits end other n is below)

  pub text_faulty_number : ((tail : List ℕ) → behind ≢ 39 ∷ tail) → 2 ^ 32 ≤ digits_value 10 digits → BeginsFaulty text 13 0
  text_faulty_number other above = subst (λ l. BeginsFaulty l 13 0) whole (faulty_number digits behind first_digits end other above)
