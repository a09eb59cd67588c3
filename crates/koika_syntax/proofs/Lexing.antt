-- Each text is cut into tokens or has a first fault.
use Rattle.std.proofs.Common.{◌≡◌, ◌≢◌, ◌⊎◌, ◌<◌, ◌≤◌, ◌+◌, ◌^◌, ℕ, zero, suc, Bool, true, false, List, [], ◌∷◌, ◌++◌, length, drop, take, get_or, Option, Some, None, refl, sym, ap, subst, ◌∙◌, inl, inr, ⊎_elim, arith, length-drop, take-append-drop}
use Rattle.std.specs.Char.{is_digit, is_ascii_digit}
use Rattle.std.specs.List.{prefix_len, take_while}
use Rattle.std.specs.Prelude.{slice_index}
use Rattle.std.specs.Str.{bytes_eq}
use Rattle.std.specs.Str.Parse.{IsNumeral, digits_value}
use Rattle.std.proofs.lemmas.Bool.{cases_eq, cases_lt, false≢true}
use Rattle.std.proofs.lemmas.Bool.Decides.{nat_tests}
use Rattle.std.proofs.lemmas.Slice.Eq.{bytes_eq-Decides}
use Rattle.kw_base.specs.declared.fault.Fault.{Fault}
use Rattle.kw_base.specs.Fault.{fault_at}
use Rattle.kw_base.specs.Place.{place_at}
use Rattle.kw_bits.specs.BitVector.{IsBitVector}
use Rattle.koika_syntax.specs.Keywords.{keyword_text}
use Rattle.koika_syntax.specs.Lexemes.{is_blank, begins_word, continues_word, stays_on_line, letter_of, radix_of}
use Rattle.koika_syntax.specs.inner.LexemeAnswers.{BeginsWithPiece, tokens_of, HasRead}
use Rattle.koika_syntax.specs.Symbols.{symbol_text}
use Rattle.koika_syntax.specs.inner.Symbols.{BeginsWith}
use Rattle.koika_syntax.specs.Tokens.{AreTokensOf}
use Rattle.koika_syntax.specs.TokenFaults.{BeginsFaulty, IsFirstTokenFault}
use Rattle.koika_syntax.specs.declared.keyword.Keyword.{Keyword}
use Rattle.koika_syntax.specs.declared.literal.Base.{Base}
use Rattle.koika_syntax.specs.declared.literal.Base.TheVariants as bases
use Rattle.koika_syntax.specs.declared.symbol.Symbol.{Symbol}
use Rattle.koika_syntax.specs.declared.symbol.Symbol.TheVariants as symbols
use Rattle.koika_syntax.specs.declared.token.Token.{Token}
use Rattle.koika_syntax.specs.declared.token.TokenKind.{TokenKind}
use Rattle.koika_syntax.specs.declared.token.TokenKind.TheVariants as kinds
use Rattle.koika_syntax.proofs.Cuts.{CutTo, CutTo-start, CutTo-read, CutTo-end, CutTo-fault}
use Rattle.koika_syntax.proofs.Fronts.{text_begins_blank, text_begins_comment, text_begins_keyword, text_begins_name, text_faulty_name, first_digits, text_begins_number, text_faulty_number, faulty_base, faulty_digit, begins_literal, faulty_literal, text_begins_symbol, text_faulty_byte}
use Rattle.koika_syntax.proofs.KeywordTable.{keyword_at, keyword_at-keyword_text}
use Rattle.koika_syntax.proofs.SymbolTable.{symbol_at, symbol_at-symbol_text, length-symbol_text-le3, length-le2, only_first, begins-first, begins-two}

-- what a text begins with: a piece, or a fault
data Begins (text : List ℕ) : Type 0 where
  piece : (token : Option TokenKind) (len : ℕ) → BeginsWithPiece text token len → Begins text
  fault : (number offset : ℕ) → BeginsFaulty text number offset → Begins text

yes_or_no : (b : Bool) → (b ≡ true) ⊎ (b ≡ false)
yes_or_no true = inl refl
yes_or_no false = inr refl

-- bytes are those of a keyword, or of none
keyword_or_none : (word : List ℕ) → ((keyword : Keyword) × (word ≡ keyword_text keyword)) ⊎ ((keyword : Keyword) → word ≢ keyword_text keyword)
keyword_or_none word = by (keyword_at word) refl
  where
    other : (keyword : Keyword) → keyword_at word ≡ Some keyword → bytes_eq word (keyword_text keyword) ≡ false → (k : Keyword) → word ≢ keyword_text k
    other keyword found differs k is =
        let e : Some keyword ≡ Some k = sym found ∙ ap keyword_at is ∙ keyword_at-keyword_text k in
        let same : keyword ≡ k = cc in
        false≢true (sym differs ∙ (bytes_eq-Decides word (keyword_text keyword)).1 (is ∙ ap keyword_text (sym same)))

    by : (found : Option Keyword) → keyword_at word ≡ found → ((keyword : Keyword) × (word ≡ keyword_text keyword)) ⊎ ((keyword : Keyword) → word ≢ keyword_text keyword)
    by None none = inr (λ keyword is. let e : None ≡ Some keyword = sym none ∙ ap keyword_at is ∙ keyword_at-keyword_text keyword in cc)
    by (Some keyword) found =
        ⊎_elim
        (λ same. inl (keyword, (bytes_eq-Decides word (keyword_text keyword)).0 same))
        (λ differs. inr (other keyword found differs))
        (yes_or_no (bytes_eq word (keyword_text keyword)))

-- bytes are those of a symbol, or of none
symbol_or_none : (bytes : List ℕ) → ((symbol : Symbol) × (symbol_text symbol ≡ bytes)) ⊎ ((symbol : Symbol) → symbol_text symbol ≢ bytes)
symbol_or_none bytes = by (symbol_at bytes) refl
  where
    other : (symbol : Symbol) → symbol_at bytes ≡ Some symbol → bytes_eq (symbol_text symbol) bytes ≡ false → (s : Symbol) → symbol_text s ≢ bytes
    other symbol found differs s is =
        let e : Some symbol ≡ Some s = sym found ∙ ap symbol_at (sym is) ∙ symbol_at-symbol_text s in
        let same : symbol ≡ s = cc in
        false≢true (sym differs ∙ (bytes_eq-Decides (symbol_text symbol) bytes).1 (ap symbol_text same ∙ is))

    by : (found : Option Symbol) → symbol_at bytes ≡ found → ((symbol : Symbol) × (symbol_text symbol ≡ bytes)) ⊎ ((symbol : Symbol) → symbol_text symbol ≢ bytes)
    by None none = inr (λ symbol is. let e : None ≡ Some symbol = sym none ∙ ap symbol_at (sym is) ∙ symbol_at-symbol_text symbol in cc)
    by (Some symbol) found =
        ⊎_elim
        (λ same. inl (symbol, (bytes_eq-Decides (symbol_text symbol) bytes).0 same))
        (λ differs. inr (other symbol found differs))
        (yes_or_no (bytes_eq (symbol_text symbol) bytes))

-- a text begins with a front, or doesn't
begins_or_not : (text front : List ℕ) → BeginsWith text front ⊎ (BeginsWith text front → ⊥)
begins_or_not text [] = inl (text, refl)
begins_or_not [] (f ∷ front) = inr (λ begins. omega (arith, ap length begins.1))
begins_or_not (t ∷ text) (f ∷ front) =
    ⊎_elim
    (λ same.
    ⊎_elim
    (λ begins. inl (begins.0, (λ i. same i ∷ begins.1 i)))
    (λ other. inr (λ begins. other (begins.0, ap (drop 1) begins.1)))
    (begins_or_not text front))
    (λ differs. inr (λ begins. differs (ap (λ l. get_or l 0 0) begins.1)))
    (cases_eq t f)

-- a word
at_word : (text : List ℕ) → 0 < length text → begins_word (get_or text 0 0) ≡ true → Begins text
at_word text some first =
    ⊎_elim
    (λ keyword. piece (Some (kinds.Keyword keyword.0)) (prefix_len continues_word text) (text_begins_keyword text some first keyword.0 keyword.1))
    (λ none.
    ⊎_elim
    (λ long. fault 14 0 (text_faulty_name text some first long))
    (λ short. piece (Some kinds.Name) (prefix_len continues_word text) (text_begins_name text some first none short))
    (cases_lt 64 (prefix_len continues_word text)))
    (keyword_or_none (take_while continues_word text))

base_or_none : (letter : ℕ) → ((base : Base) × (letter ≡ letter_of base)) ⊎ ((base : Base) → letter ≢ letter_of base)
base_or_none letter =
    ⊎_elim
    (λ is. inl (bases.Binary, is))
    (λ no_binary.
    ⊎_elim
    (λ is. inl (bases.Decimal, is))
    (λ no_decimal. ⊎_elim (λ is. inl (bases.Hexadecimal, is)) (λ no_hexadecimal. inr (none no_binary no_decimal no_hexadecimal)) (cases_eq letter 104))
    (cases_eq letter 100))
    (cases_eq letter 98)
  where
    none : (letter ≡ 98 → ⊥) → (letter ≡ 100 → ⊥) → (letter ≡ 104 → ⊥) → (base : Base) → letter ≢ letter_of base
    none b d h bases.Binary = b
    none b d h bases.Decimal = d
    none b d h bases.Hexadecimal = h

bits_or_none : (width number : ℕ) → IsBitVector width number ⊎ (IsBitVector width number → ⊥)
bits_or_none width number =
    ⊎_elim
    (λ some.
    ⊎_elim
    (λ wide. inr (λ bits. let most = bits.no_wider in omega (arith, wide, most)))
    (λ no_wider.
    ⊎_elim
    (λ in_range. inl (record { some_bit = omega (arith, some); no_wider = no_wider; in_range = in_range }))
    (λ above. inr (λ bits. let below = bits.in_range in omega (arith, above, below)))
    (cases_lt number (2 ^ width)))
    (cases_lt 128 width))
    (λ none. inr (λ bits. let least = bits.some_bit in omega (arith, none, least)))
    (cases_lt 0 width)

module _ (width tail : List ℕ) (base : Base) (numeral : IsNumeral 10 width) where
  -- digits, an apostrophe and a base
  at_base : Begins (width ++ 39 ∷ letter_of base ∷ tail)
  at_base =
      let run = prefix_len (λ b. is_digit b (radix_of base)) tail in
      ⊎_elim
      (λ some.
      ⊎_elim
      (λ bits.
      piece (Some (kinds.Literal (record { width = digits_value 10 width; number = digits_value (radix_of base) (take run tail) }))) (length width + 2 + run)
      (begins_literal width tail base numeral (record { width = digits_value 10 width; number = digits_value (radix_of base) (take run tail) }) some (record { width = refl; number = refl; in_range = bits })))
      (λ none. fault 13 0 (faulty_literal width tail base numeral some none))
      (bits_or_none (digits_value 10 width) (digits_value (radix_of base) (take run tail))))
      (λ none. fault 10 (length width + 2) (faulty_digit width tail base numeral (omega (arith, none))))
      (cases_lt 0 run)

-- digits and an apostrophe
at_apostrophe : (width tail : List ℕ) → IsNumeral 10 width → Begins (width ++ 39 ∷ tail)
at_apostrophe width [] numeral = fault 10 (length width + 1) (faulty_base width [] numeral (λ base more split. omega (arith, ap length split)))
at_apostrophe width (letter ∷ tail) numeral =
    ⊎_elim
    (λ base. subst (λ (l : ℕ). Begins (width ++ 39 ∷ l ∷ tail)) (sym base.1) (at_base width tail base.0 numeral))
    (λ none. fault 10 (length width + 1) (faulty_base width (letter ∷ tail) numeral (λ base more split. none base (ap (λ l. get_or l 0 0) split))))
    (base_or_none letter)

module _ (text : List ℕ) (some : 0 < length text) (first : is_digit (get_or text 0 0) 10 ≡ true) where
  abbrev digits : List ℕ
  digits = take_while (λ b. is_digit b 10) text

  abbrev behind : List ℕ
  behind = drop (prefix_len (λ b. is_digit b 10) text) text

  at_number : ((tail : List ℕ) → behind ≢ 39 ∷ tail) → Begins text
  at_number other =
      ⊎_elim
      (λ below. piece (Some (kinds.Number (digits_value 10 digits))) (length digits) (text_begins_number text some first other (digits_value 10 digits) refl below))
      (λ above. fault 13 0 (text_faulty_number text some first other above))
      (cases_lt (digits_value 10 digits) (2 ^ 32))

  by_behind : (b : List ℕ) → behind ≡ b → Begins text
  by_behind [] is = at_number (λ tail split. omega (arith, ap length (sym is ∙ split)))
  by_behind (c ∷ tail) is =
      ⊎_elim
      (λ apostrophe.
      let whole : text ≡ digits ++ 39 ∷ tail =
      sym (take-append-drop (prefix_len (λ b. is_digit b 10) text) text) ∙ ap (λ l. digits ++ l) (is ∙ (λ i. apostrophe i ∷ tail)) in
      subst Begins (sym whole) (at_apostrophe digits tail (first_digits text some first)))
      (λ other. at_number (λ tail split. other (ap (λ l. get_or l 0 0) (sym is ∙ split))))
      (cases_eq c 39)

  -- a number or a literal
  at_digit : Begins text
  at_digit = by_behind behind refl

module _ (text : List ℕ) (some : 0 < length text) (blank : is_blank (get_or text 0 0) ≡ false) (word : begins_word (get_or text 0 0) ≡ false)
    (digit : is_ascii_digit (get_or text 0 0) ≡ false) (comment : ¬ BeginsWith text (47 ∷ 47 ∷ [])) where
  at_one : ¬ BeginsWith text (62 ∷ 62 ∷ 62 ∷ []) → (1 < length text → (symbol : Symbol) → symbol_text symbol ≢ slice_index text 0 ∷ slice_index text 1 ∷ []) → Begins text
  at_one no_three no_two =
      let only = only_first text no_two in
      ⊎_elim
      (λ found.
      piece (Some (kinds.Symbol found.0)) 1
      (text_begins_symbol text some blank word digit comment found.0 1 (ap length found.1) (begins-first text (symbol_text found.0) some found.1) (λ other at. omega (arith, ap length (only other at)))))
      (λ none. fault 10 0 (text_faulty_byte text some blank word digit comment (λ symbol begins. none symbol (only symbol begins))))
      (symbol_or_none (slice_index text 0 ∷ []))

  at_two : ¬ BeginsWith text (62 ∷ 62 ∷ 62 ∷ []) → Begins text
  at_two no_three =
      ⊎_elim
      (λ more.
      ⊎_elim
      (λ found.
      piece (Some (kinds.Symbol found.0)) 2
      (text_begins_symbol text some blank word digit comment found.0 2 (ap length found.1) (begins-two text (symbol_text found.0) more found.1) (length-le2 text no_three)))
      (λ none. at_one no_three (λ _. none))
      (symbol_or_none (slice_index text 0 ∷ slice_index text 1 ∷ [])))
      (λ few. at_one no_three (λ more. absurd (omega (arith, more, few))))
      (cases_lt 1 (length text))

  -- a symbol, or nothing
  at_symbol : Begins text
  at_symbol =
      ⊎_elim
      (λ three. piece (Some (kinds.Symbol symbols.GreaterGreaterGreater)) 3 (text_begins_symbol text some blank word digit comment symbols.GreaterGreaterGreater 3 refl three (λ other at. length-symbol_text-le3 other)))
      (λ no_three. at_two no_three)
      (begins_or_not text (62 ∷ 62 ∷ 62 ∷ []))

digit_is : (b : ℕ) → is_ascii_digit b ≡ true → is_digit b 10 ≡ true
digit_is b h = grind (arith, nat_tests)

-- a text that isn't empty begins with a piece or a fault
begins : (text : List ℕ) → 0 < length text → Begins text
begins text some =
    ⊎_elim
    (λ blank. piece None 1 (text_begins_blank text some blank))
    (λ no_blank.
    ⊎_elim
    (λ word. at_word text some word)
    (λ no_word.
    ⊎_elim
    (λ digit. at_digit text some (digit_is (get_or text 0 0) digit))
    (λ no_digit.
    ⊎_elim
    (λ comment. piece None (prefix_len stays_on_line text) (text_begins_comment text comment.0 comment.1))
    (λ no_comment. at_symbol text some no_blank no_word no_digit no_comment)
    (begins_or_not text (47 ∷ 47 ∷ [])))
    (yes_or_no (is_ascii_digit (get_or text 0 0))))
    (yes_or_no (begins_word (get_or text 0 0))))
    (yes_or_no (is_blank (get_or text 0 0)))

-- tokens, or a first fault
abbrev Cuts : List ℕ → Type 0
Cuts text = ((tokens : List Token) × AreTokensOf tokens text) ⊎ ((fault : Fault) × IsFirstTokenFault text fault)

-- from an offset on, so many bytes before the end
from_offset : (left : ℕ) (text : List ℕ) (tokens : List Token) (offset : ℕ) → CutTo text tokens offset → length text ≤ offset + left → Cuts text
from_offset zero text tokens offset cut most = inl (tokens, CutTo-end text tokens offset cut (omega (arith, most)))
from_offset (suc n) text tokens offset cut most =
    ⊎_elim
    (λ within. by (from_offset n text) (begins (drop offset text) (omega (arith, within, length-drop offset text))))
    (λ end. inl (tokens, CutTo-end text tokens offset cut end))
    (cases_lt offset (length text))
  where
    by : ((found : List Token) (end : ℕ) → CutTo text found end → length text ≤ end + n → Cuts text) → Begins (drop offset text) → Cuts text
    by go (Begins.piece token len b) =
        let some = b.some_byte in
        let is = b.len_is in
        let after = tokens ++ tokens_of token offset (offset + len) in
        let read : HasRead text offset tokens after (offset + len) = record { token = token; len = len; begins = b; end_is = refl; tokens = refl } in
        go after (offset + len) (CutTo-read text tokens offset cut after (offset + len) read) (omega (arith, most, some, is))
    by go (Begins.fault number further faulty) =
        let found = fault_at number (place_at text (offset + further)) in
        inr (found, CutTo-fault text tokens offset cut found (record { further = further; faulty = faulty; place = refl }))

-- each text has tokens or a first fault
pub tokens_or_first_fault : (text : List ℕ) → ((tokens : List Token) × AreTokensOf tokens text) ⊎ ((fault : Fault) × IsFirstTokenFault text fault)
tokens_or_first_fault text = from_offset (length text) text [] 0 (CutTo-start text) (omega arith)
