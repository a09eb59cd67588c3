-- Each text has lines or a first fault: of each part of a line it is told whether it is of its kind.
use Rattle.std.proofs.Common.{◌≡◌, ◌⊎◌, ℕ, ◌≤◌, ◌^◌, Bool, true, false, List, [], ◌∷◌, ◌++◌, length, drop, Option, Some, None, Ok, Err, refl, sym, ap, ◌∙◌, inl, inr, ⊎_elim, arith}
use Rattle.std.specs.Bool.{Decides}
use Rattle.std.specs.Char.{digit_value}
use Rattle.std.specs.List.{list_any}
use Rattle.std.specs.Option.{option_to_list}
use Rattle.std.specs.Prelude.{Contains, bytes_eq, codes}
use Rattle.std.specs.Str.Parse.{AllDigits, IsNumeral, digits_value}
use Rattle.std.proofs.lemmas.Bool.{cases_lt, false≢true}
use Rattle.std.proofs.lemmas.Bool.Decides.{Decides-eqb}
use Rattle.std.proofs.lemmas.Slice.Eq.{bytes_eq-Decides}
use Rattle.kw_base.specs.Fault.{fault_at}
use Rattle.kw_base.specs.declared.fault.Fault.{Fault}
use Rattle.btor2_text.specs.Cut.{lines_of, number_after, tokens_of}
use Rattle.btor2_text.specs.Forms.{keyword_text, kinds_of, left_out, may_be_negative, radix_of}
use Rattle.btor2_text.specs.Lines.{BeginWithArguments, HasMinus, IsArgument, IsArraySort, IsId, IsLeftOut, IsLine, IsMalformed, IsNegative, IsNumber, IsOutside}
use Rattle.btor2_text.specs.Reading.{AreLines, AreLinesOf, Gives, IsFirstLineFault, IsFirstFaultOf, line_place}
use Rattle.btor2_text.specs.declared.keyword.Keyword.{Keyword}
use Rattle.btor2_text.specs.declared.kind.ArgumentKind.{ArgumentKind}
use Rattle.btor2_text.specs.declared.kind.ArgumentKind.TheVariants as kinds
use Rattle.btor2_text.specs.declared.line.Argument.{Argument}
use Rattle.btor2_text.specs.declared.line.Argument.TheVariants as arguments
use Rattle.btor2_text.specs.declared.line.Line.{Line}
use Rattle.btor2_text.proofs.FormsOfLines.{malformed, malformed-few, malformed-many, malformed-one, malformed-word, not_left_out, outside-minus}
use Rattle.btor2_text.proofs.KeywordTable.{keyword_at, keyword_at-keyword_text}
use Rattle.btor2_text.proofs.Members.{listed-Decides}

-- something is so, or nothing is
abbrev SomeOrNone : {X : Type 0} → (X → Type 0) → Type 0
SomeOrNone {X} P = ((x : X) × P x) ⊎ ((x : X) → ¬ P x)

-- what a test decides is so or isn't
decided : {P : Type 0} (b : Bool) → Decides b P → P ⊎ ¬ P
decided true d = inl (d.0 refl)
decided false d = inr (λ p. false≢true (d.1 p))

-- ---- the tokens behind a keyword

digits_or_not : (radix : ℕ) (bytes : List ℕ) → AllDigits radix bytes ⊎ ¬ AllDigits radix bytes
digits_or_not radix [] = inl tt
digits_or_not radix (b ∷ bytes) =
    ⊎_elim
    (λ low. ⊎_elim (λ all. inl (low, all)) (λ never. inr (λ all. never all.1)) (digits_or_not radix bytes))
    (λ high. inr (λ all. omega (arith, high, all.0)))
    (cases_lt (digit_value b) radix)

numeral_or_not : (radix : ℕ) (token : List ℕ) → IsNumeral radix token ⊎ ¬ IsNumeral radix token
numeral_or_not radix [] = inr (λ is. omega (arith, is.0))
numeral_or_not radix (b ∷ bytes) =
    ⊎_elim (λ all. inl (omega arith, all)) (λ never. inr (λ is. never is.1)) (digits_or_not radix (b ∷ bytes))

id_or_none : (token : List ℕ) → SomeOrNone (IsId token)
id_or_none token =
    ⊎_elim
    (λ digits.
    ⊎_elim
    (λ low.
    ⊎_elim
    (λ high. inl (digits_value 10 token, record { digits = digits; value = refl; low = low; high = high }))
    (λ large. inr (λ id is. omega (arith, large, is.high, is.value)))
    (cases_lt (digits_value 10 token) (2 ^ 64)))
    (λ zero. inr (λ id is. omega (arith, zero, is.low, is.value)))
    (cases_lt 0 (digits_value 10 token)))
    (λ never. inr (λ id is. never is.digits))
    (numeral_or_not 10 token)

number_or_none : (token : List ℕ) → SomeOrNone (IsNumber token)
number_or_none token =
    ⊎_elim
    (λ digits.
    ⊎_elim
    (λ high. inl (digits_value 10 token, record { digits = digits; value = refl; high = high }))
    (λ large. inr (λ number is. omega (arith, large, is.high, is.value)))
    (cases_lt (digits_value 10 token) (2 ^ 32)))
    (λ never. inr (λ number is. never is.digits))
    (numeral_or_not 10 token)

argument_of_id : (token : List ℕ) → SomeOrNone (λ (argument : Argument). (id : ℕ) × IsId token id × (argument ≡ arguments.Id id))
argument_of_id token =
    ⊎_elim (λ is. inl (arguments.Id is.0, (is.0, is.1, refl))) (λ never. inr (λ argument is. never is.0 is.1)) (id_or_none token)

argument_or_none : (kind : ArgumentKind) (token : List ℕ) → SomeOrNone (IsArgument kind token)
argument_or_none kinds.Bitvec token =
    ⊎_elim
    (λ is. inl (arguments.Bitvec, (is, refl)))
    (λ never. inr (λ argument is. never is.0))
    (decided (bytes_eq token (codes "bitvec")) (bytes_eq-Decides token (codes "bitvec")))
argument_or_none kinds.Number token =
    ⊎_elim (λ is. inl (arguments.Number is.0, (is.0, is.1, refl))) (λ never. inr (λ argument is. never is.0 is.1)) (number_or_none token)
argument_or_none kinds.Sort token = argument_of_id token
argument_or_none kinds.Value token = argument_of_id token
argument_or_none (kinds.Numeral base) token =
    ⊎_elim (λ is. inl (arguments.Numeral token, (is, refl))) (λ never. inr (λ argument is. never is.0)) (numeral_or_not (radix_of base) token)

arguments_or_none : (kinds : List ArgumentKind) (tokens : List (List ℕ)) → SomeOrNone (BeginWithArguments kinds tokens)
arguments_or_none [] tokens = inl ([], refl)
arguments_or_none (kind ∷ kinds) [] = inr (λ given are. are)
arguments_or_none (kind ∷ kinds) (token ∷ tokens) =
    ⊎_elim
    (λ first.
    ⊎_elim
    (λ others. inl (first.0 ∷ others.0, (first.0, others.0, refl, first.1, others.1)))
    (λ never. inr (λ given are. never are.1 are.4))
    (arguments_or_none kinds tokens))
    (λ never. inr (λ given are. never are.0 are.3))
    (argument_or_none kind token)

begins_with_minus_or_not : (token : List ℕ) → ((digits : List ℕ) × (token ≡ 45 ∷ digits)) ⊎ ¬ ((digits : List ℕ) × (token ≡ 45 ∷ digits))
begins_with_minus_or_not [] = inr (λ is. let e = is.1 in cc)
begins_with_minus_or_not (b ∷ bytes) =
    ⊎_elim
    (λ same. inl (bytes, ap (λ x. x ∷ bytes) same))
    (λ other. inr (λ is. let e = is.1 in other cc))
    (decided _ (Decides-eqb b 45))

negative_or_not : (kind : ArgumentKind) (token : List ℕ) → IsNegative kind token ⊎ ¬ IsNegative kind token
negative_or_not kind token =
    ⊎_elim
    (λ may. ⊎_elim (λ is. inl (may, is)) (λ never. inr (λ is. never is.1)) (begins_with_minus_or_not token))
    (λ never. inr (λ is. never is.0))
    (decided (may_be_negative kind) (λ may. may, λ may. may))

minus_or_not : (kinds : List ArgumentKind) (tokens : List (List ℕ)) → HasMinus kinds tokens ⊎ ¬ HasMinus kinds tokens
minus_or_not [] tokens = inr (λ has. has)
minus_or_not (kind ∷ kinds) [] = inr (λ has. has)
minus_or_not (kind ∷ kinds) (token ∷ tokens) =
    ⊎_elim
    (λ here. inl (inl here))
    (λ not_here. ⊎_elim (λ later. inl (inr later)) (λ never. inr (λ has. ⊎_elim not_here never has)) (minus_or_not kinds tokens))
    (negative_or_not kind token)

-- nothing, or a symbol, or too many tokens
symbol_or_more : (tokens : List (List ℕ)) → ((symbol : Option (List ℕ)) × (tokens ≡ option_to_list symbol)) ⊎ (2 ≤ length tokens)
symbol_or_more [] = inl (None, refl)
symbol_or_more (token ∷ []) = inl (Some token, refl)
symbol_or_more (token ∷ other ∷ tokens) = inr (omega arith)

-- ---- the tokens of a line

-- bytes are those of a keyword, or of none
keyword_or_none : (word : List ℕ) → SomeOrNone (λ keyword. word ≡ keyword_text keyword)
keyword_or_none word = by (keyword_at word) refl
  where
    same : (keyword other : Keyword) → keyword_at word ≡ Some keyword → word ≡ keyword_text other → word ≡ keyword_text keyword
    same keyword other found is =
        let e : Some keyword ≡ Some other = sym found ∙ ap keyword_at is ∙ keyword_at-keyword_text other in
        let one : other ≡ keyword = cc in is ∙ ap keyword_text one

    by : (found : Option Keyword) → keyword_at word ≡ found → SomeOrNone (λ keyword. word ≡ keyword_text keyword)
    by None none = inr (λ keyword is. let e : None ≡ Some keyword = sym none ∙ ap keyword_at is ∙ keyword_at-keyword_text keyword in cc)
    by (Some keyword) found =
        ⊎_elim
        (λ is. inl (keyword, is))
        (λ never. inr (λ other is. never (same keyword other found is)))
        (decided (bytes_eq word (keyword_text keyword)) (bytes_eq-Decides word (keyword_text keyword)))

listed_or_not : (word : List ℕ) → Contains left_out word ⊎ ¬ Contains left_out word
listed_or_not word = decided (list_any (λ w. bytes_eq w word) left_out) (listed-Decides left_out word)

array_sort_or_not : (word : List ℕ) (others : List (List ℕ)) → IsArraySort word others ⊎ ¬ IsArraySort word others
array_sort_or_not word [] = inr (λ is. let e = is.1.1 in cc)
array_sort_or_not word (token ∷ others) =
    ⊎_elim
    (λ sort.
    ⊎_elim
    (λ array. inl (sort, (others, ap (λ t. t ∷ others) array)))
    (λ never. inr (λ is. let e = is.1.1 in never cc))
    (decided (bytes_eq token (codes "array")) (bytes_eq-Decides token (codes "array"))))
    (λ never. inr (λ is. never is.0))
    (decided (bytes_eq word (codes "sort")) (bytes_eq-Decides word (codes "sort")))

-- the tokens are a line, or outside, or malformed
abbrev IsTold : ℕ → List (List ℕ) → Type 0
IsTold number tokens = ((line : Line) × IsLine number tokens line) ⊎ (IsOutside tokens ⊎ IsMalformed tokens)

module _ (number : ℕ) (id : List ℕ) where
  -- the tokens behind an id and a keyword
  module _ (keyword : Keyword) (others : List (List ℕ)) (not_left : ¬ IsLeftOut (id ∷ keyword_text keyword ∷ others)) where
    abbrev row : List (List ℕ)
    row = id ∷ keyword_text keyword ∷ others

    without_minus : (symbol : Option (List ℕ)) → drop (length (kinds_of keyword)) others ≡ option_to_list symbol → ¬ HasMinus (kinds_of keyword) others → IsTold number row
    without_minus symbol behind plain =
        ⊎_elim
        (λ found.
        ⊎_elim
        (λ given. inl (
          record { id = found.0; keyword = keyword; arguments = given.0; symbol = symbol; number = number },
          record {
            id_token = id;
            others = others;
            parts = refl;
            id = found.1;
            arguments = given.1;
            symbol = behind;
            number_is = refl;
          },
        ))
        (λ never. inr (inr (malformed id keyword others not_left (λ line parts. never line.arguments parts.arguments) (λ negation. plain negation.minus))))
        (arguments_or_none (kinds_of keyword) others))
        (λ never. inr (inr (malformed id keyword others not_left (λ line parts. never line.id parts.id) (λ negation. plain negation.minus))))
        (id_or_none id)

    form_told : IsTold number row
    form_told =
        ⊎_elim
        (λ few. inr (inr (malformed-few id keyword others not_left few)))
        (λ enough.
        ⊎_elim
        (λ symbol.
        ⊎_elim
        (λ minus. inr (inl (outside-minus id keyword others symbol.0 enough symbol.1 minus)))
        (λ plain. without_minus symbol.0 symbol.1 plain)
        (minus_or_not (kinds_of keyword) others))
        (λ many. inr (inr (malformed-many id keyword others not_left many)))
        (symbol_or_more (drop (length (kinds_of keyword)) others)))
        (cases_lt (length others) (length (kinds_of keyword)))

  -- the tokens behind an id
  word_told : (word : List ℕ) (others : List (List ℕ)) → IsTold number (id ∷ word ∷ others)
  word_told word others =
      ⊎_elim
      (λ listed. inr (inl (inl (record { id_token = id; word = word; others = others; parts = refl; left = inl listed }))))
      (λ not_listed.
      ⊎_elim
      (λ array. inr (inl (inl (record { id_token = id; word = word; others = others; parts = refl; left = inr array }))))
      (λ no_array.
      ⊎_elim
      (λ found.
      rw found.1 (form_told found.0 others (rw found.1 at (not_left_out id word others not_listed no_array))))
      (λ unknown. inr (inr (malformed-word id word others unknown not_listed no_array)))
      (keyword_or_none word))
      (array_sort_or_not word others))
      (listed_or_not word)

-- ---- the lines of a text

abbrev IsRead : ℕ → List (List ℕ) → Type 0
IsRead number tokens = ((read : Option Line) × Gives number tokens (Ok read)) ⊎ ((fault : Fault) × Gives number tokens (Err fault))

read_from_told : (number : ℕ) (tokens : List (List ℕ)) → IsTold number tokens → IsRead number tokens
read_from_told number tokens told =
    ⊎_elim
    (λ found. inl (Some found.0, found.1))
    (λ fault.
    ⊎_elim
    (λ outside. inr (fault_at 54 (line_place number), inl (outside, refl)))
    (λ wrong. inr (fault_at 50 (line_place number), inr (wrong, refl)))
    fault)
    told

-- the tokens of a line give nothing, a line or a fault
tokens_read : (number : ℕ) (tokens : List (List ℕ)) → IsRead number tokens
tokens_read number [] = inl (None, refl)
tokens_read number (id ∷ []) = read_from_told number (id ∷ []) (inr (inr (malformed-one id)))
tokens_read number (id ∷ word ∷ others) = read_from_told number (id ∷ word ∷ others) (word_told number id word others)

texts_read : (number : ℕ) (texts : List (List ℕ)) → ((lines : List Line) × AreLines number texts lines) ⊎ ((fault : Fault) × IsFirstLineFault number texts fault)
texts_read number [] = inl ([], refl)
texts_read number (text ∷ texts) =
    ⊎_elim
    (λ first.
    ⊎_elim
    (λ others. inl (option_to_list first.0 ++ others.0, (first.0, others.0, refl, first.1, others.1)))
    (λ later. inr (later.0, inr (first.0, first.1, later.1)))
    (texts_read (number_after number) texts))
    (λ here. inr (here.0, inl here.1))
    (tokens_read number (tokens_of text))

-- a text has lines, or a first fault
pub lines_or_first_fault : (text : List ℕ) → ((lines : List Line) × AreLinesOf text lines) ⊎ ((fault : Fault) × IsFirstFaultOf text fault)
lines_or_first_fault text = texts_read 1 (lines_of text)
