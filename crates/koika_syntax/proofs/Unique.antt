-- A text begins with one lexeme, which is one piece or has one fault.
use Rattle.std.proofs.Common.{◌≡◌, ℕ, List, [], ◌∷◌, ◌++◌, length, get_or, drop, refl, sym, ap, ◌∙◌, subst, arith, inl, inr, ⊎_elim, ◌⊎◌}
use Rattle.std.specs.Char.{is_digit}
use Rattle.std.specs.List.{prefix_len}
use Rattle.std.specs.Str.Parse.{IsNumeral, AllDigits}
use Rattle.std.proofs.lemmas.List.{append-nil}
use Rattle.kw_bits.specs.BitVector.{BitVector}
use Rattle.koika_syntax.specs.Lexemes.{LexemeKind, HasKind, IsWord, LiteralParts, IsLiteral, letter_of, IsLongest}
use Rattle.koika_syntax.specs.Tokens.{IsToken, IsLiteralOf, literal_width, value_of}
use Rattle.koika_syntax.specs.declared.token.TokenKind.{TokenKind}
use Rattle.koika_syntax.specs.declared.token.TokenKind.TheVariants as kinds
use Rattle.koika_syntax.proofs.KeywordTable.{same_keyword, IsWord-keyword_text}
use Rattle.koika_syntax.proofs.Longest.{only_kind}
use Rattle.koika_syntax.proofs.LongestNumeral.{same_base, same_cut, digits_run}
use Rattle.koika_syntax.proofs.LexemeKinds.{family, family-first, length-lexeme}
use Rattle.koika_syntax.proofs.SymbolTable.{same_symbol}

-- of two fronts of one text, one goes on the other
front_cases : (xs ys us vs : List ℕ) → xs ++ ys ≡ us ++ vs
    → ((more : List ℕ) × (us ≡ xs ++ more) × (ys ≡ more ++ vs)) ⊎ ((more : List ℕ) × (xs ≡ us ++ more) × (vs ≡ more ++ ys))
front_cases [] ys us vs whole = inl (us, refl, whole)
front_cases (x ∷ xs) ys [] vs whole = inr (x ∷ xs, refl, sym whole)
front_cases (x ∷ xs) ys (u ∷ us) vs whole =
    let first : x ≡ u = ap (λ l. get_or l 0 0) whole in
    ⊎_elim
    (λ case. inl (case.0, (λ i. (sym first) i ∷ case.1 i), case.2))
    (λ case. inr (case.0, (λ i. first i ∷ case.1 i), case.2))
    (front_cases xs ys us vs (ap (drop 1) whole))

-- two longest lexemes at one place are one
pub same_longest : (s t : LexemeKind) (xs ys us vs : List ℕ) → xs ++ ys ≡ us ++ vs → HasKind s xs → IsLongest xs ys → HasKind t us → IsLongest us vs → (xs ≡ us) × (ys ≡ vs)
same_longest s t xs ys us vs whole has longest has' longest' =
    ⊎_elim
    (λ case.
    let none : case.0 ≡ [] = longest t case.0 vs case.2 (subst (HasKind t) case.1 has') in
    (sym (case.1 ∙ ap (λ l. xs ++ l) none ∙ append-nil xs), case.2 ∙ ap (λ l. l ++ vs) none))
    (λ case.
    let none : case.0 ≡ [] = longest' s case.0 ys case.2 (subst (HasKind s) case.1 has) in
    (case.1 ∙ ap (λ l. us ++ l) none ∙ append-nil us, sym (case.2 ∙ ap (λ l. l ++ ys) none)))
    (front_cases xs ys us vs whole)

-- the digits before an apostrophe are one list
apostrophe_split : (width other x y : List ℕ) → AllDigits 10 width → AllDigits 10 other → width ++ 39 ∷ x ≡ other ++ 39 ∷ y → (width ≡ other) × (x ≡ y)
apostrophe_split width other x y digits digits' same =
    let run = λ (l : List ℕ). prefix_len (λ b. is_digit b 10) l in
    let parts = same_cut width other (39 ∷ x) (39 ∷ y) (sym (digits_run width x digits) ∙ ap run same ∙ digits_run other y digits') same in
    (parts.0, ap (drop 1) parts.1)

-- no numeral has an apostrophe
not_digits : (width tail : List ℕ) → AllDigits 10 (width ++ 39 ∷ tail) → ⊥
not_digits [] tail digits = omega (arith, digits.0)
not_digits (w ∷ width) tail digits = not_digits width tail digits.1

-- a literal isn't broken off
whole_not_broken : (parts : LiteralParts) (width tail bytes : List ℕ) → IsLiteral parts bytes → IsNumeral 10 width → bytes ≡ width ++ 39 ∷ tail → letter_of parts.base ∷ parts.value ≡ tail
whole_not_broken parts width tail bytes literal numeral text =
    (apostrophe_split parts.width width (letter_of parts.base ∷ parts.value) tail literal.width.1 numeral.1 (sym literal.text ∙ text)).1

number_not_literal : (bytes : List ℕ) → HasKind LexemeKind.number bytes → HasKind LexemeKind.literal bytes → ⊥
number_not_literal bytes number (parts, literal) = not_digits parts.width (letter_of parts.base ∷ parts.value) (subst (AllDigits 10) literal.text number.1)

number_not_unfinished : (bytes : List ℕ) → HasKind LexemeKind.number bytes → HasKind LexemeKind.unfinished bytes → ⊥
number_not_unfinished bytes number (width, numeral, broken) =
    ⊎_elim
    (λ text. not_digits width [] (subst (AllDigits 10) text number.1))
    (λ text. not_digits width (letter_of text.0 ∷ []) (subst (AllDigits 10) text.1 number.1))
    broken

literal_not_unfinished : (bytes : List ℕ) → HasKind LexemeKind.literal bytes → HasKind LexemeKind.unfinished bytes → ⊥
literal_not_unfinished bytes (parts, literal) (width, numeral, broken) =
    ⊎_elim
    (λ text. let tail = whole_not_broken parts width [] bytes literal numeral text in omega (arith, ap length tail))
    (λ text. let tail = whole_not_broken parts width (letter_of text.0 ∷ []) bytes literal numeral text.1 in omega (arith, literal.value.0, ap length tail))
    broken

by_family : (s t : LexemeKind) (bytes : List ℕ) → family s ≡ family t → HasKind s bytes → HasKind t bytes → s ≡ t
by_family LexemeKind.blank t bytes same has has' = same ∙ only_kind t (λ e. let f : LexemeKind.blank ≡ LexemeKind.number = same ∙ e in cc)
by_family LexemeKind.comment t bytes same has has' = same ∙ only_kind t (λ e. let f : LexemeKind.comment ≡ LexemeKind.number = same ∙ e in cc)
by_family LexemeKind.word t bytes same has has' = same ∙ only_kind t (λ e. let f : LexemeKind.word ≡ LexemeKind.number = same ∙ e in cc)
by_family LexemeKind.number LexemeKind.blank bytes same has has' = cc
by_family LexemeKind.number LexemeKind.comment bytes same has has' = cc
by_family LexemeKind.number LexemeKind.word bytes same has has' = cc
by_family LexemeKind.number LexemeKind.number bytes same has has' = refl
by_family LexemeKind.number LexemeKind.literal bytes same has has' = absurd (number_not_literal bytes has has')
by_family LexemeKind.number LexemeKind.unfinished bytes same has has' = absurd (number_not_unfinished bytes has has')
by_family LexemeKind.number LexemeKind.symbol bytes same has has' = cc
by_family LexemeKind.literal LexemeKind.blank bytes same has has' = cc
by_family LexemeKind.literal LexemeKind.comment bytes same has has' = cc
by_family LexemeKind.literal LexemeKind.word bytes same has has' = cc
by_family LexemeKind.literal LexemeKind.number bytes same has has' = absurd (number_not_literal bytes has' has)
by_family LexemeKind.literal LexemeKind.literal bytes same has has' = refl
by_family LexemeKind.literal LexemeKind.unfinished bytes same has has' = absurd (literal_not_unfinished bytes has has')
by_family LexemeKind.literal LexemeKind.symbol bytes same has has' = cc
by_family LexemeKind.unfinished LexemeKind.blank bytes same has has' = cc
by_family LexemeKind.unfinished LexemeKind.comment bytes same has has' = cc
by_family LexemeKind.unfinished LexemeKind.word bytes same has has' = cc
by_family LexemeKind.unfinished LexemeKind.number bytes same has has' = absurd (number_not_unfinished bytes has' has)
by_family LexemeKind.unfinished LexemeKind.literal bytes same has has' = absurd (literal_not_unfinished bytes has' has)
by_family LexemeKind.unfinished LexemeKind.unfinished bytes same has has' = refl
by_family LexemeKind.unfinished LexemeKind.symbol bytes same has has' = cc
by_family LexemeKind.symbol t bytes same has has' = same ∙ only_kind t (λ e. let f : LexemeKind.symbol ≡ LexemeKind.number = same ∙ e in cc)

-- bytes have one kind
pub same_kind : (s t : LexemeKind) (bytes : List ℕ) → HasKind s bytes → HasKind t bytes → s ≡ t
same_kind s t [] has has' = absurd (omega (arith, length-lexeme s [] has))
same_kind s t (b ∷ bytes) has has' = by_family s t (b ∷ bytes) (sym (family-first s b bytes has) ∙ family-first t b bytes has') has has'

-- the parts of a literal are one
pub same_parts : (p q : LiteralParts) (bytes : List ℕ) → IsLiteral p bytes → IsLiteral q bytes → p ≡ q
same_parts p q bytes is is' =
    let cut = apostrophe_split p.width q.width (letter_of p.base ∷ p.value) (letter_of q.base ∷ q.value) is.width.1 is'.width.1 (sym is.text ∙ is'.text) in
    let base = same_base p.base q.base (ap (λ l. get_or l 0 0) cut.1) in
    let value = ap (drop 1) cut.1 in
    (λ i. record { width = cut.0 i; base = base i; value = value i })

same_bits : (a b : BitVector) (p q : LiteralParts) (bytes : List ℕ) → IsLiteral p bytes → IsLiteral q bytes → IsLiteralOf a p → IsLiteralOf b q → a ≡ b
same_bits a b p q bytes is is' of of' =
    let parts = same_parts p q bytes is is' in
    let width = of.width ∙ ap literal_width parts ∙ sym of'.width in
    let number = of.number ∙ ap value_of parts ∙ sym of'.number in
    (λ i. record { width = width i; number = number i })

-- the kind of a token
abbrev pub kind_of : TokenKind → LexemeKind
kind_of kinds.Name = LexemeKind.word
kind_of (kinds.Number n) = LexemeKind.number
kind_of (kinds.Literal bits) = LexemeKind.literal
kind_of (kinds.Keyword keyword) = LexemeKind.word
kind_of (kinds.Symbol symbol) = LexemeKind.symbol

pub HasKind-token : (kind : TokenKind) (bytes : List ℕ) → IsToken kind bytes → HasKind (kind_of kind) bytes
HasKind-token kinds.Name bytes is = is.0
HasKind-token (kinds.Number n) bytes is = is.0
HasKind-token (kinds.Literal bits) bytes is = (is.0, is.1)
HasKind-token (kinds.Keyword keyword) bytes is = subst IsWord (sym is) (IsWord-keyword_text keyword)
HasKind-token (kinds.Symbol symbol) bytes is = (symbol, is)

by_kind : (k j : TokenKind) (bytes : List ℕ) → kind_of k ≡ kind_of j → IsToken k bytes → IsToken j bytes → k ≡ j
by_kind kinds.Name kinds.Name bytes same is is' = refl
by_kind kinds.Name (kinds.Number m) bytes same is is' = cc
by_kind kinds.Name (kinds.Literal b) bytes same is is' = cc
by_kind kinds.Name (kinds.Keyword b) bytes same is is' = absurd (is.2 b is')
by_kind kinds.Name (kinds.Symbol b) bytes same is is' = cc
by_kind (kinds.Number n) kinds.Name bytes same is is' = cc
by_kind (kinds.Number n) (kinds.Number m) bytes same is is' = ap kinds.Number (is.1 ∙ sym is'.1)
by_kind (kinds.Number n) (kinds.Literal b) bytes same is is' = cc
by_kind (kinds.Number n) (kinds.Keyword b) bytes same is is' = cc
by_kind (kinds.Number n) (kinds.Symbol b) bytes same is is' = cc
by_kind (kinds.Literal a) kinds.Name bytes same is is' = cc
by_kind (kinds.Literal a) (kinds.Number m) bytes same is is' = cc
by_kind (kinds.Literal a) (kinds.Literal b) bytes same is is' = ap kinds.Literal (same_bits a b is.0 is'.0 bytes is.1 is'.1 is.2 is'.2)
by_kind (kinds.Literal a) (kinds.Keyword b) bytes same is is' = cc
by_kind (kinds.Literal a) (kinds.Symbol b) bytes same is is' = cc
by_kind (kinds.Keyword a) kinds.Name bytes same is is' = absurd (is'.2 a is)
by_kind (kinds.Keyword a) (kinds.Number m) bytes same is is' = cc
by_kind (kinds.Keyword a) (kinds.Literal b) bytes same is is' = cc
by_kind (kinds.Keyword a) (kinds.Keyword b) bytes same is is' = ap kinds.Keyword (same_keyword a b (sym is ∙ is'))
by_kind (kinds.Keyword a) (kinds.Symbol b) bytes same is is' = cc
by_kind (kinds.Symbol a) kinds.Name bytes same is is' = cc
by_kind (kinds.Symbol a) (kinds.Number m) bytes same is is' = cc
by_kind (kinds.Symbol a) (kinds.Literal b) bytes same is is' = cc
by_kind (kinds.Symbol a) (kinds.Keyword b) bytes same is is' = cc
by_kind (kinds.Symbol a) (kinds.Symbol b) bytes same is is' = ap kinds.Symbol (same_symbol a b (sym is ∙ is'))

pub same_token : (k j : TokenKind) (bytes : List ℕ) → IsToken k bytes → IsToken j bytes → k ≡ j
same_token k j bytes is is' = by_kind k j bytes (same_kind (kind_of k) (kind_of j) bytes (HasKind-token k bytes is) (HasKind-token j bytes is')) is is'
