-- Line feeds after a text leave its tokens and what they derive.
use Rattle.std.proofs.Common.{◌≡◌, ◌-◌, ◌<◌, ◌≤◌, ◌==◌, ℕ, zero, suc, inl, inr, Bool, true, false, not, List, [], ◌∷◌, ◌++◌, length, length-append, get_or, take, drop, replicate, refl, sym, ap, ap₂, subst, ◌∙◌, arith}
use Rattle.std.specs.Char.{is_digit}
use Rattle.std.specs.List.{AllByRecursion, AllZip, list_all}
use Rattle.std.specs.Prelude.{slice_range}
use Rattle.std.specs.Str.Parse.{IsNumeral}
use Rattle.std.proofs.lemmas.Bool.{eqb-true, false≢true}
use Rattle.std.proofs.lemmas.Bool.Decides.{nat_tests}
use Rattle.std.proofs.lemmas.List.{append-nil, append_assoc, drop-append-le, length-drop, take-append-le}
use Rattle.std.proofs.lemmas.List.Elements.{recursion_from_All}
use Rattle.koika_syntax.specs.Grammar.{Derives, tree_leaves}
use Rattle.koika_syntax.specs.Lexemes.{HasKind, IsLongest, LexemeKind, LiteralParts, continues_word, letter_of, literal_text, radix_of, stays_on_line}
use Rattle.koika_syntax.specs.Symbols.{symbol_text}
use Rattle.koika_syntax.specs.Tokens.{AreTokensOf, IsCut, Piece, StandsIn, bytes_of, tokens_behind}
use Rattle.koika_syntax.specs.Tree.{IsLeafAt, Leaf, Terminal, terminal_of}
use Rattle.koika_syntax.specs.declared.symbol.Symbol.{Symbol}
use Rattle.koika_syntax.specs.declared.token.Token.{Token}
use Rattle.koika_syntax.specs.declared.token.TokenKind.{TokenKind}
use Rattle.koika_syntax.specs.declared.token.TokenKind.TheVariants as kinds
use Rattle.koika_syntax.specs.declared.tree.Tree.{Tree}
use Rattle.koika_syntax.proofs.LexemeKinds.{continues-from_begins, length-lexeme}
use Rattle.koika_syntax.proofs.Runs.{list_all-from_digits}
use Rattle.kw_base.proofs.Conjunction.{and-left, and-right, and-true}
use Rattle.koika_syntax.proofs.Spans.{tokens_stand}
use Rattle.koika_syntax.proofs.UniquePieces.{kind_of_piece}

-- ---- lexemes

-- no byte is a line feed
abbrev OnLine : List ℕ → Type 0
OnLine bytes = list_all stays_on_line bytes ≡ true

-- a byte that passes a test isn't a line feed, where a line feed fails it
no_feed : (p : ℕ → Bool) (b : ℕ) → p 10 ≡ false → p b ≡ true → stays_on_line b ≡ true
no_feed p b fails holds = of (b == 10) refl
  where
    of : (e : Bool) → (b == 10) ≡ e → not e ≡ true
    of false is = refl
    of true is = absurd (false≢true (sym fails ∙ ap p (sym (eqb-true b 10 is)) ∙ holds))

-- and so for all bytes that pass it
no_feeds : (p : ℕ → Bool) (bytes : List ℕ) → p 10 ≡ false → list_all p bytes ≡ true → OnLine bytes
no_feeds p [] fails all = refl
no_feeds p (b ∷ bytes) fails all =
    and-true (stays_on_line b) (list_all stays_on_line bytes) (no_feed p b fails (and-left (p b) (list_all p bytes) all)) (no_feeds p bytes fails (and-right (p b) (list_all p bytes) all))

-- bytes without a line feed, one part after the other
both : (xs ys : List ℕ) → OnLine xs → OnLine ys → OnLine (xs ++ ys)
both [] ys x y = y
both (b ∷ xs) ys x y =
    and-true (stays_on_line b) (list_all stays_on_line (xs ++ ys)) (and-left (stays_on_line b) (list_all stays_on_line xs) x)
    (both xs ys (and-right (stays_on_line b) (list_all stays_on_line xs) x) y)

-- the second part has none where the whole has none
second : (xs ys : List ℕ) → OnLine (xs ++ ys) → OnLine ys
second [] ys all = all
second (b ∷ xs) ys all = second xs ys (and-right (stays_on_line b) (list_all stays_on_line (xs ++ ys)) all)

-- a line feed is no digit of a base
digits_fail : (parts : LiteralParts) → is_digit 10 (radix_of parts.base) ≡ false
digits_fail parts = grind (arith, nat_tests, radix_of)

-- nor its letter
letter_stays : (parts : LiteralParts) → stays_on_line (letter_of parts.base) ≡ true
letter_stays parts = grind (arith, nat_tests, letter_of)

-- decimal digits have no line feed
width_stays : (digits : List ℕ) → IsNumeral 10 digits → OnLine digits
width_stays digits is = no_feeds (λ b. is_digit b 10) digits refl (list_all-from_digits 10 digits is.1)

-- nor have the digits of a literal's value
value_stays : (parts : LiteralParts) → IsNumeral (radix_of parts.base) parts.value → OnLine parts.value
value_stays parts is = no_feeds (λ b. is_digit b (radix_of parts.base)) parts.value (digits_fail parts) (list_all-from_digits (radix_of parts.base) parts.value is.1)

-- nor has a literal
literal_stays : (parts : LiteralParts) → IsNumeral 10 parts.width → OnLine parts.value → OnLine (literal_text parts)
literal_stays parts width value =
    both parts.width (39 ∷ letter_of parts.base ∷ parts.value) (width_stays parts.width width)
    (and-true (stays_on_line (letter_of parts.base)) (list_all stays_on_line parts.value) (letter_stays parts) value)

-- nor has a symbol
symbol_stays : (s : Symbol) → OnLine (symbol_text s)
symbol_stays s = grind (arith, nat_tests, symbol_text)

-- a lexeme of more than one byte has no line feed
lexeme_stays : (kind : LexemeKind) (bytes : List ℕ) → HasKind kind bytes → 1 < length bytes → OnLine bytes
lexeme_stays LexemeKind.blank bytes has more = absurd (omega (arith, ap length has.1, more))
lexeme_stays LexemeKind.comment bytes has more = subst OnLine (sym has.1) has.2
lexeme_stays LexemeKind.word [] has more = absurd has
lexeme_stays LexemeKind.word (b ∷ bytes) has more =
    no_feeds continues_word (b ∷ bytes) refl (and-true (continues_word b) (list_all continues_word bytes) (continues-from_begins b has.0) has.1)
lexeme_stays LexemeKind.number bytes has more = width_stays bytes has
lexeme_stays LexemeKind.literal bytes has more = subst OnLine (sym has.1.text) (literal_stays has.0 has.1.width (value_stays has.0 has.1.value))
lexeme_stays LexemeKind.unfinished bytes (width, is, inl text) more = subst OnLine (sym text) (both width (39 ∷ []) (width_stays width is) refl)
lexeme_stays LexemeKind.unfinished bytes (width, is, inr text) more = subst OnLine (sym text.1) (literal_stays (record { width = width; base = text.0; value = [] }) is refl)
lexeme_stays LexemeKind.symbol bytes has more = subst OnLine (sym has.1) (symbol_stays has.0)

-- ---- pieces

-- what begins a text and a line feed, and has none, begins the text
begins_text : (text more rest : List ℕ) → OnLine more → text ++ 10 ∷ [] ≡ more ++ rest → (behind : List ℕ) × (text ≡ more ++ behind)
begins_text text [] rest stays same = (text, refl)
begins_text [] (b ∷ more) rest stays same =
    let is : 10 ≡ b = ap (λ l. get_or l 0 0) same in
    absurd (false≢true (ap stays_on_line is ∙ and-left (stays_on_line b) (list_all stays_on_line more) stays))
begins_text (c ∷ text) (b ∷ more) rest stays same =
    let found = begins_text text more rest (and-right (stays_on_line b) (list_all stays_on_line more) stays) (ap (drop 1) same) in
    let is : c ≡ b = ap (λ l. get_or l 0 0) same in
    (found.0, ap₂ (λ (x : ℕ) (l : List ℕ). x ∷ l) is found.1)

-- the longest lexeme is no longer before a line feed
longest_feed : (bytes text : List ℕ) → 0 < length bytes → IsLongest bytes text → IsLongest bytes (text ++ 10 ∷ [])
longest_feed bytes text some longest kind [] rest same has = refl
longest_feed bytes text some longest kind (b ∷ more) rest same has =
    let stays = lexeme_stays kind (bytes ++ b ∷ more) has (omega (arith, some, length-append bytes (b ∷ more))) in
    let found = begins_text text (b ∷ more) rest (second bytes (b ∷ more) stays) same in
    longest kind (b ∷ more) found.0 found.1 has

-- at the end of a text every lexeme is the longest
nothing_after : (bytes : List ℕ) → IsLongest bytes []
nothing_after bytes kind [] rest same has = refl
nothing_after bytes kind (b ∷ more) rest same has = absurd (omega (arith, ap length same))

abbrev line_feed : Piece
line_feed = Piece.gap (10 ∷ [])

-- a text that is cut into pieces is cut into these and a gap, where a line feed follows it
cut_feed : (pieces : List Piece) (text : List ℕ) → IsCut pieces text [] → IsCut (pieces ++ line_feed ∷ []) (text ++ 10 ∷ []) []
cut_feed [] text cut = ([], ap (λ l. l ++ 10 ∷ []) cut, inl (10, refl, refl), nothing_after (10 ∷ []), refl)
cut_feed (piece ∷ pieces) text cut =
    let kind = kind_of_piece piece cut.2 in (
      cut.0 ++ 10 ∷ [],
      ap (λ l. l ++ 10 ∷ []) cut.1 ∙ append_assoc (bytes_of piece) cut.0 (10 ∷ []),
      cut.2,
      longest_feed (bytes_of piece) cut.0 (length-lexeme kind.0 (bytes_of piece) kind.1) cut.3,
      cut_feed pieces cut.0 cut.4,
    )

-- the gap at the end adds no token
spans_feed : (before : List ℕ) (pieces : List Piece) → tokens_behind before (pieces ++ line_feed ∷ []) ≡ tokens_behind before pieces
spans_feed before [] = refl
spans_feed before (Piece.gap bytes ∷ pieces) = spans_feed (before ++ bytes) pieces
spans_feed before (Piece.token kind bytes ∷ pieces) =
    ap (λ (tokens : List Token). let here : Token = record { kind = kind; start = length before; end = length (before ++ bytes) } in here ∷ tokens) (spans_feed (before ++ bytes) pieces)

-- so a line feed after a text leaves its tokens
tokens_feed : (tokens : List Token) (text : List ℕ) → AreTokensOf tokens text → AreTokensOf tokens (text ++ 10 ∷ [])
tokens_feed tokens text are = record { pieces = are.pieces ++ line_feed ∷ []; cut = cut_feed are.pieces text are.cut; spans = are.spans ∙ sym (spans_feed [] are.pieces) }

-- ---- trees

module _ (text : List ℕ) where
  -- bytes within a text are the same bytes where a line feed follows it
  slice_feed : (start end : ℕ) → start < end → end ≤ length text → slice_range text start end ≡ slice_range (text ++ 10 ∷ []) start end
  slice_feed start end some within =
      sym
      (ap (take (end - start)) (drop-append-le start text (10 ∷ []) (omega (arith, some, within)))
      ∙ take-append-le (end - start) (drop start text) (10 ∷ []) (omega (arith, length-drop start text, some, within)))

  -- and so a token is the same terminal
  terminal_feed : (kind : TokenKind) (start end : ℕ) → slice_range text start end ≡ slice_range (text ++ 10 ∷ []) start end
      → terminal_of text (record { kind = kind; start = start; end = end }) ≡ terminal_of (text ++ 10 ∷ []) (record { kind = kind; start = start; end = end })
  terminal_feed kinds.Name start end same = ap Terminal.name same
  terminal_feed (kinds.Number n) start end same = refl
  terminal_feed (kinds.Literal bits) start end same = refl
  terminal_feed (kinds.Keyword keyword) start end same = refl
  terminal_feed (kinds.Symbol symbol) start end same = refl

  -- and tokens are the same leaves
  leaves_feed : (leaves : List Leaf) (tokens : List Token) → AllByRecursion (StandsIn text) tokens → AllZip (IsLeafAt text) leaves tokens → AllZip (IsLeafAt (text ++ 10 ∷ [])) leaves tokens
  leaves_feed [] [] stand each = tt
  leaves_feed [] (token ∷ tokens) stand each = absurd each
  leaves_feed (leaf ∷ leaves) [] stand each = absurd each
  leaves_feed (leaf ∷ leaves) (token ∷ tokens) stand each =
      let same = slice_feed token.start token.end stand.0.some_byte stand.0.within in
      ((each.0.0 ∙ terminal_feed token.kind token.start token.end same, each.0.1), leaves_feed leaves tokens stand.1 each.1)

-- tokens of a text that derive a tree
pub record HasTokens (text : List ℕ) (tree : Tree) (tokens : List Token) : Type 0 where
  pub are : AreTokensOf tokens text
  pub derived : Derives text tree tokens

-- a line feed after a text leaves what its tokens derive
has_feed : (text : List ℕ) (tree : Tree) (tokens : List Token) → HasTokens text tree tokens → HasTokens (text ++ 10 ∷ []) tree tokens
has_feed text tree tokens has = record {
  are = tokens_feed tokens text has.are;
  derived = record {
    design = has.derived.design;
    leaves = leaves_feed text (tree_leaves tree) tokens (recursion_from_All (StandsIn text) tokens (tokens_stand tokens text has.are)) has.derived.leaves;
  };
}

-- the text with line feeds after it has the same tokens, and they derive the same tree
pub has_feeds : (feeds : ℕ) (text : List ℕ) (tree : Tree) (tokens : List Token) → HasTokens text tree tokens → HasTokens (text ++ replicate feeds 10) tree tokens
has_feeds zero text tree tokens has = subst (λ (l : List ℕ). HasTokens l tree tokens) (sym (append-nil text)) has
has_feeds (suc feeds) text tree tokens has =
    subst (λ (l : List ℕ). HasTokens l tree tokens) (append_assoc text (10 ∷ []) (replicate feeds 10)) (has_feeds feeds (text ++ 10 ∷ []) tree tokens (has_feed text tree tokens has))
