-- What is printed is lexed as the tokens that were printed, since no token goes on over a blank.
use Rattle.std.proofs.Common.{◌≡◌, ℕ, ◌-◌, true, List, [], ◌∷◌, ◌++◌, length, length-append, take, map, decimal, inl, refl, sym, ap, ◌∙◌, subst, arith}
use Rattle.std.specs.Prelude.{slice_range}
use Rattle.std.proofs.lemmas.Fmt.{decimal_is_IsNumeral}
use Rattle.std.proofs.lemmas.List.{append_assoc}
use Rattle.std.proofs.Math.Seq.{take-append_seam, drop-append_seam}
use Rattle.koika_syntax.specs.Keywords.{keyword_text}
use Rattle.koika_syntax.specs.Lexemes.{is_blank, IsLongest}
use Rattle.koika_syntax.specs.Tokens.{IsToken, Piece, IsCut, tokens_behind}
use Rattle.koika_syntax.specs.Tree.{Leaf, Terminal, name, number, literal, keyword, symbol, terminal_of}
use Rattle.koika_syntax.specs.declared.symbol.Symbol.{Symbol}
use Rattle.koika_syntax.specs.declared.symbol.Symbol.TheVariants as symbols
use Rattle.koika_syntax.specs.declared.token.Token.{Token}
use Rattle.koika_syntax.specs.declared.token.TokenKind.{TokenKind}
use Rattle.koika_syntax.specs.declared.token.TokenKind.TheVariants as kinds
use Rattle.koika_syntax.proofs.KeywordTable.{IsWord-keyword_text}
use Rattle.koika_syntax.proofs.Blanks.{literal_token, longest_word, longest_number, longest_literal, longest_symbol}
use Rattle.koika_syntax.proofs.Longest.{IsLongest-from_none_longer, NoneLonger-blank}
use Rattle.koika_syntax.proofs.Spans.{span}
use Rattle.koika_print.specs.Printed.{written, blank_after, blank_after_symbol, printed, IsWritable, AreWritable, IsLexedAs}

abbrev kind_of : Terminal → TokenKind
kind_of (name text) = kinds.Name
kind_of (number n) = kinds.Number n
kind_of (literal bits) = kinds.Literal bits
kind_of (keyword k) = kinds.Keyword k
kind_of (symbol s) = kinds.Symbol s

is_token : (t : Terminal) → IsWritable t → IsToken (kind_of t) (written t)
is_token (name text) is = is
is_token (number n) below = let numeral = decimal_is_IsNumeral n (omega (arith, below)) in (numeral.0, sym numeral.1, below)
is_token (literal bits) is = literal_token bits is
is_token (keyword k) _ = refl
is_token (symbol s) _ = refl

is_longest : (t : Terminal) (b : ℕ) (rest : List ℕ) → IsWritable t → is_blank b ≡ true → IsLongest (written t) (b ∷ rest)
is_longest (name text) b rest is blank = longest_word text b rest is.0 blank
is_longest (number n) b rest below blank = longest_number (decimal n) b rest (decimal_is_IsNumeral n (omega (arith, below))).0 blank
is_longest (literal bits) b rest is blank = longest_literal bits b rest is blank
is_longest (keyword k) b rest _ blank = longest_word (keyword_text k) b rest (IsWord-keyword_text k) blank
is_longest (symbol s) b rest _ blank = longest_symbol s b rest blank

blank_symbol : (s : Symbol) → is_blank (blank_after_symbol s) ≡ true
blank_symbol symbols.Semicolon = refl
blank_symbol symbols.LeftBrace = refl
blank_symbol symbols.RightBrace = refl
blank_symbol _ = refl

is_blank_after : (t : Terminal) → is_blank (blank_after t) ≡ true
is_blank_after (name text) = refl
is_blank_after (number n) = refl
is_blank_after (literal bits) = refl
is_blank_after (keyword k) = refl
is_blank_after (symbol s) = blank_symbol s

abbrev pieces_of : List Leaf → List Piece
pieces_of [] = []
pieces_of (leaf ∷ leaves) = Piece.token (kind_of leaf.terminal) (written leaf.terminal) ∷ Piece.gap (blank_after leaf.terminal ∷ []) ∷ pieces_of leaves

is_cut : (leaves : List Leaf) → AreWritable leaves → IsCut (pieces_of leaves) (printed leaves) []
is_cut [] _ = refl
is_cut (leaf ∷ leaves) writable =
    let t = leaf.terminal in
    let b = blank_after t in
    let blank = is_blank_after t in (
      b ∷ printed leaves,
      append_assoc (written t) (b ∷ []) (printed leaves),
      is_token t writable.0,
      is_longest t b (printed leaves) writable.0 blank,
      (
        printed leaves,
        refl,
        inl (b, refl, blank),
        IsLongest-from_none_longer (b ∷ []) (printed leaves) (NoneLonger-blank b (printed leaves) blank),
        is_cut leaves writable.1,
      ),
    )

-- the bytes at a token's span
slice_span : (before bytes after : List ℕ) → slice_range (before ++ (bytes ++ after)) (length before) (length (before ++ bytes)) ≡ bytes
slice_span before bytes after =
    let width : length (before ++ bytes) - length before ≡ length bytes = omega (arith, length-append before bytes) in
    ap (take (length (before ++ bytes) - length before)) (drop-append_seam before (bytes ++ after)) ∙ ap (λ n. take n (bytes ++ after)) width ∙ take-append_seam bytes after

terminal_at : (t : Terminal) (before after : List ℕ) → terminal_of (before ++ (written t ++ after)) (span (kind_of t) before (written t)) ≡ t
terminal_at (name text) before after = ap name (slice_span before text after)
terminal_at (number n) before after = refl
terminal_at (literal bits) before after = refl
terminal_at (keyword k) before after = refl
terminal_at (symbol s) before after = refl

same_terminals : (before : List ℕ) (leaves : List Leaf) (text : List ℕ) → text ≡ before ++ printed leaves →
    map (terminal_of text) (tokens_behind before (pieces_of leaves)) ≡ map (λ leaf. leaf.terminal) leaves
same_terminals before [] text is = refl
same_terminals before (leaf ∷ leaves) text is =
    let t = leaf.terminal in
    let b = blank_after t in
    let here : text ≡ before ++ (written t ++ b ∷ printed leaves) = is ∙ ap (λ l. before ++ l) (append_assoc (written t) (b ∷ []) (printed leaves)) in
    let first : terminal_of text (span (kind_of t) before (written t)) ≡ t = ap (λ l. terminal_of l (span (kind_of t) before (written t))) here ∙ terminal_at t before (b ∷ printed leaves) in
    let behind : text ≡ ((before ++ written t) ++ b ∷ []) ++ printed leaves = here ∙ sym (append_assoc before (written t) (b ∷ printed leaves)) ∙ sym (append_assoc (before ++ written t) (b ∷ []) (printed leaves)) in
    let later = same_terminals ((before ++ written t) ++ b ∷ []) leaves text behind in
    λ i. first i ∷ later i

is_lexed : (leaves : List Leaf) → AreWritable leaves → IsLexedAs (printed leaves) leaves
is_lexed leaves writable = record {
  tokens = tokens_behind [] (pieces_of leaves);
  are = record { pieces = pieces_of leaves; cut = is_cut leaves writable; spans = refl };
  same = same_terminals [] leaves (printed leaves) refl;
}

pub lexed_text : (text : List ℕ) (leaves : List Leaf) → text ≡ printed leaves → AreWritable leaves → IsLexedAs text leaves
lexed_text text leaves is writable = subst (λ l. IsLexedAs l leaves) (sym is) (is_lexed leaves writable)
