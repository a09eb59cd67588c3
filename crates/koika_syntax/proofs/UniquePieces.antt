-- A text begins with one piece or with one fault, and is cut in one way.
use Rattle.std.proofs.Common.{◌≡◌, ◌≢◌, ℕ, List, ◌++◌, length, sym, ap, ◌∙◌, subst, arith, ⊎_elim, ◌⊎◌}
use Rattle.kw_bits.specs.BitVector.{IsBitVector}
use Rattle.koika_syntax.specs.Lexemes.{LexemeKind, HasKind, LiteralParts, IsLongest}
use Rattle.koika_syntax.specs.Tokens.{IsToken, literal_width, value_of, Piece, bytes_of, IsPiece}
use Rattle.koika_syntax.specs.TokenFaults.{IsWrongLexeme, BeginsStray, BeginsWrong, BeginsFaulty}
use Rattle.koika_syntax.specs.declared.token.TokenKind.{TokenKind}
use Rattle.koika_syntax.specs.declared.token.TokenKind.TheVariants as kinds
use Rattle.koika_syntax.proofs.KeywordTable.{length-keyword_text}
use Rattle.koika_syntax.proofs.Unique.{same_longest, same_kind, same_parts, kind_of, HasKind-token, same_token}

-- a piece is a lexeme
pub kind_of_piece : (piece : Piece) → IsPiece piece → (kind : LexemeKind) × HasKind kind (bytes_of piece)
kind_of_piece (Piece.gap bytes) is = ⊎_elim (λ h. (LexemeKind.blank, h)) (λ h. (LexemeKind.comment, h)) is
kind_of_piece (Piece.token kind bytes) is = (kind_of kind, HasKind-token kind bytes is)

not_blank : (kind : TokenKind) → LexemeKind.blank ≢ kind_of kind
not_blank kinds.Name = λ e. cc
not_blank (kinds.Number n) = λ e. cc
not_blank (kinds.Literal bits) = λ e. cc
not_blank (kinds.Keyword keyword) = λ e. cc
not_blank (kinds.Symbol symbol) = λ e. cc

not_comment : (kind : TokenKind) → LexemeKind.comment ≢ kind_of kind
not_comment kinds.Name = λ e. cc
not_comment (kinds.Number n) = λ e. cc
not_comment (kinds.Literal bits) = λ e. cc
not_comment (kinds.Keyword keyword) = λ e. cc
not_comment (kinds.Symbol symbol) = λ e. cc

gap_not_token : (kind : TokenKind) (bytes : List ℕ) → HasKind LexemeKind.blank bytes ⊎ HasKind LexemeKind.comment bytes → IsToken kind bytes → ⊥
gap_not_token kind bytes gap is =
    ⊎_elim
    (λ blank. not_blank kind (same_kind LexemeKind.blank (kind_of kind) bytes blank (HasKind-token kind bytes is)))
    (λ comment. not_comment kind (same_kind LexemeKind.comment (kind_of kind) bytes comment (HasKind-token kind bytes is)))
    gap

-- bytes are one piece
same_piece : (p q : Piece) → bytes_of p ≡ bytes_of q → IsPiece p → IsPiece q → p ≡ q
same_piece (Piece.gap a) (Piece.gap b) same is is' = ap Piece.gap same
same_piece (Piece.gap a) (Piece.token k b) same is is' = absurd (gap_not_token k a is (subst (IsToken k) (sym same) is'))
same_piece (Piece.token k a) (Piece.gap b) same is is' = absurd (gap_not_token k b is' (subst (IsToken k) same is))
same_piece (Piece.token k a) (Piece.token j b) same is is' =
    let kind = same_token k j a is (subst (IsToken j) (sym same) is') in (λ i. Piece.token (kind i) (same i))

-- a text begins with one piece
pub same_front : (p q : Piece) (ys vs : List ℕ) → bytes_of p ++ ys ≡ bytes_of q ++ vs → IsPiece p → IsLongest (bytes_of p) ys → IsPiece q → IsLongest (bytes_of q) vs → (p ≡ q) × (ys ≡ vs)
same_front p q ys vs whole is longest is' longest' =
    let s = kind_of_piece p is in
    let t = kind_of_piece q is' in
    let same = same_longest s.0 t.0 (bytes_of p) ys (bytes_of q) vs whole s.1 longest t.1 longest' in
    (same_piece p q same.0 is is', same.1)

token_not_wrong : (kind : TokenKind) (bytes : List ℕ) (number offset : ℕ) → IsToken kind bytes → IsWrongLexeme (kind_of kind) bytes number offset → ⊥
token_not_wrong kinds.Name bytes number offset is wrong = omega (arith, is.1, wrong.0)
token_not_wrong (kinds.Number n) bytes number offset is wrong = omega (arith, is.1, is.2, wrong.0)
token_not_wrong (kinds.Literal bits) bytes number offset (parts, literal, of) (other, literal', absent, _, _) =
    absurd (absent (subst (λ (p : LiteralParts). IsBitVector (literal_width p) (value_of p)) (same_parts parts other bytes literal literal') of.in_range))
token_not_wrong (kinds.Keyword keyword) bytes number offset is wrong = omega (arith, wrong.0, ap length is, length-keyword_text keyword)
token_not_wrong (kinds.Symbol symbol) bytes number offset is wrong = wrong

piece_not_wrong : (piece : Piece) (kind : LexemeKind) (number offset : ℕ) → IsPiece piece → HasKind kind (bytes_of piece) → IsWrongLexeme kind (bytes_of piece) number offset → ⊥
piece_not_wrong (Piece.gap bytes) kind number offset is has wrong =
    ⊎_elim
    (λ blank. let w : ⊥ = subst (λ (s : LexemeKind). IsWrongLexeme s bytes number offset) (same_kind kind LexemeKind.blank bytes has blank) wrong in w)
    (λ comment. let w : ⊥ = subst (λ (s : LexemeKind). IsWrongLexeme s bytes number offset) (same_kind kind LexemeKind.comment bytes has comment) wrong in w)
    is
piece_not_wrong (Piece.token token_kind bytes) kind number offset is has wrong =
    token_not_wrong token_kind bytes number offset is
    (subst (λ (s : LexemeKind). IsWrongLexeme s bytes number offset) (same_kind kind (kind_of token_kind) bytes has (HasKind-token token_kind bytes is)) wrong)

-- a text that begins with a piece doesn't begin with a fault
pub piece_not_faulty : (piece : Piece) (after text : List ℕ) (number offset : ℕ) → text ≡ bytes_of piece ++ after → IsPiece piece → IsLongest (bytes_of piece) after → BeginsFaulty text number offset → ⊥
piece_not_faulty piece after text number offset front is longest faulty =
    let s = kind_of_piece piece is in
    ⊎_elim
    (λ (stray : BeginsStray text number offset). stray.stray s.0 (bytes_of piece) after front s.1)
    (λ (wrong : BeginsWrong text number offset).
    let same = same_longest wrong.kind s.0 wrong.bytes wrong.after (bytes_of piece) after (sym wrong.front ∙ front) wrong.lexeme wrong.longest s.1 longest in
    piece_not_wrong piece wrong.kind number offset is (subst (HasKind wrong.kind) same.0 wrong.lexeme)
    (subst (λ bytes. IsWrongLexeme wrong.kind bytes number offset) same.0 wrong.wrong))
    faulty

wrong_once : (kind : LexemeKind) (bytes : List ℕ) (n o m p : ℕ) → IsWrongLexeme kind bytes n o → IsWrongLexeme kind bytes m p → (n ≡ m) × (o ≡ p)
wrong_once LexemeKind.blank bytes n o m p wrong wrong' = absurd wrong
wrong_once LexemeKind.comment bytes n o m p wrong wrong' = absurd wrong
wrong_once LexemeKind.word bytes n o m p wrong wrong' = (wrong.1 ∙ sym wrong'.1, wrong.2 ∙ sym wrong'.2)
wrong_once LexemeKind.number bytes n o m p wrong wrong' = (wrong.1 ∙ sym wrong'.1, wrong.2 ∙ sym wrong'.2)
wrong_once LexemeKind.literal bytes n o m p wrong wrong' = (wrong.3 ∙ sym wrong'.3, wrong.4 ∙ sym wrong'.4)
wrong_once LexemeKind.unfinished bytes n o m p wrong wrong' = (wrong.0 ∙ sym wrong'.0, wrong.1 ∙ sym wrong'.1)
wrong_once LexemeKind.symbol bytes n o m p wrong wrong' = absurd wrong

same_wrong : (text : List ℕ) (n o m p : ℕ) → BeginsWrong text n o → BeginsWrong text m p → (n ≡ m) × (o ≡ p)
same_wrong text n o m p a b =
    let same = same_longest a.kind b.kind a.bytes a.after b.bytes b.after (sym a.front ∙ b.front) a.lexeme a.longest b.lexeme b.longest in
    let has = subst (HasKind b.kind) (sym same.0) b.lexeme in
    let kind = same_kind b.kind a.kind a.bytes has a.lexeme in
    let at_bytes = subst (λ bytes. IsWrongLexeme b.kind bytes m p) (sym same.0) b.wrong in
    wrong_once a.kind a.bytes n o m p a.wrong (subst (λ (s : LexemeKind). IsWrongLexeme s a.bytes m p) kind at_bytes)

-- a text begins with one fault
pub same_fault : (text : List ℕ) (n o m p : ℕ) → BeginsFaulty text n o → BeginsFaulty text m p → (n ≡ m) × (o ≡ p)
same_fault text n o m p a b =
    ⊎_elim
    (λ (stray : BeginsStray text n o).
    ⊎_elim
    (λ (other : BeginsStray text m p). (stray.number_is ∙ sym other.number_is, stray.offset_is ∙ sym other.offset_is))
    (λ (other : BeginsWrong text m p). absurd (stray.stray other.kind other.bytes other.after other.front other.lexeme))
    b)
    (λ (wrong : BeginsWrong text n o).
    ⊎_elim
    (λ (other : BeginsStray text m p). absurd (other.stray wrong.kind wrong.bytes wrong.after wrong.front wrong.lexeme))
    (λ (other : BeginsWrong text m p). same_wrong text n o m p wrong other)
    b)
    a
