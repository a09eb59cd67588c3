-- The tokens of a text stand at their spans, and their spans ascend.
use Rattle.std.proofs.Common.{◌≡◌, ℕ, ◌-◌, ◌<◌, ◌≤◌, List, [], ◌∷◌, ◌++◌, length, length-append, take, sym, ap, ◌∙◌, subst, arith}
use Rattle.std.specs.Prelude.{All, slice_range}
use Rattle.std.proofs.lemmas.List.{append_assoc}
use Rattle.std.proofs.lemmas.List.Elements.{All-cons}
use Rattle.std.proofs.lemmas.List.Kept.{AllPairs-cons}
use Rattle.std.proofs.Math.Seq.{take-append_seam, drop-append_seam}
use Rattle.koika_syntax.specs.Tokens.{IsToken, Piece, IsCut, tokens_behind, AreTokensOf, StandsIn, AreAscending}
use Rattle.koika_syntax.specs.declared.token.Token.{Token}
use Rattle.koika_syntax.specs.declared.token.TokenKind.{TokenKind}
use Rattle.koika_syntax.proofs.Cuts.{length-piece}

abbrev pub span : TokenKind → List ℕ → List ℕ → Token
span kind before bytes = record { kind = kind; start = length before; end = length (before ++ bytes) }

-- one token at its span
StandsIn-span : (before bytes after : List ℕ) (kind : TokenKind) → IsToken kind bytes → 0 < length bytes → StandsIn (before ++ (bytes ++ after)) (span kind before bytes)
StandsIn-span before bytes after kind is some =
    let size = length-append before bytes in
    let width : length (before ++ bytes) - length before ≡ length bytes = omega (arith, size) in
    let slice : slice_range (before ++ (bytes ++ after)) (length before) (length (before ++ bytes)) ≡ bytes =
    ap (take (length (before ++ bytes) - length before)) (drop-append_seam before (bytes ++ after)) ∙ ap (λ n. take n (bytes ++ after)) width ∙ take-append_seam bytes after in
    record {
      some_byte = omega (arith, size, some);
      within = omega (arith, size, length-append before (bytes ++ after), length-append bytes after);
      bytes = subst (IsToken kind) (sym slice) is;
    }

-- the text, with what stands before it, once its first bytes are put before it
regrouped : (before bytes after text : List ℕ) → text ≡ bytes ++ after → (before ++ bytes) ++ after ≡ before ++ text
regrouped before bytes after text split = append_assoc before bytes after ∙ ap (λ l. before ++ l) (sym split)

stand : (before : List ℕ) (pieces : List Piece) (text rest : List ℕ) → IsCut pieces text rest → All (StandsIn (before ++ text)) (tokens_behind before pieces)
stand before [] text rest cut = λ k d within. absurd (omega arith)
stand before (Piece.gap bytes ∷ pieces) text rest cut =
    subst (λ l. All (StandsIn l) (tokens_behind (before ++ bytes) pieces)) (regrouped before bytes cut.0 text cut.1) (stand (before ++ bytes) pieces cut.0 rest cut.4)
stand before (Piece.token kind bytes ∷ pieces) text rest cut =
    let here = StandsIn-span before bytes cut.0 kind cut.2 (length-piece (Piece.token kind bytes) cut.2) in
    let later = subst (λ l. All (StandsIn l) (tokens_behind (before ++ bytes) pieces)) (regrouped before bytes cut.0 text cut.1) (stand (before ++ bytes) pieces cut.0 rest cut.4) in
    All-cons (StandsIn (before ++ text)) (span kind before bytes) (tokens_behind (before ++ bytes) pieces)
    (subst (λ l. StandsIn (before ++ l) (span kind before bytes)) (sym cut.1) here)
    later

begin_behind : (before : List ℕ) (low : ℕ) (pieces : List Piece) → low ≤ length before → All (λ (t : Token). low ≤ t.start) (tokens_behind before pieces)
begin_behind before low [] below = λ k d within. absurd (omega arith)
begin_behind before low (Piece.gap bytes ∷ pieces) below = begin_behind (before ++ bytes) low pieces (omega (arith, below, length-append before bytes))
begin_behind before low (Piece.token kind bytes ∷ pieces) below =
    All-cons (λ (t : Token). low ≤ t.start) (span kind before bytes) (tokens_behind (before ++ bytes) pieces) below
    (begin_behind (before ++ bytes) low pieces (omega (arith, below, length-append before bytes)))

ascend : (before : List ℕ) (pieces : List Piece) → AreAscending (tokens_behind before pieces)
ascend before [] = λ i j d lower within. absurd (omega arith)
ascend before (Piece.gap bytes ∷ pieces) = ascend (before ++ bytes) pieces
ascend before (Piece.token kind bytes ∷ pieces) =
    AllPairs-cons (λ (a b : Token). a.end ≤ b.start) (span kind before bytes) (tokens_behind (before ++ bytes) pieces)
    (begin_behind (before ++ bytes) (length (before ++ bytes)) pieces (omega arith))
    (ascend (before ++ bytes) pieces)

-- each token stands at its span
pub tokens_stand : (tokens : List Token) (text : List ℕ) → AreTokensOf tokens text → All (StandsIn text) tokens
tokens_stand tokens text are = subst (All (StandsIn text)) (sym are.spans) (stand [] are.pieces text [] are.cut)

-- and their spans ascend
pub tokens_ascend : (tokens : List Token) (text : List ℕ) → AreTokensOf tokens text → AreAscending tokens
tokens_ascend tokens text are = subst AreAscending (sym are.spans) (ascend [] are.pieces)
