-- A text is cut into pieces in one way, up to its end or to its first fault.
use Rattle.std.proofs.Common.{◌≡◌, ℕ, true, get_or, ◌+◌, ◌<◌, ◌≤◌, List, [], ◌∷◌, ◌++◌, length, length-append, length-drop, length-take-le, take, drop, take-append-drop, Option, Some, None, Result, Err, refl, sym, ap, ◌∙◌, subst, arith, ⊎_elim}
use Rattle.std.specs.List.{flat_map}
use Rattle.std.proofs.lemmas.List.{append_assoc, append-nil, drop_all, get_or-drop}
use Rattle.std.proofs.Math.Seq.{drop-append_seam}
use Rattle.kw_base.specs.Fault.{fault_at, IfFault, IsOkUnlessNoMemory, IsFaultUnlessNoMemory}
use Rattle.kw_base.specs.Place.{place_at}
use Rattle.kw_base.specs.declared.fault.Fault.{Fault}
use Rattle.kw_base.specs.declared.fault.Refusal.{Refusal}
use Rattle.kw_base.specs.declared.fault.Refusal.TheVariants as refusals
use Rattle.koika_syntax.specs.Lexemes.{is_blank, LexemeKind, IsLongest}
use Rattle.koika_syntax.specs.inner.LexemeAnswers.{BeginsWithPiece, tokens_of, HasRead, BeginsFault}
use Rattle.koika_syntax.specs.Tokens.{Piece, bytes_of, IsPiece, IsCut, tokens_behind, AreTokensOf}
use Rattle.koika_syntax.specs.TokenFaults.{IsWrongLexeme, BeginsStray, BeginsWrong, BeginsFaulty, IsFirstTokenFault}
use Rattle.koika_syntax.specs.declared.token.Token.{Token}
use Rattle.koika_syntax.specs.declared.token.TokenKind.{TokenKind}
use Rattle.koika_syntax.proofs.Fronts.{text_begins_blank}
use Rattle.koika_syntax.proofs.LexemeKinds.{length-lexeme}
use Rattle.koika_syntax.proofs.UniquePieces.{kind_of_piece, same_front, piece_not_faulty, same_fault}

-- no piece begins the text
abbrev Stops : List ℕ → Type 0
Stops text = (piece : Piece) (after : List ℕ) → text ≡ bytes_of piece ++ after → IsPiece piece → IsLongest (bytes_of piece) after → ⊥

pub length-piece : (piece : Piece) → IsPiece piece → 0 < length (bytes_of piece)
length-piece piece is = let s = kind_of_piece piece is in length-lexeme s.0 (bytes_of piece) s.1

Stops-end : Stops []
Stops-end piece after split is longest = omega (arith, length-piece piece is, ap length split, length-append (bytes_of piece) after)

Stops-faulty : (text : List ℕ) (number offset : ℕ) → BeginsFaulty text number offset → Stops text
Stops-faulty text number offset faulty piece after split is longest = piece_not_faulty piece after text number offset split is longest faulty

-- two cuts of a text that both go as far as pieces go are one
one_cut : (ps qs : List Piece) (text r s : List ℕ) → IsCut ps text r → Stops r → IsCut qs text s → Stops s → (ps ≡ qs) × (r ≡ s)
one_cut [] [] text r s a stops b stops' = (refl, sym a ∙ b)
one_cut [] (q ∷ qs) text r s a stops b stops' = absurd (stops q b.0 (sym a ∙ b.1) b.2 b.3)
one_cut (p ∷ ps) [] text r s a stops b stops' = absurd (stops' p a.0 (sym b ∙ a.1) a.2 a.3)
one_cut (p ∷ ps) (q ∷ qs) text r s a stops b stops' =
    let same = same_front p q a.0 b.0 (sym a.1 ∙ b.1) a.2 a.3 b.2 b.3 in
    let rest = one_cut ps qs b.0 r s (subst (λ l. IsCut ps l r) same.1 a.4) stops b.4 stops' in
    ((λ i. same.0 i ∷ rest.0 i), rest.1)

-- the tokens of a text are one list
pub one_list : (text : List ℕ) (a b : List Token) → AreTokensOf a text → AreTokensOf b text → a ≡ b
one_list text a b are are' =
    let same = one_cut are.pieces are'.pieces text [] [] are.cut Stops-end are'.cut Stops-end in
    are.spans ∙ ap (tokens_behind []) same.0 ∙ sym are'.spans

faulty_some : (number offset : ℕ) → BeginsFaulty [] number offset → ⊥
faulty_some number offset faulty =
    ⊎_elim
    (λ (stray : BeginsStray [] number offset). let some = stray.some_byte in omega (arith, some))
    (λ (wrong : BeginsWrong [] number offset). omega (arith, length-lexeme wrong.kind wrong.bytes wrong.lexeme, ap length wrong.front, length-append wrong.bytes wrong.after))
    faulty

-- no text has tokens and a fault
pub tokens_or_fault : (text : List ℕ) (tokens : List Token) (fault : Fault) → AreTokensOf tokens text → IsFirstTokenFault text fault → ⊥
tokens_or_fault text tokens fault are first =
    let same = one_cut are.pieces first.pieces text [] first.rest are.cut Stops-end first.cut (Stops-faulty first.rest fault.number first.offset first.faulty) in
    faulty_some fault.number first.offset (subst (λ l. BeginsFaulty l fault.number first.offset) (sym same.1) first.faulty)

-- the first fault of a text is one
pub one_fault : (text : List ℕ) (f g : Fault) → IsFirstTokenFault text f → IsFirstTokenFault text g → f ≡ g
one_fault text f g a b =
    let same = one_cut a.pieces b.pieces text a.rest b.rest a.cut (Stops-faulty a.rest f.number a.offset a.faulty) b.cut (Stops-faulty b.rest g.number b.offset b.faulty) in
    let at = same_fault b.rest f.number a.offset g.number b.offset (subst (λ l. BeginsFaulty l f.number a.offset) same.1 a.faulty) b.faulty in
    a.place ∙ (λ i. fault_at (at.0 i) (place_at text (length (flat_map bytes_of (same.0 i)) + at.1 i))) ∙ sym b.place

-- cuts of two parts make one of the whole
IsCut-append : (ps qs : List Piece) (text middle rest : List ℕ) → IsCut ps text middle → IsCut qs middle rest → IsCut (ps ++ qs) text rest
IsCut-append [] qs text middle rest a b = subst (λ l. IsCut qs l rest) (sym a) b
IsCut-append (p ∷ ps) qs text middle rest a b = (a.0, a.1, a.2, a.3, IsCut-append ps qs a.0 middle rest a.4 b)

tokens_behind-append : (before : List ℕ) (ps qs : List Piece) → tokens_behind before (ps ++ qs) ≡ tokens_behind before ps ++ tokens_behind (before ++ flat_map bytes_of ps) qs
tokens_behind-append before [] qs = ap (λ l. tokens_behind l qs) (sym (append-nil before))
tokens_behind-append before (Piece.gap bytes ∷ ps) qs =
    tokens_behind-append (before ++ bytes) ps qs ∙ ap (λ l. tokens_behind (before ++ bytes) ps ++ tokens_behind l qs) (append_assoc before bytes (flat_map bytes_of ps))
tokens_behind-append before (Piece.token kind bytes ∷ ps) qs =
    ap (λ l. record { kind = kind; start = length before; end = length (before ++ bytes) } ∷ l)
    (tokens_behind-append (before ++ bytes) ps qs ∙ ap (λ l. tokens_behind (before ++ bytes) ps ++ tokens_behind l qs) (append_assoc before bytes (flat_map bytes_of ps)))

flat_map-append : (ps qs : List Piece) → flat_map bytes_of (ps ++ qs) ≡ flat_map bytes_of ps ++ flat_map bytes_of qs
flat_map-append [] qs = refl
flat_map-append (p ∷ ps) qs = ap (λ l. bytes_of p ++ l) (flat_map-append ps qs) ∙ sym (append_assoc (bytes_of p) (flat_map bytes_of ps) (flat_map bytes_of qs))

-- the text up to an offset is cut into pieces, and these are the tokens among them
pub record CutTo (text : List ℕ) (tokens : List Token) (offset : ℕ) : Type 0 where
  pub pieces : List Piece
  pub cut : IsCut pieces text (drop offset text)
  pub spans : tokens ≡ tokens_behind [] pieces
  pub offset_is : length (flat_map bytes_of pieces) ≡ offset
  pub within : offset ≤ length text

pub CutTo-start : (text : List ℕ) → CutTo text [] 0
CutTo-start text = record { pieces = []; cut = refl; spans = refl; offset_is = refl; within = omega arith }

-- what follows some bytes that stand at an offset
behind_bytes : (text bytes after : List ℕ) (offset : ℕ) → offset ≤ length text → drop offset text ≡ bytes ++ after → after ≡ drop (offset + length bytes) text
behind_bytes text bytes after offset within split =
    let front = take offset text ++ bytes in
    let whole : text ≡ front ++ after = sym (take-append-drop offset text) ∙ ap (λ l. take offset text ++ l) split ∙ sym (append_assoc (take offset text) bytes after) in
    let size : length front ≡ offset + length bytes = length-append (take offset text) bytes ∙ ap (λ n. n + length bytes) (length-take-le offset text within) in
    sym (ap (drop (offset + length bytes)) whole ∙ ap (λ n. drop n (front ++ after)) (sym size) ∙ drop-append_seam front after)

module _ (text : List ℕ) (tokens : List Token) (offset : ℕ) (so_far : CutTo text tokens offset) where
  -- one piece more
  with_piece : (piece : Piece) (after : List ℕ) (more : List Token) → drop offset text ≡ bytes_of piece ++ after → IsPiece piece → IsLongest (bytes_of piece) after
      → more ≡ tokens_behind (flat_map bytes_of so_far.pieces) (piece ∷ []) → CutTo text (tokens ++ more) (offset + length (bytes_of piece))
  with_piece piece after more split is longest more_is =
      let behind = behind_bytes text (bytes_of piece) after offset so_far.within split in
      let size = ap length split ∙ length-append (bytes_of piece) after in
      record {
        pieces = so_far.pieces ++ piece ∷ [];
        cut = IsCut-append so_far.pieces (piece ∷ []) text (drop offset text) (drop (offset + length (bytes_of piece)) text) so_far.cut (after, split, is, longest, behind);
        spans = ap (λ l. l ++ more) so_far.spans ∙ ap (λ l. tokens_behind [] so_far.pieces ++ l) more_is ∙ sym (tokens_behind-append [] so_far.pieces (piece ∷ []));
        offset_is =
            ap length (flat_map-append so_far.pieces (piece ∷ [])) ∙ length-append (flat_map bytes_of so_far.pieces) (bytes_of piece ++ []) ∙ (λ i. so_far.offset_is i + length (append-nil (bytes_of piece) i));
        within = omega (arith, size, length-drop offset text, so_far.within);
      }

  with_lexeme : (found : Option TokenKind) (len : ℕ) → BeginsWithPiece (drop offset text) found len → CutTo text (tokens ++ tokens_of found offset (offset + len)) (offset + len)
  with_lexeme None len begins =
      subst (λ n. CutTo text (tokens ++ []) (offset + n)) (sym begins.len_is) (with_piece (Piece.gap begins.bytes) begins.after [] begins.front begins.piece begins.longest refl)
  with_lexeme (Some kind) len begins =
      let front = flat_map bytes_of so_far.pieces in
      let end : length (front ++ begins.bytes) ≡ offset + len = length-append front begins.bytes ∙ (λ i. so_far.offset_is i + (sym begins.len_is) i) in
      let span : record { kind = kind; start = offset; end = offset + len } ∷ [] ≡ tokens_behind front (Piece.token kind begins.bytes ∷ []) =
      (λ i. record { kind = kind; start = (sym so_far.offset_is) i; end = (sym end) i } ∷ []) in
      subst (λ n. CutTo text (tokens ++ tokens_of (Some kind) offset (offset + len)) (offset + n)) (sym begins.len_is) (with_piece (Piece.token kind begins.bytes) begins.after (tokens_of (Some kind) offset (offset + len)) begins.front begins.piece begins.longest span)

  -- a blank
  pub CutTo-blank : offset < length text → is_blank (get_or text offset 0) ≡ true → CutTo text tokens (offset + 1)
  CutTo-blank within blank =
      let begins = text_begins_blank (drop offset text) (omega (arith, length-drop offset text)) (ap is_blank (get_or-drop offset text 0 0 ∙ ap (λ k. get_or text k 0) (omega arith)) ∙ blank) in
      subst (λ l. CutTo text l (offset + 1)) (append-nil tokens) (with_lexeme None 1 begins)

  -- a piece that was read
  pub CutTo-read : (after : List Token) (end : ℕ) → HasRead text offset tokens after end → CutTo text after end
  CutTo-read after end read =
      let cut = with_lexeme read.token read.len read.begins in
      let at_end = subst (λ n. CutTo text (tokens ++ tokens_of read.token offset n) n) (sym read.end_is) cut in
      subst (λ l. CutTo text l end) (sym read.tokens) at_end

  -- the end of the text
  pub CutTo-end : length text ≤ offset → AreTokensOf tokens text
  CutTo-end end = record {
    pieces = so_far.pieces;
    cut = subst (λ l. IsCut so_far.pieces text l) (drop_all offset text end) so_far.cut;
    spans = so_far.spans;
  }

  -- a fault
  pub CutTo-fault : (fault : Fault) → BeginsFault text offset fault → IsFirstTokenFault text fault
  CutTo-fault fault begins = record {
    pieces = so_far.pieces;
    rest = drop offset text;
    cut = so_far.cut;
    offset = begins.further;
    faulty = begins.faulty;
    place = begins.place ∙ ap (λ n. fault_at fault.number (place_at text (n + begins.further))) (sym so_far.offset_is);
  }

  -- what is refused for a fault behind the offset is refused for the first fault
  pub CutTo-refused : (refusal : Refusal) → IfFault {X = ℕ} (Err refusal) (BeginsFault text offset) → IfFault {X = ℕ} (Err refusal) (IsFirstTokenFault text)
  CutTo-refused (refusals.Fault fault) begins = CutTo-fault fault begins
  CutTo-refused refusals.NoMemory begins = tt

-- a text that is refused for its first fault has no tokens
pub refused-no_tokens : {X : Type 0} (text : List ℕ) (result : Result X Refusal) (refusal : Refusal) → result ≡ Err refusal → IfFault {X = ℕ} (Err refusal) (IsFirstTokenFault text)
    → (tokens : List Token) → AreTokensOf tokens text → (P : X → Type 0) → IsOkUnlessNoMemory result P
refused-no_tokens {X} text result refusal is first tokens are P = subst (λ r. IsOkUnlessNoMemory r P) (sym is) (by refusal first)
  where
    by : (r : Refusal) → IfFault {X = ℕ} (Err r) (IsFirstTokenFault text) → IsOkUnlessNoMemory {X = X} (Err r) P
    by (refusals.Fault fault) f = tokens_or_fault text tokens fault are f
    by refusals.NoMemory f = tt

-- nor another first fault
pub refused-one_fault : {X : Type 0} (text : List ℕ) (result : Result X Refusal) (refusal : Refusal) → result ≡ Err refusal → IfFault {X = ℕ} (Err refusal) (IsFirstTokenFault text)
    → (fault : Fault) → IsFirstTokenFault text fault → IsFaultUnlessNoMemory result fault
refused-one_fault {X} text result refusal is first other other_is = subst (λ r. IsFaultUnlessNoMemory r other) (sym is) (by refusal first)
  where
    by : (r : Refusal) → IfFault {X = ℕ} (Err r) (IsFirstTokenFault text) → IsFaultUnlessNoMemory {X = X} (Err r) other
    by (refusals.Fault fault) f = one_fault text fault other f other_is
    by refusals.NoMemory f = tt

wrong_within : (kind : LexemeKind) (bytes : List ℕ) (number offset : ℕ) → IsWrongLexeme kind bytes number offset → offset ≤ length bytes
wrong_within LexemeKind.blank bytes number offset wrong = absurd wrong
wrong_within LexemeKind.comment bytes number offset wrong = absurd wrong
wrong_within LexemeKind.word bytes number offset wrong = omega (arith, wrong.2)
wrong_within LexemeKind.number bytes number offset wrong = omega (arith, wrong.2)
wrong_within LexemeKind.literal bytes number offset wrong = omega (arith, wrong.4)
wrong_within LexemeKind.unfinished bytes number offset wrong = omega (arith, wrong.1)
wrong_within LexemeKind.symbol bytes number offset wrong = absurd wrong

-- a fault stands within the text, or at its end
pub faulty_within : (text : List ℕ) (number offset : ℕ) → BeginsFaulty text number offset → offset ≤ length text
faulty_within text number offset faulty =
    ⊎_elim
    (λ (stray : BeginsStray text number offset). let start = stray.offset_is in omega (arith, start))
    (λ (wrong : BeginsWrong text number offset).
    let size = ap length wrong.front ∙ length-append wrong.bytes wrong.after in
    let at = wrong_within wrong.kind wrong.bytes number offset wrong.wrong in
    omega (arith, size, at))
    faulty

-- so does a piece
pub piece_within : (text : List ℕ) (token : Option TokenKind) (len : ℕ) → BeginsWithPiece text token len → len ≤ length text
piece_within text token len begins =
    let size = ap length begins.front ∙ length-append begins.bytes begins.after in
    omega (arith, begins.len_is, size)

-- in a text that isn't too long
pub piece_fits : (text : List ℕ) (offset : ℕ) (token : Option TokenKind) (len : ℕ) → length text ≤ 1048576 → offset ≤ length text → BeginsWithPiece (drop offset text) token len → offset + len ≤ 1048576
piece_fits text offset token len short within begins = omega (arith, piece_within (drop offset text) token len begins, length-drop offset text, short, within)
