-- A source that is read line by line, up to its mark and after it.
use Rattle.std.proofs.Common.{◌≡◌, ℕ, suc, ◌+◌, ◌-◌, ◌<◌, ◌≤◌, Bool, true, false, List, [], ◌∷◌, ◌++◌, length, length-append, take, refl, sym, ap, subst, ◌∙◌, append_assoc, append-nil, arith}
use Rattle.std.specs.List.{join_with_byte, onto_first, slice_split}
use Rattle.std.proofs.lemmas.List.{length-take-le, take_all}
use Rattle.std.proofs.lemmas.List.Splits.{join_with_byte-slice_split, length-slice_split, slice_split-cons_no, slice_split_at, slice_split_none}
use Rattle.std.proofs.Math.Seq.{take-append_seam}
use Rattle.kw_base.specs.Place.{capped}
use Rattle.kw_base.specs.Texts.{but_empty_last, ends_line}
use Rattle.stim_report.specs.Cuts.{SourceParts, is_mark, parts_of}
use Rattle.stim_report.proofs.SourceInTurn.{HasPassed, is_next, none_passed, one_passed, parts_marked, parts_unmarked, pieces}
use Rattle.stream_run.specs.Lines.{head_of}
use Rattle.stream_run.specs.inner.Reading.{HasHead, IsOneLine}

-- ---- lines

-- a line and its line feed before bytes
pub pieces-more : (line rest : List ℕ) → IsOneLine line → pieces (line ++ 10 ∷ rest) ≡ line ∷ pieces rest
pieces-more line rest one = slice_split_at ends_line line 10 rest one refl

pub pieces-one : (line : List ℕ) → IsOneLine line → pieces line ≡ line ∷ []
pieces-one line one = slice_split_none ends_line line one

-- there is a piece
pub some_piece : (bytes : List ℕ) → 0 < length (pieces bytes)
some_piece bytes = omega (arith, length-slice_split ends_line bytes)

-- a line that goes on is the front of the first piece
pub record GoesOn (line more : List ℕ) : Type 0 where
  pub end : List ℕ
  pub later : List (List ℕ)
  pub first : pieces (line ++ more) ≡ (line ++ end) ∷ later

first_piece : (bytes : List ℕ) (ps : List (List ℕ)) → pieces bytes ≡ ps → 0 < length ps → GoesOn [] bytes
first_piece bytes [] is some = absurd (omega (arith, some))
first_piece bytes (p ∷ ps) is some = record { end = p; later = ps; first = is }

pub goes_on : (line more : List ℕ) → IsOneLine line → GoesOn line more
goes_on [] more one = first_piece more (pieces more) refl (some_piece more)
goes_on (b ∷ line) more one =
    let rest = goes_on line more (λ k d within. one (suc k) d (omega (arith, within))) in
    record {
      end = rest.end;
      later = rest.later;
      first = slice_split-cons_no ends_line b (line ++ more) (one 0 b (omega arith)) ∙ ap (onto_first b) rest.first;
    }

-- ---- what comes after the mark

-- no more than what comes after the next line
pub stimulus_behind : (bytes line : List ℕ) (later : List (List ℕ)) (lines : ℕ) → HasPassed bytes lines (line ∷ later) → (marked : Bool) → is_mark line ≡ marked
    → length (parts_of bytes).stimulus ≤ length (join_with_byte 10 later)
stimulus_behind bytes line later lines passed true marked =
    let same = ap (λ (p : SourceParts). length p.stimulus) (parts_marked bytes line later lines passed marked) in
    omega (arith, same)
stimulus_behind bytes line [] lines passed false unmarked =
    let same = ap (λ (p : SourceParts). length p.stimulus) (parts_unmarked bytes (lines + 1) (one_passed bytes lines line [] passed unmarked)) in
    omega (arith, same)
stimulus_behind bytes line (next ∷ later) lines passed false unmarked =
    let rest = stimulus_behind bytes next later (lines + 1) (one_passed bytes lines line (next ∷ later) passed unmarked) (is_mark next) refl in
    omega (arith, rest, joined next later)
  where
    joined : (next : List ℕ) (later : List (List ℕ)) → length (join_with_byte 10 later) ≤ length (join_with_byte 10 (next ∷ later))
    joined next [] = omega arith
    joined next (p ∷ later) = omega (arith, length-append next (10 ∷ join_with_byte 10 (p ∷ later)))

-- a head is as long as what doesn't come after it
pub head_length : (bytes : List ℕ) (front rest : List ℕ) → bytes ≡ front ++ rest → length (parts_of bytes).stimulus ≤ length rest → length front ≤ length (head_of bytes)
unfolding head_of
head_length bytes front rest is few =
    let few_bytes : length bytes - length (parts_of bytes).stimulus ≤ length bytes = omega arith in
    omega (arith, ap length is, length-append front rest, length-take-le (length bytes - length (parts_of bytes).stimulus) bytes few_bytes)

-- ---- the head

-- so many lines were passed whatever follows them, none of them the mark
abbrev pub Passed : List ℕ → ℕ → Type 0
Passed head lines = (rest : List ℕ) → HasPassed (head ++ rest) lines (pieces rest)

pub passed-none : Passed [] 0
passed-none rest = none_passed rest

-- the next line, whatever follows it
passed-line : (head line : List ℕ) (lines : ℕ) → Passed head lines → IsOneLine line → (rest : List ℕ) → HasPassed ((head ++ line ++ 10 ∷ []) ++ rest) lines (line ∷ pieces rest)
passed-line head line lines passed one rest =
    let whole : head ++ (line ++ 10 ∷ rest) ≡ (head ++ line ++ 10 ∷ []) ++ rest =
    sym (append_assoc head line (10 ∷ rest)) ∙ sym (append_assoc (head ++ line) (10 ∷ []) rest) in
    subst (λ (bytes : List ℕ). HasPassed bytes lines (line ∷ pieces rest)) whole
    (subst (λ (left : List (List ℕ)). HasPassed (head ++ (line ++ 10 ∷ rest)) lines left) (pieces-more line rest one) (passed (line ++ 10 ∷ rest)))

pub passed-more : (head line : List ℕ) (lines : ℕ) → Passed head lines → IsOneLine line → is_mark line ≡ false → Passed (head ++ line ++ 10 ∷ []) (lines + 1)
passed-more head line lines passed one unmarked rest = one_passed _ lines line (pieces rest) (passed-line head line lines passed one rest) unmarked

-- the bytes but those that come after them
head-is : (head rest : List ℕ) → (parts_of (head ++ rest)).stimulus ≡ rest → head_of (head ++ rest) ≡ head
unfolding head_of
head-is head rest is =
    let count : length (head ++ rest) - length (parts_of (head ++ rest)).stimulus ≡ length head = omega (arith, ap length is, length-append head rest) in
    ap (λ n. take n (head ++ rest)) count ∙ take-append_seam head rest

-- a head that ends with the mark
module _ (head line : List ℕ) (lines : ℕ) (passed : Passed head lines) (one : IsOneLine line) (marked : is_mark line ≡ true) where
  abbrev marked_head : List ℕ
  marked_head = head ++ line ++ 10 ∷ []

  parts-behind : (rest : List ℕ) → (parts_of (marked_head ++ rest)).stimulus ≡ rest
  parts-behind rest =
      ap (λ (p : SourceParts). p.stimulus) (parts_marked (marked_head ++ rest) line (pieces rest) lines (passed-line head line lines passed one rest) marked) ∙ join_with_byte-slice_split 10 rest

  parts-number : (rest : List ℕ) → (parts_of (marked_head ++ rest)).first_line ≡ capped (lines + 2)
  parts-number rest = ap (λ (p : SourceParts). p.first_line) (parts_marked (marked_head ++ rest) line (pieces rest) lines (passed-line head line lines passed one rest) marked)

  -- whatever follows it
  pub head-marked : (rest : List ℕ) → HasHead (marked_head ++ rest) marked_head rest
  head-marked rest = record {
    head = head-is marked_head rest (parts-behind rest);
    rest = parts-behind rest;
    line = parts-number rest ∙ sym (parts-number []) ∙ ap (λ (bytes : List ℕ). (parts_of bytes).first_line) (append-nil marked_head);
    alone = ap (λ (bytes : List ℕ). (parts_of bytes).stimulus) (sym (append-nil marked_head)) ∙ parts-behind [];
  }

-- a head that is all there is
pub head-all : (head line : List ℕ) (lines : ℕ) → Passed head lines → IsOneLine line → HasHead (head ++ line) (head ++ line) []
head-all head line lines passed one = record { head = all; rest = none (is_mark line) refl; line = refl; alone = none (is_mark line) refl }
  where
    last : HasPassed (head ++ line) lines (line ∷ [])
    last = subst (λ (left : List (List ℕ)). HasPassed (head ++ line) lines left) (pieces-one line one) (passed line)

    none : (marked : Bool) → is_mark line ≡ marked → (parts_of (head ++ line)).stimulus ≡ []
    none true marked = ap (λ (p : SourceParts). p.stimulus) (parts_marked (head ++ line) line [] lines last marked)
    none false unmarked = ap (λ (p : SourceParts). p.stimulus) (parts_unmarked (head ++ line) (lines + 1) (one_passed (head ++ line) lines line [] last unmarked))

    all : head_of (head ++ line) ≡ head ++ line
    all = ap head_of (sym (append-nil (head ++ line))) ∙ head-is (head ++ line) [] (ap (λ (bytes : List ℕ). (parts_of bytes).stimulus) (append-nil (head ++ line)) ∙ none (is_mark line) refl)

-- a head is at least as long as what was read of it, with a line's line feed
pub long-whole : (head line : List ℕ) (lines : ℕ) → Passed head lines → IsOneLine line → (rest : List ℕ) → length (head ++ line ++ 10 ∷ []) ≤ length (head_of ((head ++ line ++ 10 ∷ []) ++ rest))
long-whole head line lines passed one rest =
    let front = head ++ line ++ 10 ∷ [] in
    let few = stimulus_behind (front ++ rest) line (pieces rest) lines (passed-line head line lines passed one rest) (is_mark line) refl in
    head_length (front ++ rest) front rest refl (omega (arith, few, ap length (join_with_byte-slice_split 10 rest)))

-- or without it
pub long-broken : (head line : List ℕ) (lines : ℕ) → Passed head lines → IsOneLine line → (rest : List ℕ) → length (head ++ line) ≤ length (head_of ((head ++ line) ++ rest))
long-broken head line lines passed one rest =
    let on = goes_on line rest one in
    let first = line ++ on.end in
    let whole : head ++ (line ++ rest) ≡ (head ++ line) ++ rest = sym (append_assoc head line rest) in
    let here : HasPassed ((head ++ line) ++ rest) lines (first ∷ on.later) =
    subst (λ (bytes : List ℕ). HasPassed bytes lines (first ∷ on.later)) whole (subst (λ (left : List (List ℕ)). HasPassed (head ++ (line ++ rest)) lines left) on.first (passed (line ++ rest))) in
    let few = stimulus_behind ((head ++ line) ++ rest) first on.later lines here (is_mark first) refl in
    let same : join_with_byte 10 (first ∷ on.later) ≡ line ++ rest = ap (join_with_byte 10) (sym on.first) ∙ join_with_byte-slice_split 10 (line ++ rest) in
    head_length ((head ++ line) ++ rest) (head ++ line) rest refl (omega (arith, few, behind first on.later, ap length same, length-append line rest, length-append line on.end))
  where
    behind : (first : List ℕ) (later : List (List ℕ)) → length first + length (join_with_byte 10 later) ≤ length (join_with_byte 10 (first ∷ later))
    behind first [] = omega arith
    behind first (p ∷ later) = omega (arith, length-append first (10 ∷ join_with_byte 10 (p ∷ later)))
