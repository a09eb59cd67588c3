-- A source, piece by piece up to its mark.
use Rattle.std.proofs.Common.{◌≡◌, ℕ, zero, suc, ◌+◌, ◌-◌, ◌<◌, ◌≤◌, Bool, true, false, not, cond, List, [], ◌∷◌, ◌++◌, length, length-append, take, drop, get_or, Some, None, refl, sym, ap, ap₂, ◌∙◌, append_assoc, arith, inl, inr}
use Rattle.std.specs.Prelude.{nat_lt, ◌⊎◌}
use Rattle.std.specs.List.{flat_map, join_with_byte, position_or_len, slice_split}
use Rattle.std.proofs.lemmas.Bool.{cases_lt, le-ltb, lt-ltb}
use Rattle.std.proofs.lemmas.List.{drop_more, length-drop}
use Rattle.std.proofs.lemmas.List.Splits.{join_with_byte-slice_split, length-slice_split}
use Rattle.std.proofs.lemmas.List.Sums.{count_by-le-length, prefix_len_is}
use Rattle.std.proofs.Math.Seq.{take-append_seam}
use Rattle.kw_base.specs.Place.{capped}
use Rattle.kw_base.specs.Texts.{ends_line}
use Rattle.stim_report.specs.Cuts.{cut_at, is_mark, parts_of, with_line_feed}

-- the pieces of a source
abbrev pub pieces : List ℕ → List (List ℕ)
pieces bytes = slice_split ends_line bytes

-- so many pieces were passed, none of them the mark, and these are left
pub record HasPassed (bytes : List ℕ) (lines : ℕ) (left : List (List ℕ)) : Type 0 where
  pub rest : drop lines (pieces bytes) ≡ left
  pub within : lines ≤ length (pieces bytes)
  pub none : (k : ℕ) → k < lines → is_mark (get_or (pieces bytes) k []) ≡ false

pub none_passed : (bytes : List ℕ) → HasPassed bytes 0 (pieces bytes)
none_passed bytes = record { rest = refl; within = omega arith; none = λ k h. absurd (omega (arith, h)) }

-- the piece that comes next
pub is_next : (bytes : List ℕ) (lines : ℕ) (line : List ℕ) (left : List (List ℕ)) → HasPassed bytes lines (line ∷ left) → (lines < length (pieces bytes)) × (get_or (pieces bytes) lines [] ≡ line) × (drop (lines + 1) (pieces bytes) ≡ left)
is_next bytes lines line left passed =
    let some : lines < length (pieces bytes) = omega (arith, length-drop lines (pieces bytes), ap length passed.rest) in
    let same : get_or (pieces bytes) lines [] ∷ drop (lines + 1) (pieces bytes) ≡ line ∷ left = sym (drop_more (pieces bytes) lines [] some) ∙ passed.rest in
    (some, ap (head []) same, ap (drop 1) same)
  where
    head : List ℕ → List (List ℕ) → List ℕ
    head d [] = d
    head d (x ∷ xs) = x

pub one_passed : (bytes : List ℕ) (lines : ℕ) (line : List ℕ) (left : List (List ℕ)) → HasPassed bytes lines (line ∷ left) → is_mark line ≡ false → HasPassed bytes (lines + 1) left
one_passed bytes lines line left passed unmarked =
    let next = is_next bytes lines line left passed in
    record { rest = next.2; within = omega (arith, next.0); none = λ k h. here k h next.1 (cases_lt k lines) }
  where
    here : (k : ℕ) → k < lines + 1 → get_or (pieces bytes) lines [] ≡ line → (k < lines) ⊎ (lines ≤ k) → is_mark (get_or (pieces bytes) k []) ≡ false
    here k h is (inl before) = passed.none k before
    here k h is (inr behind) = let e : k ≡ lines = omega (arith, h, behind) in ap (λ (j : ℕ). is_mark (get_or (pieces bytes) j [])) e ∙ ap is_mark is ∙ unmarked

join_split : (xs : List (List ℕ)) (k : ℕ) → k < length xs → join_with_byte 10 xs ≡ flat_map with_line_feed (take k xs) ++ join_with_byte 10 (drop k xs)
join_split xs zero h = refl
join_split [] (suc k) h = absurd (omega (arith, h))
join_split (x ∷ []) (suc k) h = absurd (omega (arith, h))
join_split (x ∷ y ∷ xs) (suc k) h =
    ap (λ (text : List ℕ). x ++ (10 ∷ text)) (join_split (y ∷ xs) k (omega (arith, h)))
    ∙ sym (append_assoc x (10 ∷ []) (flat_map with_line_feed (take k (y ∷ xs)) ++ join_with_byte 10 (drop k (y ∷ xs))))
    ∙ sym (append_assoc (x ++ 10 ∷ []) (flat_map with_line_feed (take k (y ∷ xs))) (join_with_byte 10 (drop k (y ∷ xs))))

-- the bytes before the pieces that are left
pub bytes_split : (bytes text : List ℕ) (lines : ℕ) → HasPassed bytes lines (pieces text) → lines < length (pieces bytes) → bytes ≡ flat_map with_line_feed (take lines (pieces bytes)) ++ text
bytes_split bytes text lines passed some =
    sym (join_with_byte-slice_split 10 bytes) ∙ join_split (pieces bytes) lines some
    ∙ ap (λ (xs : List (List ℕ)). flat_map with_line_feed (take lines (pieces bytes)) ++ join_with_byte 10 xs) passed.rest
    ∙ ap (λ (rest : List ℕ). flat_map with_line_feed (take lines (pieces bytes)) ++ rest) (join_with_byte-slice_split 10 text)

pub text_fits : (bytes text : List ℕ) (lines : ℕ) → HasPassed bytes lines (pieces text) → lines < length (pieces bytes) → length text ≤ length bytes
text_fits bytes text lines passed some =
    omega (arith, ap length (bytes_split bytes text lines passed some), length-append (flat_map with_line_feed (take lines (pieces bytes))) text)

pub design_is : (bytes text : List ℕ) (lines : ℕ) → HasPassed bytes lines (pieces text) → lines < length (pieces bytes) → take (length bytes - length text) bytes ≡ flat_map with_line_feed (take lines (pieces bytes))
design_is bytes text lines passed some =
    let front = flat_map with_line_feed (take lines (pieces bytes)) in
    let whole = bytes_split bytes text lines passed some in
    let count : length bytes - length text ≡ length front = omega (arith, ap length whole, length-append front text) in
    ap₂ (λ (n : ℕ) (b : List ℕ). take n b) count whole ∙ take-append_seam front text

-- where the mark stands
mark_at : (bytes : List ℕ) (lines : ℕ) (left : List (List ℕ)) → HasPassed bytes lines left → (lines < length (pieces bytes) → is_mark (get_or (pieces bytes) lines []) ≡ true) → position_or_len is_mark (pieces bytes) ≡ lines
mark_at bytes lines left passed mark =
    prefix_len_is (λ (line : List ℕ). not (is_mark line)) (pieces bytes) lines [] passed.within (λ k h. ap not (passed.none k h)) (λ some. ap not (mark some))

pub parts_marked : (bytes line : List ℕ) (left : List (List ℕ)) (lines : ℕ) → HasPassed bytes lines (line ∷ left) → is_mark line ≡ true
    → parts_of bytes ≡ record { design = flat_map with_line_feed (take lines (pieces bytes)); stimulus = join_with_byte 10 left; first_line = capped (lines + 2) }
unfolding parts_of
parts_marked bytes line left lines passed marked =
    let next = is_next bytes lines line left passed in
    let at = mark_at bytes lines (line ∷ left) passed (λ some. ap is_mark next.1 ∙ marked) in
    ap (λ (k : ℕ). cut_at (pieces bytes) (cond (nat_lt k (length (pieces bytes))) (Some k) None) bytes) at
    ∙ ap (λ (b : Bool). cut_at (pieces bytes) (cond b (Some lines) None) bytes) (lt-ltb lines (length (pieces bytes)) next.0)
    ∙ ap (λ (xs : List (List ℕ)). record { design = flat_map with_line_feed (take lines (pieces bytes)); stimulus = join_with_byte 10 xs; first_line = capped (lines + 2) }) next.2

pub parts_unmarked : (bytes : List ℕ) (lines : ℕ) → HasPassed bytes lines [] → parts_of bytes ≡ record { design = bytes; stimulus = []; first_line = capped (lines + 1) }
unfolding parts_of
parts_unmarked bytes lines passed =
    let all : length (pieces bytes) ≡ lines = omega (arith, length-drop lines (pieces bytes), ap length passed.rest, passed.within) in
    let at = mark_at bytes lines [] passed (λ some. absurd (omega (arith, some, all))) in
    ap (λ (k : ℕ). cut_at (pieces bytes) (cond (nat_lt k (length (pieces bytes))) (Some k) None) bytes) at
    ∙ ap (λ (b : Bool). cut_at (pieces bytes) (cond b (Some lines) None) bytes) (le-ltb lines (length (pieces bytes)) (omega (arith, all)))
    ∙ ap (λ (n : ℕ). record { design = bytes; stimulus = []; first_line = capped (n + 1) }) all

-- there are no more pieces than bytes, and one
pub few_pieces : (bytes : List ℕ) → length (pieces bytes) ≤ length bytes + 1
few_pieces bytes = omega (arith, length-slice_split ends_line bytes, count_by-le-length ends_line bytes)
