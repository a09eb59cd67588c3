-- The bytes in front of the mark have no mark of their own, and are fewer than all where there is one; what comes after it
-- isn't longer than the source.
use Rattle.std.proofs.Common.{◌≡◌, ◌+◌, ◌-◌, ◌<◌, ◌≤◌, ℕ, zero, suc, Bool, true, false, cond, List, [], ◌∷◌, ◌++◌, length, length-append, take, drop, Option, Some, None, refl, sym, ap, subst, ◌∙◌, arith}
use Rattle.std.specs.Prelude.{if◌then◌else◌, is_some, nat_lt, not, position}
use Rattle.std.specs.List.{AllByRecursion, flat_map, join_with_byte, onto_first, position_or_len, slice_split}
use Rattle.std.proofs.lemmas.Bool.{false≢true, le-ltb, lt-ltb, ltb-true}
use Rattle.std.proofs.lemmas.List.Elements.{All-from_recursion}
use Rattle.std.proofs.lemmas.List.Splits.{join_with_byte-slice_split, slice_split_at}
use Rattle.kw_base.specs.Place.{capped}
use Rattle.kw_base.specs.Texts.{ends_line}
use Rattle.stim_report.specs.Cuts.{cut_at, is_mark, parts_of, with_line_feed}
use Rattle.front_end.specs.Certified.{end_line, line_after_mark}
use Rattle.front_end.specs.Sources.{design_part}

-- ---- lengths

later_length : (line : List ℕ) (lines : List (List ℕ)) → length (join_with_byte 10 lines) ≤ length (join_with_byte 10 (line ∷ lines))
later_length line [] = omega arith
later_length line (next ∷ rest) = omega (arith, length-append line (10 ∷ join_with_byte 10 (next ∷ rest)))

dropped_length : (k : ℕ) (lines : List (List ℕ)) → length (join_with_byte 10 (drop k lines)) ≤ length (join_with_byte 10 lines)
dropped_length zero lines = omega arith
dropped_length (suc k) [] = omega arith
dropped_length (suc k) (line ∷ lines) = omega (arith, dropped_length k lines, later_length line lines)

pub stimulus_length : (source : List ℕ) → length (parts_of source).stimulus ≤ length source
unfolding parts_of
stimulus_length source = of (position is_mark (slice_split ends_line source))
  where
    of : (mark : Option ℕ) → length (cut_at (slice_split ends_line source) mark source).stimulus ≤ length source
    of None = omega arith
    of (Some mark) = omega (arith, dropped_length (mark + 1) (slice_split ends_line source), ap length (join_with_byte-slice_split 10 source))

joined_length : (line : List ℕ) (lines : List (List ℕ)) → 0 < length lines → length (join_with_byte 10 (line ∷ lines)) ≡ length line + 1 + length (join_with_byte 10 lines)
joined_length line [] some = absurd (omega (arith, some))
joined_length line (next ∷ rest) some = omega (arith, length-append line (10 ∷ join_with_byte 10 (next ∷ rest)))

-- a mark has a byte
mark_length : (line : List ℕ) (lines : List (List ℕ)) → is_mark line ≡ true → 0 < length (join_with_byte 10 (line ∷ lines))
mark_length [] lines is = absurd (false≢true is)
mark_length (b ∷ line) [] is = omega arith
mark_length (b ∷ line) (next ∷ rest) is = omega (arith, length-append (b ∷ line) (10 ∷ join_with_byte 10 (next ∷ rest)))

-- the lines in front of the first mark are shorter than all
front_length : (lines : List (List ℕ)) → position_or_len is_mark lines < length lines → length (flat_map with_line_feed (take (position_or_len is_mark lines) lines)) < length (join_with_byte 10 lines)
front_length [] within = absurd (omega (arith, within))
front_length (line ∷ lines) within = of (is_mark line) refl within (front_length lines)
  where
    next : (n : ℕ) → 1 + n ≡ suc n
    next n = omega arith

    more : (n : ℕ) → n < length lines → length (flat_map with_line_feed (take n lines)) < length (join_with_byte 10 lines) → length (flat_map with_line_feed (take (suc n) (line ∷ lines))) < length (join_with_byte 10 (line ∷ lines))
    more n below less =
        omega (arith, less, joined_length line lines (omega (arith, below)), length-append (line ++ 10 ∷ []) (flat_map with_line_feed (take n lines)), length-append line (10 ∷ []))

    of : (b : Bool) → is_mark line ≡ b → cond (not b) (1 + position_or_len is_mark lines) 0 < length (line ∷ lines)
        → (position_or_len is_mark lines < length lines → length (flat_map with_line_feed (take (position_or_len is_mark lines) lines)) < length (join_with_byte 10 lines))
        → length (flat_map with_line_feed (take (cond (not b) (1 + position_or_len is_mark lines) 0) (line ∷ lines))) < length (join_with_byte 10 (line ∷ lines))
    of true is below rest = mark_length line lines is
    of false is below rest =
        let n = position_or_len is_mark lines in
        let less : n < length lines = omega (arith, below) in
        subst (λ (k : ℕ). length (flat_map with_line_feed (take k (line ∷ lines))) < length (join_with_byte 10 (line ∷ lines))) (sym (next n)) (more n less (rest less))

-- there is a mark where the bytes in front of it are fewer than all
pub mark-by_length : (source : List ℕ) → nat_lt (length (parts_of source).design) (length source) ≡ is_some (position is_mark (slice_split ends_line source))
unfolding parts_of
mark-by_length source = of (nat_lt n (length lines)) refl
  where
    lines : List (List ℕ)
    lines = slice_split ends_line source

    n : ℕ
    n = position_or_len is_mark lines

    of : (b : Bool) → nat_lt n (length lines) ≡ b → nat_lt (length (cut_at lines (cond b (Some n) None) source).design) (length source) ≡ is_some (cond b (Some n) None)
    of true is =
        lt-ltb (length (flat_map with_line_feed (take n lines))) (length source) (subst (λ (bytes : List ℕ). length (flat_map with_line_feed (take n lines)) < length bytes) (join_with_byte-slice_split 10 source) (front_length lines (ltb-true n (length lines) is)))
    of false is = le-ltb (length source) (length source) (omega arith)

-- the number of the line with which the bytes after the next mark begin, where there is one
pub line-marked : (source rest : List ℕ) (number : ℕ) → length (parts_of rest).design < length rest → line_after_mark source rest number ≡ capped (number + (parts_of rest).first_line - 1)
line-marked source rest number less =
    ap (λ (b : Bool). if b then capped (number + (parts_of rest).first_line - 1) else end_line source)
    (sym (mark-by_length rest) ∙ lt-ltb (length (parts_of rest).design) (length rest) less)

pub line-unmarked : (source rest : List ℕ) (number : ℕ) → length rest ≤ length (parts_of rest).design → line_after_mark source rest number ≡ end_line source
line-unmarked source rest number all =
    ap (λ (b : Bool). if b then capped (number + (parts_of rest).first_line - 1) else end_line source)
    (sym (mark-by_length rest) ∙ le-ltb (length (parts_of rest).design) (length rest) all)

-- lines are counted from 1
pub some_line : (source : List ℕ) → 1 ≤ (parts_of source).first_line
unfolding parts_of
some_line source = of (position is_mark (slice_split ends_line source))
  where
    of : (mark : Option ℕ) → 1 ≤ (cut_at (slice_split ends_line source) mark source).first_line
    of None = omega arith
    of (Some mark) = omega arith

-- ---- lines

-- a line has no line feed
abbrev IsLine : List ℕ → Type 0
IsLine line = AllByRecursion (λ (b : ℕ). ends_line b ≡ false) line

onto_line : (b : ℕ) (lines : List (List ℕ)) → ends_line b ≡ false → AllByRecursion IsLine lines → AllByRecursion IsLine (onto_first b lines)
onto_line b [] free all = ((free, tt), tt)
onto_line b (line ∷ lines) free all = ((free, all.0), all.1)

split_lines : (bytes : List ℕ) → AllByRecursion IsLine (slice_split ends_line bytes)
split_lines [] = (tt, tt)
split_lines (b ∷ bytes) = of (ends_line b) refl (split_lines bytes)
  where
    of : (e : Bool) → ends_line b ≡ e → AllByRecursion IsLine (slice_split ends_line bytes) → AllByRecursion IsLine (cond e ([] ∷ slice_split ends_line bytes) (onto_first b (slice_split ends_line bytes)))
    of true is all = (tt, all)
    of false is all = onto_line b (slice_split ends_line bytes) is all

-- lines that each end with a line feed are cut into these, and nothing after the last
cut_lines : (k : ℕ) (lines : List (List ℕ)) → AllByRecursion IsLine lines → slice_split ends_line (flat_map with_line_feed (take k lines)) ≡ take k lines ++ [] ∷ []
cut_lines zero lines all = refl
cut_lines (suc k) [] all = refl
cut_lines (suc k) (line ∷ lines) all =
    let rest = flat_map with_line_feed (take k lines) in
    let moved : (line ++ 10 ∷ []) ++ rest ≡ line ++ 10 ∷ rest = append_one line rest in
    ap (slice_split ends_line) moved
    ∙ slice_split_at ends_line line 10 rest (All-from_recursion (λ (b : ℕ). ends_line b ≡ false) line all.0) refl
    ∙ ap (λ (more : List (List ℕ)). line ∷ more) (cut_lines k lines all.1)
  where
    append_one : (xs ys : List ℕ) → (xs ++ 10 ∷ []) ++ ys ≡ xs ++ 10 ∷ ys
    append_one [] ys = refl
    append_one (x ∷ xs) ys = ap (λ (zs : List ℕ). x ∷ zs) (append_one xs ys)

-- ---- marks

abbrev Fails : List (List ℕ) → Type 0
Fails lines = AllByRecursion (λ (line : List ℕ). is_mark line ≡ false) lines

fails-append : (xs : List (List ℕ)) (x : List ℕ) → Fails xs → is_mark x ≡ false → Fails (xs ++ x ∷ [])
fails-append [] x all one = (one, tt)
fails-append (y ∷ ys) x all one = (all.0, fails-append ys x all.1 one)

none_first : (lines : List (List ℕ)) → Fails lines → position_or_len is_mark lines ≡ length lines
none_first [] all = refl
none_first (line ∷ lines) all = rw all.0 (omega (arith, none_first lines all.1))

-- the lines in front of the first mark are none
fails_front : (lines : List (List ℕ)) → Fails (take (position_or_len is_mark lines) lines)
fails_front [] = tt
fails_front (line ∷ lines) = of (is_mark line) refl (fails_front lines)
  where
    next : (n : ℕ) → 1 + n ≡ suc n
    next n = omega arith

    of : (b : Bool) → is_mark line ≡ b → Fails (take (position_or_len is_mark lines) lines) → Fails (take (cond (not b) (1 + position_or_len is_mark lines) 0) (line ∷ lines))
    of true is all = tt
    of false is all = subst (λ (n : ℕ). Fails (take n (line ∷ lines))) (sym (next (position_or_len is_mark lines))) (is, all)

no_mark : (lines : List (List ℕ)) → Fails lines → position is_mark lines ≡ None
no_mark lines all =
    ap (λ (b : Bool). cond b (Some (position_or_len is_mark lines)) None) (le-ltb (position_or_len is_mark lines) (length lines) (omega (arith, none_first lines all)))

-- the bytes in front of the mark are the design part of themselves
pub design_part-again : (source : List ℕ) → design_part (design_part source) ≡ design_part source
unfolding parts_of
design_part-again source = of (position_or_len is_mark lines) (nat_lt (position_or_len is_mark lines) (length lines)) refl refl
  where
    lines : List (List ℕ)
    lines = slice_split ends_line source

    of : (k : ℕ) (within : Bool) → position_or_len is_mark lines ≡ k → nat_lt (position_or_len is_mark lines) (length lines) ≡ within
        → design_part (cut_at lines (cond within (Some k) None) source).design ≡ (cut_at lines (cond within (Some k) None) source).design
    of k false at none = ap (λ (b : Bool). (cut_at lines (cond b (Some (position_or_len is_mark lines)) None) source).design) none
    of k true at within =
        let front = flat_map with_line_feed (take k lines) in
        let cut = cut_lines k lines (split_lines source) in
        let fails : Fails (take k lines) = subst (λ (n : ℕ). Fails (take n lines)) at (fails_front lines) in
        let none : position is_mark (slice_split ends_line front) ≡ None = ap (position is_mark) cut ∙ no_mark (take k lines ++ [] ∷ []) (fails-append (take k lines) [] fails refl) in
        ap (λ (mark : Option ℕ). (cut_at (slice_split ends_line front) mark front).design) none
