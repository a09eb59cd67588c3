-- How pieces, lines and words are cut off the front of bytes.
use Rattle.std.proofs.Common.{◌≡◌, ℕ, suc, ◌+◌, ◌<◌, Bool, true, false, not, cond, eqb, List, [], ◌∷◌, ◌++◌, length, map, take, refl, sym, ap, ◌∙◌, append-nil, arith, true≢false}
use Rattle.std.specs.List.{All, AllPass, before_first, filter, join_with_byte, prefix_len, slice_split}
use Rattle.std.proofs.lemmas.Bool.{eqb-true, eqb-false}
use Rattle.std.proofs.lemmas.List.{nil_from_length}
use Rattle.std.proofs.lemmas.List.Splits.{join_with_byte-slice_split, length-slice_split, slice_split-cons_yes, slice_split_none, slice_split_at}
use Rattle.kw_base.specs.Texts.{BeginsWith, StopsAt, but_empty_last, ends_line, front_of, has_bytes, lines_of, rest_of, whole_lines, with_columns, without_return, words_from, words_of}

-- whether a list is empty, by the test of its length
pub none_by_test : (bytes : List ℕ) (b : Bool) → b ≡ eqb (length bytes) 0 → b ≡ true → bytes ≡ []
none_by_test bytes b is empty = nil_from_length bytes (eqb-true (length bytes) 0 (sym is ∙ empty))

pub some_by_test : (bytes : List ℕ) (b : Bool) → b ≡ eqb (length bytes) 0 → b ≡ false → ¬ (bytes ≡ [])
some_by_test bytes b is filled = λ none. eqb-false (length bytes) 0 (sym is ∙ filled) (ap length none)

-- ---- fronts

-- the front before the first byte that passes
pub before_first-append : (p : ℕ → Bool) (front rest : List ℕ) → All (λ b. p b ≡ false) front → BeginsWith p rest → before_first p (front ++ rest) ≡ front
before_first-append p [] [] none begins = refl
before_first-append p [] (y ∷ rest) none begins = ap (λ b. take (cond (not b) (1 + prefix_len (λ x. not (p x)) rest) 0) (y ∷ rest)) begins
before_first-append p (b ∷ front) rest none begins =
    let other : p b ≡ false = none 0 b (omega arith) in
    let one_more : (n : ℕ) (bytes : List ℕ) → take (1 + n) (b ∷ bytes) ≡ b ∷ take n bytes = λ n bytes. let e : 1 + n ≡ suc n = omega arith in rw e refl in
    ap (λ c. take (cond (not c) (1 + prefix_len (λ x. not (p x)) (front ++ rest)) 0) (b ∷ (front ++ rest))) other
    ∙ one_more (prefix_len (λ x. not (p x)) (front ++ rest)) (front ++ rest)
    ∙ ap (λ bytes. b ∷ bytes) (before_first-append p front rest (λ k d within. none (suc k) d (omega (arith, within))) begins)

-- a front that passes, before bytes that don't go on with it
pub front_of-parts : (p : ℕ → Bool) (bytes front rest : List ℕ) → bytes ≡ front ++ rest → AllPass p front → StopsAt p rest → front_of p bytes ≡ front
front_of-parts p bytes front rest parts all stops = ap (front_of p) parts ∙ by front rest all stops
  where
    by : (front rest : List ℕ) → AllPass p front → StopsAt p rest → front_of p (front ++ rest) ≡ front
    by [] [] all stops = refl
    by [] (b ∷ rest) all stops = ap (λ t. cond t (b ∷ front_of p rest) []) stops
    by (b ∷ front) rest all stops =
        let passes : p b ≡ true = all 0 b (omega arith) in
        ap (λ t. cond t (b ∷ front_of p (front ++ rest)) []) passes ∙ ap (λ bytes. b ∷ bytes) (by front rest (λ k d within. all (suc k) d (omega (arith, within))) stops)

pub rest_of-parts : (p : ℕ → Bool) (bytes front rest : List ℕ) → bytes ≡ front ++ rest → AllPass p front → StopsAt p rest → rest_of p bytes ≡ rest
rest_of-parts p bytes front rest parts all stops = ap (rest_of p) parts ∙ by front rest all stops
  where
    by : (front rest : List ℕ) → AllPass p front → StopsAt p rest → rest_of p (front ++ rest) ≡ rest
    by [] [] all stops = refl
    by [] (b ∷ rest) all stops = ap (λ t. cond t (rest_of p rest) (b ∷ rest)) stops
    by (b ∷ front) rest all stops =
        let passes : p b ≡ true = all 0 b (omega arith) in
        ap (λ t. cond t (rest_of p (front ++ rest)) (b ∷ (front ++ rest))) passes ∙ by front rest (λ k d within. all (suc k) d (omega (arith, within))) stops

-- bytes that aren't cut pass the test of not being cut
pub none-pass : (p : ℕ → Bool) (bytes : List ℕ) → All (λ b. p b ≡ false) bytes → AllPass (λ b. not (p b)) bytes
none-pass p bytes none = λ k d within. ap not (none k d within)

pub begins-stops : (p : ℕ → Bool) (bytes : List ℕ) → BeginsWith p bytes → StopsAt (λ b. not (p b)) bytes
begins-stops p [] begins = tt
begins-stops p (b ∷ bytes) begins = ap not begins

-- ---- pieces

-- a piece up to the end, or up to the byte at which the bytes are cut
pub piece_last : (p : ℕ → Bool) (bytes piece rest : List ℕ) → bytes ≡ piece ++ rest → All (λ b. p b ≡ false) piece → rest ≡ [] → slice_split p bytes ≡ piece ∷ []
piece_last p bytes piece rest parts none ends = ap (slice_split p) (parts ∙ ap (λ r. piece ++ r) ends ∙ append-nil piece) ∙ slice_split_none p piece none

pub piece_first : (p : ℕ → Bool) (bytes piece : List ℕ) (b : ℕ) (rest : List ℕ) → bytes ≡ piece ++ b ∷ rest → All (λ x. p x ≡ false) piece → p b ≡ true
    → slice_split p bytes ≡ piece ∷ slice_split p rest
piece_first p bytes piece b rest parts none ends = ap (slice_split p) parts ∙ slice_split_at p piece b rest none ends

-- a line that isn't cut off is all of the text
pub line_is_all : (text line : List ℕ) → slice_split ends_line text ≡ line ∷ [] → text ≡ line
line_is_all text line pieces = sym (join_with_byte-slice_split 10 text) ∙ ap (join_with_byte 10) pieces

-- ---- lines

-- a line with more after its line feed
pub whole_lines-more : (text line rest : List ℕ) → slice_split ends_line text ≡ line ∷ slice_split ends_line rest → whole_lines text ≡ line ∷ whole_lines rest
whole_lines-more text line rest pieces = ap but_empty_last pieces ∙ by line (slice_split ends_line rest) (omega (arith, length-slice_split ends_line rest))
  where
    by : (line : List ℕ) (pieces : List (List ℕ)) → 0 < length pieces → but_empty_last (line ∷ pieces) ≡ line ∷ but_empty_last pieces
    by line [] some = absurd (omega (arith, some))
    by [] (piece ∷ pieces) some = refl
    by (b ∷ line) (piece ∷ pieces) some = refl

-- a last line
pub whole_lines-last : (text line : List ℕ) → slice_split ends_line text ≡ line ∷ [] → ¬ (text ≡ []) → whole_lines text ≡ line ∷ []
whole_lines-last text line pieces some = ap but_empty_last pieces ∙ by line (λ none. some (line_is_all text line pieces ∙ none))
  where
    by : (line : List ℕ) → ¬ (line ≡ []) → but_empty_last (line ∷ []) ≡ line ∷ []
    by [] some = absurd (some refl)
    by (b ∷ line) some = refl

-- the same of the lines without their carriage returns
pub lines_of-nil : lines_of [] ≡ []
unfolding lines_of
lines_of-nil = refl

pub lines_of-more : (text line rest : List ℕ) → slice_split ends_line text ≡ line ∷ slice_split ends_line rest → lines_of text ≡ without_return line ∷ lines_of rest
unfolding lines_of
lines_of-more text line rest pieces = ap (map without_return) (whole_lines-more text line rest pieces)

pub lines_of-last : (text line : List ℕ) → slice_split ends_line text ≡ line ∷ [] → ¬ (text ≡ []) → lines_of text ≡ without_return line ∷ []
unfolding lines_of
lines_of-last text line pieces some = ap (map without_return) (whole_lines-last text line pieces some)

-- ---- words

-- no word is in nothing
pub words_from-nil : (p : ℕ → Bool) (column : ℕ) → words_from p column [] ≡ []
unfolding words_from
words_from-nil p column = refl

-- a byte at which the bytes are cut is no part of a word
words_from-blank : (p : ℕ → Bool) (column b : ℕ) (bytes : List ℕ) → p b ≡ true → words_from p column (b ∷ bytes) ≡ words_from p (column + 1) bytes
unfolding words_from
words_from-blank p column b bytes blank =
    ap (λ (ps : List (List ℕ)). filter (λ (word : ℕ × List ℕ). has_bytes word.1) (with_columns column ps)) (slice_split-cons_yes p b bytes blank)
    ∙ (let e : column + 0 + 1 ≡ column + 1 = omega arith in ap (λ (n : ℕ). filter (λ (word : ℕ × List ℕ). has_bytes word.1) (with_columns n (slice_split p bytes))) e)

-- nor is a row of them
pub words_from-blanks : (p : ℕ → Bool) (column : ℕ) (blanks bytes : List ℕ) → AllPass p blanks → words_from p column (blanks ++ bytes) ≡ words_from p (column + length blanks) bytes
words_from-blanks p column [] bytes all = let e : column ≡ column + 0 = omega arith in ap (λ n. words_from p n bytes) e
words_from-blanks p column (b ∷ blanks) bytes all =
    let e : column + 1 + length blanks ≡ column + length (b ∷ blanks) = omega arith in
    words_from-blank p column b (blanks ++ bytes) (all 0 b (omega arith))
    ∙ words_from-blanks p (column + 1) blanks bytes (λ k d within. all (suc k) d (omega (arith, within))) ∙ ap (λ n. words_from p n bytes) e

-- a row without them, where it can't be longer, is the first word
pub words_from-word : (p : ℕ → Bool) (column b : ℕ) (word rest : List ℕ) → All (λ x. p x ≡ false) (b ∷ word) → BeginsWith p rest
    → words_from p column ((b ∷ word) ++ rest) ≡ (column, b ∷ word) ∷ words_from p (column + length (b ∷ word)) rest
unfolding words_from
words_from-word p column b word [] none begins =
    ap (λ (bytes : List ℕ). filter (λ (w : ℕ × List ℕ). has_bytes w.1) (with_columns column (slice_split p bytes))) (append-nil (b ∷ word))
    ∙ ap (λ (ps : List (List ℕ)). filter (λ (w : ℕ × List ℕ). has_bytes w.1) (with_columns column ps)) (slice_split_none p (b ∷ word) none)
words_from-word p column b word (y ∷ rest) none begins =
    ap (λ (ps : List (List ℕ)). filter (λ (w : ℕ × List ℕ). has_bytes w.1) (with_columns column ps)) (slice_split_at p (b ∷ word) y rest none begins)
    ∙ ap (λ (ws : List (ℕ × List ℕ)). (column, b ∷ word) ∷ ws) (sym (words_from-blank p (column + length (b ∷ word)) y rest begins))

-- bytes that neither begin with such a byte nor with another are none
begins_with_neither : (p : ℕ → Bool) (column : ℕ) (bytes : List ℕ) → StopsAt p bytes → BeginsWith p bytes → words_from p column bytes ≡ []
begins_with_neither p column [] stops begins = words_from-nil p column
begins_with_neither p column (b ∷ bytes) stops begins = absurd (true≢false (sym begins ∙ stops))

-- after the blanks no word begins
pub no_word : (p : ℕ → Bool) (column : ℕ) (bytes blanks after word rest : List ℕ) → bytes ≡ blanks ++ after → AllPass p blanks → StopsAt p after → after ≡ word ++ rest
    → BeginsWith p rest → word ≡ [] → words_from p column bytes ≡ []
no_word p column bytes blanks after word rest parts all stops splits begins none =
    let same : after ≡ rest = splits ∙ ap (λ w. w ++ rest) none in
    ap (words_from p column) parts ∙ words_from-blanks p column blanks after all ∙ begins_with_neither p (column + length blanks) after stops (rw same begins)

-- after the blanks a word begins
pub first_word : (p : ℕ → Bool) (column : ℕ) (bytes blanks after word rest : List ℕ) → bytes ≡ blanks ++ after → AllPass p blanks → after ≡ word ++ rest
    → All (λ b. p b ≡ false) word → BeginsWith p rest → ¬ (word ≡ []) → words_from p column bytes ≡ (column + length blanks, word) ∷ words_from p (column + length blanks + length word) rest
first_word p column bytes blanks after [] rest parts all splits shown begins some = absurd (some refl)
first_word p column bytes blanks after (b ∷ word) rest parts all splits shown begins some =
    ap (words_from p column) parts ∙ words_from-blanks p column blanks after all ∙ ap (words_from p (column + length blanks)) splits
    ∙ words_from-word p (column + length blanks) b word rest shown begins

-- the words with their columns are the words
pub words_of-columns : (p : ℕ → Bool) (column : ℕ) (bytes : List ℕ) → map (λ (word : ℕ × List ℕ). word.1) (words_from p column bytes) ≡ words_of p bytes
unfolding words_from words_of
words_of-columns p column bytes = by (slice_split p bytes) column
  where
    by : (pieces : List (List ℕ)) (column : ℕ) → map (λ (word : ℕ × List ℕ). word.1) (filter (λ (word : ℕ × List ℕ). has_bytes word.1) (with_columns column pieces)) ≡ filter has_bytes pieces
    by [] column = refl
    by ([] ∷ pieces) column = by pieces (column + 0 + 1)
    by ((b ∷ piece) ∷ pieces) column = ap (λ words. (b ∷ piece) ∷ words) (by pieces (column + length (b ∷ piece) + 1))

pub words_of-none : (p : ℕ → Bool) (bytes : List ℕ) → words_from p 0 bytes ≡ [] → words_of p bytes ≡ []
words_of-none p bytes none = sym (words_of-columns p 0 bytes) ∙ ap (map (λ (word : ℕ × List ℕ). word.1)) none

pub words_of-more : (p : ℕ → Bool) (bytes : List ℕ) (start : ℕ) (word : List ℕ) (column : ℕ) (rest : List ℕ) → words_from p 0 bytes ≡ (start, word) ∷ words_from p column rest
    → words_of p bytes ≡ word ∷ words_of p rest
words_of-more p bytes start word column rest words =
    sym (words_of-columns p 0 bytes) ∙ ap (map (λ (word : ℕ × List ℕ). word.1)) words ∙ ap (λ words. word ∷ words) (words_of-columns p column rest)
