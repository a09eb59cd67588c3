-- Lines have no line feed and don't end with a carriage return, so what is left of one after its first word can be a
-- symbol.
use Rattle.std.proofs.Common.{◌≡◌, ℕ, Bool, true, false, cond, eqb, List, [], ◌∷◌, ◌++◌, length, map, refl, sym, ap, subst, ◌∙◌, append_assoc, arith}
use Rattle.std.specs.Prelude.{◌≢◌}
use Rattle.std.specs.List.{AllByRecursion, onto_first, slice_split}
use Rattle.std.proofs.lemmas.Bool.{eqb-false, or_parts}
use Rattle.std.proofs.lemmas.List.{length-append}
use Rattle.std.proofs.lemmas.List.Elements.{All-from_recursion}
use Rattle.aig_blast.specs.Aigs.{IsSymbol}
use Rattle.kw_base.specs.Texts.{StopsAt, but_empty_last, ends_line, front_of, is_blank, is_return, rest_of}
use Rattle.kw_base.proofs.Words.{front-rest, rest_stops}
use Rattle.aiger_text.specs.Cuts.{before_bytes, lines_of, not_blank, without_blanks, without_returns}
use Rattle.aiger_text.specs.Drafts.{name_after}

-- what holds of each item of two lists
pub all_joined : {X : Type 0} (P : X → Type 0) (xs ys : List X) → AllByRecursion P xs → AllByRecursion P ys → AllByRecursion P (xs ++ ys)
all_joined P [] ys a b = b
all_joined P (x ∷ xs) ys a b = (a.0, all_joined P xs ys a.1 b)

-- bytes without a line feed, and bytes that don't end with a carriage return
abbrev pub HasNoFeed : List ℕ → Type 0
HasNoFeed bytes = AllByRecursion (λ (byte : ℕ). byte ≢ 10) bytes

pub record IsLine (line : List ℕ) : Type 0 where
  pub one_line : HasNoFeed line
  pub ends : (rest : List ℕ) → line ≢ rest ++ 13 ∷ []

not_empty : (rest : List ℕ) (b : ℕ) → [] ≢ rest ++ b ∷ []
not_empty rest b same = absurd (omega (arith, ap length same, length-append rest (b ∷ [])))

-- the pieces between line feeds
onto_first-no_feed : (b : ℕ) (pieces : List (List ℕ)) → b ≢ 10 → AllByRecursion HasNoFeed pieces → AllByRecursion HasNoFeed (onto_first b pieces)
onto_first-no_feed b [] other all = ((other, tt), tt)
onto_first-no_feed b (piece ∷ pieces) other all = ((other, all.0), all.1)

pieces-no_feed : (text : List ℕ) → AllByRecursion HasNoFeed (slice_split ends_line text)
pieces-no_feed [] = (tt, tt)
pieces-no_feed (b ∷ text) = by (ends_line b) refl (pieces-no_feed text)
  where
    by : (t : Bool) → ends_line b ≡ t → AllByRecursion HasNoFeed (slice_split ends_line text) → AllByRecursion HasNoFeed (cond t ([] ∷ slice_split ends_line text) (onto_first b (slice_split ends_line text)))
    by true ends all = (tt, all)
    by false goes all = onto_first-no_feed b (slice_split ends_line text) (eqb-false b 10 goes) all

but_empty_last-all : (P : List ℕ → Type 0) (pieces : List (List ℕ)) → AllByRecursion P pieces → AllByRecursion P (but_empty_last pieces)
but_empty_last-all P [] all = tt
but_empty_last-all P ([] ∷ []) all = tt
but_empty_last-all P ([] ∷ piece ∷ pieces) all = (all.0, but_empty_last-all P (piece ∷ pieces) all.1)
but_empty_last-all P ((b ∷ bytes) ∷ pieces) all = (all.0, but_empty_last-all P pieces all.1)

-- without the carriage returns at the end
before-no_feed : (b : ℕ) (line : List ℕ) → b ≢ 10 → HasNoFeed line → HasNoFeed (before_bytes b line)
before-no_feed b [] other all = by (is_return b)
  where
    by : (t : Bool) → HasNoFeed (cond t [] (b ∷ []))
    by true = tt
    by false = (other, tt)
before-no_feed b (c ∷ line) other all = (other, all)

returns-no_feed : (line : List ℕ) → HasNoFeed line → HasNoFeed (without_returns line)
returns-no_feed [] all = tt
returns-no_feed (b ∷ line) all = before-no_feed b (without_returns line) all.0 (returns-no_feed line all.1)

one_byte : (b : ℕ) (rest : List ℕ) → is_return b ≡ false → b ∷ [] ≢ rest ++ 13 ∷ []
one_byte b [] other same = let is : b ≡ 13 = cc in eqb-false b 13 other is
one_byte b (r ∷ rest) other same = let none : [] ≡ rest ++ 13 ∷ [] = cc in not_empty rest 13 none

before-ends : (b : ℕ) (line : List ℕ) → ((rest : List ℕ) → line ≢ rest ++ 13 ∷ []) → (rest : List ℕ) → before_bytes b line ≢ rest ++ 13 ∷ []
before-ends b [] ends rest same = by (is_return b) refl same
  where
    by : (t : Bool) → is_return b ≡ t → cond t [] (b ∷ []) ≢ rest ++ 13 ∷ []
    by true is = not_empty rest 13
    by false other = one_byte b rest other
before-ends b (c ∷ line) ends [] same = let none : c ∷ line ≡ [] = cc in absurd (cc)
before-ends b (c ∷ line) ends (r ∷ rest) same = let last : c ∷ line ≡ rest ++ 13 ∷ [] = cc in ends rest last

returns-end : (line rest : List ℕ) → without_returns line ≢ rest ++ 13 ∷ []
returns-end [] rest = not_empty rest 13
returns-end (b ∷ line) rest = before-ends b (without_returns line) (returns-end line) rest

are_lines : (pieces : List (List ℕ)) → AllByRecursion HasNoFeed pieces → AllByRecursion IsLine (map without_returns pieces)
are_lines [] all = tt
are_lines (piece ∷ pieces) all = (record { one_line = returns-no_feed piece all.0; ends = returns-end piece }, are_lines pieces all.1)

pub lines_of-lines : (text : List ℕ) → AllByRecursion IsLine (lines_of text)
unfolding lines_of
lines_of-lines text = are_lines (but_empty_last (slice_split ends_line text)) (but_empty_last-all HasNoFeed (slice_split ends_line text) (pieces-no_feed text))

-- the end of a line
after-no_feed : (front rest : List ℕ) → HasNoFeed (front ++ rest) → HasNoFeed rest
after-no_feed [] rest all = all
after-no_feed (b ∷ front) rest all = after-no_feed front rest all.1

IsLine-after : (line front rest : List ℕ) → line ≡ front ++ rest → IsLine line → IsLine rest
IsLine-after line front rest parts is = record {
  one_line = after-no_feed front rest (subst HasNoFeed parts is.one_line);
  ends = λ before same. is.ends (front ++ before) (parts ∙ ap (λ bytes. front ++ bytes) same ∙ sym (append_assoc front before (13 ∷ [])));
}

IsLine-rest : (passes : ℕ → Bool) (line : List ℕ) → IsLine line → IsLine (rest_of passes line)
IsLine-rest passes line is = IsLine-after line (front_of passes line) (rest_of passes line) (front-rest passes line) is

begins_other : (bytes : List ℕ) → StopsAt is_blank bytes → (byte : ℕ) (rest : List ℕ) → bytes ≡ byte ∷ rest → (byte ≢ 32) × (byte ≢ 9)
begins_other [] stops byte rest same = absurd (cc)
begins_other (b ∷ bytes) stops byte rest same =
    let is : b ≡ byte = cc in
    let parts = or_parts (eqb b 32) (eqb b 9) stops in
    (λ space. eqb-false b 32 parts.0 (is ∙ space), λ tab. eqb-false b 9 parts.1 (is ∙ tab))

-- what is left after the first word and the blanks after it
pub IsSymbol-after : (line : List ℕ) → IsLine line → name_after line ≢ [] → IsSymbol (name_after line)
IsSymbol-after line is some =
    let own = IsLine-rest is_blank (rest_of not_blank (without_blanks line)) (IsLine-rest not_blank (without_blanks line) (IsLine-rest is_blank line is)) in
    record {
      word = record {
        some = some;
        one_line = All-from_recursion (λ (byte : ℕ). byte ≢ 10) (name_after line) own.one_line;
        begins = begins_other (name_after line) (rest_stops is_blank (rest_of not_blank (without_blanks line)));
      };
      ends = own.ends;
    }
