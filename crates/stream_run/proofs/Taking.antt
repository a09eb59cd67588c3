-- How bytes are taken of those that are still to come.
use Rattle.std.proofs.Common.{◌≡◌, ℕ, ◌+◌, ◌-◌, ◌<◌, ◌≤◌, Bool, true, false, cond, eqb, List, [], ◌∷◌, ◌++◌, length, take, drop, get_or, Option, Some, None, refl, sym, ap, ap₂, subst, ◌∙◌, append_assoc, arith}
use Rattle.std.specs.Prelude.{OnSome, nat_lt, position}
use Rattle.std.specs.List.{after_first, before_first, position_or_len}
use Rattle.std.specs.Io.KnownBytes.{Consumes, IsAtEnd}
use Rattle.std.proofs.KnownBytes.{Consumes-trans}
use Rattle.std.proofs.lemmas.Bool.{eqb-true, ltb-true, ltb-false}
use Rattle.std.proofs.lemmas.List.{drop-drop, drop-take, get_or-take, length-take-le}
use Rattle.std.proofs.lemmas.List.Elements.{All-append}
use Rattle.std.proofs.lemmas.List.Sums.{fails_before_first, passes_at_first, split_at_first}
use Rattle.kw_base.specs.Texts.{ends_line}
use Rattle.stream_run.specs.inner.Reading.{IsOneLine, TakesLine, to_come}

-- ---- where a line ends

-- the bytes before the first line feed, and those after it
pub record EndsAt (bytes : List ℕ) (at : ℕ) : Type 0 where
  pub within : at < length bytes
  pub one : IsOneLine (take at bytes)
  pub parts : bytes ≡ take at bytes ++ 10 ∷ drop (at + 1) bytes

ends-first : (bytes : List ℕ) → position_or_len ends_line bytes < length bytes → EndsAt bytes (position_or_len ends_line bytes)
ends-first bytes some =
    let at = position_or_len ends_line bytes in
    let feed : get_or bytes at 0 ≡ 10 = eqb-true (get_or bytes at 0) 10 (passes_at_first ends_line bytes 0 some) in
    record {
      within = some;
      one = λ k d below. before k d (omega (arith, below, length-take-le at bytes (omega (arith, some))));
      parts = split_at_first ends_line bytes 0 some ∙ ap (λ (b : ℕ). take at bytes ++ b ∷ drop (at + 1) bytes) feed;
    }
  where
    before : (k d : ℕ) → k < position_or_len ends_line bytes → ends_line (get_or (take (position_or_len ends_line bytes) bytes) k d) ≡ false
    before k d below = ap ends_line (get_or-take (position_or_len ends_line bytes) bytes k d below) ∙ fails_before_first ends_line bytes k d below

at_first : (bytes : List ℕ) (at : ℕ) (b : Bool) → nat_lt (position_or_len ends_line bytes) (length bytes) ≡ b → cond b (Some (position_or_len ends_line bytes)) None ≡ Some at → EndsAt bytes at
at_first bytes at true some is =
    let same : position_or_len ends_line bytes ≡ at = cc in
    subst (EndsAt bytes) same (ends-first bytes (ltb-true (position_or_len ends_line bytes) (length bytes) some))
at_first bytes at false none is = absurd cc

pub ends-at : (bytes : List ℕ) (at : ℕ) → position ends_line bytes ≡ Some at → EndsAt bytes at
ends-at bytes at is = at_first bytes at (nat_lt (position_or_len ends_line bytes) (length bytes)) refl is

nowhere : (bytes : List ℕ) (b : Bool) → nat_lt (position_or_len ends_line bytes) (length bytes) ≡ b → cond b (Some (position_or_len ends_line bytes)) None ≡ None → IsOneLine bytes
nowhere bytes true some is = absurd cc
nowhere bytes false none is = λ k d below. fails_before_first ends_line bytes k d (omega (arith, below, ltb-false (position_or_len ends_line bytes) (length bytes) none))

pub ends-nowhere : (bytes : List ℕ) → position ends_line bytes ≡ None → IsOneLine bytes
ends-nowhere bytes is = nowhere bytes (nat_lt (position_or_len ends_line bytes) (length bytes)) refl is

-- what is left of a chunk's part behind its first bytes
pub part-behind : (chunk : List ℕ) (next end count : ℕ) → next + count ≤ end → drop count (take (end - next) (drop next chunk)) ≡ take (end - (next + count)) (drop (next + count) chunk)
part-behind chunk next end count within =
    let all : end - next ≡ count + (end - (next + count)) = omega (arith, within) in
    ap (λ n. drop count (take n (drop next chunk))) all ∙ drop-take count (end - (next + count)) (drop next chunk) ∙ ap (take (end - (next + count))) (drop-drop count next chunk)

-- ---- what is still to come

-- bytes that were read are still to come
pub filled : (left rest : Option (List ℕ)) (unread : List ℕ) → Consumes left rest unread → Consumes (to_come [] left) (to_come unread rest) []
filled None rest unread took = tt
filled (Some all) None unread took = absurd took
filled (Some all) (Some more) unread took = took

-- and are taken then
pub taken : (left : Option (List ℕ)) (unread piece rest : List ℕ) → unread ≡ piece ++ rest → Consumes (to_come unread left) (to_come rest left) piece
taken None unread piece rest is = tt
taken (Some all) unread piece rest is = ap (λ (bytes : List ℕ). bytes ++ all) is ∙ append_assoc piece rest all

-- nothing is left of nothing
pub end-filled : (left rest : Option (List ℕ)) (unread : List ℕ) → unread ≡ [] → OnSome left (IsAtEnd rest) → OnSome (to_come [] left) (IsAtEnd (to_come unread rest))
end-filled None rest unread is end = tt
end-filled (Some all) None unread is end = tt
end-filled (Some all) (Some more) unread is end = ap (λ (bytes : List ℕ). bytes ++ more) is ∙ end

-- what holds where later bytes are known holds where earlier ones are
pub on-some-later : (a b : Option (List ℕ)) (piece : List ℕ) (P : Type 0) → Consumes a b piece → OnSome b P → OnSome a P
on-some-later None b piece P took holds = tt
on-some-later (Some all) None piece P took holds = absurd took
on-some-later (Some all) (Some rest) piece P took holds = holds

-- ---- lines

module _ (coming mid now : Option (List ℕ)) (bytes piece : List ℕ) (one : IsOneLine bytes) (took : Consumes coming mid bytes) where
  -- a piece without a line feed
  pub one-more : IsOneLine piece → IsOneLine (bytes ++ piece)
  one-more last = All-append (λ b. ends_line b ≡ false) bytes piece one last

  -- a piece, and the line feed after it
  pub takes-whole : (limit : ℕ) → IsOneLine piece → Consumes mid now (piece ++ 10 ∷ []) → TakesLine coming now limit (bytes ++ piece) true
  takes-whole limit last more = record {
    one = one-more last;
    whole = λ _. subst (Consumes coming now) (sym (append_assoc bytes piece (10 ∷ []))) (Consumes-trans coming mid now bytes (piece ++ 10 ∷ []) took more);
    broken = λ e. absurd cc;
    end = λ e. absurd cc;
  }

-- what came before no line feed
pub takes-broken : (coming now : Option (List ℕ)) (bytes : List ℕ) (limit : ℕ) → IsOneLine bytes → Consumes coming now bytes → (length bytes ≤ limit → OnSome coming (IsAtEnd now)) → TakesLine coming now limit bytes false
takes-broken coming now bytes limit one took end = record { one = one; whole = λ e. absurd cc; broken = λ _. took; end = λ _. end }
