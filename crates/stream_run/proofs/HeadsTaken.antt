-- A head that was read line by line.
use Rattle.std.proofs.Common.{◌≡◌, ℕ, ◌+◌, ◌-◌, ◌<◌, ◌≤◌, Bool, true, false, List, [], ◌∷◌, ◌++◌, length, length-append, Option, refl, sym, ap, subst, ◌∙◌, append_assoc, arith}
use Rattle.std.specs.Prelude.{OnSome}
use Rattle.std.specs.Io.KnownBytes.{Consumes, IsAtEnd}
use Rattle.std.proofs.KnownBytes.{Consumes-trans}
use Rattle.stim_report.specs.Cuts.{is_mark}
use Rattle.front_end.specs.Sources.{IsTooLong, fault_of_source, longest_source}
use Rattle.stream_run.specs.Lines.{head_of}
use Rattle.stream_run.specs.Sessions.{MayGive}
use Rattle.stream_run.specs.inner.Reading.{HasHead, IsOneLine, TakesHead, TakesLine, with_end}
use Rattle.stream_run.proofs.Coming.{may-after, some-come}
use Rattle.stream_run.proofs.Heads.{Passed, head-all, head-marked, long-broken, long-whole, passed-more}
use Rattle.stream_run.proofs.Taking.{on-some-later}

-- what a line took
pub line-took : (mid now : Option (List ℕ)) (limit : ℕ) (line : List ℕ) (is_whole : Bool) → TakesLine mid now limit line is_whole → Consumes mid now (with_end line is_whole)
line-took mid now limit line true takes = takes.whole refl
line-took mid now limit line false takes = takes.broken refl

-- a line feed after two texts
end-joined : (head line : List ℕ) → (head ++ line) ++ 10 ∷ [] ≡ head ++ (line ++ 10 ∷ [])
end-joined head line = append_assoc head line (10 ∷ [])

module _ (coming mid now : Option (List ℕ)) (head line : List ℕ) (lines limit : ℕ) (passed : Passed head lines) (took : Consumes coming mid head) where
  -- and all that was taken with it
  pub all-took : (is_whole : Bool) → TakesLine mid now limit line is_whole → Consumes coming now (head ++ with_end line is_whole)
  all-took is_whole takes = Consumes-trans coming mid now head (with_end line is_whole) took (line-took mid now limit line is_whole takes)

  long : (is_whole : Bool) → IsOneLine line → (rest : List ℕ) → length (head ++ with_end line is_whole) ≤ length (head_of ((head ++ with_end line is_whole) ++ rest))
  long true one rest = subst (λ (front : List ℕ). length front ≤ length (head_of (front ++ rest))) (end-joined head line) (long-whole head line lines passed one rest)
  long false one rest = long-broken head line lines passed one rest

  -- a head that is too long
  pub head-too-long : (is_whole : Bool) → TakesLine mid now limit line is_whole → longest_source < length (head ++ with_end line is_whole)
      → (bytes : List ℕ) × MayGive coming bytes × IsTooLong (head_of bytes) (fault_of_source 40)
  head-too-long is_whole takes many =
      let front = head ++ with_end line is_whole in
      let some = some-come now in
      let more = long is_whole takes.one some.0 in
      (front ++ some.0, may-after coming now front some.0 (all-took is_whole takes) some.1, (refl, omega (arith, many, more)))

  -- a head that ends with its line `%%`
  open_head : TakesLine mid now limit line true → is_mark line ≡ true → TakesHead coming now (head ++ with_end line true) true
  open_head takes marked = record {
    taken = all-took true takes;
    marked = λ _ rest. subst (λ (front : List ℕ). HasHead (front ++ rest) front rest) (end-joined head line) (head-marked head line lines passed takes.one marked rest);
    closed = λ e. absurd cc;
  }

  -- a head that is all there is
  closed_head : TakesLine mid now limit line false → length line ≤ limit → TakesHead coming now (head ++ with_end line false) false
  closed_head takes short = record {
    taken = all-took false takes;
    marked = λ e. absurd cc;
    closed = λ _. (head-all head line lines passed takes.one, on-some-later coming mid head (IsAtEnd now) took (takes.end refl short));
  }

  -- one line more, and no mark
  more_head : IsOneLine line → is_mark line ≡ false → Passed (head ++ with_end line true) (lines + 1)
  more_head one unmarked = subst (λ (front : List ℕ). Passed front (lines + 1)) (end-joined head line) (passed-more head line lines passed one unmarked)

  -- the same of the bytes that were joined
  module _ (is_whole : Bool) (takes : TakesLine mid now limit line is_whole) (bytes : List ℕ) (joined : bytes ≡ head ++ with_end line is_whole) where
    pub head-taken : Consumes coming now bytes
    head-taken = subst (Consumes coming now) (sym joined) (all-took is_whole takes)

    pub head-open : is_whole ≡ true → is_mark line ≡ true → TakesHead coming now bytes true
    head-open is marked =
        subst (λ (front : List ℕ). TakesHead coming now front true) (sym (joined ∙ ap (λ (b : Bool). head ++ with_end line b) is))
        (open_head (subst (λ (b : Bool). TakesLine mid now limit line b) is takes) marked)

    pub head-closed : is_whole ≡ false → longest_source - length head ≤ limit → length bytes ≤ longest_source → TakesHead coming now bytes false
    head-closed is room short =
        let same = joined ∙ ap (λ (b : Bool). head ++ with_end line b) is in
        let few : length line ≤ limit = omega (arith, ap length same, length-append head line, room, short) in
        subst (λ (front : List ℕ). TakesHead coming now front false) (sym same) (closed_head (subst (λ (b : Bool). TakesLine mid now limit line b) is takes) few)

    pub head-more : is_whole ≡ true → is_mark line ≡ false → Passed bytes (lines + 1)
    head-more is unmarked =
        subst (λ (front : List ℕ). Passed front (lines + 1)) (sym (joined ∙ ap (λ (b : Bool). head ++ with_end line b) is)) (more_head takes.one unmarked)
