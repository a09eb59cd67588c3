use Rattle.std.proofs.Common.{◌≡◌, ℕ, ◌+◌, ◌-◌, ◌≤◌, List, [], ◌∷◌, ◌++◌, length, take, drop, vec_len, sym, ap, subst, ◌∙◌, arith}
use Rattle.std.specs.Prelude.{position}
use Rattle.std.proofs.lemmas.List.{length-take}
use Rattle.kw_base.specs.Texts.{ends_line}
use Rattle.stream_run.specs.inner.Reading.{IsOneLine}
use Rattle.stream_run.proofs.Taking.{EndsAt, ends-at, ends-nowhere, part-behind}
use Rattle.stream_run.proofs.reader.Reader.take_line.Goals as goal

pub returns-in_ok-extend_from_slice-in-Some-clause-whole : goal.returns-in_ok-extend_from_slice-in-Some-clause-whole
returns-in_ok-extend_from_slice-in-Some-clause-whole c = λ _.
    let inside = c.self.inside in
    let at = c.in-Some.at in
    let unread = take (inside.end - inside.next) (drop inside.next inside.chunk.items) in
    let same : take (inside.end - inside.next) (drop inside.next c.deref.result.now) ≡ unread =
    ap (λ (bytes : List ℕ). take (inside.end - inside.next) (drop inside.next bytes)) c.deref.ensures.value in
    let ends : EndsAt unread at = ends-at unread at (sym (ap (position ends_line) same) ∙ sym c.in-Some.ensures) in
    let within : inside.next + (at + 1) ≤ inside.end = omega (arith, ends.within, length-take (inside.end - inside.next) (drop inside.next inside.chunk.items)) in (
      take at unread,
      c.in_ok-extend_from_slice-in-Some.ensures.items ∙ ap (λ (piece : List ℕ). c.args.line.now.items ++ piece) (ap (take at) same),
      sym c.self.view_is ∙ ends.parts ∙ ap (λ (rest : List ℕ). take at unread ++ 10 ∷ rest) (part-behind inside.chunk.items inside.next inside.end (at + 1) within),
      ends.one,
    )

pub returns-in_ok-extend_from_slice-in-None-clause-broken : goal.returns-in_ok-extend_from_slice-in-None-clause-broken
returns-in_ok-extend_from_slice-in-None-clause-broken c = λ _.
    let inside = c.self.inside in
    let unread = take (inside.end - inside.next) (drop inside.next inside.chunk.items) in
    let same : take (inside.end - inside.next) (drop inside.next c.deref.result.now) ≡ unread =
    ap (λ (bytes : List ℕ). take (inside.end - inside.next) (drop inside.next bytes)) c.deref.ensures.value in
    let none : inside.end - inside.end ≡ 0 = omega arith in (
      c.in_ok-extend_from_slice-in-None.ensures.items ∙ ap (λ (piece : List ℕ). c.args.line.now.items ++ piece) (same ∙ c.self.view_is),
      c.in_ok-extend_from_slice-in-None.ensures.len ∙ ap (λ (piece : List ℕ). vec_len c.args.line.now + length piece) (same ∙ c.self.view_is),
      ap (λ (n : ℕ). take n (drop inside.end inside.chunk.items)) none,
      subst IsOneLine c.self.view_is (ends-nowhere unread (sym (ap (position ends_line) same) ∙ sym c.in-None.ensures)),
    )
