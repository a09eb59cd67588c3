use Rattle.std.proofs.Common.{◌≡◌, ◌≤◌, ◌∙◌, ℕ, List, ap, inl, inr, length, min, refl, sym, take, arith}
use Rattle.std.proofs.lemmas.Bool.{cases_lt}
use Rattle.std.proofs.lemmas.List.{take_all}
use Rattle.kw_base.specs.Place.{column_after, line_after, place_at}
use Rattle.kw_base.specs.declared.place.Place.{Place}
use Rattle.lint_text.proofs.places.Mark.moved.Goals as goal

-- what is beyond the end is at the end
clamped : (text : List ℕ) (to k : ℕ) → k ≡ min to (length text) → place_at text k ≡ place_at text to
unfolding place_at
clamped text to k is = ap (λ (front : List ℕ). let p : Place = record { line = line_after front; column = column_after front } in p) same
  where
    same : take k text ≡ take to text
    same = elim (cases_lt to (length text)) [
      | inl less ↦ let e : k ≡ to = omega (arith, is, less) in ap (λ (n : ℕ). take n text) e
      | inr beyond ↦
          let e : length text ≤ k = omega (arith, is, beyond) in
          take_all k text e ∙ sym (take_all to text beyond)
    ]

pub after-requires-else-self-to-clause-mark : goal.after-requires-else-self-to-clause-mark
unfolding place_at
after-requires-else-self-to-clause-mark c = refl

pub returns-then-self-to-clause-place : goal.returns-then-self-to-clause-place
returns-then-self-to-clause-place c = c.after.ensures.place ∙ clamped c.args.text.now c.args.to c.min-to.result (omega (arith, c.min-to.ensures))

pub returns-else-self-to-clause-place : goal.returns-else-self-to-clause-place
returns-else-self-to-clause-place c = c.after-else-self-to.ensures.place ∙ clamped c.args.text.now c.args.to c.min-to.result (omega (arith, c.min-to.ensures))
