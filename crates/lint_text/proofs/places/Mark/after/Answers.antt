use Rattle.std.proofs.Common.{◌≡◌, ◌∙◌, ℕ, ap, ap₂, take, arith}
use Rattle.kw_base.specs.Place.{column_after, line_after, place_at}
use Rattle.kw_base.specs.declared.place.Place.{Place}
use Rattle.lint_text.proofs.places.Mark.after.Goals as goal

pub loop-at-init : goal.loop-at-init
unfolding place_at
loop-at-init c = (ap (λ (p : Place). p.line) c.requires.mark, ap (λ (p : Place). p.column) c.requires.mark)

pub returns-clause-place : goal.returns-clause-place
unfolding place_at
returns-clause-place c =
    let whole : c.loop-at.at ≡ c.args.to = omega arith in
    let line = c.loop-at.invariant.0 ∙ ap (λ (k : ℕ). line_after (take k c.args.text.now)) whole in
    let column = c.loop-at.invariant.1 ∙ ap (λ (k : ℕ). column_after (take k c.args.text.now)) whole in
    ap₂ (λ (l k : ℕ). let p : Place = record { line = l; column = k } in p) line column
