use Rattle.std.proofs.Common.{ℕ, List, ◌-◌, [], ◌∷◌, ◌++◌, ap, sym, ◌∙◌, append_assoc, arith}
use Rattle.stim_report.specs.Report.{hex_digits}
use Rattle.stim_report.proofs.Hex.{hex_digits_step}
use Rattle.journal_check.proofs.words.push_digits.Goals as goal

pub loop-place-preserved : goal.loop-place-preserved
loop-place-preserved c =
    let place = c.loop-place.place in
    let number = c.args.number in
    let text = c.loop-place.text in
    let rest = hex_digits (place - 1) number in
    let digit = hex_digits_step place number c.loop-place-test.true ∙ ap (λ (d : ℕ). d ∷ rest) (sym c.digit_at.ensures) in (
      omega (arith, c.loop-place.invariant.0),
      ap (λ (t : List ℕ). t ++ rest) c.in_ok-push.ensures.ok ∙ append_assoc text (c.digit_at.result ∷ []) rest ∙ ap (λ (ds : List ℕ). text ++ ds) (sym digit) ∙ c.loop-place.invariant.1,
    )
