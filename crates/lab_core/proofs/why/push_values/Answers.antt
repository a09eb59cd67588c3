use Rattle.std.proofs.Common.{ℕ, List, ◌+◌, ◌++◌, ◌∷◌, [], drop, sym, ap, ◌∙◌}
use Rattle.journal_check.specs.Printing.{spaced, value_text}
use Rattle.stim_report.specs.Report.{registers_text}
use Rattle.lab_core.proofs.Texts.{four_in_turn, values_more}
use Rattle.lab_core.proofs.why.push_values.Goals as goal

pub loop-number-preserved : goal.loop-number-preserved
loop-number-preserved c =
    let n = c.loop-number.number in
    let text = c.loop-number.text in
    let one = c.index-named-number.result in
    let value = c.index-values-number.result in
    let rest = registers_text (drop (n + 1) c.args.named.now) (drop (n + 1) c.args.values.now) in
    ap (λ (t : List ℕ). t ++ rest)
    (c.in_ok-push_value.ensures ∙ ap (λ (t : List ℕ). t ++ value_text value)
    (c.in_ok-push.ensures.ok ∙ ap (λ (t : List ℕ). t ++ 61 ∷ [])
    (c.in_ok-push_token.ensures ∙ ap (λ (name : List ℕ). text ++ spaced name) c.as_slice.ensures)))
    ∙ four_in_turn text (spaced one.name) (value_text value) rest 61
    ∙ ap (λ (t : List ℕ). text ++ t) (sym (values_more c.args.named.now c.args.values.now n one value c.loop-number-test.true c.requires c.index-named-number.is c.index-values-number.is))
    ∙ c.loop-number.invariant
