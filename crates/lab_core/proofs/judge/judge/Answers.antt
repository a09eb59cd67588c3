use Rattle.std.proofs.Common.{◌≡◌, ◌+◌, ◌∷◌, drop, sym, ap, ◌∙◌, arith}
use Rattle.std.specs.Option.{option_or}
use Rattle.std.proofs.lemmas.List.{drop_more}
use Rattle.lab_core.specs.Trials.{clash_among, refused}
use Rattle.lab_core.specs.inner.Tops.{fired_in}
use Rattle.lab_core.proofs.Verdicts.{verdict_plain}
use Rattle.lab_core.proofs.judge.judge.Goals as goal

pub returns-in-Some-clause-verdict : goal.returns-in-Some-clause-verdict
returns-in-Some-clause-verdict c =
    let past = fired_in c.args.tried.now in
    let run = c.args.run.now in
    let n = c.loop-number.number in
    let items = c.as_slice-event-items.result.now in
    let e = c.event-item.result in
    let here : drop n items ≡ e ∷ drop (n + 1) items =
    drop_more items n e (omega arith) ∙ ap (λ x. x ∷ drop (n + 1) items) (sym c.event-item.is) in
    let found = c.loop-number.invariant.clash ∙ ap (λ es. clash_among past (drop n es)) (sym c.as_slice-event-items.ensures) ∙ ap (clash_among past) here
    ∙ ap (λ o. option_or o (clash_among past (drop (n + 1) items))) (sym c.in-Some.ensures) in
    sym (verdict_plain past run ∙ ap (λ o. refused o run.outcome) found)
