use Rattle.std.proofs.Common.{◌≡◌, ◌+◌, ◌-◌, ◌∷◌, drop, length, sym, ap, ◌∙◌, Some, arith}
use Rattle.std.specs.Prelude.{slice_set}
use Rattle.std.proofs.lemmas.List.{drop_all, drop_more}
use Rattle.lab_core.specs.inner.Counting.{verdicts_of}
use Rattle.lab_core.proofs.Tables.{table_begins, table_next}
use Rattle.lab_core.proofs.table.verdicts_of.Goals as goal

pub loop-number-init : goal.loop-number-init
loop-number-init c =
    let tried = c.args.tried.now in
    c.in_ok-verdicts.ensures ∙ table_begins c.args.rules ∙ ap (verdicts_of c.args.rules) (sym (drop_all (length tried) tried (omega arith)))

pub loop-number-preserved : goal.loop-number-preserved
loop-number-preserved c =
    let n = c.loop-number.number in
    let tried = c.args.tried.now in
    let t = c.index-tried-number.result in
    let next : n - 1 + 1 ≡ n = omega (arith, c.loop-number-test.true) in
    let here : drop (n - 1) tried ≡ t ∷ drop n tried =
    drop_more tried (n - 1) t (omega (arith, c.loop-number-test.true, c.loop-number.auto.number)) ∙ ap (λ x. x ∷ drop (n - 1 + 1) tried) (sym c.index-tried-number.is) ∙ ap (λ k. t ∷ drop k tried) next in
    c.put.ensures ∙ ap (λ vs. slice_set vs t.rule (Some t.verdict)) c.loop-number.invariant ∙ table_next c.args.rules t (drop n tried) ∙ ap (verdicts_of c.args.rules) (sym here)
