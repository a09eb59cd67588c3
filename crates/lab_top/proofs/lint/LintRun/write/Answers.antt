use Rattle.std.proofs.Common.{◌∙◌}
use Rattle.std.proofs.lemmas.Result.{err_from_is_err_and}
use Rattle.front_end.proofs.Told.{told-as, told-none}
use Rattle.lint_text.specs.Findings.{is_set, order_of}
use Rattle.lab_top.proofs.LintTexts.{whole}
use Rattle.lab_top.proofs.ThreeParts.{told-first, told-last, told-middle, told-no_last}
use Rattle.lab_top.proofs.lint.LintRun.write.Goals as goal

pub returns-in_err-rules : goal.returns-in_err-rules
returns-in_err-rules g c =
    let p = err_from_is_err_and c.from_residual.result c.from_residual.ensures.1 in
    rw (p.1, p.2) (told-none _ _ _)

pub returns-in_err-write_text : goal.returns-in_err-write_text
returns-in_err-write_text g c =
    let it = c.args.self.now in
    let all = whole it.lowered.checked it.places (order_of it.findings) (is_set it.findings.never) in
    let residual = c.from_residual-in_err-write_text in
    let p = err_from_is_err_and residual.result residual.ensures.1 in
    let one = told-as _ _ _ _ (c.as_slice.ensures ∙ c.in_ok-rules.ensures) c.in_err-write_text.ensures in
    rw (p.1, p.2) (told-first _ _ _ _ all _ _ one)

pub returns-in_err-write_pairs : goal.returns-in_err-write_pairs
returns-in_err-write_pairs g c =
    let it = c.args.self.now in
    let all = whole it.lowered.checked it.places (order_of it.findings) (is_set it.findings.never) in
    let residual = c.from_residual-in_err-write_pairs in
    let p = err_from_is_err_and residual.result residual.ensures.1 in
    let one = told-as _ _ _ _ (c.as_slice.ensures ∙ c.in_ok-rules.ensures) c.in_ok-write_text.ensures in
    rw (p.1, p.2) (told-middle _ _ _ _ all _ _ _ _ _ _ _ one _ c.in_err-write_pairs.ensures)

pub returns-in_err-last : goal.returns-in_err-last
returns-in_err-last g c =
    let it = c.args.self.now in
    let all = whole it.lowered.checked it.places (order_of it.findings) (is_set it.findings.never) in
    let residual = c.from_residual-in_err-last in
    let p = err_from_is_err_and residual.result residual.ensures.1 in
    let one = told-as _ _ _ _ (c.as_slice.ensures ∙ c.in_ok-rules.ensures) c.in_ok-write_text.ensures in
    rw (p.1, p.2) (told-no_last _ _ _ _ all _ _ _ _ _ _ _ one _ c.in_ok-write_pairs.ensures)

pub returns : goal.returns
returns g c =
    let it = c.args.self.now in
    let all = whole it.lowered.checked it.places (order_of it.findings) (is_set it.findings.never) in
    let one = told-as _ _ _ _ (c.as_slice.ensures ∙ c.in_ok-rules.ensures) c.in_ok-write_text.ensures in
    let three = told-as _ _ _ _ (c.as_slice-2.ensures ∙ c.in_ok-last.ensures) c.write_text-2.ensures in
    told-last _ _ _ _ all _ _ _ _ _ _ _ one _ c.in_ok-write_pairs.ensures _ _ _ three
