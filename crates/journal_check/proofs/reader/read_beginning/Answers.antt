use Rattle.std.proofs.Common.{ℕ, List, ◌∷◌, ap, ◌∙◌}
use Rattle.std.proofs.lemmas.Result.{err_from_is_err_and}
use Rattle.kw_base.specs.Texts.{lines_of}
use Rattle.journal_check.proofs.Adding.{no_beginning, no_lines}
use Rattle.journal_check.proofs.reader.read_beginning.Goals as goal

pub returns-in_default-clause-fault : goal.returns-in_default-clause-fault
returns-in_default-clause-fault c = no_lines c.args.reader.now.names.design.now c.args.reader.now.stimulus.now c.args.bytes.now c.args.number c.refusal.result c.refusal.ensures c.in_default.ensures.absent

pub returns-in_err-workers-clause-fault : goal.returns-in_err-workers-clause-fault
returns-in_err-workers-clause-fault c =
    let p = err_from_is_err_and c.from_residual.result c.from_residual.ensures.1 in
    rw (p.1, p.2) (no_beginning c.args.reader.now.names.design.now c.args.reader.now.stimulus.now c.args.bytes.now c.in-Some.line.bytes.now (lines_of c.in-Some.line.rest.now) c.args.number c.in_err-workers.field-0.0 c.in-Some.ensures.found c.in_err-workers.ensures.fault)

pub returns-clause-begins : goal.returns-clause-begins
returns-clause-begins c =
    (c.in_ok-workers.ensures.fits, c.in-Some.ensures.found ∙ ap (λ (text : List ℕ). text ∷ lines_of c.in-Some.line.rest.now) c.in_ok-workers.ensures.text)
