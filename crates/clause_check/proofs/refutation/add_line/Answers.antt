use Rattle.std.proofs.Common.{None, Some, ℕ, List, ap, sym, ◌∙◌}
use Rattle.std.proofs.lemmas.Result.{err_from_is_err_and}
use Rattle.clause_check.specs.Lines.{tokens_of}
use Rattle.clause_check.specs.Refutations.{added, after_line, dropped}
use Rattle.clause_check.specs.Steps.{step_of}
use Rattle.clause_check.specs.declared.step.Form.{Form}
use Rattle.clause_check.specs.inner.Progresses.{IsFaultOf, progress_of}
use Rattle.clause_check.specs.inner.Tokens.{IsMalformed, step_by}
use Rattle.clause_check.proofs.Checking.{line_makes, makes_fault, makes_ok}
use Rattle.clause_check.proofs.Refusals.{passes}
use Rattle.clause_check.proofs.refutation.add_line.Goals as goal

pub returns-in_err-form-clause-fault : goal.returns-in_err-form-clause-fault
returns-in_err-form-clause-fault c =
    let p = err_from_is_err_and c.from_residual.result c.from_residual.ensures.1 in
    rw (p.1, p.2)
    (passes Form (Unit {0}) c.in_err-form.field-0.0 (IsMalformed c.args.line (step_of c.args.variables (tokens_of c.args.bytes.now)))
    (IsFaultOf c.args.line (after_line c.args.variables c.args.bytes.now (progress_of c.args.checker.now.database))) c.in_err-form.ensures.fault
    (λ fault is. (93, is.0, line_makes c.args.variables c.args.bytes.now (progress_of c.args.checker.now.database) None is.1)))

pub returns-in-Skips-clause-ok : goal.returns-in-Skips-clause-ok
returns-in-Skips-clause-ok c =
    let lists = c.read_step.new.lists in
    line_makes c.args.variables c.args.bytes.now (progress_of c.args.checker.now.database) _
    (c.in_ok-form.ensures.read ∙ ap (λ (f : Form). Some (step_by f lists.literals.items lists.numbers.items)) c.in-Skips.is)

pub returns-in-Adds-clause-ok : goal.returns-in-Adds-clause-ok
returns-in-Adds-clause-ok c =
    let lists = c.read_step.new.lists in
    let before = progress_of c.args.checker.now.database in
    makes_ok c.add.result _ (added c.in-Adds.number lists.literals.items lists.numbers.items before) (progress_of c.add.new.checker.database)
    (line_makes c.args.variables c.args.bytes.now before _ (c.in_ok-form.ensures.read ∙ ap (λ (f : Form). Some (step_by f lists.literals.items lists.numbers.items)) c.in-Adds.is)) c.add.ensures.ok

pub returns-in-Adds-clause-fault : goal.returns-in-Adds-clause-fault
returns-in-Adds-clause-fault c =
    let lists = c.read_step.new.lists in
    let before = progress_of c.args.checker.now.database in
    makes_fault c.add.result c.args.line _ (added c.in-Adds.number lists.literals.items lists.numbers.items before)
    (line_makes c.args.variables c.args.bytes.now before _ (c.in_ok-form.ensures.read ∙ ap (λ (f : Form). Some (step_by f lists.literals.items lists.numbers.items)) c.in-Adds.is)) c.add.ensures.fault

pub returns-in-Drops-clause-ok : goal.returns-in-Drops-clause-ok
returns-in-Drops-clause-ok c =
    let lists = c.read_step.new.lists in
    let before = progress_of c.args.checker.now.database in
    makes_ok c.drop_all.result _ (dropped c.as_slice.result.now before) (progress_of c.drop_all.new.checker.database)
    (line_makes c.args.variables c.args.bytes.now before _ (c.in_ok-form.ensures.read ∙ ap (λ (f : Form). Some (step_by f lists.literals.items lists.numbers.items)) c.in-Drops.is)
    ∙ sym (ap (λ (numbers : List ℕ). dropped numbers before) c.as_slice.ensures.value)) c.drop_all.ensures.ok

pub returns-in-Drops-clause-fault : goal.returns-in-Drops-clause-fault
returns-in-Drops-clause-fault c =
    let lists = c.read_step.new.lists in
    let before = progress_of c.args.checker.now.database in
    makes_fault c.drop_all.result c.args.line _ (dropped c.as_slice.result.now before)
    (line_makes c.args.variables c.args.bytes.now before _ (c.in_ok-form.ensures.read ∙ ap (λ (f : Form). Some (step_by f lists.literals.items lists.numbers.items)) c.in-Drops.is)
    ∙ sym (ap (λ (numbers : List ℕ). dropped numbers before) c.as_slice.ensures.value)) c.drop_all.ensures.fault
