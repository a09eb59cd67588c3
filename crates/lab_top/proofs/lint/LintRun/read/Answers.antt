use Rattle.std.proofs.Common.{Bool, List, ℕ, ap, inl, subst, sym, ◌∙◌}
use Rattle.std.proofs.lemmas.Result.{err_from_is_err_and}
use Rattle.typed_core.specs.Valid.{IsValid}
use Rattle.front_end.proofs.Reading.{fault-of-part}
use Rattle.lint_text.specs.Places.{places_in}
use Rattle.lab_top.specs.inner.Lint.{NeverFire}
use Rattle.lab_top.proofs.lint.LintRun.read.Goals as goal

pub new-requires-clause-typed : goal.new-requires-clause-typed
new-requires-clause-typed g c = c.in_ok-spelled.ensures.typed

pub returns-clause-spelled : goal.returns-clause-spelled
returns-clause-spelled g c = rw (c.in_ok-lowered.ensures.checked, c.in_ok-lowered.ensures.stimulus) c.in_ok-spelled.ensures.spelled

pub returns-clause-valid : goal.returns-clause-valid
returns-clause-valid g c = subst IsValid c.deref-design.ensures c.recall.ensures

pub returns-clause-noted : goal.returns-clause-noted
returns-clause-noted g c = record {
  tree = c.in_ok-tree.tree;
  spelled = c.in_ok-tree.ensures.spelled;
  at = c.in_ok-places.ensures ∙ ap (λ (text : List ℕ). places_in text c.in_ok-tree.tree) c.source_parts-parts.ensures.design;
  found = c.in_ok-findings.ensures.found;
  never = subst (λ (marks : List Bool). NeverFire c.in_ok-lowered.lowered.checked marks) (sym c.in_ok-findings.ensures.never) c.in_ok-never.ensures;
}

pub returns-in_err-tree-clause-refused : goal.returns-in_err-tree-clause-refused
returns-in_err-tree-clause-refused g c =
    let p = err_from_is_err_and c.from_residual-in_err-tree.result c.from_residual-in_err-tree.ensures.1 in
    rw (p.1, p.2) (fault-of-part _ _ c.in_err-tree.field-0.0 (λ fault h. inl (inl h)) c.in_err-tree.ensures.refused)

pub returns-in_err-places-clause-refused : goal.returns-in_err-places-clause-refused
returns-in_err-places-clause-refused g c =
    let p = err_from_is_err_and c.from_residual-in_err-places.result c.from_residual-in_err-places.ensures.1 in
    rw (p.1, p.2) tt

pub returns-in_err-lowered-clause-refused : goal.returns-in_err-lowered-clause-refused
returns-in_err-lowered-clause-refused g c =
    let p = err_from_is_err_and c.from_residual-in_err-lowered.result c.from_residual-in_err-lowered.ensures.1 in
    rw (p.1, p.2) tt

pub returns-in_err-never-clause-refused : goal.returns-in_err-never-clause-refused
returns-in_err-never-clause-refused g c =
    let p = err_from_is_err_and c.from_residual-in_err-never.result c.from_residual-in_err-never.ensures.1 in
    rw (p.1, p.2) tt

pub returns-in_err-findings-clause-refused : goal.returns-in_err-findings-clause-refused
returns-in_err-findings-clause-refused g c =
    let p = err_from_is_err_and c.from_residual-in_err-findings.result c.from_residual-in_err-findings.ensures.1 in
    rw (p.1, p.2) tt
