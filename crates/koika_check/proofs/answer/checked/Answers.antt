use Rattle.std.proofs.Common.{◌≡◌, ◌∙◌, subst, sym}
use Rattle.std.specs.List.{All}
use Rattle.std.proofs.lemmas.Result.{err_from_is_err_and}
use Rattle.kw_bits.specs.Host.{TakesWidth}
use Rattle.kw_bits.specs.declared.host.HostSpec.{HostSpec}
use Rattle.koika_check.specs.Checks.{checked}
use Rattle.koika_check.specs.inner.Outcomes.{Answers}
use Rattle.koika_check.specs.declared.checked.Checked.{Checked}
use Rattle.koika_check.proofs.Answering.{ends-same}
use Rattle.koika_check.proofs.TypedTrees.{answer-offered, answer-typed}
use Rattle.koika_check.proofs.Wholes.{declared-ends, declared-gives, scheduled-ends, scheduled-gives}
use Rattle.koika_check.proofs.answer.checked.Goals as goal

pub returns-in_err-declarations-clause-answers : goal.returns-in_err-declarations-clause-answers
returns-in_err-declarations-clause-answers g c =
    let p = err_from_is_err_and c.from_residual-in_err-declarations.result c.from_residual-in_err-declarations.ensures.1 in
    let checker = c.new-checker in
    rw (p.1, p.2)
    (declared-ends checker.result.hosts _ c.as_slice.result.now c.args.tree.now checker.result.design _ (checker.ensures.hosts ∙ c.in_ok-specs.ensures.specs) c.as_slice.ensures checker.ensures.design c.in_err-declarations.ensures.answers)

pub returns-in_err-nodes-clause-answers : goal.returns-in_err-nodes-clause-answers
returns-in_err-nodes-clause-answers g c =
    let p = err_from_is_err_and c.from_residual-in_err-nodes.result c.from_residual-in_err-nodes.ensures.1 in
    let checker = c.new-checker in
    let all = c.in_ok-declarations.ensures.answers in
    rw (p.1, p.2)
    (ends-same (checked _ c.args.tree.now) _ _
    (declared-gives checker.result.hosts _ c.as_slice.result.now c.args.tree.now checker.result.design all.0 (checker.ensures.hosts ∙ c.in_ok-specs.ensures.specs) c.as_slice.ensures checker.ensures.design all.1)
    (scheduled-ends c.args.tree.now all.0 c.declarations.new.self.design _ all.2 c.in_err-nodes.ensures))

pub returns-clause-answers : goal.returns-clause-answers
returns-clause-answers g c =
    let checker = c.new-checker in
    let all = c.in_ok-declarations.ensures.answers in
    let nodes = c.in_ok-nodes.ensures in
    subst (λ o. Answers (λ (design found : Checked). design ≡ found) o c.within_limits.result)
    (sym (declared-gives checker.result.hosts _ c.as_slice.result.now c.args.tree.now checker.result.design all.0 (checker.ensures.hosts ∙ c.in_ok-specs.ensures.specs) c.as_slice.ensures checker.ensures.design all.1
    ∙ scheduled-gives c.args.tree.now all.0 c.declarations.new.self.design nodes.0 c.in_ok-nodes.nodes all.2 nodes.1 nodes.2))
    c.within_limits.ensures

pub returns-clause-typed : goal.returns-clause-typed
returns-clause-typed g c =
    let takes = subst (All (λ (h : HostSpec). TakesWidth h.kind h.in_width)) c.in_ok-specs.ensures.specs c.in_ok-specs.ensures.widths in
    answer-typed _ c.args.tree.now takes c.requires c.within_limits.result (returns-clause-answers g c)

pub returns-clause-offered : goal.returns-clause-offered
returns-clause-offered g c =
    let takes = subst (All (λ (h : HostSpec). TakesWidth h.kind h.in_width)) c.in_ok-specs.ensures.specs c.in_ok-specs.ensures.widths in
    answer-offered _ c.args.tree.now takes c.requires c.within_limits.result (returns-clause-answers g c)
