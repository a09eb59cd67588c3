use Rattle.std.proofs.Common.{◌≡◌, refl, subst, ap₂, ◌∙◌, inl, inr}
use Rattle.std.specs.Arc.{arc_value}
use Rattle.std.proofs.lemmas.Result.{err_from_is_err_and}
use Rattle.one_rule.specs.Stimulus.{InputVectors}
use Rattle.typed_core.specs.declared.design.Parts.{Parts}
use Rattle.board_core.specs.Board.{Opening}
use Rattle.board_core.specs.History.{IsLegal}
use Rattle.journal_check.specs.Checking.{IsFaultOfEntries, IsFirstWrong, at_line, opening_of}
use Rattle.journal_check.specs.inner.Replaying.{Leaves}
use Rattle.journal_check.proofs.LinesRead.{fails}
use Rattle.journal_check.proofs.Replays.{closes_from, closes_to}
use Rattle.journal_check.proofs.RunsOfBatches.{fault_onto, refused}
use Rattle.journal_check.proofs.replay.replay.Goals as goal

pub returns-in_err-make_entries-clause-fault : goal.returns-in_err-make_entries-clause-fault
returns-in_err-make_entries-clause-fault c =
    let batch = c.args.batch.now in
    let o : Opening = opening_of (arc_value c.args.workload.now.design) (arc_value c.args.workload.now.stimulus) c.args.regs batch in
    let same : c.in_ok-core.core.opening ≡ o = c.in_ok-core.ensures.opening ∙ ap₂ (λ (d : Parts) (s : InputVectors). opening_of d s c.args.regs batch) c.in_ok-design.ensures.design c.in_ok-design.ensures.stimulus in
    let p = err_from_is_err_and c.from_residual-in_err-make_entries.result c.from_residual-in_err-make_entries.ensures.1 in
    rw (p.1, p.2)
    (fault_onto (IsFirstWrong c.in_ok-core.core.opening batch) (IsFaultOfEntries o batch) c.in_err-make_entries.field-0.0
    (λ fault wrong. inl (subst (λ (q : Opening). IsFirstWrong q batch fault) same wrong))
    c.in_err-make_entries.ensures.fault)

pub returns-then-not-has_closed_all-clause-fault : goal.returns-then-not-has_closed_all-clause-fault
returns-then-not-has_closed_all-clause-fault c =
    let batch = c.args.batch.now in
    let o : Opening = opening_of (arc_value c.args.workload.now.design) (arc_value c.args.workload.now.stimulus) c.args.regs batch in
    let same : c.in_ok-core.core.opening ≡ o = c.in_ok-core.ensures.opening ∙ ap₂ (λ (d : Parts) (s : InputVectors). opening_of d s c.args.regs batch) c.in_ok-design.ensures.design c.in_ok-design.ensures.stimulus in
    let leaves = subst (λ (q : Opening). Leaves q batch.entries c.make_entries.new.core) same c.in_ok-make_entries.ensures.leaves in
    let legal = subst (λ (q : Opening). IsLegal q batch.entries) same c.in_ok-make_entries.ensures.legal in
    let open_ = fails c.has_closed_all.result c.has_closed_all.ensures c.if-not-has_closed_all.true in
    refused (IsFaultOfEntries o batch) c.refusal.result (at_line 83 batch.line) c.refusal.ensures
    (inr (legal, (λ closes. open_ (closes_to o batch.entries c.make_entries.new.core leaves closes)), refl))

pub returns-clause-legal : goal.returns-clause-legal
returns-clause-legal c =
    let batch = c.args.batch.now in
    let o : Opening = opening_of (arc_value c.args.workload.now.design) (arc_value c.args.workload.now.stimulus) c.args.regs batch in
    let same : c.in_ok-core.core.opening ≡ o = c.in_ok-core.ensures.opening ∙ ap₂ (λ (d : Parts) (s : InputVectors). opening_of d s c.args.regs batch) c.in_ok-design.ensures.design c.in_ok-design.ensures.stimulus in
    subst (λ (q : Opening). IsLegal q batch.entries) same c.in_ok-make_entries.ensures.legal

pub returns-clause-closes : goal.returns-clause-closes
returns-clause-closes c =
    let batch = c.args.batch.now in
    let o : Opening = opening_of (arc_value c.args.workload.now.design) (arc_value c.args.workload.now.stimulus) c.args.regs batch in
    let same : c.in_ok-core.core.opening ≡ o = c.in_ok-core.ensures.opening ∙ ap₂ (λ (d : Parts) (s : InputVectors). opening_of d s c.args.regs batch) c.in_ok-design.ensures.design c.in_ok-design.ensures.stimulus in
    let leaves = subst (λ (q : Opening). Leaves q batch.entries c.make_entries.new.core) same c.in_ok-make_entries.ensures.leaves in
    closes_from o batch.entries c.make_entries.new.core leaves (c.has_closed_all.ensures.0 c.if-not-has_closed_all.false)
