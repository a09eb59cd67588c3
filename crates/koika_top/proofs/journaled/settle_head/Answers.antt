use Rattle.std.proofs.Common.{List, sym, subst}
use Rattle.attempt_log.specs.declared.entry.Entry.{Entry}
use Rattle.koika_top.specs.inner.Histories.{IsRecord}
use Rattle.koika_top.proofs.Records.{settled}
use Rattle.koika_top.proofs.journaled.settle_head.Goals as goal

pub returns-clause-record : goal.returns-clause-record
returns-clause-record c =
    subst (λ (h : List Entry). IsRecord c.args.worker h c.settle-answer.new.self) (sym c.in_ok-push_settle.ensures)
    (settled c.args.worker c.args.entries.now c.args.core.now c.settle-answer.new.self c.settle-answer.result c.requires c.settle-answer.ensures.step c.settle-answer.ensures.opening)
