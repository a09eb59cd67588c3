use Rattle.std.proofs.Common.{◌<◌, ℕ, refl, sym, subst, ◌∙◌}
use Rattle.attempt_log.specs.Entries.{worker_of}
use Rattle.attempt_log.specs.declared.entry.Entry.{Entry}
use Rattle.board_core.specs.Board.{Opening}
use Rattle.board_core.specs.History.{IsLegal}
use Rattle.board_lock.specs.Histories.{Each, InRun, IsPast}
use Rattle.koika_top.proofs.Records.{begun, if_ok}
use Rattle.koika_top.proofs.journaled.run_journal.Goals as goal

pub finish-requires : goal.finish-requires
finish-requires g c =
    let entries = c.in_ok-noted.noted.entries in
    let view = c.journal_all.new.self.place.me.0 in
    begun c.args.workers entries view.seen view.opened c.close.result c.in_ok-noted.ensures.entries c.close.ensures.core c.close.ensures.legal
    (subst (λ (n : ℕ). Each (λ (e : Entry). worker_of e < n) entries) c.in_ok-board.ensures.workers c.in_ok-noted.ensures.workers)
    (subst (λ (o : Opening). Each (InRun o) entries) (sym c.journal_all.ensures.opened) c.in_ok-noted.ensures.in_run)

pub returns-clause-legal : goal.returns-clause-legal
returns-clause-legal g c =
    let same = c.close.ensures.core.opening ∙ c.journal_all.ensures.opened ∙ c.in_ok-board.ensures.tells refl ∙ c.in_ok-core.ensures.opening in
    if_ok c.finish.result _ _ (λ made done. subst (λ (o : Opening). IsLegal o made.entries) same done.legal) c.finish.ensures.whole

pub returns-clause-closes : goal.returns-clause-closes
returns-clause-closes g c =
    let same = c.close.ensures.core.opening ∙ c.journal_all.ensures.opened ∙ c.in_ok-board.ensures.tells refl ∙ c.in_ok-core.ensures.opening in
    if_ok c.finish.result _ _ (λ made done. subst (λ (o : Opening). IsPast o made.entries) same done.closes) c.finish.ensures.whole
