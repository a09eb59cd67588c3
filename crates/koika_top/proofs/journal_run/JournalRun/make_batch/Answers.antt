use Rattle.koika_top.specs.Histories.{board_of}
use Rattle.koika_top.specs.declared.journaled.Journaled.{Journaled}
use Rattle.koika_top.proofs.Records.{whole_of}
use Rattle.koika_top.proofs.journal_run.JournalRun.make_batch.Goals as goal

pub returns-clause-whole : goal.returns-clause-whole
returns-clause-whole g c =
    let made = c.run_journal.ensures in
    whole_of c.run_journal.result (λ (x : Journaled). x.entries) c.args.self.now.workers _ _
    (λ i. board_of (c.in_ok-design.ensures i) (c.in_ok-stimulus.ensures i) c.args.regs c.args.ends.from c.args.ends.to) made.legal made.closes made.by made.in_run
