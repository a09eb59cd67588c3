use Rattle.std.proofs.Common.{◌≡◌, ◌++◌, take}
use Rattle.std.specs.List.{flat_map}
use Rattle.journal_check.specs.Journals.{lines_of_batch}
use Rattle.journal_check.specs.Printing.{begin_tokens, ended, joined_tokens, text_of}
use Rattle.journal_check.proofs.print.print_journal.Given as goal

abbrev pub invariant-loop-batch : goal.invariant-loop-batch
invariant-loop-batch l = l.text ≡ ended (joined_tokens (begin_tokens l.journal.workers)) ++ text_of l.design (flat_map lines_of_batch (take l.batch-index l.journal.batches))
