use Rattle.std.proofs.Common.{◌≡◌, ◌++◌, map, take}
use Rattle.journal_check.specs.Printing.{batch_tokens, ended, joined_tokens, text_of}
use Rattle.journal_check.specs.declared.line.JournalLine.TheVariants as line
use Rattle.journal_check.proofs.print.push_lines.Given as goal

abbrev pub invariant-loop-entry : goal.invariant-loop-entry
invariant-loop-entry l = l.text ≡ l.fn.text ++ ended (joined_tokens (batch_tokens l.batch.from l.batch.to)) ++ text_of l.design (map line.Entry (take l.entry-index l.batch.entries))
