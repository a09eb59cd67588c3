use Rattle.std.proofs.Common.{sym, ◌∙◌}
use Rattle.koika_check.proofs.Declaring.{table-widths}
use Rattle.koika_check.proofs.Telling.{passes-ok}
use Rattle.koika_check.proofs.checker.Checker.table.Goals as goal

pub add_table-requires-clause-widths : goal.add_table-requires-clause-widths
add_table-requires-clause-widths c =
    table-widths c.args.name.now c.args.input c.args.output c.args.entries.now (sym c.table_wrong.ensures ∙ passes-ok c.table_wrong.result c.in_ok-refuse.field-0 c.in_ok-refuse.ensures)
