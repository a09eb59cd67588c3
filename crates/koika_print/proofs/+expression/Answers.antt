use Rattle.std.proofs.Common.{rules}
use Rattle.koika_print.proofs.Printing.{printing_expressions}
use Rattle.koika_print.proofs.+expression.Goals as goal

-- four parts in turn are more than the check's own search takes
pub expressions::expression-returns-in_ok-replaced-in-Update : goal.expressions::expression-returns-in_ok-replaced-in-Update
expressions::expression-returns-in_ok-replaced-in-Update t c = search (rules, printing_expressions) depth 9 fits 5000
