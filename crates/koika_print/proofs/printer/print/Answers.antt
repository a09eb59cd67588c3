use Rattle.std.proofs.Common.{◌++◌, ap, ◌∙◌}
use Rattle.koika_syntax.specs.Grammar.{tree_leaves}
use Rattle.koika_print.specs.Printed.{printed}
use Rattle.koika_print.proofs.Lexed.{lexed_text}
use Rattle.koika_print.proofs.Writable.{writable}
use Rattle.koika_print.proofs.printer.print.Goals as goal

pub returns-clause-tokens : goal.returns-clause-tokens
returns-clause-tokens c writable =
    let leaves = tree_leaves c.args.tree.now in
    lexed_text c.design.new.out leaves (c.in_ok-design.ensures.text ∙ ap (λ text. text ++ printed leaves) c.new-out.ensures) writable

pub returns-clause-derived : goal.returns-clause-derived
returns-clause-derived c is = returns-clause-tokens c (writable c.args.tree.now is)
