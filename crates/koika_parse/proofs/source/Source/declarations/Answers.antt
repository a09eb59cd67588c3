use Rattle.std.proofs.Common.{refl}
use Rattle.koika_syntax.specs.Grammar.{IsDeclaration, declaration_leaves}
use Rattle.koika_parse.proofs.Lists.{row_start, row_again}
use Rattle.koika_parse.proofs.DeclarationWords.{declarations_at, declarations_end, declarations_start}
use Rattle.koika_parse.proofs.Expected.{fails, finish, not_so}
use Rattle.koika_parse.proofs.Steps.{◌past◌}
use Rattle.koika_parse.proofs.source.Source.declarations.Goals as goal

pub more-init : goal.more-init
more-init c = (row_start _ _ _ declaration_leaves IsDeclaration _ refl c.new-all.ensures, declarations_start)

pub more-preserved : goal.more-preserved
more-preserved c = (
  row_again c.in_ok-next.next c.push.new.self c.more.invariant.0 c.in_ok-next.ensures.read c.in_ok-next.ensures.is
      c.in_ok-push.ensures.ok,
  declarations_at (not_so c.is_at_word.ensures c.more-test.true) c.more.invariant.1 past c.in_ok-next.ensures.takes,
)

pub returns-in_err-next-clause-takes : goal.returns-in_err-next-clause-takes
returns-in_err-next-clause-takes c =
    fails _ c.from_residual.ensures (declarations_at (not_so c.is_at_word.ensures c.more-test.true) c.more.invariant.1)
    c.in_err-next.ensures.takes

pub returns-clause-takes : goal.returns-clause-takes
returns-clause-takes c = finish _ (declarations_end (c.is_at_word.ensures.0 c.more-test.false) c.more.invariant.1)
