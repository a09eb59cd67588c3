use Rattle.std.proofs.Common.{refl, []}
use Rattle.koika_parse.proofs.Reading.{nothing, as_leaves}
use Rattle.koika_parse.proofs.Lists.{joined_start, joined_again, one_after_another}
use Rattle.koika_syntax.specs.Grammar.{prefix_leaves}
use Rattle.koika_parse.proofs.Expected.{fails, finish, not_so}
use Rattle.koika_parse.proofs.ChainWords.{prefixes_at, prefixes_end, prefixes_start}
use Rattle.koika_parse.proofs.Steps.{◌past◌}
use Rattle.koika_parse.proofs.source.Source.prefixes.Goals as goal

pub more-init : goal.more-init
more-init c = (
  joined_start _ _ _ [] prefix_leaves (λ prefix. Unit {0}) c.in_ok-first.first _ c.push.new.self
      c.in_ok-first.ensures.read tt c.new-all.ensures c.in_ok-push.ensures.ok,
  prefixes_start past c.in_ok-first.ensures.takes,
)

pub more-preserved : goal.more-preserved
more-preserved c = (
  joined_again c.in_ok-next.next c.push-in-more.new.self c.more.invariant.0 (nothing _ _ _ refl)
      c.in_ok-next.ensures.read tt c.in_ok-push-2.ensures.ok,
  prefixes_at (c.is_at_prefix.ensures.0 c.more-test.true) c.more.invariant.1 past c.in_ok-next.ensures.takes,
)

pub returns-clause-read : goal.returns-clause-read
returns-clause-read c = as_leaves _ (one_after_another prefix_leaves c.more.all) c.more.invariant.0.read

pub returns-in_err-first-clause-takes : goal.returns-in_err-first-clause-takes
returns-in_err-first-clause-takes c = fails _ c.from_residual.ensures prefixes_start c.in_err-first.ensures.takes

pub returns-in_err-next-clause-takes : goal.returns-in_err-next-clause-takes
returns-in_err-next-clause-takes c = fails _ c.from_residual-in_err-next.ensures
    (prefixes_at (c.is_at_prefix.ensures.0 c.more-test.true) c.more.invariant.1) c.in_err-next.ensures.takes

pub returns-clause-takes : goal.returns-clause-takes
returns-clause-takes c = finish _ (prefixes_end (not_so c.is_at_prefix.ensures c.more-test.false) c.more.invariant.1)
