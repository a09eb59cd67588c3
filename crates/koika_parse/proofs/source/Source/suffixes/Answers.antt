use Rattle.std.proofs.Common.{refl, []}
use Rattle.koika_parse.proofs.Reading.{nothing, as_leaves}
use Rattle.koika_parse.proofs.Lists.{joined_start, joined_again, one_after_another}
use Rattle.koika_syntax.specs.Grammar.{IsSuffix, suffix_leaves}
use Rattle.koika_parse.proofs.Expected.{fails, finish, not_so}
use Rattle.koika_parse.proofs.ChainWords.{suffixes_at, suffixes_end, suffixes_start}
use Rattle.koika_parse.proofs.Steps.{◌past◌}
use Rattle.koika_parse.proofs.source.Source.suffixes.Goals as goal

pub more-init : goal.more-init
more-init c = (
  joined_start _ _ _ [] suffix_leaves IsSuffix c.in_ok-first.first _ c.push.new.self c.in_ok-first.ensures.read
      c.in_ok-first.ensures.is c.new-all.ensures c.in_ok-push.ensures.ok,
  suffixes_start past c.in_ok-first.ensures.takes,
)

pub more-preserved : goal.more-preserved
more-preserved c = (
  joined_again c.in_ok-next.next c.push-in-more.new.self c.more.invariant.0 (nothing _ _ _ refl)
      c.in_ok-next.ensures.read c.in_ok-next.ensures.is c.in_ok-push-2.ensures.ok,
  suffixes_at (c.is_at_suffix.ensures.0 c.more-test.true) c.more.invariant.1 past c.in_ok-next.ensures.takes,
)

pub returns-clause-read : goal.returns-clause-read
returns-clause-read c = as_leaves _ (one_after_another suffix_leaves c.more.all) c.more.invariant.0.read

pub returns-in_err-first-clause-takes : goal.returns-in_err-first-clause-takes
returns-in_err-first-clause-takes c = fails _ c.from_residual.ensures suffixes_start c.in_err-first.ensures.takes

pub returns-in_err-next-clause-takes : goal.returns-in_err-next-clause-takes
returns-in_err-next-clause-takes c = fails _ c.from_residual-in_err-next.ensures
    (suffixes_at (c.is_at_suffix.ensures.0 c.more-test.true) c.more.invariant.1) c.in_err-next.ensures.takes

pub returns-clause-takes : goal.returns-clause-takes
returns-clause-takes c = finish _ (suffixes_end (not_so c.is_at_suffix.ensures c.more-test.false) c.more.invariant.1)
