use Rattle.koika_parse.proofs.Words.{some_member}
use Rattle.koika_syntax.specs.Grammar.{IsMember, member_leaves}
use Rattle.koika_syntax.specs.Tree.{sign}
use Rattle.koika_syntax.specs.declared.symbol.Symbol.TheVariants as symbols
use Rattle.koika_parse.proofs.Lists.{joined_start, joined_again}
use Rattle.koika_parse.proofs.Expected.{finish, fails, fails_before, not_so}
use Rattle.koika_parse.specs.inner.Expected.{Any}
use Rattle.koika_parse.proofs.Commas.{commas_start, commas_apart, commas_at, commas_end, commas_first, commas_next}
use Rattle.koika_parse.proofs.Steps.{◌past◌}
use Rattle.koika_parse.proofs.source.Source.members.Goals as goal

pub more-init : goal.more-init
more-init c = (
  joined_start _ _ _ (sign symbols.Comma) member_leaves IsMember c.in_ok-first.first _ c.push.new.self
      c.in_ok-first.ensures.read c.in_ok-first.ensures.is c.new-all.ensures c.in_ok-push.ensures.ok,
  commas_first some_member c.in_ok-first.ensures.takes tt,
)

pub more-preserved : goal.more-preserved
more-preserved c = (
  joined_again c.in_ok-next.next c.push-in-more.new.self c.more.invariant.0 c.in_ok-sign.ensures.read c.in_ok-next.ensures.read
      c.in_ok-next.ensures.is c.in_ok-push-2.ensures.ok,
  commas_next some_member (c.is_at_sign.ensures.0 c.more-test.true) c.more.invariant.1
      c.in_ok-sign.ensures.takes c.in_ok-next.ensures.takes tt,
)

pub returns-in_err-first-clause-takes : goal.returns-in_err-first-clause-takes
returns-in_err-first-clause-takes c =
    fails_before _ c.from_residual.ensures (commas_start some_member) c.in_err-first.ensures.takes
    (commas_apart some_member Any tt)

pub returns-in_err-sign-clause-takes : goal.returns-in_err-sign-clause-takes
returns-in_err-sign-clause-takes c =
    fails _ c.from_residual-in_err-sign.ensures
    (commas_at some_member (c.is_at_sign.ensures.0 c.more-test.true) c.more.invariant.1) c.in_err-sign.ensures.takes

pub returns-in_err-next-clause-takes : goal.returns-in_err-next-clause-takes
returns-in_err-next-clause-takes c =
    let comma = commas_at some_member (c.is_at_sign.ensures.0 c.more-test.true) c.more.invariant.1 past c.in_ok-sign.ensures.takes in
    fails_before _ c.from_residual-in_err-next.ensures comma c.in_err-next.ensures.takes (commas_apart some_member Any tt)

pub returns-clause-takes : goal.returns-clause-takes
returns-clause-takes c = finish _ (commas_end some_member (not_so c.is_at_sign.ensures c.more-test.false) c.more.invariant.1)
