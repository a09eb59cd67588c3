use Rattle.std.proofs.Common.{refl}
use Rattle.koika_syntax.specs.Grammar.{IsName, rule_leaves}
use Rattle.koika_parse.proofs.Lists.{row_start, row_again}
use Rattle.koika_parse.proofs.Expected.{finish, fails, not_so}
use Rattle.koika_parse.proofs.SchedulerWords.{rules_at, rules_end, rules_start}
use Rattle.koika_parse.proofs.Steps.{◌past◌, ◌then◌}
use Rattle.koika_parse.proofs.source.Source.rules.Goals as goal

pub more-init : goal.more-init
more-init c = (row_start _ _ _ rule_leaves IsName _ refl c.new-all.ensures, rules_start)

pub more-preserved : goal.more-preserved
more-preserved c = (
  row_again c.in_ok-rule.rule c.push.new.self c.more.invariant.0 (c.in_ok-rule.ensures.read then c.in_ok-sign.ensures.read)
      c.in_ok-rule.ensures.is c.in_ok-push.ensures.ok,
  rules_at (c.is_at_name.ensures.0 c.more-test.true) c.more.invariant.1 past c.in_ok-rule.ensures.takes
      past c.in_ok-sign.ensures.takes,
)

pub returns-in_err-rule-clause-takes : goal.returns-in_err-rule-clause-takes
returns-in_err-rule-clause-takes c =
    fails _ c.from_residual.ensures (rules_at (c.is_at_name.ensures.0 c.more-test.true) c.more.invariant.1)
    c.in_err-rule.ensures.takes

pub returns-in_err-sign-clause-takes : goal.returns-in_err-sign-clause-takes
returns-in_err-sign-clause-takes c =
    let rule = rules_at (c.is_at_name.ensures.0 c.more-test.true) c.more.invariant.1 past c.in_ok-rule.ensures.takes in
    fails _ c.from_residual-in_err-sign.ensures rule c.in_err-sign.ensures.takes

pub returns-clause-takes : goal.returns-clause-takes
returns-clause-takes c = finish _ (rules_end (not_so c.is_at_name.ensures c.more-test.false) c.more.invariant.1)
