use Rattle.one_rule.proofs.Blocked.{fires_unblocked, fires_unless_blocked, visit_fires_unless_blocked}
use Rattle.one_rule.proofs.laws.a_rule_fires_unless_it_is_blocked.Goals as goal

pub returns : goal.returns
returns c = record {
  visit = visit_fires_unless_blocked;
  unless = fires_unless_blocked;
  never_both = fires_unblocked;
}
