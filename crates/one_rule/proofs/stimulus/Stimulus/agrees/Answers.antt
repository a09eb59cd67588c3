use Rattle.one_rule.proofs.Cycles.{AlwaysFits-kept}
use Rattle.one_rule.proofs.stimulus.Stimulus.agrees.Goals as goal

pub returns-clause-always : goal.returns-clause-always
returns-clause-always c = AlwaysFits-kept _ _ _ c.self.view_is c.self.invariant
