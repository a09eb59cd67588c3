use Rattle.one_rule.proofs.Cycles.{AlwaysFits-kept}
use Rattle.one_rule.proofs.stimulus.Stimulus.recall.Goals as goal

pub returns : goal.returns
returns c = AlwaysFits-kept _ _ _ c.self.view_is c.self.invariant
