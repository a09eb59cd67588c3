use Rattle.net_simplify.proofs.implied.+value_within.Given as goal

abbrev pub decreases-value_within : goal.decreases-value_within
decreases-value_within l = l.depth
