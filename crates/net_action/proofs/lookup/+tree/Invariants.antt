use Rattle.net_action.proofs.lookup.+tree.Given as goal

abbrev pub decreases-tree : goal.decreases-tree
decreases-tree g l = l.level
