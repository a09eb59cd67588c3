use Rattle.net_simplify.proofs.implied.+stated.Given as goal

abbrev pub decreases-stated : goal.decreases-stated
decreases-stated l = l.depth
