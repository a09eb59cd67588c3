-- What private functions alone cite of this crate's `Schedule`.
use Rattle.koika_syntax.specs.declared.tree.Choice.{Choice, fold-Choice}
use Rattle.koika_check.specs.Schedule.{Nodes, nodes_of_choice, nodes_of_scheduler}

-- ---- nodes

unfoldable pub choice_nodes : Choice → Nodes
choice_nodes = fold-Choice Nodes Nodes nodes_of_choice nodes_of_scheduler
