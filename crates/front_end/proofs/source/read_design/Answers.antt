use Rattle.one_rule.specs.Hosts.{host_specs}
use Rattle.front_end.proofs.Reading.{ill-by, typed-by}
use Rattle.front_end.proofs.source.read_design.Goals as goal

pub returns-clause-spelled : goal.returns-clause-spelled
returns-clause-spelled g c =
    typed-by (host_specs c.args.hosts.now) c.args.source.now c.in_ok-tree.tree c.in_ok-tree.ensures.spelled c.check.result c.check.ensures.gives

pub returns-clause-refused : goal.returns-clause-refused
returns-clause-refused g c =
    ill-by (host_specs c.args.hosts.now) c.args.source.now c.args.design.now c.in_ok-tree.tree c.requires.cut c.in_ok-tree.ensures.spelled c.check.result c.check.ensures.fault
