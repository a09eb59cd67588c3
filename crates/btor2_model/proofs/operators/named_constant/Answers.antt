use Rattle.btor2_model.proofs.One.{has-value, one-fits}
use Rattle.btor2_model.proofs.operators.named_constant.Goals as goal

pub returns-in-One-clause-some : goal.returns-in-One-clause-some
returns-in-One-clause-some c = λ some most named. has-value c.new-in-One.result c.args.width (c.new-in-One.ensures.some.1 (one-fits c.args.width some most)) c.new-in-One.ensures.width
