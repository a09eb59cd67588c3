use Rattle.koika_check.proofs.Declaring.{settled-grows}
use Rattle.koika_check.proofs.checker.Checker.input.Goals as goal

pub add_input-requires-clause-settled : goal.add_input-requires-clause-settled
add_input-requires-clause-settled c = settled-grows c.args.self.now c.named_type.new.self c.requires c.in_ok-of.ensures.kept c.in_ok-of.ensures.grows c.in_ok-of.ensures.locals
