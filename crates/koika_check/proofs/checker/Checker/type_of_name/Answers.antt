use Rattle.std.proofs.Common.{ap, ◌∙◌}
use Rattle.koika_check.specs.inner.Checking.{type_by_thing}
use Rattle.koika_check.proofs.Checkers.{type-named}
use Rattle.koika_check.proofs.checker.Checker.type_of_name.Goals as goal

pub returns : goal.returns
returns c = c.base_of.ensures ∙ ap type_by_thing c.named.ensures ∙ type-named c.args.self.now.design c.args.name.now _ (c.requires.names c.args.name.now)
