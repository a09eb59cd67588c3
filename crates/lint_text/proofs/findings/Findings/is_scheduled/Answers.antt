use Rattle.std.proofs.Common.{◌∙◌}
use Rattle.lint_text.proofs.Found.{scheduled-at}
use Rattle.lint_text.proofs.findings.Findings.is_scheduled.Goals as goal

pub returns : goal.returns
returns c = c.is_set.ensures ∙ scheduled-at c.args.design.now c.args.self.now c.requires.found c.args.rule c.requires.rule
