use Rattle.std.proofs.Common.{rules}
use Rattle.wave_text.specs.Waves.{of_rule}
use Rattle.wave_text.proofs.variable.named_rules.Goals as goal

pub returns : goal.returns
returns c = c.try_map.ensures of_rule (λ x y k. search rules)
