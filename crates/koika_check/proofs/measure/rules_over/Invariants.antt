use Rattle.std.proofs.Common.{◌≡◌, map, take}
use Rattle.koika_check.specs.Capped as counts
use Rattle.koika_check.specs.Sizes.{rests, size_of}
use Rattle.koika_check.specs.declared.checked.CheckedRule.{CheckedRule}
use Rattle.koika_check.proofs.measure.rules_over.Given as goal

abbrev pub invariant-loop-rule : goal.invariant-loop-rule
invariant-loop-rule l = l.measures ≡ map counts.capped (map (λ (r : CheckedRule). size_of (rests l.fn.design) r.body) (take l.rule-index l.fn.design.rules))
