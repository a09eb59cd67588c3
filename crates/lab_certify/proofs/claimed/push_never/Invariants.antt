use Rattle.std.proofs.Common.{◌≡◌, ◌++◌, take}
use Rattle.std.specs.List.{flat_map}
use Rattle.lab_certify.specs.Certificates.{never_line}
use Rattle.lab_certify.proofs.claimed.push_never.Given as goal

abbrev pub invariant-loop-rule : goal.invariant-loop-rule
invariant-loop-rule l = l.text ≡ l.fn.text ++ flat_map (never_line l.design) (take l.rule-index l.rules)
