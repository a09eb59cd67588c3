use Rattle.std.proofs.Common.{◌≡◌, ◌++◌, take}
use Rattle.std.specs.List.{flat_map}
use Rattle.lab_core.specs.Profiles.{refusal_line}
use Rattle.lab_core.proofs.shown.push_refusals.Given as goal

abbrev pub invariant-loop-number : goal.invariant-loop-number
invariant-loop-number l = l.text ≡ l.fn.text ++ flat_map (refusal_line l.design l.name) (take l.number l.counts.refusals)
