use Rattle.std.proofs.Common.{◌≢◌, ℕ, ◌<◌, Some}
use Rattle.std.specs.Prelude.{slice_get}
use Rattle.one_rule.specs.Hosts.{host_specs}
use Rattle.one_rule.proofs.externs.host_of.Given as goal

-- none that was passed has the kind and the width
abbrev pub invariant-loop-function : goal.invariant-loop-function
invariant-loop-function g l = (k : ℕ) → k < l.function-index → slice_get (host_specs l.offered) k ≢ Some l.spec
