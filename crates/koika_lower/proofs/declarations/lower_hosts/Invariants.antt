use Rattle.std.proofs.Common.{◌≡◌, map, take}
use Rattle.koika_check.specs.declared.checked.Host.{Host}
use Rattle.koika_lower.proofs.declarations.lower_hosts.Given as goal

abbrev pub invariant-loop-host : goal.invariant-loop-host
invariant-loop-host l = l.all ≡ map (λ (h : Host). h.spec) (take l.host-index l.hosts)
