use Rattle.std.proofs.Common.{◌≡◌, drop}
use Rattle.std.specs.List.{find}
use Rattle.koika_check.specs.Declarations.{is_host}
use Rattle.koika_check.proofs.declarations.wanted_host.Given as goal

abbrev pub invariant-loop-host : goal.invariant-loop-host
invariant-loop-host l =
    find (is_host l.fn.name.text l.fn.input.number.value l.fn.output.number.value) (drop l.host-index l.hosts) ≡ find (is_host l.fn.name.text l.fn.input.number.value l.fn.output.number.value) l.hosts
