use Rattle.std.proofs.Common.{◌≡◌, map, take}
use Rattle.std.specs.List.{All}
use Rattle.kw_bits.specs.Host.{TakesWidth}
use Rattle.kw_bits.specs.declared.host.HostSpec.{HostSpec}
use Rattle.host_fn.specs.Stored.{spec_of}
use Rattle.koika_check.proofs.answer.specs_of.Given as goal

abbrev pub invariant-loop-host : goal.invariant-loop-host
invariant-loop-host g l = record {
  specs : l.specs ≡ map spec_of (take l.host-index l.hosts);
  widths : All (λ (h : HostSpec). TakesWidth h.kind h.in_width) l.specs;
}
