use Rattle.std.proofs.Common.{ap, sym, subst, ◌∙◌}
use Rattle.std.specs.List.{find}
use Rattle.kw_base.specs.declared.fault_number.TheConstants.{UNKNOWN_HOST_FUNCTION}
use Rattle.kw_bits.specs.Host.{TakesWidth}
use Rattle.kw_bits.specs.declared.host.HostSpec.{HostSpec}
use Rattle.koika_check.specs.Declarations.{is_host}
use Rattle.koika_check.specs.Outcomes.{found, wrong}
use Rattle.koika_check.proofs.Answering.{found-some}
use Rattle.koika_check.proofs.Declaring.{find-all}
use Rattle.koika_check.proofs.checker.Checker.host.Goals as goal

pub add_host-requires-clause-width : goal.add_host-requires-clause-width
add_host-requires-clause-width c =
    let spec = c.in_ok-spec.ensures in
    let n = c.args.name.now in
    let hosts = c.args.self.now.hosts in
    let p = is_host n.text c.args.input.number.value c.args.output.number.value in
    subst (λ (h : HostSpec). TakesWidth h.kind h.in_width) spec.2
    (find-all (λ (h : HostSpec). TakesWidth h.kind h.in_width) p hosts spec.0 c.requires.checker.hosts (found-some (find p hosts) (wrong UNKNOWN_HOST_FUNCTION n.place) spec.0 (ap (λ hs. found (find p hs) (wrong UNKNOWN_HOST_FUNCTION n.place)) (sym c.as_slice.ensures) ∙ spec.1)))
