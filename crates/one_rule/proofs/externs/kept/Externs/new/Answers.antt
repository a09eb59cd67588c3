use Rattle.std.proofs.Common.{List, sym, subst, ap, ◌∙◌}
use Rattle.kw_bits.specs.declared.host.HostSpec.{HostSpec}
use Rattle.typed_core.specs.declared.design.Parts.{Parts}
use Rattle.one_rule.specs.Hosts.{host_specs}
use Rattle.one_rule.specs.Externs.{AreOffered}
use Rattle.one_rule.proofs.externs.kept.Externs.new.Goals as goal

pub hosts_of-requires : goal.hosts_of-requires
hosts_of-requires g c =
    let same = c.as_slice-2.ensures ∙ ap (λ (d : Parts). d.hosts) c.design.view_is in
    subst (λ (specs : List HostSpec). AreOffered specs (host_specs c.args.hosts.now)) (sym same) c.requires
