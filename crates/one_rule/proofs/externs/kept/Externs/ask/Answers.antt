use Rattle.std.proofs.Common.{sym, ap, ◌∙◌}
use Rattle.std.proofs.lemmas.Option.{get_or_from_slice_get}
use Rattle.kw_bits.specs.BitVector.{BitVector}
use Rattle.kw_bits.specs.Host as host
use Rattle.kw_bits.specs.declared.host.HostSpec.{HostSpec}
use Rattle.one_rule.proofs.externs.kept.Externs.ask.Goals as goal

pub returns-clause-width : goal.returns-clause-width
unfolding host.value host.out_width
returns-clause-width c width has =
    let spec : HostSpec = has.0 in
    let here = c.get.ensures ∙ get_or_from_slice_get c.args.self.now.hosts c.args.host spec c.get.result.now has.1 in
    ap (λ (v : BitVector). v.width) c.ask.ensures ∙ ap (λ (s : HostSpec). host.out_width s.kind c.args.x.width) here
    ∙ ap (host.out_width spec.kind) (sym has.2) ∙ has.3
