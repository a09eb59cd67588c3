use Rattle.std.proofs.Common.{ap, ◌∙◌}
use Rattle.kw_base.specs.Fault.{fault_at}
use Rattle.koika_parse.proofs.source.Source.fault.Goals as goal

pub returns : goal.returns
returns c = c.new.ensures ∙ ap (fault_at c.args.number) (c.place_of.ensures ∙ c.offset.ensures.place)
