use Rattle.std.proofs.Common.{◌∙◌, ap}
use Rattle.kw_base.specs.Fault.{fault_at}
use Rattle.koika_check.proofs.Wholes.{place-past}
use Rattle.koika_check.proofs.answer.fault.Goals as goal

pub returns : goal.returns
returns c =
    c.new.ensures ∙ ap (fault_at c.args.wrong.number) (c.place_of.ensures ∙ place-past c.args.text.now c.args.wrong.place _ c.min-offset.ensures)
