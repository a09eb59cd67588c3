use Rattle.front_end.specs.declared.answer.Answer.TheVariants.{Usage}
use Rattle.koika_top.proofs.Answering.{told-one}
use Rattle.koika_top.proofs.usage.write_usage.Goals as goal

pub returns : goal.returns
returns g c = rw c.status_by.ensures (told-one Usage _ c.write_text.result c.write_text.ensures)
