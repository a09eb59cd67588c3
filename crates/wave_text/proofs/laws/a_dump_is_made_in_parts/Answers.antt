use Rattle.wave_text.proofs.Batches.{parts_join}
use Rattle.wave_text.proofs.laws.a_dump_is_made_in_parts.Goals as goal

pub returns : goal.returns
returns c = parts_join
