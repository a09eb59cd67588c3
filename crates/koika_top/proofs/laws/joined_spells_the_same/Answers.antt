use Rattle.koika_top.proofs.JournaledAgain.{parts-spell}
use Rattle.koika_top.proofs.laws.joined_spells_the_same.Goals as goal

pub returns : goal.returns
returns c = parts-spell
