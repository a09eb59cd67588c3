use Rattle.std.proofs.lemmas.Bool.Decides.{Decides-at}
use Rattle.btor2_text.specs.Forms.{left_out}
use Rattle.btor2_text.proofs.Members.{listed-Decides}
use Rattle.btor2_text.proofs.keyword.is_left_out.Goals as goal

pub returns : goal.returns
returns c = Decides-at _ _ c.contains.ensures.value (listed-Decides left_out c.args.word.now)
