use Rattle.koika_parse.proofs.EachText.{each_text}
use Rattle.koika_parse.proofs.laws.each_text_is_parsed.Goals as goal

pub returns : goal.returns
returns c = each_text
