use Rattle.std.proofs.Common.{sym}
use Rattle.kw_base.specs.Texts.{is_blank}
use Rattle.kw_base.proofs.Cutting.{rest_of-parts}
use Rattle.kw_base.proofs.texts.without_blanks.Goals as goal

pub returns-clause-rest : goal.returns-clause-rest
returns-clause-rest c = let split = c.split_separators.ensures in sym (rest_of-parts is_blank _ _ _ split.parts split.front split.rest)
