use Rattle.koika_parse.proofs.Reading.{as_leaves}
use Rattle.koika_parse.proofs.Parts.{is_constant_literal}
use Rattle.koika_parse.proofs.Calls.{leaves_constant_literal}
use Rattle.koika_parse.proofs.source.Source.literal_constant.Goals as goal

pub returns-clause-read : goal.returns-clause-read
returns-clause-read c = as_leaves _ (leaves_constant_literal c.in_ok-literal.literal) c.in_ok-literal.ensures.read

pub returns-clause-is : goal.returns-clause-is
returns-clause-is c = is_constant_literal c.in_ok-literal.literal c.in_ok-literal.ensures.is
