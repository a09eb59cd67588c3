use Rattle.koika_parse.proofs.Reading.{as_leaves}
use Rattle.koika_parse.proofs.Parts.{is_width_type}
use Rattle.koika_parse.proofs.Calls.{leaves_width_type}
use Rattle.koika_parse.proofs.source.Source.width_type.Goals as goal

pub returns-clause-read : goal.returns-clause-read
returns-clause-read c = as_leaves _ (leaves_width_type c.in_ok-width.width) c.in_ok-width.ensures.read

pub returns-clause-is : goal.returns-clause-is
returns-clause-is c = is_width_type c.in_ok-width.width c.in_ok-width.ensures.is
