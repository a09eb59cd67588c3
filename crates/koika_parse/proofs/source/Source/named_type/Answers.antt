use Rattle.koika_parse.proofs.Reading.{as_leaves}
use Rattle.koika_parse.proofs.Parts.{is_named_type}
use Rattle.koika_parse.proofs.Calls.{leaves_named_type}
use Rattle.koika_parse.proofs.source.Source.named_type.Goals as goal

pub returns-clause-read : goal.returns-clause-read
returns-clause-read c = as_leaves _ (leaves_named_type c.in_ok-name.name) c.in_ok-name.ensures.read

pub returns-clause-is : goal.returns-clause-is
returns-clause-is c = is_named_type c.in_ok-name.name c.in_ok-name.ensures.is
