use Rattle.koika_parse.proofs.PrimaryWords.{abort_start}
use Rattle.koika_parse.proofs.Reading.{as_leaves}
use Rattle.koika_parse.proofs.Parts.{is_abort, level_abort}
use Rattle.koika_parse.proofs.Calls.{leaves_abort}
use Rattle.koika_parse.proofs.Expected.{fails_last, last_part}
use Rattle.koika_parse.proofs.source.Source.abort.Goals as goal

pub returns-clause-read : goal.returns-clause-read
returns-clause-read c = as_leaves _ (leaves_abort c.in_ok-place.place) (c.in_ok-place.ensures.read)

pub returns-clause-is : goal.returns-clause-is
returns-clause-is c = is_abort c.in_ok-place.place tt

pub returns-clause-level : goal.returns-clause-level
returns-clause-level c = level_abort c.in_ok-place.place

pub returns-in_err-place-clause-takes : goal.returns-in_err-place-clause-takes
returns-in_err-place-clause-takes c = fails_last c.from_residual.result c.from_residual.ensures abort_start c.in_err-place.ensures.takes

pub returns-clause-takes : goal.returns-clause-takes
returns-clause-takes c = last_part _ abort_start c.in_ok-place.ensures.takes
