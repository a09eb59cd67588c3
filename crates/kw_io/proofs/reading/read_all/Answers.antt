use Rattle.kw_io.proofs.Portions.{length_left}
use Rattle.kw_io.proofs.reading.read_all.Goals as goal

pub returns-clause-longer : goal.returns-clause-longer
returns-clause-longer g c is_too_long =
    let taken = c.join_pieces.ensures.too_long in
    length_left _ _ taken.front _ taken.taken (taken.exact.0 is_too_long)
