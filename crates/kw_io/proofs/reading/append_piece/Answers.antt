use Rattle.kw_io.proofs.Portions.{OnSome-from_none_left}
use Rattle.kw_io.proofs.reading.append_piece.Goals as goal

pub returns-clause-end : goal.returns-clause-end
returns-clause-end g c none = OnSome-from_none_left _ _ _ _ c.in_ok-count.ensures.taken c.in_ok-count.ensures.end none
