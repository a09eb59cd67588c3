use Rattle.std.proofs.lemmas.Slice.Eq.{slice_eq-Decides}
use Rattle.kw_bits.proofs.sequence.Sequence.is_same.Goals as goal

pub returns : goal.returns
returns g c = slice_eq-Decides g.met.T.Same.same _ _ _ c.eq.ensures
