use Rattle.typed_core.proofs.Equal.{SameDesign-refl, SameDesign-sym, SameDesign-trans}
use Rattle.typed_core.proofs.laws.equality_is_an_equivalence.Goals as goal

pub returns : goal.returns
returns c = record { reflexive = SameDesign-refl; symmetric = SameDesign-sym; transitive = SameDesign-trans }
