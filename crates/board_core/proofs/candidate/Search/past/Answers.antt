use Rattle.std.proofs.Common.{Bool, [], ◌∷◌, ◌++◌, sym, subst}
use Rattle.std.specs.Prelude.{if◌then◌else◌}
use Rattle.board_core.specs.inner.Search.{Finds}
use Rattle.board_core.proofs.candidate.Search.past.Goals as goal

pub returns-then-is_candidate-clause-finds : goal.returns-then-is_candidate-clause-finds
returns-then-is_candidate-clause-finds c all number f =
    subst (λ (b : Bool). Finds (all ++ (if b then c.args.pair ∷ [] else [])) number c.past_one.result) (sym c.if-is_candidate.true) (c.past_one.ensures.finds all number f)
