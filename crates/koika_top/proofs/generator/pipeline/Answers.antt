use Rattle.std.proofs.Common.{◌≡◌, ℕ, List, [], ◌++◌, ap, ◌∙◌}
use Rattle.koika_top.specs.Generator.{pipeline}
use Rattle.koika_top.proofs.generator.pipeline.Goals as goal

-- one text behind the last
behind : (all so_far text next : List ℕ) → text ≡ so_far → all ≡ text ++ next → all ≡ so_far ++ next
behind all so_far text next e h = h ∙ ap (λ l. l ++ next) e

pub returns : goal.returns
unfolding pipeline
returns c =
    behind _ _ _ _
    (behind _ _ _ _
    (behind _ _ _ _
    (behind _ _ _ _
    (behind _ _ _ _
    (behind _ _ _ _
    (behind _ _ _ _ (behind _ [] _ _ c.new-text.ensures c.in_ok-push_ascending.ensures) c.in_ok-push_filled.ensures) c.in_ok-push_filled-2.ensures)
    c.in_ok-push_descending.ensures)
    c.in_ok-push_filled-3.ensures)
    c.in_ok-push_filled-4.ensures)
    c.in_ok-push_descending-2.ensures)
    c.in_ok-push_filled-5.ensures
