use Rattle.std.proofs.Common.{◌++◌, ◌∷◌, [], ℕ, List, ap, ◌∙◌}
use Rattle.std.specs.Prelude.{codes, decimal}
use Rattle.std.specs.List.{flat_map}
use Rattle.journal_check.specs.Printing.{joined_tokens, spaced}
use Rattle.lab_core.specs.Numbers.{RuleNumbers, unwatched_count}
use Rattle.lab_core.proofs.Grown.{on_ok}
use Rattle.lab_core.proofs.Texts.{five_in_turn}
use Rattle.lab_core.proofs.shown.push_assert_counts.Goals as goal

pub returns : goal.returns
returns c =
    let text = c.args.text.now in
    let name = c.args.name.now in
    let n = c.args.counts.now in
    let held : List (List ℕ) = codes "held" ∷ decimal c.counts.inside.aborted ∷ [] in
    let violated : List (List ℕ) = codes "violated" ∷ decimal c.counts.inside.fired ∷ [] in
    let last : ℕ → List (List ℕ) = λ k. codes "unwatched" ∷ decimal k ∷ [] in
    on_ok c.push_sum.result _ _ c.push_sum.ensures
    (λ written. written
    ∙ ap (λ (t : List ℕ). t ++ flat_map spaced (last c.unwatched_count.result))
    (c.in_ok-push_count-2.ensures ∙ ap (λ (t : List ℕ). t ++ flat_map spaced violated)
    (c.in_ok-push_count.ensures ∙ ap (λ (t : List ℕ). t ++ flat_map spaced held)
    (c.in_ok-push_token.ensures ∙ ap (λ (t : List ℕ). t ++ spaced name) c.in_ok-extend_from_slice.ensures.ok)))
    ∙ five_in_turn text (codes "assert") name held violated (last c.unwatched_count.result)
    ∙ ap (λ (k : ℕ). text ++ joined_tokens (codes "assert" ∷ name ∷ (held ++ (violated ++ last k)))) c.unwatched_count.ensures
    ∙ ap (λ (m : RuleNumbers). text ++ joined_tokens (codes "assert" ∷ name ∷ codes "held" ∷ decimal m.aborted ∷ codes "violated" ∷ decimal m.fired ∷ last (unwatched_count n))) c.counts.view_is)
