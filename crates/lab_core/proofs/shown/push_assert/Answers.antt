use Rattle.std.proofs.Common.{◌++◌, ◌∷◌, [], ℕ, List, ap, ◌∙◌}
use Rattle.std.specs.List.{flat_map}
use Rattle.journal_check.specs.Printing.{spaced}
use Rattle.lab_core.specs.Numbers.{RuleNumbers}
use Rattle.lab_core.specs.Profiles.{unwatched_tokens}
use Rattle.lab_core.proofs.Grown.{on_ok}
use Rattle.lab_core.proofs.Texts.{assert_written}
use Rattle.lab_core.proofs.shown.push_assert.Goals as goal

pub returns : goal.returns
returns c =
    let same = ap (λ (n : RuleNumbers). flat_map spaced (unwatched_tokens n.unwatched)) c.counts.view_is in
    on_ok c.push.result _ _ c.push.ensures.ok
    (λ pushed. pushed ∙ ap (λ (t : List ℕ). t ++ 10 ∷ [])
    (c.in_ok-push_unwatched.ensures ∙ ap (λ (t : List ℕ). c.push_assert_counts.new.text ++ t) same
    ∙ ap (λ (t : List ℕ). t ++ flat_map spaced (unwatched_tokens c.args.counts.now.unwatched)) c.in_ok-push_assert_counts.ensures)
    ∙ assert_written c.args.name.now c.args.counts.now c.args.text.now)
