use Rattle.std.proofs.Common.{◌++◌, ◌∷◌, [], ℕ, List, ap, ◌∙◌}
use Rattle.std.specs.Prelude.{decimal}
use Rattle.std.specs.List.{flat_map}
use Rattle.journal_check.specs.Printing.{spaced}
use Rattle.lab_core.specs.Profiles.{first_tokens}
use Rattle.lab_core.proofs.Grown.{on_ok}
use Rattle.lab_core.proofs.Texts.{refusal_written}
use Rattle.lab_core.proofs.shown.push_counted.Goals as goal

pub returns : goal.returns
returns c =
    on_ok c.push.result _ _ c.push.ensures.ok
    (λ pushed. pushed ∙ ap (λ (t : List ℕ). t ++ 10 ∷ [])
    (c.in_ok-push_first.ensures ∙ ap (λ (t : List ℕ). t ++ flat_map spaced (first_tokens c.args.seen.first))
    (c.in_ok-push_number.ensures ∙ ap (λ (t : List ℕ). t ++ spaced (decimal c.args.seen.count)) c.in_ok-push_refusal.ensures))
    ∙ refusal_written c.args.design.now c.args.name.now c.args.cause.now c.args.seen.count c.args.seen.first c.args.text.now)
