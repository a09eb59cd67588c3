use Rattle.std.proofs.Common.{ℕ, List, Option, None, ap, ◌∙◌, replicate}
use Rattle.koika_assert.specs.Violations.{watched}
use Rattle.koika_assert.proofs.FirstsJoined.{none_yet}
use Rattle.koika_assert.proofs.watch.Watch.new.Goals as goal

pub returns : goal.returns
unfolding watched
returns c =
    ap (λ (firsts : List (Option ℕ)). record { names = c.args.names; marks = c.args.marks; cycles = 0; firsts = firsts })
    (c.in_ok-firsts.ensures ∙ ap (λ (n : ℕ). replicate n None) c.len.ensures ∙ none_yet c.args.marks)
