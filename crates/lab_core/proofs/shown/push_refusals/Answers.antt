use Rattle.std.proofs.Common.{◌++◌, ℕ, List, append_assoc, sym, ap, ◌∙◌, take}
use Rattle.std.specs.Prelude.{slice_get}
use Rattle.std.specs.List.{flat_map}
use Rattle.lab_core.specs.Profiles.{refusal_line}
use Rattle.lab_core.specs.inner.Lines.{text_at}
use Rattle.lab_core.proofs.Texts.{items_more}
use Rattle.lab_core.proofs.shown.push_refusals.Goals as goal

pub loop-number-preserved : goal.loop-number-preserved
loop-number-preserved c =
    let n = c.loop-number.number in
    let refusals = c.args.counts.now.refusals in
    let line = refusal_line c.args.design.now c.args.name.now in
    c.in_ok-push_refusal_at.ensures ∙ ap (λ (t : List ℕ). t ++ text_at line (slice_get refusals n)) c.loop-number.invariant
    ∙ append_assoc c.args.text.now (flat_map line (take n refusals)) (text_at line (slice_get refusals n))
    ∙ ap (λ (t : List ℕ). c.args.text.now ++ t) (sym (items_more line refusals n))
