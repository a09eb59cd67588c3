use Rattle.std.proofs.Common.{◌++◌, append-nil, sym, ap, ◌∙◌}
use Rattle.std.proofs.lemmas.Option.{slice_get-map}
use Rattle.std.specs.Prelude.{Option, option_map, slice_get}
use Rattle.attempt_log.specs.declared.cause.Cause.{Cause}
use Rattle.lab_core.specs.Numbers.{Counted, RuleNumbers}
use Rattle.lab_core.specs.Profiles.{refusal_line}
use Rattle.lab_core.specs.inner.Counting.{counted_of}
use Rattle.lab_core.specs.inner.Lines.{text_at}
use Rattle.lab_core.proofs.Grown.{on_ok}
use Rattle.lab_core.proofs.shown.push_refusal_at.Goals as goal

pub returns-in-Some : goal.returns-in-Some
returns-in-Some c =
    let text = c.args.text.now in
    let name = c.args.name.now in
    let seen = c.in-Some.seen.now in
    let entries = c.counts.inside.refusals.entries in
    let here = ap (option_map counted_of) c.in-Some.ensures.entry ∙ sym (slice_get-map counted_of entries c.args.number) ∙ ap (λ (n : RuleNumbers). slice_get n.refusals c.args.number) c.counts.view_is in
    on_ok c.push_counted.result _ _ c.push_counted.ensures
    (λ written. written ∙ ap (λ (x : Cause). text ++ refusal_line c.args.design.now name (record { cause = x; count = seen.count; first = seen.first })) c.cause.ensures
    ∙ ap (λ (o : Option Counted). text ++ text_at (refusal_line c.args.design.now name) o) here)

pub returns-in-None : goal.returns-in-None
returns-in-None c =
    let text = c.args.text.now in
    let entries = c.counts.inside.refusals.entries in
    let here = ap (option_map counted_of) c.in-None.ensures.entry ∙ sym (slice_get-map counted_of entries c.args.number) ∙ ap (λ (n : RuleNumbers). slice_get n.refusals c.args.number) c.counts.view_is in
    sym (append-nil text) ∙ ap (λ (o : Option Counted). text ++ text_at (refusal_line c.args.design.now c.args.name.now) o) here
