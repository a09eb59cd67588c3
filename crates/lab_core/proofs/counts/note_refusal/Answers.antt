use Rattle.std.proofs.Common.{◌+◌, map, sym, ap, ◌∙◌, subst}
use Rattle.lab_core.specs.inner.Counting.{cause_at, counted_of, seen_next}
use Rattle.lab_core.proofs.Kept.{Below, below_with, if_below, insert_counts}
use Rattle.lab_core.proofs.counts.note_refusal.Goals as goal

pub seen_next-seen-requires : goal.seen_next-seen-requires
seen_next-seen-requires c = if_below c.args.cycle c.args.refusals.now.entries c.args.refusal c.copied.result c.requires.few (c.copied.ensures ∙ c.get.ensures.value)

pub returns-in-Ok-clause-entries : goal.returns-in-Ok-clause-entries
returns-in-Ok-clause-entries c =
    ap (map counted_of) c.in-Ok.ensures.entries
    ∙ insert_counts c.args.cycle c.args.refusals.now.entries c.args.refusal c.seen_next-seen.result (c.seen_next-seen.ensures ∙ ap (seen_next c.args.cycle) (c.copied.ensures ∙ c.get.ensures.value))

pub returns-in-Ok-clause-few : goal.returns-in-Ok-clause-few
returns-in-Ok-clause-few c =
    let same = ap (map counted_of) c.in-Ok.ensures.entries
    ∙ insert_counts c.args.cycle c.args.refusals.now.entries c.args.refusal c.seen_next-seen.result (c.seen_next-seen.ensures ∙ ap (seen_next c.args.cycle) (c.copied.ensures ∙ c.get.ensures.value)) in
    subst (Below (c.args.cycle + 1)) (sym same) (below_with c.args.cycle (cause_at c.args.refusal) (map counted_of c.args.refusals.now.entries) c.requires.some c.requires.few)
