use Rattle.std.proofs.Common.{◌∙◌, ◌&&◌, ◌+◌, nat_eq, ap, ap₂, sym, refl, arith, length, not}
use Rattle.std.proofs.lemmas.List.{length-append}
use Rattle.typed_core.specs.declared.design.Node.{Node}
use Rattle.koika_check.specs.inner.Paths.{next_at}
use Rattle.koika_check.proofs.Schedules.{row-more}
use Rattle.koika_check.proofs.schedule.push_row.Goals as goal

pub loop-index-preserved : goal.loop-index-preserved
loop-index-preserved c = (
  λ behind e. rw c.in_ok-push.ensures.ok
      (row-more c.loop-index.made c.args.made.now c.args.rules.now c.loop-index.index _ c.in_ok-next.next behind c.loop-index-test.true refl
      (c.in_ok-next.ensures ∙ ap₂ (λ b n. next_at (not b) (n + 1)) (c.is_end_of-is_end.ensures ∙ ap (λ l. l && nat_eq (c.loop-index.index + 1) (length c.args.rules.now)) (sym e)) c.len-number.ensures)
      (c.loop-index.invariant.0 behind e)),
  omega (arith, ap length c.in_ok-push.ensures.ok, length-append {A = Node}, c.loop-index.invariant.1),
)
