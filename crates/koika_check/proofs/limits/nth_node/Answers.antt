use Rattle.std.proofs.Common.{[], ◌∙◌, ap, sym, append-nil, slice_get}
use Rattle.koika_check.specs.Checks.{scheduler_places}
use Rattle.koika_check.proofs.Surplus.{or-nothing}
use Rattle.koika_check.proofs.limits.nth_node.Goals as goal

pub returns : goal.returns
returns c =
    sym (or-nothing c.in_scheduler.result c.in_scheduler.new.left) ∙ sym (c.in_scheduler.ensures []) ∙ ap (λ ps. slice_get ps c.args.count) (append-nil (scheduler_places c.args.of.now))
