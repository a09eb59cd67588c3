use Rattle.std.proofs.Common.{Bool, List, length, refl, sym, subst}
use Rattle.std.proofs.lemmas.Option.{slice_get_read}
use Rattle.net_simplify.specs.inner.Passes.{ClosesAt}
use Rattle.net_simplify.proofs.Marking.{closes-marked, within}
use Rattle.net_simplify.proofs.reach.mark_below.Goals as goal

pub mark-requires : goal.mark-requires
mark-requires c = within c.args.ops.now c.requires.net c.args.id c.index-ops-id.result (slice_get_read c.args.ops.now (length c.args.ops.now) c.args.id c.index-ops-id.result refl c.requires.node c.index-ops-id.is) c.args.serves.now c.requires.count c.requires.node

pub returns-then-serves-id : goal.returns-then-serves-id
returns-then-serves-id c = subst (λ (marks : List Bool). ClosesAt c.args.ops.now c.args.id c.args.serves.now marks) (sym c.mark.ensures) (closes-marked c.args.ops.now c.requires.net c.args.id c.index-ops-id.result (slice_get_read c.args.ops.now (length c.args.ops.now) c.args.id c.index-ops-id.result refl c.requires.node c.index-ops-id.is) c.args.serves.now c.requires.count c.requires.node c.if-serves-id.true)
