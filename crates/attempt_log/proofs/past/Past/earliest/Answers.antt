use Rattle.std.proofs.Common.{◌≡◌, sym, ap, ap₂, ◌∙◌, arith}
use Rattle.attempt_log.specs.inner.Firsts.{earlier_of, row, earliest_below}
use Rattle.attempt_log.specs.Past.{kinds}
use Rattle.attempt_log.proofs.Searches.{search_begins, search_next, search_passes}
use Rattle.attempt_log.proofs.past.Past.earliest.Goals as goal
use Rattle.attempt_log.proofs.past.Past.earliest.Goals.{in-Some, in-None}

pub loop-kind-init : goal.loop-kind-init
loop-kind-init c = search_begins c.args.access.now (row c.args.self.now.firsts c.args.access.now.register)

pub loop-kind-preserved : goal.loop-kind-preserved
loop-kind-preserved c =
    let access = c.args.access.now in
    let first = row c.args.self.now.firsts access.register in
    let kind = c.loop-kind.kind in
    let h = c.loop-kind.invariant in
    elim c.match-in_the_way.branch [
      | in-Some w ↦ w.first-is ∙ w.earlier_of.ensures ∙ ap₂ earlier_of h (sym w.in-Some.is ∙ c.in_the_way.ensures) ∙ search_next access first kind
      | in-None w ↦ w.first-is ∙ h ∙ search_passes access first kind (sym c.in_the_way.ensures ∙ w.in-None.is)
    ]

pub returns : goal.returns
returns c =
    let all : c.loop-kind.kind ≡ kinds = omega arith in
    c.loop-kind.invariant ∙ ap (earliest_below c.args.access.now (row c.args.self.now.firsts c.args.access.now.register)) all
