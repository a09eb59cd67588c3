use Rattle.std.proofs.Common.{ap, sym, ◌∙◌}
use Rattle.std.specs.Option.{option_map}
use Rattle.btor2_model.specs.Acceptance.{fault_in, lacks_next}
use Rattle.btor2_model.specs.inner.Known.{scope_of}
use Rattle.btor2_model.proofs.Walk.{find-here, find-next}
use Rattle.btor2_model.proofs.acceptance.no_state_lacks_next.Goals as goal

pub returns-then-lacks_next-clause-fault : goal.returns-then-lacks_next-clause-fault
returns-then-lacks_next-clause-fault c =
    let found = find-here (lacks_next (scope_of c.args.known.now)) c.args.lines.now c.loop-line.line-index c.line-item.result c.loop-line-test.true c.line-item.is c.loop-line.invariant
    (sym c.lacks_next.ensures ∙ c.if-lacks_next.true) in
    rw c.refusal_at.ensures (ap (option_map (λ line. fault_in line 56)) found)

pub loop-line-preserved : goal.loop-line-preserved
loop-line-preserved c =
    find-next (lacks_next (scope_of c.args.known.now)) c.args.lines.now c.loop-line.line-index c.line-item.result c.loop-line-test.true c.line-item.is c.loop-line.invariant
    (sym c.lacks_next.ensures ∙ c.if-lacks_next.false)
