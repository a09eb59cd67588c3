use Rattle.std.proofs.Common.{sym, ◌∙◌}
use Rattle.aiger_text.proofs.Placing.{all_placed-end, all_placed-fault, all_placed-more, joined-none}
use Rattle.aiger_text.proofs.places.all_placed.Goals as goal

pub returns-in_default-clause-fault : goal.returns-in_default-clause-fault
returns-in_default-clause-fault c =
    rw c.undefined.ensures
    (all_placed-fault c.args.variables.now c.args.bound c.args.lits.now c.loop-lit.lit-index c.loop-lit.number 0 c.loop-lit.found.items _ c.loop-lit-test.true (sym c.in_default.is ∙ c.placed.ensures) c.loop-lit.invariant)

pub loop-lit-init : goal.loop-lit-init
loop-lit-init c = joined-none c.in_ok-found.found.items _ c.in_ok-found.ensures.items

pub loop-lit-preserved : goal.loop-lit-preserved
loop-lit-preserved c =
    all_placed-more c.args.variables.now c.args.bound c.args.lits.now c.loop-lit.lit-index c.loop-lit.number c.saturating_add-number.result 0 c.in-Some.other c.loop-lit.found.items c.push.new.self.items _ c.loop-lit-test.true
    c.saturating_add-number.ensures (sym c.in-Some.is ∙ c.placed.ensures) c.in_ok-push.ensures.items c.loop-lit.invariant

pub returns : goal.returns
returns c = record { placed = all_placed-end c.args.variables.now c.args.bound c.args.lits.now c.loop-lit.lit-index c.loop-lit.number c.loop-lit.found.items _ c.loop-lit-test.false c.loop-lit.invariant; fault = tt }
