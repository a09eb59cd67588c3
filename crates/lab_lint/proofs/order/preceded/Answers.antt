use Rattle.std.proofs.Common.{◌+◌, List, Bool, get_or, subst, sym, false, arith}
use Rattle.std.proofs.lemmas.List.{length-replicate}
use Rattle.std.proofs.lemmas.Option.{slice_get-get_or}
use Rattle.typed_core.specs.declared.design.Node.{Node}
use Rattle.typed_core.specs.declared.design.Next.TheVariants as next
use Rattle.lab_lint.specs.inner.Sweeps.{IsSwept}
use Rattle.lab_lint.specs.declared.order.Sweep.TheVariants.{After}
use Rattle.lab_lint.proofs.Preceding.{RowTo, row-begins, row-more, row-precedes}
use Rattle.lab_lint.proofs.Sweeping.{blank}
use Rattle.lab_lint.proofs.order.preceded.Goals as goal

abbrev default : Node
default = record { rule = 0; yes = next.Node 0; no = next.Node 0 }

pub mark_if-requires : goal.mark_if-requires
mark_if-requires c =
    let i = c.loop-number.number in
    let inside = c.requires.rules i default c.loop-number-test.true in
    omega (arith, inside, c.loop-number.invariant.long)

pub loop-number-init : goal.loop-number-init
loop-number-init c =
    subst (RowTo c.args.nodes.now c.as_slice-marks.result.now c.args.rules 0) (sym c.in_ok-may.ensures)
    (row-begins c.args.nodes.now c.as_slice-marks.result.now c.args.rules (length-replicate c.args.rules false))

pub loop-number-preserved : goal.loop-number-preserved
loop-number-preserved c =
    let nodes = c.args.nodes.now in
    let marks = c.as_slice-marks.result.now in
    let i = c.loop-number.number in
    subst (RowTo nodes marks c.args.rules (i + 1)) (sym c.mark_if.ensures)
    (row-more nodes marks c.args.rules i c.loop-number.may (get_or nodes i default) (slice_get-get_or nodes i default c.loop-number-test.true) c.loop-number.invariant
    (c.requires.rules i default c.loop-number-test.true))

pub returns : goal.returns
returns c =
    let nodes = c.args.nodes.now in
    let marks = c.as_slice-marks.result.now in
    row-precedes nodes marks c.args.rules c.loop-number.number c.args.earlier c.loop-number.may c.loop-number-test.false c.loop-number.invariant
    (subst (IsSwept After nodes c.args.earlier (blank nodes)) (sym c.as_slice-marks.ensures)
    (subst (λ (begin : List Bool). IsSwept After nodes c.args.earlier begin c.over.new.marks) c.in_ok-swept.ensures c.over.ensures.swept))
