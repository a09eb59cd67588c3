use Rattle.std.proofs.Common.{◌+◌, get_or, subst, sym, arith}
use Rattle.std.proofs.lemmas.Option.{slice_get-get_or}
use Rattle.typed_core.specs.declared.design.Node.{Node}
use Rattle.typed_core.specs.declared.design.Next.TheVariants as next
use Rattle.lab_lint.proofs.Sweeping.{SweptTo, inside-place, swept-all, swept-begins, swept-more}
use Rattle.lab_lint.proofs.order.Sweep.over.Goals as goal

abbrev default : Node
default = record { rule = 0; yes = next.Node 0; no = next.Node 0 }

pub pass-requires-clause-number : goal.pass-requires-clause-number
pass-requires-clause-number c = omega (arith, c.loop-number.invariant.long, c.loop-number-test.true)

pub pass-requires-clause-yes : goal.pass-requires-clause-yes
pass-requires-clause-yes c =
    let nodes = c.args.nodes.now in
    let i = c.loop-number.number in
    let both = inside-place nodes i (get_or nodes i default) c.loop-number.marks c.requires.ascends (slice_get-get_or nodes i default c.loop-number-test.true) c.loop-number.invariant.long in
    both.0

pub pass-requires-clause-no : goal.pass-requires-clause-no
pass-requires-clause-no c =
    let nodes = c.args.nodes.now in
    let i = c.loop-number.number in
    let both = inside-place nodes i (get_or nodes i default) c.loop-number.marks c.requires.ascends (slice_get-get_or nodes i default c.loop-number-test.true) c.loop-number.invariant.long in
    both.1

pub loop-number-init : goal.loop-number-init
loop-number-init c = swept-begins c.args.self c.args.nodes.now c.args.rule c.args.marks.now c.requires.length

pub loop-number-preserved : goal.loop-number-preserved
loop-number-preserved c =
    let nodes = c.args.nodes.now in
    let i = c.loop-number.number in
    subst (SweptTo c.args.self nodes c.args.rule c.args.marks.now (i + 1)) (sym c.pass.ensures)
    (swept-more c.args.self nodes c.args.rule c.args.marks.now c.requires.ascends i (get_or nodes i default) c.loop-number.marks (slice_get-get_or nodes i default c.loop-number-test.true) c.loop-number.invariant)

pub returns : goal.returns
returns c = record {
  length = c.loop-number.invariant.long;
  swept = swept-all c.args.self c.args.nodes.now c.args.rule c.args.marks.now c.loop-number.marks c.loop-number.number c.loop-number-test.false c.loop-number.invariant;
}
