use Rattle.btor2_net.specs.inner.Nodes.{numbering_of}
use Rattle.btor2_net.proofs.Reading.{has-constant-line, is-few-line, may-add-line, reading-end, reading-next, reading-start}
use Rattle.btor2_net.proofs.nodes.nodes_of.Goals as goal

pub loop-line-init : goal.loop-line-init
loop-line-init c =
    let n = c.in_ok-nodes.nodes in
    let e = c.in_ok-nodes.ensures in
    reading-start c.args.lines.now (numbering_of n) n.net c.requires.fine c.requires.forms e.inputs e.states e.sorts e.nodes e.net

pub add-requires-clause-stands : goal.add-requires-clause-stands
add-requires-clause-stands c =
    let r = c.loop-line.invariant in
    may-add-line c.args.lines.now c.loop-line.line-index c.line-item.result c.loop-line-test.true c.line-item.is r.0 (numbering_of c.loop-line.nodes) c.loop-line.nodes.net r.1

pub add-requires-clause-constant : goal.add-requires-clause-constant
add-requires-clause-constant c =
    let r = c.loop-line.invariant in
    has-constant-line c.args.lines.now c.loop-line.line-index c.line-item.result c.loop-line-test.true c.line-item.is r.0 (numbering_of c.loop-line.nodes) c.loop-line.nodes.net r.1

pub add-requires-clause-few : goal.add-requires-clause-few
add-requires-clause-few c =
    let r = c.loop-line.invariant in
    is-few-line c.args.lines.now c.loop-line.line-index c.line-item.result c.loop-line-test.true c.line-item.is r.0 (numbering_of c.loop-line.nodes) c.loop-line.nodes.net r.1 c.requires.inputs c.requires.states

pub loop-line-preserved : goal.loop-line-preserved
loop-line-preserved c =
    let r = c.loop-line.invariant in
    reading-next c.args.lines.now c.loop-line.line-index c.line-item.result c.loop-line-test.true c.line-item.is r.0 (numbering_of c.loop-line.nodes) c.loop-line.nodes.net r.1
    (numbering_of c.add.new.self) c.add.new.self.net (c.in_ok-add.ensures.net r.1.is_net) c.in_ok-add.ensures.line

pub returns : goal.returns
returns c = reading-end c.args.lines.now c.loop-line.line-index (numbering_of c.loop-line.nodes) c.loop-line.nodes.net c.loop-line.invariant.1.is_net c.loop-line.invariant c.loop-line-test.false
