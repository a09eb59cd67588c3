use Rattle.std.proofs.Common.{◌≤◌, length, map, ap, ◌∙◌, arith}
use Rattle.std.proofs.lemmas.List.{take_all}
use Rattle.kw_bits.specs.BitVector.{zero_at}
use Rattle.net_graph.specs.Nets.{widths_of}
use Rattle.circuit_eval.proofs.Kept.{length-widths_of}
use Rattle.circuit_eval.proofs.word_sim.zeros.Goals as goal

pub returns : goal.returns
returns c =
    let all : length (widths_of c.args.net.now) ≤ c.loop-id.id = omega (arith, length-widths_of c.args.net.now, c.loop-id-test.false, c.len-id-end.ensures.len, c.len.ensures.len) in
    c.loop-id.invariant ∙ ap (map zero_at) (take_all c.loop-id.id (widths_of c.args.net.now) all)
