use Rattle.std.proofs.Common.{◌≡◌, List, length, map, sym, ◌∙◌, ap, subst}
use Rattle.std.proofs.lemmas.List.{length-map}
use Rattle.kw_bits.specs.BitVector.{BitVector}
use Rattle.circuit_eval.specs.Circuits.{AreBits}
use Rattle.aig_blast.specs.Aigs.{AigParts, IsAig, latch_widths, variables}
use Rattle.aig_blast.specs.AigRun.{first_words}
use Rattle.aig_blast.specs.declared.aig.OutputBit.{OutputBit}
use Rattle.aig_blast.proofs.SimValues.{first_words-AreBits}
use Rattle.aig_blast.proofs.sim.AigSim.begin.Goals as goal

count : (f : OutputBit → BitVector) (values : List BitVector) (wires outputs : List OutputBit) → values ≡ map f wires → wires ≡ outputs → length values ≡ length outputs
count f values wires outputs made same = ap length made ∙ length-map wires f ∙ ap length same

pub invariant_of-result : goal.invariant_of-result
invariant_of-result c =
    let parts : AigParts = c.args.aig.now in
    let valid : IsAig parts = subst IsAig c.aig.view_is c.aig.invariant in
    let states : c.as_slice.result.now ≡ parts.latches = c.as_slice.ensures ∙ ap (λ (a : AigParts). a.latches) c.aig.view_is in
    let outputs : c.as_slice-2.result.now ≡ parts.outputs = c.as_slice-2.ensures ∙ ap (λ (a : AigParts). a.outputs) c.aig.view_is in
    let first : c.from_vec.result ≡ first_words parts.latches = c.from_vec.ensures ∙ c.in_ok-first_words.ensures ∙ ap first_words states in (
      subst (λ (values : List BitVector). AreBits values (latch_widths parts.latches)) (sym first) (first_words-AreBits (variables parts) parts.latches valid.latches),
      count _ c.in_ok-no_flags.field-0.items c.as_slice-2.result.now parts.outputs c.in_ok-no_flags.ensures outputs,
      c.in_ok-room_for.ensures.len,
      c.in_ok-room_for.ensures.first,
    )
