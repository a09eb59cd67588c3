use Rattle.std.proofs.Common.{◌≡◌, ◌+◌, ◌*◌, ◌++◌, ◌∷◌, List, Bool, false, length, take, ap, ap₂, sym, subst, ◌∙◌, arith}
use Rattle.std.specs.Prelude.{sum}
use Rattle.aig_blast.specs.Aigs.{AigParts, IsAig, sources}
use Rattle.aig_blast.specs.AigRun.{bits_of}
use Rattle.aig_blast.specs.inner.AigSims.{both, variable_values}
use Rattle.aig_blast.specs.Graphs.{AllStand, values_after}
use Rattle.aig_blast.specs.declared.gate.Gate.{Gate}
use Rattle.aig_blast.proofs.SimValues.{both-AreBoth, sources-written, values-both}
use Rattle.aig_blast.proofs.SourceWords.{length-bits_of}
use Rattle.aig_blast.proofs.sim.put_values.Goals as goal

pub put_words-before-requires : goal.put_words-before-requires
put_words-before-requires c = omega (arith, length-bits_of c.args.inputs.now, ap sum c.requires.inputs.widths, c.requires.room)

pub put_words-sources-requires : goal.put_words-sources-requires
put_words-sources-requires c =
    omega (arith, length-bits_of c.args.inputs.now, length-bits_of c.args.states.now, ap sum c.requires.inputs.widths, ap sum c.requires.states.widths, c.requires.room, c.put_words-before.ensures.count, c.put_words-before.auto.values)

pub put_gates-requires-clause-room : goal.put_gates-requires-clause-room
put_gates-requires-clause-room c =
    omega (
      arith,
      length-bits_of c.args.inputs.now,
      length-bits_of c.args.states.now,
      ap sum c.requires.inputs.widths,
      ap sum c.requires.states.widths,
      c.requires.room,
      c.put_words-before.ensures.count,
      c.put_words-before.auto.values,
      c.put_words-sources.ensures.count,
      c.put_words-sources.auto.values,
      ap length (c.as_slice.ensures ∙ ap (λ (a : AigParts). a.gates) c.aig.view_is),
    )

pub put_gates-requires-clause-stand : goal.put_gates-requires-clause-stand
put_gates-requires-clause-stand c =
    let valid : IsAig c.args.aig.now = subst IsAig c.aig.view_is c.aig.invariant in
    let count : c.put_words-sources.result ≡ sources c.args.aig.now =
    omega (arith, length-bits_of c.args.inputs.now, length-bits_of c.args.states.now, ap sum c.requires.inputs.widths, ap sum c.requires.states.widths, c.put_words-before.ensures.count, c.put_words-sources.ensures.count) in
    subst (λ n. AllStand n c.as_slice.result.now) (sym count) (subst (λ (gates : List Gate). AllStand (sources c.args.aig.now) gates) (sym (c.as_slice.ensures ∙ ap (λ (a : AigParts). a.gates) c.aig.view_is)) valid.gates)

pub put_gates-requires-clause-both : goal.put_gates-requires-clause-both
put_gates-requires-clause-both c =
    both-AreBoth _ (false ∷ (bits_of c.args.inputs.now ++ bits_of c.args.states.now))
    (sources-written c.args.values.now c.put_words-before.new.values c.put_words-sources.new.values c.args.inputs.now c.args.states.now c.put_words-before.result c.put_words-sources.result c.requires.first c.put_words-before.ensures.values c.put_words-sources.ensures.values)

pub returns : goal.returns
returns c =
    let bits : List Bool = false ∷ (bits_of c.args.inputs.now ++ bits_of c.args.states.now) in
    let written : take (2 * (1 + c.put_words-sources.result)) c.put_words-sources.new.values ≡ both bits =
    sources-written c.args.values.now c.put_words-before.new.values c.put_words-sources.new.values c.args.inputs.now c.args.states.now c.put_words-before.result c.put_words-sources.result c.requires.first c.put_words-before.ensures.values c.put_words-sources.ensures.values in
    c.put_gates.ensures ∙ ap₂ (λ (front : List Bool) (gates : List Gate). both (values_after front gates)) (ap variable_values written ∙ values-both bits) (c.as_slice.ensures ∙ ap (λ (a : AigParts). a.gates) c.aig.view_is)
