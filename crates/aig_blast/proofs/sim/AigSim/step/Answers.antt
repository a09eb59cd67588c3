use Rattle.std.proofs.Common.{◌≡◌, ◌+◌, ◌*◌, ◌<◌, ◌++◌, List, Bool, length, get_or, take, sym, ◌∙◌, ap, subst, arith}
use Rattle.std.specs.List.{All}
use Rattle.std.specs.Vec.{with_items}
use Rattle.std.proofs.lemmas.List.{length-map, with_items_is}
use Rattle.kw_bits.specs.BitVector.{BitVector}
use Rattle.circuit_eval.specs.Circuits.{AreBits}
use Rattle.aig_blast.specs.Aigs.{AigParts, input_word_widths, IsAig, latch_widths, variables}
use Rattle.aig_blast.specs.AigRun.{bits_of, next_words, values_in}
use Rattle.aig_blast.specs.AigSims.{after_step, flags_in, Simulation}
use Rattle.aig_blast.specs.inner.AigSims.{IsReadable, both, variable_values}
use Rattle.aig_blast.specs.declared.aig.LatchWord.{LatchWord}
use Rattle.aig_blast.specs.declared.aig.OutputBit.{OutputBit}
use Rattle.aig_blast.proofs.SimValues.{Below-length, both-AreBoth, IsReadable-latch, next_words-AreBits, take-first, values-both}
use Rattle.aig_blast.proofs.sim.AigSim.step.Goals as goal

pub put_values-requires-clause-inputs : goal.put_values-requires-clause-inputs
put_values-requires-clause-inputs c =
    let given : AreBits c.args.inputs.now (input_word_widths c.self.inside.aig.now.inputs) = subst (λ (s : Simulation). AreBits c.args.inputs.now (input_word_widths s.aig.inputs)) (sym c.self.view_is) c.requires in
    subst (λ (xs : List BitVector). AreBits xs (input_word_widths c.self.inside.aig.now.inputs)) (sym c.as_slice.ensures) given

pub put_values-requires-clause-states : goal.put_values-requires-clause-states
put_values-requires-clause-states c =
    subst (λ (xs : List BitVector). AreBits xs (latch_widths c.self.inside.aig.now.latches)) (sym c.as_slice-states.ensures) c.self.invariant.0

pub put_values-requires-clause-room : goal.put_values-requires-clause-room
put_values-requires-clause-room c = ap length c.deref_mut.ensures.value ∙ c.self.invariant.2

pub put_values-requires-clause-first : goal.put_values-requires-clause-first
put_values-requires-clause-first c = ap (take 2) c.deref_mut.ensures.value ∙ c.self.invariant.3

pub take_next-requires-clause-stand : goal.take_next-requires-clause-stand
take_next-requires-clause-stand c =
    let a : AigParts = c.self.inside.aig.now in
    let valid : IsAig a = subst IsAig c.aig.view_is c.aig.invariant in
    let values : List Bool = c.deref.result.now in
    let len : length values ≡ 2 * (1 + variables a) =
    ap length (c.deref.ensures.value ∙ with_items_is c.self.inside.values c.put_values.new.values (omega (arith, c.put_values.auto.values, c.deref_mut.ensures.len, c.self.inside.values.ok.0))) ∙ c.put_values.auto.values ∙ ap length c.deref_mut.ensures.value ∙ c.self.invariant.2 in
    subst (All (IsReadable values)) (sym (c.as_slice-2.ensures ∙ ap (λ (w : AigParts). w.latches) c.aig.view_is)) (λ k d h. IsReadable-latch (variables a) values (get_or a.latches k d) len (valid.latches k d h))

pub take_outputs-requires-clause-stand : goal.take_outputs-requires-clause-stand
take_outputs-requires-clause-stand c =
    let a : AigParts = c.self.inside.aig.now in
    let valid : IsAig a = subst IsAig c.aig.view_is c.aig.invariant in
    let values : List Bool = c.deref-2.result.now in
    let len : length values ≡ 2 * (1 + variables a) =
    ap length (c.deref-2.ensures.value ∙ with_items_is c.self.inside.values c.put_values.new.values (omega (arith, c.put_values.auto.values, c.deref_mut.ensures.len, c.self.inside.values.ok.0))) ∙ c.put_values.auto.values ∙ ap length c.deref_mut.ensures.value ∙ c.self.invariant.2 in
    subst (All (λ (wire : OutputBit). wire.lit < length values)) (sym (c.as_slice-3.ensures ∙ ap (λ (w : AigParts). w.outputs) c.aig.view_is)) (λ k d h. Below-length (variables a) (get_or a.outputs k d).lit (length values) (valid.outputs k d h).lit len)

pub take_next-requires-clause-both : goal.take_next-requires-clause-both
take_next-requires-clause-both c =
    both-AreBoth c.deref.result.now _ (c.deref.ensures.value ∙ with_items_is c.self.inside.values c.put_values.new.values (omega (arith, c.put_values.auto.values, c.deref_mut.ensures.len, c.self.inside.values.ok.0)) ∙ c.put_values.ensures)

pub take_outputs-requires-clause-both : goal.take_outputs-requires-clause-both
take_outputs-requires-clause-both c =
    both-AreBoth c.deref-2.result.now _ (c.deref-2.ensures.value ∙ with_items_is c.self.inside.values c.put_values.new.values (omega (arith, c.put_values.auto.values, c.deref_mut.ensures.len, c.self.inside.values.ok.0)) ∙ c.put_values.ensures)

-- the values of the literals, as they are stored
stored : (c : goal.After-self-2-1) → (with_items c.self.inside.values c.put_values.new.values).items ≡ both (values_in c.self.inside.aig.now c.args.inputs.now c.self.inside.states)
stored c =
    with_items_is c.self.inside.values c.put_values.new.values (omega (arith, c.put_values.auto.values, c.deref_mut.ensures.len, c.self.inside.values.ok.0)) ∙ c.put_values.ensures
    ∙ ap (λ (inputs : List BitVector). both (values_in c.self.inside.aig.now inputs c.as_slice-states.result.now)) c.as_slice.ensures ∙ ap (λ (states : List BitVector). both (values_in c.self.inside.aig.now c.args.inputs.now states)) c.as_slice-states.ensures

states : (c : goal.After-self-2-1) → c.take_next.new.states ≡ next_words c.self.inside.aig.now.latches (values_in c.self.inside.aig.now c.args.inputs.now c.self.inside.states)
states c =
    c.take_next.ensures ∙ ap (λ (latches : List LatchWord). next_words latches (variable_values c.deref.result.now)) (c.as_slice-2.ensures ∙ ap (λ (w : AigParts). w.latches) c.aig.view_is) ∙ ap (next_words c.self.inside.aig.now.latches) (ap variable_values (c.deref.ensures.value ∙ stored c) ∙ values-both _)

outputs : (c : goal.After-self-2-1) → (with_items c.self.inside.outputs c.take_outputs.new.outputs).items ≡ flags_in c.self.inside.aig.now.outputs (values_in c.self.inside.aig.now c.args.inputs.now c.self.inside.states)
outputs c =
    with_items_is c.self.inside.outputs c.take_outputs.new.outputs (omega (arith, c.take_outputs.auto.outputs, c.deref_mut-2.ensures.len, c.self.inside.outputs.ok.0)) ∙ c.take_outputs.ensures
    ∙ ap (λ (wires : List OutputBit). flags_in wires (variable_values c.deref-2.result.now)) (c.as_slice-3.ensures ∙ ap (λ (w : AigParts). w.outputs) c.aig.view_is) ∙ ap (flags_in c.self.inside.aig.now.outputs) (ap variable_values (c.deref-2.ensures.value ∙ stored c) ∙ values-both _)

pub invariant_of-self : goal.invariant_of-self
invariant_of-self c =
    let a : AigParts = c.self.inside.aig.now in
    let valid : IsAig a = subst IsAig c.aig.view_is c.aig.invariant in
    let fit = next_words-AreBits (variables a) a.latches (values_in a c.args.inputs.now c.self.inside.states) valid.latches in (
      subst (λ (values : List BitVector). AreBits values (latch_widths a.latches)) (sym (states c)) fit,
      ap length (outputs c) ∙ length-map a.outputs _,
      ap length (with_items_is c.self.inside.values c.put_values.new.values (omega (arith, c.put_values.auto.values, c.deref_mut.ensures.len, c.self.inside.values.ok.0))) ∙ c.put_values.auto.values ∙ ap length c.deref_mut.ensures.value ∙ c.self.invariant.2,
      ap (take 2) (stored c) ∙ take-first _ (bits_of c.args.inputs.now ++ bits_of c.self.inside.states) a.gates,
    )

pub returns : goal.returns
returns c =
    let before : Simulation = record { aig = c.self.inside.aig.now; states = c.self.inside.states; outputs = c.self.inside.outputs.items } in
    let done : Simulation = record { aig = c.self.inside.aig.now; states = c.take_next.new.states; outputs = (with_items c.self.inside.outputs c.take_outputs.new.outputs).items } in
    let same : done ≡ after_step before c.args.inputs.now = (λ i. record { aig = c.self.inside.aig.now; states = states c i; outputs = outputs c i }) in
    same ∙ ap (λ (s : Simulation). after_step s c.args.inputs.now) c.self.view_is
