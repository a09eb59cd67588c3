use Rattle.std.proofs.Common.{◌≡◌, ◌+◌, ℕ, List, ◌∷◌, ◌++◌, [], length, refl, sym, ap, ap₂, ◌∙◌}
use Rattle.std.proofs.lemmas.List.{length-take-le, take_more}
use Rattle.std.proofs.lemmas.List.FromFn.{length-range_with_len}
use Rattle.koika_top.proofs.CircuitTold.{range-next}
use Rattle.koika_top.proofs.text_circuit.bad_watch.Goals as goal

pub loop-number-preserved : goal.loop-number-preserved
loop-number-preserved c =
    let k = c.loop-number.number in
    let name = c.in_ok-from_slice.ensures ∙ c.as_slice.ensures ∙ c.index-names-number.is in
    record {
      copies =
          c.in_ok-push-2.ensures.ok ∙ ap₂ (λ (front : List (List ℕ)) (last : List ℕ). front ++ last ∷ []) c.loop-number.invariant.copies name
          ∙ sym (take_more c.args.names.now k c.index-names-number.result c.loop-number-test.true);
      marks =
          c.in_ok-push.ensures.ok ∙ ap (λ (front : List ℕ). front ++ (c.args.others + k) ∷ []) c.loop-number.invariant.marks
          ∙ sym (range-next c.args.others k (c.args.others + k) refl);
    }

pub new-requires : goal.new-requires
new-requires c =
    ap length c.loop-number.invariant.copies ∙ length-take-le c.loop-number.number c.args.names.now c.loop-number.auto.number-end
    ∙ sym (length-range_with_len c.args.others c.loop-number.number) ∙ sym (ap length c.loop-number.invariant.marks)
