-- The inputs that a stimulus gives are bit vectors of its widths.
use Rattle.std.proofs.Common.{ℕ, ◌<◌, List, length, map, get_or, subst, ◌∙◌, arith}
use Rattle.std.proofs.lemmas.List.{get_or-map, get_or_default, length-map, same_lists}
use Rattle.std.proofs.lemmas.Option.{slice_get-get_or}
use Rattle.kw_bits.specs.BitVector.{BitVector}
use Rattle.kw_bits.specs.Laws.{HasWidth}
use Rattle.net_graph.specs.Values.{no_bits}
use Rattle.typed_core.specs.Widths.{HaveWidths}
use Rattle.circuit_eval.specs.Circuits.{AreBits}

own : (widths : List ℕ) (inputs : List BitVector) → HaveWidths widths inputs → (k : ℕ) (d : BitVector) → k < length inputs → HasWidth (get_or inputs k d) (get_or widths k 0)
own widths inputs fits k d within =
    subst (λ (b : BitVector). HasWidth b (get_or widths k 0)) (get_or_default inputs k _ d within) (fits.each k (get_or widths k 0) (slice_get-get_or widths k 0 (omega (arith, fits.count))))

pub HaveWidths-AreBits : (widths : List ℕ) (inputs : List BitVector) → HaveWidths widths inputs → AreBits inputs widths
HaveWidths-AreBits widths inputs fits = record {
  widths = same_lists (map (λ (b : BitVector). b.width) inputs) widths (length-map inputs (λ (b : BitVector). b.width) ∙ fits.count) (λ k d h.
      let within : k < length inputs = omega (arith, length-map inputs (λ (b : BitVector). b.width)) in
      get_or-map (λ (b : BitVector). b.width) inputs k no_bits d within ∙ (own widths inputs fits k no_bits within).1 ∙ get_or_default widths k 0 d (omega (arith, fits.count)));
  bits = λ k d within. (own widths inputs fits k d within).0;
}
