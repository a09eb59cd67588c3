use Rattle.std.proofs.Common.{ℕ, sym, ap, ap₂, ◌∙◌, ◌++◌, ◌∷◌, [], List}
use Rattle.std.proofs.lemmas.List.{map_more}
use Rattle.aig_blast.specs.inner.Nodes.{input_word}
use Rattle.aig_blast.specs.declared.aig.InputWord.{InputWord}
use Rattle.aig_blast.proofs.circuit.input_words.Goals as goal

pub loop-wire-preserved : goal.loop-wire-preserved
loop-wire-preserved c =
    let one = ap (λ (name : List ℕ). input_word (record { name = name; width = c.wire-item.result.width })) (c.in_ok-name.ensures ∙ c.as_slice.ensures) ∙ ap input_word c.wire-item.is in
    c.in_ok-push.ensures.ok ∙ ap₂ (λ (front : List InputWord) (last : InputWord). front ++ last ∷ []) c.loop-wire.invariant one
    ∙ sym (map_more input_word c.args.wires.now c.loop-wire.wire-index c.wire-item.result c.loop-wire-test.true)
