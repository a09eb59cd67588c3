use Rattle.std.proofs.Common.{List, [], ◌∷◌, ◌++◌, sym, ap, ap₂, ◌∙◌}
use Rattle.std.proofs.lemmas.List.{map_more}
use Rattle.stim_report.proofs.named.try_map.Goals as goal

pub loop-item-preserved : goal.loop-item-preserved
loop-item-preserved g c = λ f gives.
    let one = gives _ c.in_ok-make.field-0 c.in_ok-make.ensures ∙ ap f c.item-item.is in
    c.in_ok-push.ensures.ok ∙ ap₂ (λ (front : List g.row.U.Denot) (last : g.row.U.Denot). front ++ last ∷ []) (c.loop-item.invariant f gives) one
    ∙ sym (map_more f c.args.items.now c.loop-item.item-index c.item-item.result c.loop-item-test.true)
