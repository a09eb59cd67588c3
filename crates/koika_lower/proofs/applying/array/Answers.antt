use Rattle.std.proofs.Common.{◌≡◌, ◌*◌, ◌≤◌, ap, ap₂, sym, subst, length, ◌∙◌}
use Rattle.koika_lower.proofs.Bindings.{array-is}
use Rattle.koika_lower.proofs.applying.array.Goals as goal

pub returns : goal.returns
returns c =
    let items = c.args.items in
    let count : length items ≤ 128 → c.count_of-count.result ≡ length items = λ few.
    c.count_of-count.ensures (subst (λ k. k ≤ 128) (sym (ap length c.as_slice.ensures)) few) ∙ ap length c.as_slice.ensures in
    array-is items c.in_ok-body.body c.in_ok-all_bound.field-0 c.count_of-count.result c.times-width.result count c.in_ok-body.ensures.means c.in_ok-body.ensures.typed c.in_ok-all_bound.ensures
    (λ first rest e short few.
    let eq : c.count_of-count.result * c.first_width.result ≡ length items * first.width =
    ap₂ (λ a b. a * b) (count short) (c.first_width.ensures first rest (c.as_slice-2.ensures ∙ e)) in
    c.times-width.ensures (subst (λ k. k ≤ 128) (sym eq) few) ∙ eq)
