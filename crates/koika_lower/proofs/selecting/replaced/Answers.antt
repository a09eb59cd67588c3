use Rattle.std.proofs.Common.{◌≡◌, ◌+◌, arith}
use Rattle.koika_lower.proofs.Bindings.{on_ok}
use Rattle.koika_lower.proofs.Replacing.{replaced-both}
use Rattle.koika_lower.proofs.selecting.replaced.Goals as goal

pub returns : goal.returns
returns c =
    on_ok c.with_low.result
    (λ a low within few.
    let above : c.saturating_add-above.result ≡ c.args.range.lowest + c.args.range.width = grind (arith, c.saturating_add-above.ensures, within, few) in
    replaced-both c.args.range c.args.width c.saturating_add-above.result c.in_ok-action.action a above within few c.in_ok-action.ensures low)
    c.with_low.ensures
