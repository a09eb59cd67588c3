use Rattle.std.proofs.Common.{◌≡◌, true, arith}
use Rattle.std.specs.Prelude.{nat_lt}
use Rattle.std.proofs.lemmas.Bool.Decides.{nat_tests}
use Rattle.koika_lower.proofs.Bindings.{on_ok}
use Rattle.koika_lower.proofs.Replacing.{high-some}
use Rattle.koika_lower.proofs.selecting.with_high.Goals as goal

pub returns-in_ok-high : goal.returns-in_ok-high
returns-in_ok-high c =
    let test : nat_lt c.args.above c.args.width ≡ true = grind (arith, nat_tests, c.if-above-width.true) in
    on_ok c.two.result (λ a two. high-some c.args.above c.args.width c.args.part c.in_ok-high.high a test (omega arith) c.in_ok-high.ensures two) c.two.ensures
