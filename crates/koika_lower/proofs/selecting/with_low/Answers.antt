use Rattle.std.proofs.Common.{◌≡◌, true, arith}
use Rattle.std.specs.Prelude.{nat_lt}
use Rattle.std.proofs.lemmas.Bool.Decides.{nat_tests}
use Rattle.koika_lower.proofs.Bindings.{on_ok}
use Rattle.koika_lower.proofs.Replacing.{low-some}
use Rattle.koika_lower.proofs.selecting.with_low.Goals as goal

pub returns-in_ok-low : goal.returns-in_ok-low
returns-in_ok-low c =
    let test : nat_lt 0 c.args.lowest ≡ true = grind (arith, nat_tests, c.if-lowest-gt0.true) in
    on_ok c.two.result (λ a two. low-some c.args.lowest c.args.part c.in_ok-low.low a test (omega arith) c.in_ok-low.ensures two) c.two.ensures
