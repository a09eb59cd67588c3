use Rattle.std.proofs.Common.{rules, ◌≡◌, List, [], ◌∷◌, Option, Some, sym, subst}
use Rattle.atomic_table.specs.Table.{opening}
use Rattle.board_core.specs.Kept.{Kept}
use Rattle.board_lock.specs.inner.Rule.{Rule}
use Rattle.board_lock.specs.Plays.{owning}
use Rattle.board_lock.proofs.Ends.{starts}
use Rattle.board_lock.proofs.lock.Lock.new.Goals as goal

pub new-requires : goal.new-requires
new-requires c =
    let board : Kept = c.args.board in
    let is : c.push_reserved.new.self.items ≡ Some board ∷ [] = search rules in
    subst (λ (z : Kept × List (Option Kept)). Rule z.0.opening (opening (0 ∷ 0 ∷ 0 ∷ []) z.1 (owning z.0.opening))) (λ i. (sym c.of-begun.ensures i, sym is i)) (starts board c.requires)
