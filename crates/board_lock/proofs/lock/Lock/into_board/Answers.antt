use Rattle.std.proofs.Common.{refl, sym, subst, ◌∙◌}
use Rattle.std.specs.Prelude.{IsSome}
use Rattle.board_core.specs.Kept.{Kept}
use Rattle.board_lock.specs.Histories.{Leaves}
use Rattle.board_lock.proofs.Ends.{closes, taken_is, some_is}
use Rattle.board_lock.proofs.lock.Lock.into_board.Goals as goal

pub unwrap-board-requires : goal.unwrap-board-requires
unwrap-board-requires c =
    let m = c.args.place.me in
    let e = closes _ _ m.0 _ _ c.requires.own c.requires.none c.requires.outside.0 c.close_with-closed.ensures.values.2 in
    subst IsSome (sym (taken_is _ _ _ c.take.ensures.value e.1)) refl

pub returns : goal.returns
returns c =
    let m = c.args.place.me in
    let e = closes _ _ m.0 _ _ c.requires.own c.requires.none c.requires.outside.0 c.close_with-closed.ensures.values.2 in
    let is = some_is _ _ (sym c.unwrap-board.ensures ∙ taken_is _ _ _ c.take.ensures.value e.1) in
    record { board = subst (λ (k : Kept). Leaves m.0.opened m.0.seen k) (sym (c.into_inner.ensures ∙ c.into_core.ensures ∙ is)) e.2; legal = e.3 }
