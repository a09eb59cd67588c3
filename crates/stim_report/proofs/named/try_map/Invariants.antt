use Rattle.std.proofs.Common.{◌≡◌, Ok, map, take}
use denote.Ref.{Bor}
use Rattle.stim_report.proofs.named.try_map.Given as goal

abbrev pub invariant-loop-item : goal.invariant-loop-item
invariant-loop-item g l = (f : g.row.T.Denot → g.row.U.Denot) → ((x : Bor g.row.T.Denot) (y : g.row.U.Denot) → g.F.Fn.post l.make (x, tt) (Ok y) → y ≡ f x.now) → l.all ≡ map f (take l.item-index l.items)
