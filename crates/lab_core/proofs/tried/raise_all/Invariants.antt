use Rattle.std.proofs.Common.{take, All}
use Rattle.lab_core.specs.inner.Tops.{IsCovered, Keeps}
use Rattle.lab_core.proofs.tried.raise_all.Given as goal

abbrev pub invariant-loop-event : goal.invariant-loop-event
invariant-loop-event l =
    record {
      covers : All (λ e. IsCovered l.tops.items e.access) (take l.event-index l.events);
      kept : Keeps l.fn.tops.items l.tops.items;
    }
