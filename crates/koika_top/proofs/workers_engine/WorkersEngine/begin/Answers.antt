use Rattle.std.proofs.Common.{subst}
use Rattle.std.specs.Arc.{arc_value}
use Rattle.typed_core.specs.declared.design.Parts.{Parts}
use Rattle.koika_top.specs.inner.Engines.{HasRun}
use Rattle.koika_top.proofs.workers_engine.WorkersEngine.begin.Goals as goal

pub returns-clause-stands : goal.returns-clause-stands
returns-clause-stands g c =
    let stimulus = arc_value c.args.lowered.now.stimulus in
    subst (λ (design : Parts). HasRun design stimulus 0 c.in_ok-last.last) c.deref.ensures (c.in_ok-last.ensures stimulus)
