use Rattle.std.proofs.Common.{refl}
use Rattle.typed_core.proofs.Paths.{AreMost-zeros}
use Rattle.typed_core.proofs.schedule.most_times.Goals as goal

pub loop-number-init : goal.loop-number-init
loop-number-init c = record { shape = refl; passed = AreMost-zeros c.args.nodes.now c.args.rule 1024 }
