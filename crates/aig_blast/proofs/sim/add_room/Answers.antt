use Rattle.aig_blast.proofs.Rooms.{place-step}
use Rattle.aig_blast.proofs.sim.add_room.Goals as goal

pub loop-place-preserved : goal.loop-place-preserved
loop-place-preserved c =
    place-step c.args.values.now.items c.loop-place.values.items c.push.new.self.items c.push-in-loop-place.new.self.items c.loop-place._place c.loop-place.invariant c.in_ok-push.ensures.items c.in_ok-push-2.ensures.items
