use Rattle.std.proofs.Common.{◌+◌, refl, ap, ◌∙◌}
use Rattle.koika_assert.specs.Violations.{Watched, counted}
use Rattle.koika_assert.proofs.CountedMarks.{watched_after}
use Rattle.koika_assert.proofs.watch.Watch.count.Goals as goal

pub returns : goal.returns
returns c =
    let inside = c.self.inside in
    let known : Watched = record { names = inside.names; marks = inside.marks; cycles = inside.cycles; firsts = inside.firsts.items } in
    let adds = rw c.as_slice.ensures at c.add_cycle.ensures in
    watched_after c.args.fired.now known c.add_cycle.new.firsts.items (inside.cycles + 1) c.self.invariant.first_each adds refl
    ∙ ap (λ (w : Watched). counted w c.args.fired.now) c.self.view_is
