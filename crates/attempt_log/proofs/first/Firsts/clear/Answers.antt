use Rattle.std.proofs.Common.{◌≤◌, length, ap, ◌∙◌, arith}
use Rattle.attempt_log.proofs.Tables.{Table, holds_nothing, nothing_same, sound_none}
use Rattle.attempt_log.proofs.first.Firsts.clear.Goals as goal

pub returns : goal.returns
returns c =
    let inside = c.self.inside in
    let new = c.clear_places.new.commits.items in
    let none = holds_nothing inside.commits.items new inside.touched.items inside.touched.capacity c.self.invariant (rw c.as_slice.ensures at c.clear_places.ensures.each) in
    nothing_same c.args.self.now new none (c.clear_places.ensures.length ∙ ap (λ (t : Table). length t) c.self.view_is)

pub invariant_of-self : goal.invariant_of-self
invariant_of-self c =
    let inside = c.self.inside in
    let new = c.clear_places.new.commits.items in
    let none = holds_nothing inside.commits.items new inside.touched.items inside.touched.capacity c.self.invariant (rw c.as_slice.ensures at c.clear_places.ensures.each) in
    let room : length new ≤ inside.touched.capacity = omega (arith, c.clear_places.ensures.length, c.self.invariant.room_for_all) in
    rw c.clear.ensures (sound_none new inside.touched.capacity none room)
