use Rattle.std.proofs.Common.{◌≡◌, ◌<◌, length, None, ap, ◌∙◌, arith}
use Rattle.std.specs.Prelude.{slice_index_or}
use Rattle.attempt_log.proofs.Tables.{Table, room_left, sound_more}
use Rattle.attempt_log.proofs.first.Firsts.put.Goals as goal

pub push-requires : goal.push-requires
push-requires c =
    let inside = c.self.inside in
    let within : c.args.number < length inside.commits.items = omega (arith, c.requires.within, ap (λ (t : Table). length t) c.self.view_is) in
    let none : slice_index_or inside.commits.items c.args.number None ≡ None = ap (λ (t : Table). slice_index_or t c.args.number None) c.self.view_is ∙ c.requires.first in
    omega (arith, room_left inside.commits.items inside.touched.items inside.touched.capacity c.args.number c.args.commit c.self.invariant within none)

pub invariant_of-self : goal.invariant_of-self
invariant_of-self c =
    let inside = c.self.inside in
    let within : c.args.number < length inside.commits.items = omega (arith, c.requires.within, ap (λ (t : Table). length t) c.self.view_is) in
    let none : slice_index_or inside.commits.items c.args.number None ≡ None = ap (λ (t : Table). slice_index_or t c.args.number None) c.self.view_is ∙ c.requires.first in
    rw (c.set.ensures, c.push.ensures) (sound_more inside.commits.items inside.touched.items inside.touched.capacity c.args.number c.args.commit c.self.invariant within none)
