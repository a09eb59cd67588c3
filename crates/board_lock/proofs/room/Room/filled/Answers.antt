use Rattle.std.proofs.Common.{◌<◌, ◌^◌, length, ap, ◌∙◌, arith}
use Rattle.board_lock.proofs.Rooms.{events_fit}
use Rattle.board_lock.proofs.room.Room.filled.Goals as goal

pub extend_from_slice-requires : goal.extend_from_slice-requires
extend_from_slice-requires c =
    let a = c.args.attempt.now in
    let small : length a.run.events < 2 ^ 64 = omega (arith, c.iter-few.ensures.bound, ap length c.iter-few.ensures.rest, ap length c.events-made.ensures.events) in
    let fit = events_fit a c.requires.0 c.args.self c.events-made.ensures.trace c.requires.1 c.requires.2 small in
    omega (arith, fit, ap length (c.as_slice.ensures ∙ c.events-made.ensures.events))
