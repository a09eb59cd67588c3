use Rattle.std.proofs.Common.{List, length, ap, ◌∙◌, arith}
use Rattle.std.specs.Prelude.{sum}
use Rattle.aig_blast.specs.Aigs.{AigParts, input_word_widths, latch_widths}
use Rattle.aig_blast.specs.declared.aig.InputWord.{InputWord}
use Rattle.aig_blast.specs.declared.aig.LatchWord.{LatchWord}
use Rattle.aig_blast.proofs.Rooms.{room-length}
use Rattle.aig_blast.proofs.sim.room_for.Goals as goal

pub returns-clause-len : goal.returns-clause-len
returns-clause-len c =
    omega (
      arith,
      ap length c.new-values.ensures.items,
      room-length c.new-values.result.items c.add_room.new.values.items 1 c.in_ok-add_room.ensures,
      room-length c.add_room.new.values.items c.add_input_room.new.values.items (sum (input_word_widths c.as_slice.result.now)) c.in_ok-add_input_room.ensures,
      room-length c.add_input_room.new.values.items c.add_latch_room.new.values.items (sum (latch_widths c.as_slice-2.result.now)) c.in_ok-add_latch_room.ensures,
      room-length c.add_latch_room.new.values.items c.add_room-2.new.values.items c.len.result c.in_ok-add_room-2.ensures,
      ap (λ (words : List InputWord). sum (input_word_widths words)) (c.as_slice.ensures ∙ ap (λ (a : AigParts). a.inputs) c.aig.view_is),
      ap (λ (words : List LatchWord). sum (latch_widths words)) (c.as_slice-2.ensures ∙ ap (λ (a : AigParts). a.latches) c.aig.view_is),
      c.len.ensures,
      ap (λ (a : AigParts). length a.gates) c.aig.view_is,
    )
