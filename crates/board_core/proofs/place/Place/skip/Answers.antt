use Rattle.std.proofs.Common.{length, Bool, true, List, refl, ap, ◌∙◌}
use Rattle.std.specs.Prelude.{slice_set}
use Rattle.board_core.proofs.Flags.{flags_more}
use Rattle.board_core.proofs.place.Place.skip.Goals as goal

pub returns-clause-at : goal.returns-clause-at
returns-clause-at c design walk done h =
    record {
      at = refl;
      registers = h.registers;
      fired = h.fired;
      past = h.past;
      settled = ap (λ (flags : List Bool). slice_set flags c.args.node.now.rule true) h.settled ∙ flags_more (length design.rules) done c.args.node.now.rule;
    }
