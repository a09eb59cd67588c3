use Rattle.std.proofs.Common.{◌≡◌, ℕ, length, false, replicate, ap, ◌∙◌, arith}
use Rattle.std.specs.Vec.{vec_len}
use Rattle.typed_core.specs.Widths.{register_widths}
use Rattle.board_core.proofs.Flags.{flags_none}
use Rattle.board_core.proofs.place.Place.begin_next.Goals as goal

pub returns-clause-at : goal.returns-clause-at
returns-clause-at c walk done h =
    let n = length c.args.design.now.rules in
    let place = c.args.self.now in
    let fired : vec_len place.fired ≡ n = omega (arith, place.fired.ok, c.requires.fired) in
    let settled : vec_len place.settled ≡ n = omega (arith, place.settled.ok, c.requires.settled) in
    record {
      at = c.root-self.ensures;
      registers = h.registers;
      fired = c.fill.ensures.items (λ y e. e) ∙ ap (λ (k : ℕ). replicate k false) fired ∙ flags_none n;
      past = c.clear.ensures.stands (register_widths c.args.design.now) walk.state.past h.past;
      settled = c.fill-2.ensures.items (λ y e. e) ∙ ap (λ (k : ℕ). replicate k false) settled ∙ flags_none n;
    }
