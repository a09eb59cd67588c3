use Rattle.std.proofs.Common.{ℕ, length, Bool, true, List, [], ◌∷◌, ◌++◌, refl, sym, ap, ap₂, ◌∙◌, subst, arith}
use Rattle.std.specs.Prelude.{slice_set}
use Rattle.std.proofs.lemmas.List.{length-set}
use Rattle.typed_core.specs.Alone.{after}
use Rattle.typed_core.specs.Fits.{EventsFit}
use Rattle.typed_core.specs.Widths.{HaveWidths, register_widths}
use Rattle.typed_core.proofs.Events.{after_fits}
use Rattle.one_rule.specs.Cycle.{flags, numbers}
use Rattle.attempt_log.specs.Past.{StandsFor}
use Rattle.one_rule.specs.declared.cycle.Fired.{Fired}
use Rattle.board_core.proofs.Flags.{flags_more, numbers-push, one_left, one_set}
use Rattle.board_core.proofs.place.Place.commit.Goals as goal

pub take-requires-clause-few : goal.take-requires-clause-few
take-requires-clause-few c =
    omega (arith, c.requires.shape.few, c.requires.shape.settled, one_left c.args.self.now.settled.items c.args.node.now.rule c.requires.new)

pub returns-clause-shape : goal.returns-clause-shape
returns-clause-shape c =
    let shape = c.requires.shape in
    let a = c.args.attempt.now in
    let place = c.args.self.now in
    let rule = c.args.node.now.rule in
    let widths = register_widths a.design in
    let fit : EventsFit widths c.events.result.now = c.events.ensures.fit in
    record {
      registers = subst (λ (regs : List _). HaveWidths widths regs) (sym c.apply.ensures) (after_fits widths c.events.result.now place.regs fit shape.registers);
      fired = length-set place.fired.items rule true ∙ shape.fired;
      settled = length-set place.settled.items rule true ∙ shape.settled;
      places = c.take.ensures.places ∙ shape.places;
      few = omega (arith, c.take.ensures.count, one_set place.settled.items rule c.requires.new, shape.few);
    }

pub returns-clause-at : goal.returns-clause-at
returns-clause-at c walk done h =
    let a = c.args.attempt.now in
    let rule = c.args.node.now.rule in
    let n = length a.design.rules in
    let past = walk.state.past in
    record {
      at = refl;
      registers = c.apply.ensures ∙ ap₂ after c.events.ensures.events h.registers;
      fired = ap (λ (fs : List Bool). slice_set fs rule true) h.fired ∙ flags_more n (numbers past) rule ∙ ap (flags n) (sym (numbers-push past rule a.run.events));
      past = subst (λ (fired : List Fired). StandsFor (register_widths a.design) c.take.new.self fired)
          (ap (λ (r : ℕ). let f : Fired = record { rule = r; events = a.run.events } in past ++ f ∷ []) c.requires.rule)
          (c.take.ensures.stands past h.past);
      settled = ap (λ (fs : List Bool). slice_set fs rule true) h.settled ∙ flags_more n done rule;
    }
