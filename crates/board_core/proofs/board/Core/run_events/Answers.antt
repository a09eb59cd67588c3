use Rattle.std.proofs.Common.{◌≡◌, length, List, [], ◌∷◌, ◌++◌, Option, reverse, sym, ap, ◌∙◌, subst, arith}
use Rattle.std.specs.Option.{option_to_list}
use Rattle.std.specs.List.{AllByRecursion}
use Rattle.std.proofs.lemmas.List.{length_push, reverse-append}
use Rattle.board_core.specs.Kept.{EventFits}
use Rattle.board_core.specs.declared.event.BoardAnswer.{BoardAnswer}
use Rattle.board_core.specs.declared.event.BoardEvent.{BoardEvent}
use Rattle.board_core.proofs.Runs.{Goes, goes_on}
use Rattle.board_core.proofs.board.Core.run_events.Goals as goal

pub loop-event-preserved : goal.loop-event-preserved
loop-event-preserved c =
    let first = c.args.self.now in
    let all = c.args.events.items in
    let now = c.loop-event.self in
    let next = c.step.new.self in
    let event = c.in-Some.event in
    let left = c.pop.new.self.items in
    let h = c.loop-event.invariant in
    let popped : c.loop-event.events.items ≡ left ++ event ∷ [] = c.pop.ensures.items ∙ ap (λ (o : Option BoardEvent). left ++ option_to_list o) c.in-Some.is in
    let turned : reverse c.loop-event.events.items ≡ event ∷ reverse left = ap (λ (es : List BoardEvent). reverse es) popped ∙ reverse-append left (event ∷ []) in
    let goes = subst (Goes first all now c.loop-event.answers.items) turned h.goes in
    let fits = subst (AllByRecursion (EventFits first.opening)) turned h.fits in
    record {
      goes = subst (λ (answers : List BoardAnswer). Goes first all next answers (reverse left)) (sym c.push_reserved.ensures.items)
          (goes_on first now next all c.loop-event.answers.items event (reverse left) c.step.result h.opening c.step.ensures.step goes);
      fits = fits.1;
      opening = c.step.ensures.opening ∙ h.opening;
      room = omega (arith, h.room, ap length c.push_reserved.ensures.items, length_push c.loop-event.answers.items c.step.result, ap length popped, length_push left event, c.push_reserved.ensures.capacity);
    }
