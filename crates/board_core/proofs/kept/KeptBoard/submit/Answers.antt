use Rattle.std.proofs.Common.{ℕ, ◌<◌, length, Bool, refl, sym, ap, ◌∙◌, subst, is_some}
use Rattle.std.specs.Prelude.{if◌then◌else◌}
use Rattle.one_rule.proofs.Alike.{length-same}
use Rattle.board_core.specs.Board.{stays, stored, submit}
use Rattle.board_core.specs.Kept.{slots_from}
use Rattle.board_core.specs.declared.event.BoardAnswer.TheVariants as answer
use Rattle.attempt_log.specs.declared.entry.Submitted.TheVariants as submitted
use Rattle.board_core.proofs.Sound as sound
use Rattle.board_core.proofs.kept.KeptBoard.submit.Goals as goal

pub is_late-requires : goal.is_late-requires
is_late-requires c =
    let a = c.args.attempt in
    subst (λ (n : ℕ). a.rule < n) (length-same a.design.rules c.args.self.now.opening.design.rules c.requires.design.rules) c.recall.ensures.rule

pub stands-requires-clause-rule : goal.stands-requires-clause-rule
stands-requires-clause-rule c =
    let a = c.args.attempt in
    subst (λ (n : ℕ). a.rule < n) (length-same a.design.rules c.args.self.now.opening.design.rules c.requires.design.rules) c.recall.ensures.rule

pub returns-then-is_late-clause-step : goal.returns-then-is_late-clause-step
returns-then-is_late-clause-step c board h =
    let a = c.args.attempt in
    let kept = c.args.self.now in
    let within : a.rule < length kept.opening.design.rules = subst (λ (n : ℕ). a.rule < n) (length-same a.design.rules kept.opening.design.rules c.requires.design.rules) c.recall.ensures.rule in
    let late = sym (sound.late_same kept board h a within) ∙ sym c.is_late.ensures ∙ c.if-is_late.true in
    sound.steps_so kept (answer.Submit (submitted.Late a)) (submit kept.opening board a) (stays board (answer.Submit (submitted.Late a))) (sound.submit_late kept.opening board a late) refl h

pub returns-then-is_ahead-clause-step : goal.returns-then-is_ahead-clause-step
returns-then-is_ahead-clause-step c board h =
    let a = c.args.attempt in
    let kept = c.args.self.now in
    let within : a.rule < length kept.opening.design.rules = subst (λ (n : ℕ). a.rule < n) (length-same a.design.rules kept.opening.design.rules c.requires.design.rules) c.recall.ensures.rule in
    let late = sym (sound.late_same kept board h a within) ∙ sym c.is_late.ensures ∙ c.if-is_late.false in
    let ahead = sym (sound.ahead_same kept board h a) ∙ sym c.is_ahead.ensures ∙ c.if-is_ahead.true in
    sound.steps_so kept (answer.Submit (submitted.Ahead a)) (submit kept.opening board a) (stays board (answer.Submit (submitted.Ahead a))) (sound.submit_ahead kept.opening board a late ahead) refl h

pub returns-then-stands-clause-step : goal.returns-then-stands-clause-step
returns-then-stands-clause-step c board h =
    let a = c.args.attempt in
    let kept = c.args.self.now in
    let within : a.rule < length kept.opening.design.rules = subst (λ (n : ℕ). a.rule < n) (length-same a.design.rules kept.opening.design.rules c.requires.design.rules) c.recall.ensures.rule in
    let late = sym (sound.late_same kept board h a within) ∙ sym c.is_late.ensures ∙ c.if-is_late.false in
    let ahead = sym (sound.ahead_same kept board h a) ∙ sym c.is_ahead.ensures ∙ c.if-is_ahead.false in
    let twice = sym (ap is_some (h.slots a.cycle a.rule)) ∙ sound.some_home kept (slots_from kept.cycle kept.slots a.cycle a.rule) ∙ sym c.stands.ensures ∙ c.if-stands.true in
    sound.steps_so kept (answer.Submit (submitted.Twice a)) (submit kept.opening board a) (stays board (answer.Submit (submitted.Twice a)))
    (sound.submit_near kept.opening board a late ahead ∙ ap (λ (b : Bool). if b then stays board (answer.Submit (submitted.Twice a)) else record { answer = answer.Submit submitted.Stored; board = stored kept.opening board a }) twice) refl h

pub returns-clause-step : goal.returns-clause-step
returns-clause-step c board h =
    let a = c.args.attempt in
    let kept = c.args.self.now in
    let within : a.rule < length kept.opening.design.rules = subst (λ (n : ℕ). a.rule < n) (length-same a.design.rules kept.opening.design.rules c.requires.design.rules) c.recall.ensures.rule in
    let late = sym (sound.late_same kept board h a within) ∙ sym c.is_late.ensures ∙ c.if-is_late.false in
    let ahead = sym (sound.ahead_same kept board h a) ∙ sym c.is_ahead.ensures ∙ c.if-is_ahead.false in
    let once = sym (ap is_some (h.slots a.cycle a.rule)) ∙ sound.some_home kept (slots_from kept.cycle kept.slots a.cycle a.rule) ∙ sym c.stands.ensures ∙ c.if-stands.false in
    sound.steps_so c.store.new.self (answer.Submit submitted.Stored) (submit kept.opening board a) (record { answer = answer.Submit submitted.Stored; board = stored kept.opening board a })
    (sound.submit_near kept.opening board a late ahead ∙ ap (λ (b : Bool). if b then stays board (answer.Submit (submitted.Twice a)) else record { answer = answer.Submit submitted.Stored; board = stored kept.opening board a }) once) refl (c.store.ensures.stored board h)
