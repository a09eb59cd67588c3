use Rattle.std.proofs.Common.{List, sym, ap, ◌∙◌}
use Rattle.std.proofs.lemmas.Result.{err_from_is_err_and}
use Rattle.typed_core.specs.declared.access.Event.{Event}
use Rattle.journal_check.specs.inner.Tokens.{events_at, tokens_left}
use Rattle.journal_check.proofs.EventsRead.{after_events, colon_read, event_flawed, event_kept, fewer_left, none_before, none_left}
use Rattle.journal_check.proofs.access.events.Goals as goal

pub loop-rest-init : goal.loop-rest-init
loop-rest-init c =
    let whole = events_at c.args.names.now.design.now (tokens_left c.args.rest) in
    ap (λ (events : List Event). after_events events whole) c.new-events.ensures ∙ none_before whole

pub returns-then-is_colon : goal.returns-then-is_colon
returns-then-is_colon c =
    colon_read c.args.names.now.design.now c.loop-rest.events c.loop-rest.rest c.in-Some.bytes c.cut.result.0.now c.cut.result.1 _ c.loop-rest.invariant c.in-Some.is c.cut.ensures.pieces
    (sym c.is_colon.ensures ∙ c.if-is_colon.true)

pub returns-in_err-event : goal.returns-in_err-event
returns-in_err-event c =
    let p = err_from_is_err_and c.from_residual.result c.from_residual.ensures.1 in
    rw (p.1, p.2)
    (event_flawed c.args.names.now.design.now c.loop-rest.events c.loop-rest.rest c.in-Some.bytes c.cut.result.0.now c.cut.result.1 _ c.in_err-event.field-0.0 c.loop-rest.invariant c.in-Some.is c.cut.ensures.pieces
    (sym c.is_colon.ensures ∙ c.if-is_colon.false) c.in_err-event.ensures)

pub loop-rest-preserved : goal.loop-rest-preserved
loop-rest-preserved c =
    event_kept c.args.names.now.design.now c.loop-rest.events c.loop-rest.rest c.in-Some.bytes c.cut.result.0.now c.cut.result.1 _ c.in_ok-event.event _ c.loop-rest.invariant c.in-Some.is c.cut.ensures.pieces
    (sym c.is_colon.ensures ∙ c.if-is_colon.false) c.in_ok-event.ensures c.in_ok-push.ensures.ok

pub loop-rest-smaller : goal.loop-rest-smaller
loop-rest-smaller c = fewer_left c.loop-rest.rest c.in-Some.bytes c.cut.result.1 c.in-Some.is c.cut.ensures.shorter

pub returns : goal.returns
returns c = none_left c.args.names.now.design.now c.loop-rest.events c.loop-rest.rest _ c.loop-rest.invariant c.in_default.is
