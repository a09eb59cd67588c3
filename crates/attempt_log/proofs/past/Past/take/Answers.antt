use Rattle.std.proofs.Common.{ℕ, ◌+◌, List, refl, sym, ap₂, ◌∙◌, subst}
use Rattle.typed_core.specs.Fits.{EventsFit}
use Rattle.typed_core.specs.Widths.{register_widths}
use Rattle.typed_core.specs.declared.access.Event.{Event}
use Rattle.attempt_log.specs.inner.Firsts.{noted_all}
use Rattle.attempt_log.specs.Past.{Commits, StandsFor}
use Rattle.attempt_log.proofs.Notes.{stands_taken}
use Rattle.attempt_log.proofs.past.Past.take.Goals as goal

pub returns-clause-stands : goal.returns-clause-stands
returns-clause-stands c fired s =
    let a = c.args.attempt.now in
    let past : Commits = record { firsts = c.self.inside.firsts; count = c.self.inside.count } in
    let stands = subst (λ (p : Commits). StandsFor (register_widths a.design) p fired) (sym c.self.view_is) s in
    let events = c.as_slice.ensures ∙ c.events.ensures.events in
    let fit : EventsFit (register_widths a.design) a.run.events = subst (EventsFit (register_widths a.design)) c.events.ensures.events c.events.ensures.fit in
    let noted = c.note_all.ensures.noted
    ∙ ap₂ (λ (n : ℕ) (es : List Event). noted_all (record { position = past.count; rule = n }) past.firsts es) c.rule.ensures.rule events in
    stands_taken (register_widths a.design) past (record { firsts = c.note_all.new.firsts; count = past.count + 1 }) fired a.rule a.run.events stands fit noted refl
