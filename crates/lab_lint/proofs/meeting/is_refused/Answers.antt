use Rattle.std.proofs.Common.{◌≡◌, ◌≤◌, ◌∙◌, List, Some, None, length, ap, subst, sym}
use Rattle.std.specs.Prelude.{slice_get}
use Rattle.std.proofs.lemmas.Option.{slice_get_past}
use Rattle.koika_check.specs.declared.checked.CheckedRule.{CheckedRule}
use Rattle.koika_lower.proofs.Bodies.{item-at}
use Rattle.lab_lint.specs.Occurrences.{Part, bodies_before, part_of}
use Rattle.lab_lint.specs.Refusals.{is_refused_in}
use Rattle.lab_lint.specs.inner.Meetings.{meeting_of}
use Rattle.lab_lint.specs.declared.meeting.Meeting.{Meeting}
use Rattle.lab_lint.proofs.Bodies.{rule-none, rule-some}
use Rattle.lab_lint.proofs.meeting.is_refused.Goals as goal

pub returns-in-Some : goal.returns-in-Some
returns-in-Some c =
    let d = c.args.design.now in
    let a = c.args.access in
    let r = c.in-Some.rule.now in
    let at : slice_get d.rules c.args.rule ≡ Some r = item-at d.rules c.as_slice.result.now c.args.rule r c.as_slice.ensures c.in-Some.ensures.lookup.3.0 c.in-Some.ensures.lookup.1 in
    ap (λ (m : Meeting). m.is_refused) (c.meet.ensures ∙ ap (λ n. meeting_of a (part_of (bodies_before d n) r.body)) c.len.ensures)
    ∙ ap (λ (p : Part). is_refused_in p a) (sym (rule-some d c.args.rule r at))

pub returns-in-None : goal.returns-in-None
returns-in-None c =
    let d = c.args.design.now in
    let none : slice_get d.rules c.args.rule ≡ None = slice_get_past d.rules c.args.rule (subst (λ (rs : List CheckedRule). length rs ≤ c.args.rule) c.as_slice.ensures c.in-None.ensures.lookup.3) in
    ap (λ (p : Part). is_refused_in p c.args.access) (sym (rule-none d c.args.rule none))
