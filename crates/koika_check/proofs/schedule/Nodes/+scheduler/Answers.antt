use Rattle.std.proofs.Common.{◌≡◌, [], ◌∷◌, ◌∙◌, ◌+◌, ◌-◌, ◌++◌, ap, ap₂, sym, arith, length, drop, take}
use Rattle.std.proofs.lemmas.List.{length-append, length-drop, take_all}
use Rattle.std.proofs.lemmas.Result.{err_from_is_err_and}
use Rattle.koika_syntax.specs.declared.tree.Choice.{out-Choice}
use Rattle.koika_syntax.specs.declared.tree.Scheduler.{out-Scheduler}
use Rattle.typed_core.specs.declared.design.Next.{Next}
use Rattle.typed_core.specs.declared.design.Next.TheVariants as next
use Rattle.typed_core.specs.declared.design.Node.{Node}
use Rattle.koika_check.specs.Outcomes.{Gives, ◌>>=◌}
use Rattle.koika_check.specs.Schedule.{at_the_end, in_a_row, path_behind, scheduler_nodes, tried}
use Rattle.koika_check.specs.inner.Schedule.{choice_nodes}
use Rattle.koika_check.proofs.Answering.{ends}
use Rattle.koika_check.proofs.Schedules.{behind_names, behind_rule, behind_taken, choice-made, choice-otherwise, choice-then, end-known, end_of, next-first, node_of, nodes-choice, path-before, scheduler-last, scheduler-names}
use Rattle.koika_check.proofs.schedule.Nodes.+scheduler.Goals as goal

pub choice-returns-in_err-rule-clause-tells : goal.choice-returns-in_err-rule-clause-tells
choice-returns-in_err-rule-clause-tells t c =
    let p = err_from_is_err_and c.from_residual.result c.from_residual.ensures.1 in
    let d = c.args.checker.now.design in
    let path = c.args.self.now.path.rules in
    let number = length c.args.self.now.made in
    rw (p.1, p.2)
    (ends (choice_nodes c.args.of.now d path number) (tried d path (out-Choice c.args.of.now).rule) (behind_rule d path number c.args.of.now) _ (nodes-choice c.args.of.now d path number) c.in_err-rule.ensures.tells)

pub choice-returns-in_err-scheduler-clause-tells : goal.choice-returns-in_err-scheduler-clause-tells
choice-returns-in_err-scheduler-clause-tells t c =
    let p = err_from_is_err_and c.from_residual-in_err-scheduler.result c.from_residual-in_err-scheduler.ensures.1 in
    let d = c.args.checker.now.design in
    let path = c.args.self.now.path.rules in
    let number = length c.args.self.now.made in
    let rule = c.in_ok-rule.ensures.tells in
    let blank : Node = record { rule = c.in_ok-rule.rule; yes = next.End; no = next.End } in
    let count : length c.push.new.self ≡ number + 1 = omega (arith, ap length c.in_ok-push.ensures.ok, length-append c.tried.new.self.made (blank ∷ []), ap length c.in_ok-rule.ensures.made) in
    rw (p.1, p.2)
    (ends (choice_nodes c.args.of.now d path number) (scheduler_nodes (out-Choice c.args.of.now).then d c.tried.new.self.path.rules (length c.push.new.self)) (behind_taken d path number (out-Choice c.args.of.now).otherwise c.in_ok-rule.rule) _
    (choice-then c.args.of.now d path number c.in_ok-rule.rule c.tried.new.self.path.rules (length c.push.new.self) (rule.1 ∙ ap Gives (sym rule.2)) c.in_ok-rule.ensures.path count)
    c.in_err-scheduler.ensures.tells)

pub choice-returns-in_err-scheduler-2-clause-tells : goal.choice-returns-in_err-scheduler-2-clause-tells
choice-returns-in_err-scheduler-2-clause-tells t c =
    let p = err_from_is_err_and c.from_residual-in_err-scheduler-2.result c.from_residual-in_err-scheduler-2.ensures.1 in
    let d = c.args.checker.now.design in
    let path = c.args.self.now.path.rules in
    let number = length c.args.self.now.made in
    let rule = c.in_ok-rule.ensures.tells in
    let taken = c.in_ok-scheduler.ensures.tells in
    let blank : Node = record { rule = c.in_ok-rule.rule; yes = next.End; no = next.End } in
    let count : length c.push.new.self ≡ number + 1 = omega (arith, ap length c.in_ok-push.ensures.ok, length-append c.tried.new.self.made (blank ∷ []), ap length c.in_ok-rule.ensures.made) in
    rw (p.1, p.2)
    (ends (choice_nodes c.args.of.now d path number) (scheduler_nodes (out-Choice c.args.of.now).otherwise d c.scheduler.new.self.path.rules (length c.scheduler.new.self.made)) (λ other. Gives (node_of number c.in_ok-rule.rule taken.0 other ∷ taken.0 ++ other)) _
    (choice-otherwise c.args.of.now d path number c.in_ok-rule.rule c.tried.new.self.path.rules (length c.push.new.self) taken.0 c.scheduler.new.self.path.rules (length c.scheduler.new.self.made)
    (rule.1 ∙ ap Gives (sym rule.2)) c.in_ok-rule.ensures.path count taken.1 c.in_ok-scheduler.ensures.path (ap length taken.2 ∙ length-append c.push.new.self taken.0))
    c.in_err-scheduler-2.ensures.tells)

pub choice-returns-clause-tells : goal.choice-returns-clause-tells
choice-returns-clause-tells t c =
    let d = c.args.checker.now.design in
    let path = c.args.self.now.path.rules in
    let number = length c.args.self.now.made in
    let rule = c.in_ok-rule.ensures.tells in
    let taken = c.in_ok-scheduler.ensures.tells in
    let other = c.in_ok-scheduler-2.ensures.tells in
    let blank : Node = record { rule = c.in_ok-rule.rule; yes = next.End; no = next.End } in
    let count : length c.push.new.self ≡ number + 1 = omega (arith, ap length c.in_ok-push.ensures.ok, length-append c.tried.new.self.made (blank ∷ []), ap length c.in_ok-rule.ensures.made) in
    let middle : length c.scheduler.new.self.made ≡ number + 1 + length taken.0 = omega (arith, count, ap length taken.2, length-append c.push.new.self taken.0) in
    let last : length c.scheduler-2.new.self.made ≡ number + 1 + length taken.0 + length other.0 = omega (arith, middle, ap length other.2, length-append c.scheduler.new.self.made other.0) in
    let node = λ (y n : Next). let one : Node = record { rule = c.in_ok-rule.rule; yes = y; no = n } in one in
    let is : node c.in_ok-yes.yes c.in_ok-no.no ≡ node_of number c.in_ok-rule.rule taken.0 other.0 =
    ap₂ node (next-first c.in_ok-yes.yes taken.0 c.len-first.result c.len-middle.result (number + 1) c.in_ok-yes.ensures (c.len-first.ensures ∙ count) (c.len-middle.ensures ∙ middle))
    (next-first c.in_ok-no.no other.0 c.len-middle.result c.len.result (number + 1 + length taken.0) c.in_ok-no.ensures (c.len-middle.ensures ∙ middle) (c.len.ensures ∙ last)) in (
      node_of number c.in_ok-rule.rule taken.0 other.0 ∷ taken.0 ++ other.0,
      choice-otherwise c.args.of.now d path number c.in_ok-rule.rule c.tried.new.self.path.rules (length c.push.new.self) taken.0 c.scheduler.new.self.path.rules (length c.scheduler.new.self.made)
          (rule.1 ∙ ap Gives (sym rule.2)) c.in_ok-rule.ensures.path count taken.1 c.in_ok-scheduler.ensures.path (ap length taken.2 ∙ length-append c.push.new.self taken.0)
          ∙ ap (λ o. o >>= λ ns. Gives (node_of number c.in_ok-rule.rule taken.0 ns ∷ taken.0 ++ ns)) other.1,
      choice-made c.args.self.now.made c.push.new.self c.scheduler.new.self.made c.scheduler-2.new.self.made c.set.new.self blank (node c.in_ok-yes.yes c.in_ok-no.no) taken.0 other.0 c.len-number.result
          (c.in_ok-push.ensures.ok ∙ ap (λ m. m ++ blank ∷ []) c.in_ok-rule.ensures.made) taken.2 other.2 (c.len-number.ensures ∙ ap length c.in_ok-rule.ensures.made) c.set.ensures
          ∙ ap (λ n. c.args.self.now.made ++ (n ∷ taken.0 ++ other.0)) is,
    )

pub scheduler-returns-in_err-names-clause-tells : goal.scheduler-returns-in_err-names-clause-tells
scheduler-returns-in_err-names-clause-tells t c =
    let p = err_from_is_err_and c.from_residual.result c.from_residual.ensures.1 in
    let d = c.args.checker.now.design in
    let path = c.args.self.now.path.rules in
    let number = length c.args.self.now.made in
    rw (p.1, p.2)
    (ends (scheduler_nodes c.args.of.now d path number) (path_behind d c.as_slice.result.now path) (behind_names d path number c.as_slice.result.now (out-Scheduler c.args.of.now).last) _
    (scheduler-names c.args.of.now d path number c.as_slice.result.now c.as_slice.ensures) c.in_err-names.ensures.tells)

pub scheduler-returns-in_err-last-clause-tells : goal.scheduler-returns-in_err-last-clause-tells
scheduler-returns-in_err-last-clause-tells t c =
    let p = err_from_is_err_and c.from_residual-in_err-last.result c.from_residual-in_err-last.ensures.1 in
    let d = c.args.checker.now.design in
    let path = c.args.self.now.path.rules in
    let number = length c.args.self.now.made in
    let names = c.in_ok-names.ensures.tells in
    let count : length c.push_row.new.made ≡ number + length c.as_slice.result.now = omega (arith, c.in_ok-push_row.ensures.count, ap length c.in_ok-names.ensures.made, c.in_ok-names.ensures.count, length-drop c.len-before.result c.rules.result.now, ap length c.rules.ensures, c.len-before.ensures) in
    rw (p.1, p.2)
    (ends (scheduler_nodes c.args.of.now d path number) (at_the_end (end_of (out-Scheduler c.args.of.now).last) d c.names.new.self.path.rules (length c.push_row.new.made)) (λ nodes. Gives (in_a_row number (drop (length path) c.names.new.self.path.rules) nodes)) _
    (scheduler-last c.args.of.now d path number c.as_slice.result.now names.0 c.names.new.self.path.rules (length c.push_row.new.made) c.as_slice.ensures names.1 names.2 count)
    c.in_err-last.ensures.tells)

pub scheduler-returns-clause-path : goal.scheduler-returns-clause-path
scheduler-returns-clause-path t c =
    let d = c.args.checker.now.design in
    let path = c.args.self.now.path.rules in
    let names = c.in_ok-names.ensures.tells in
    c.leave.ensures.left ∙ ap₂ (λ n p. take n p) c.len-before.ensures (c.in_ok-last.ensures.path ∙ names.2) ∙ path-before d c.as_slice.result.now path names.0 names.1

pub scheduler-returns-clause-tells : goal.scheduler-returns-clause-tells
scheduler-returns-clause-tells t c =
    let d = c.args.checker.now.design in
    let path = c.args.self.now.path.rules in
    let number = length c.args.self.now.made in
    let names = c.in_ok-names.ensures.tells in
    let last = c.in_ok-last.ensures.tells in
    let count : length c.push_row.new.made ≡ number + length c.as_slice.result.now = omega (arith, c.in_ok-push_row.ensures.count, ap length c.in_ok-names.ensures.made, c.in_ok-names.ensures.count, length-drop c.len-before.result c.rules.result.now, ap length c.rules.ensures, c.len-before.ensures) in (
      in_a_row number (drop (length path) c.names.new.self.path.rules) last.0,
      scheduler-last c.args.of.now d path number c.as_slice.result.now names.0 c.names.new.self.path.rules (length c.push_row.new.made) c.as_slice.ensures names.1 names.2 count
          ∙ ap (λ o. o >>= λ nodes. Gives (in_a_row number (drop (length path) c.names.new.self.path.rules) nodes)) last.1,
      last.2 ∙ c.in_ok-push_row.ensures.made last.0 (end-known (out-Scheduler c.args.of.now).last d c.names.new.self.path.rules (length c.push_row.new.made) last.0 c.is_none.result last.1 (sym c.is_none.ensures))
          ∙ ap (λ rs. c.names.new.self.made ++ in_a_row (length c.names.new.self.made) rs last.0) (take_all (length c.rules.result.now - c.len-before.result) (drop c.len-before.result c.rules.result.now) (omega (arith, length-drop c.len-before.result c.rules.result.now)))
          ∙ ap (λ m. m ++ in_a_row (length m) (drop c.len-before.result c.rules.result.now) last.0) c.in_ok-names.ensures.made
          ∙ ap₂ (λ n rs. c.args.self.now.made ++ in_a_row number (drop n rs) last.0) c.len-before.ensures c.rules.ensures,
    )
