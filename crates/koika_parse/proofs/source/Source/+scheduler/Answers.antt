use Rattle.std.proofs.Common.{subst, sym}
use Rattle.koika_syntax.specs.inner.Grammar.{choice_leaves}
use Rattle.koika_parse.specs.inner.Parts.{IsChoice}
use Rattle.koika_parse.proofs.Reading.{in_place_of, as_leaves}
use Rattle.koika_parse.proofs.Parts.{is_scheduler, is_choice}
use Rattle.koika_parse.proofs.Calls.{leaves_scheduler, leaves_choice}
use Rattle.koika_parse.proofs.Expected.{step, last_part, fails, fails_before, fails_last, finish}
use Rattle.koika_parse.proofs.SchedulerWords.{rules_apart, last_at, last_none, choice_start, scheduler_start, last_apart}
use Rattle.koika_parse.specs.inner.Expected.{Any}
use Rattle.koika_parse.proofs.Steps.{◌past◌, ◌then◌}
use Rattle.koika_parse.proofs.source.Source.+scheduler.Goals as goal

pub scheduler-returns-clause-read : goal.scheduler-returns-clause-read
scheduler-returns-clause-read t c =
    c.in_ok-sign.ensures.read
    then as_leaves _ (leaves_scheduler c.in_ok-rules.rules c.in_ok-last.last) (c.in_ok-rules.ensures.read then c.in_ok-last.ensures.read)
    then c.in_ok-sign-2.ensures.read

pub scheduler-returns-clause-is : goal.scheduler-returns-clause-is
scheduler-returns-clause-is t c = is_scheduler c.in_ok-rules.rules c.in_ok-last.last c.in_ok-rules.ensures.is c.in_ok-last.ensures.is

pub last_choice-returns-clause-read : goal.last_choice-returns-clause-read
last_choice-returns-clause-read t c =
    in_place_of choice_leaves c.in_ok-last.last c.in_ok-last.ensures c.in_ok-choice.ensures.read

pub last_choice-returns-clause-is : goal.last_choice-returns-clause-is
last_choice-returns-clause-is t c = subst IsChoice (sym c.in_ok-last.ensures) c.in_ok-choice.ensures.is

pub choice-returns-clause-read : goal.choice-returns-clause-read
choice-returns-clause-read t c =
    as_leaves _ (leaves_choice c.in_ok-rule.rule c.in_ok-then.then c.in_ok-otherwise.otherwise)
    (c.in_ok-word.ensures.read then c.in_ok-rule.ensures.read then c.in_ok-word-2.ensures.read then c.in_ok-then.ensures.read
    then c.in_ok-word-3.ensures.read then c.in_ok-otherwise.ensures.read)

pub choice-returns-clause-is : goal.choice-returns-clause-is
choice-returns-clause-is t c =
    is_choice c.in_ok-rule.rule c.in_ok-then.then c.in_ok-otherwise.otherwise c.in_ok-rule.ensures.is c.in_ok-then.ensures.is
    c.in_ok-otherwise.ensures.is

pub scheduler-returns-in_err-sign-clause-takes : goal.scheduler-returns-in_err-sign-clause-takes
scheduler-returns-in_err-sign-clause-takes t c = fails _ c.from_residual.ensures scheduler_start c.in_err-sign.ensures.takes

pub scheduler-returns-in_err-rules-clause-takes : goal.scheduler-returns-in_err-rules-clause-takes
scheduler-returns-in_err-rules-clause-takes t c =
    let brace = scheduler_start past c.in_ok-sign.ensures.takes in
    fails_before _ c.from_residual-in_err-rules.ensures brace c.in_err-rules.ensures.takes (rules_apart Any)

pub scheduler-returns-in_err-last-clause-takes : goal.scheduler-returns-in_err-last-clause-takes
scheduler-returns-in_err-last-clause-takes t c =
    let rules = step (scheduler_start past c.in_ok-sign.ensures.takes) c.in_ok-rules.ensures.takes (rules_apart Any) in
    fails_before _ c.from_residual-in_err-last.ensures rules c.in_err-last.ensures.takes last_apart

pub scheduler-returns-in_err-sign-2-clause-takes : goal.scheduler-returns-in_err-sign-2-clause-takes
scheduler-returns-in_err-sign-2-clause-takes t c =
    let rules = step (scheduler_start past c.in_ok-sign.ensures.takes) c.in_ok-rules.ensures.takes (rules_apart Any) in
    let last = step rules c.in_ok-last.ensures.takes last_apart in
    fails_last _ c.from_residual-in_err-sign-2.ensures last c.in_err-sign-2.ensures.takes

pub scheduler-returns-clause-takes : goal.scheduler-returns-clause-takes
scheduler-returns-clause-takes t c =
    let rules = step (scheduler_start past c.in_ok-sign.ensures.takes) c.in_ok-rules.ensures.takes (rules_apart Any) in
    last_part _ (step rules c.in_ok-last.ensures.takes last_apart) c.in_ok-sign-2.ensures.takes

pub choice-returns-in_err-word-clause-takes : goal.choice-returns-in_err-word-clause-takes
choice-returns-in_err-word-clause-takes t c = fails _ c.from_residual.ensures choice_start c.in_err-word.ensures.takes

pub choice-returns-in_err-rule-clause-takes : goal.choice-returns-in_err-rule-clause-takes
choice-returns-in_err-rule-clause-takes t c =
    fails _ c.from_residual-in_err-rule.ensures (choice_start past c.in_ok-word.ensures.takes) c.in_err-rule.ensures.takes

pub choice-returns-in_err-word-2-clause-takes : goal.choice-returns-in_err-word-2-clause-takes
choice-returns-in_err-word-2-clause-takes t c =
    let rule = choice_start past c.in_ok-word.ensures.takes past c.in_ok-rule.ensures.takes in
    fails _ c.from_residual-in_err-word-2.ensures rule c.in_err-word-2.ensures.takes

pub choice-returns-in_err-then-clause-takes : goal.choice-returns-in_err-then-clause-takes
choice-returns-in_err-then-clause-takes t c =
    let taking = choice_start past c.in_ok-word.ensures.takes past c.in_ok-rule.ensures.takes past c.in_ok-word-2.ensures.takes in
    fails _ c.from_residual-in_err-then.ensures taking c.in_err-then.ensures.takes

pub choice-returns-in_err-word-3-clause-takes : goal.choice-returns-in_err-word-3-clause-takes
choice-returns-in_err-word-3-clause-takes t c =
    let taking = choice_start past c.in_ok-word.ensures.takes past c.in_ok-rule.ensures.takes past c.in_ok-word-2.ensures.takes in
    fails _ c.from_residual-in_err-word-3.ensures (taking past c.in_ok-then.ensures.takes) c.in_err-word-3.ensures.takes

pub choice-returns-in_err-otherwise-clause-takes : goal.choice-returns-in_err-otherwise-clause-takes
choice-returns-in_err-otherwise-clause-takes t c =
    let taking = choice_start past c.in_ok-word.ensures.takes past c.in_ok-rule.ensures.takes past c.in_ok-word-2.ensures.takes in
    let other = taking past c.in_ok-then.ensures.takes past c.in_ok-word-3.ensures.takes in
    fails_last _ c.from_residual-in_err-otherwise.ensures other c.in_err-otherwise.ensures.takes

pub choice-returns-clause-takes : goal.choice-returns-clause-takes
choice-returns-clause-takes t c =
    let taking = choice_start past c.in_ok-word.ensures.takes past c.in_ok-rule.ensures.takes past c.in_ok-word-2.ensures.takes in
    last_part _ (taking past c.in_ok-then.ensures.takes past c.in_ok-word-3.ensures.takes) c.in_ok-otherwise.ensures.takes

pub last_choice-returns-in_err-choice-clause-takes : goal.last_choice-returns-in_err-choice-clause-takes
last_choice-returns-in_err-choice-clause-takes t c =
    fails_last _ c.from_residual.ensures (last_at (c.is_at_word.ensures.0 c.if-not-is_at_word.false)) c.in_err-choice.ensures.takes

pub last_choice-returns-clause-takes : goal.last_choice-returns-clause-takes
last_choice-returns-clause-takes t c =
    last_part _ (last_at (c.is_at_word.ensures.0 c.if-not-is_at_word.false)) c.in_ok-choice.ensures.takes

pub last_choice-returns-then-not-is_at_word-clause-takes : goal.last_choice-returns-then-not-is_at_word-clause-takes
last_choice-returns-then-not-is_at_word-clause-takes t c =
    finish _ (last_none (λ e. cc (c.if-not-is_at_word.true, c.is_at_word.ensures.1 e)))
