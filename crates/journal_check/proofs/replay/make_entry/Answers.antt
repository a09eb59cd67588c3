use Rattle.std.proofs.Common.{◌≡◌, subst, sym, rules}
use Rattle.std.specs.Prelude.{IfSome, IsSome}
use Rattle.std.specs.Arc.{arc_value}
use Rattle.std.proofs.lemmas.Result.{on_ok_weaker}
use Rattle.attempt_log.specs.Attempt.{Attempted}
use Rattle.attempt_log.specs.declared.entry.Entry.{Entry}
use Rattle.journal_check.specs.Checking.{SubmitsRule}
use Rattle.journal_check.specs.inner.Replaying.{Makes}
use Rattle.journal_check.proofs.Replays.{attempt_is_for, attempted, submit_made}
use Rattle.journal_check.proofs.replay.make_entry.Goals as goal

pub submit-requires : goal.submit-requires
submit-requires c =
    let k = c.args.core.now in
    let design = arc_value c.args.workload.now.design in
    let w = c.in-Submit in
    let fit = subst (SubmitsRule design k.opening.stimulus) c.in-Submit.is c.requires.fits in
    let made = subst (λ m. IfSome m (λ (a : Attempted). a ≡ attempted design w.cycle w.rule w.inputs w.events w.outcome)) c.in-Some.is c.in_ok-made-in-Submit.ensures.attempt in
    attempt_is_for k design w.worker w.cycle w.rule w.inputs w.events w.outcome w.answer c.requires.design fit c.in-Some.attempt made

pub returns-in-Some-clause-ok : goal.returns-in-Some-clause-ok
returns-in-Some-clause-ok c =
    let k = c.args.core.now in
    let design = arc_value c.args.workload.now.design in
    let w = c.in-Submit in
    let fit = subst (SubmitsRule design k.opening.stimulus) c.in-Submit.is c.requires.fits in
    let made = subst (λ m. IfSome m (λ (a : Attempted). a ≡ attempted design w.cycle w.rule w.inputs w.events w.outcome)) c.in-Some.is c.in_ok-made-in-Submit.ensures.attempt in
    let some : IsSome c.in_ok-made-in-Submit.made = search rules in
    on_ok_weaker c.submit.result
    (λ answers. subst (λ (e : Entry). Makes k e c.submit.new.core) (sym w.is) (submit_made k design w.worker w.cycle w.rule w.inputs w.events w.outcome w.answer c.requires.design fit c.submit.new.core c.in-Some.attempt c.recall.ensures made (c.in_ok-made-in-Submit.ensures.some.0 some) answers))
    c.submit.ensures.ok
