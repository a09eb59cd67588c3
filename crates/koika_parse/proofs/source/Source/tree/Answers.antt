use Rattle.std.proofs.Common.{List, refl}
use Rattle.koika_syntax.specs.Tree.{Leaf, keyword}
use Rattle.koika_parse.specs.inner.Expected.{One, Then}
use Rattle.koika_parse.specs.inner.Words.{end_follows, schedule_follows}
use Rattle.koika_parse.proofs.Expected.{Apart, before_one_then, fails, fails_before, fails_last, last_part}
use Rattle.koika_syntax.specs.declared.keyword.Keyword.TheVariants as keywords
use Rattle.koika_parse.proofs.DeclarationWords.{then_nothing, tree_ended, tree_start}
use Rattle.koika_syntax.specs.declared.keyword.Keyword.TheVariants as keywords
use Rattle.koika_parse.proofs.Steps.{◌then◌, ◌past◌, ◌past◌by◌, ◌so◌}
use Rattle.koika_parse.proofs.source.Source.tree.Goals as goal

-- declarations in front of the schedule
schedule : {Q : List Leaf → Type 0} → Apart (Then (One (keyword keywords.Schedule)) Q) end_follows schedule_follows
schedule {Q} = before_one_then Q end_follows schedule_follows (keyword keywords.Schedule) refl

pub returns-clause-read : goal.returns-clause-read
returns-clause-read c =
    c.in_ok-declarations.ensures.read then c.in_ok-schedule.ensures.read then c.in_ok-scheduler.ensures.read

pub returns-clause-is : goal.returns-clause-is
returns-clause-is c =
    record { declarations = c.in_ok-declarations.ensures.is; scheduler = c.in_ok-scheduler.ensures.is }

pub returns-in_err-declarations-clause-takes : goal.returns-in_err-declarations-clause-takes
returns-in_err-declarations-clause-takes c =
    fails_before _ c.from_residual.ensures tree_start c.in_err-declarations.ensures.takes schedule

pub returns-in_err-schedule-clause-takes : goal.returns-in_err-schedule-clause-takes
returns-in_err-schedule-clause-takes c = fails _ c.from_residual-in_err-schedule.ensures
    (tree_start past c.in_ok-declarations.ensures.takes by schedule) c.in_err-schedule.ensures.takes

pub returns-in_err-scheduler-clause-takes : goal.returns-in_err-scheduler-clause-takes
returns-in_err-scheduler-clause-takes c = fails_last _ c.from_residual-in_err-scheduler.ensures
    (tree_start past c.in_ok-declarations.ensures.takes by schedule past c.in_ok-schedule.ensures.takes)
    c.in_err-scheduler.ensures.takes

pub returns-clause-takes : goal.returns-clause-takes
returns-clause-takes c = last_part _
    (tree_start past c.in_ok-declarations.ensures.takes by schedule past c.in_ok-schedule.ensures.takes)
    c.in_ok-scheduler.ensures.takes

pub returns-then-cursor-self-clause-takes : goal.returns-then-cursor-self-clause-takes
returns-then-cursor-self-clause-takes c = tree_ended c.if-cursor-self.true
    (tree_start past c.in_ok-declarations.ensures.takes by schedule past c.in_ok-schedule.ensures.takes so then_nothing
    past c.in_ok-scheduler.ensures.takes)
