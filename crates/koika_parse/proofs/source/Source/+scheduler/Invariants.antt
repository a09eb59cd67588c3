use Rattle.std.proofs.Common.{◌+◌, ◌*◌}
use Rattle.koika_parse.specs.inner.Reading.{tokens_left}
use Rattle.koika_parse.proofs.source.Source.+scheduler.Given as goal

abbrev pub decreases-scheduler : goal.decreases-scheduler
decreases-scheduler l = tokens_left l.self.now l.cursor.now * 2

abbrev pub decreases-last_choice : goal.decreases-last_choice
decreases-last_choice l = tokens_left l.self.now l.cursor.now * 2 + 1

abbrev pub decreases-choice : goal.decreases-choice
decreases-choice l = tokens_left l.self.now l.cursor.now * 2
