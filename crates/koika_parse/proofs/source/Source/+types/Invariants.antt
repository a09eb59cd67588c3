use Rattle.std.proofs.Common.{◌+◌, ◌*◌}
use Rattle.koika_parse.specs.inner.Reading.{tokens_left}
use Rattle.koika_parse.proofs.source.Source.+types.Given as goal

abbrev pub decreases-array_type : goal.decreases-array_type
decreases-array_type l = tokens_left l.self.now l.cursor.now * 2

abbrev pub decreases-type_expression : goal.decreases-type_expression
decreases-type_expression l = tokens_left l.self.now l.cursor.now * 2 + 1
