use Rattle.koika_syntax.specs.Grammar.{IsDeclaration, declaration_leaves}
use Rattle.koika_parse.specs.inner.Reading.{tokens_left}
use Rattle.koika_parse.proofs.Lists.{Row}
use Rattle.koika_parse.specs.inner.Words.{DeclarationsWord, schedule_follows}
use Rattle.koika_parse.proofs.Expected.{Goes}
use Rattle.koika_parse.proofs.source.Source.declarations.Given as goal

abbrev pub invariant-more : goal.invariant-more
invariant-more l = Row l.self l.fn.cursor l.cursor declaration_leaves IsDeclaration l.all × Goes l.self l.fn.cursor l.cursor DeclarationsWord schedule_follows DeclarationsWord

abbrev pub decreases-more : goal.decreases-more
decreases-more l = tokens_left l.self l.cursor
