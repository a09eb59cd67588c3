use Rattle.koika_syntax.specs.Grammar.{IsName, rule_leaves}
use Rattle.koika_parse.specs.inner.Reading.{tokens_left}
use Rattle.koika_parse.proofs.Lists.{Row}
use Rattle.koika_parse.specs.inner.Words.{RulesWord, no_name}
use Rattle.koika_parse.proofs.Expected.{Goes}
use Rattle.koika_parse.proofs.source.Source.rules.Given as goal

abbrev pub invariant-more : goal.invariant-more
invariant-more l = Row l.self l.fn.cursor l.cursor rule_leaves IsName l.all × Goes l.self l.fn.cursor l.cursor RulesWord no_name RulesWord

abbrev pub decreases-more : goal.decreases-more
decreases-more l = tokens_left l.self l.cursor
