use Rattle.std.proofs.Common.{[]}
use Rattle.koika_syntax.specs.Grammar.{prefix_leaves}
use Rattle.koika_parse.specs.inner.Reading.{tokens_left}
use Rattle.koika_parse.proofs.Lists.{Joined}
use Rattle.koika_parse.proofs.Expected.{Goes}
use Rattle.koika_parse.proofs.ChainWords.{MorePrefixes}
use Rattle.koika_parse.specs.inner.ExpressionWords.{PrefixesWord, no_prefix}
use Rattle.koika_parse.proofs.source.Source.prefixes.Given as goal

abbrev pub invariant-more : goal.invariant-more
invariant-more l = Joined l.self l.fn.cursor l.cursor [] prefix_leaves (λ prefix. Unit {0}) l.all × Goes l.self l.fn.cursor l.cursor PrefixesWord no_prefix MorePrefixes

abbrev pub decreases-more : goal.decreases-more
decreases-more l = tokens_left l.self l.cursor
