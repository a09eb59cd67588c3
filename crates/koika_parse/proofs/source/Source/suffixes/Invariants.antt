use Rattle.std.proofs.Common.{[]}
use Rattle.koika_syntax.specs.Grammar.{IsSuffix, suffix_leaves}
use Rattle.koika_parse.specs.inner.Reading.{tokens_left}
use Rattle.koika_parse.proofs.Lists.{Joined}
use Rattle.koika_parse.specs.inner.ExpressionWords.{Free, SuffixesWord}
use Rattle.koika_parse.proofs.Expected.{Goes}
use Rattle.koika_parse.proofs.ChainWords.{MoreSuffixes}
use Rattle.koika_parse.proofs.source.Source.suffixes.Given as goal

abbrev pub invariant-more : goal.invariant-more
invariant-more l = Joined l.self l.fn.cursor l.cursor [] suffix_leaves IsSuffix l.all × Goes l.self l.fn.cursor l.cursor SuffixesWord (Free 11) MoreSuffixes

abbrev pub decreases-more : goal.decreases-more
decreases-more l = tokens_left l.self l.cursor
