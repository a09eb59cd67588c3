use Rattle.koika_syntax.specs.Grammar.{IsMember, member_leaves}
use Rattle.koika_syntax.specs.Tree.{sign}
use Rattle.koika_syntax.specs.declared.symbol.Symbol.TheVariants as symbols
use Rattle.koika_parse.specs.inner.Reading.{tokens_left}
use Rattle.koika_parse.proofs.Lists.{Joined}
use Rattle.koika_parse.specs.inner.Expected.{Any}
use Rattle.koika_parse.proofs.Commas.{CommasGo}
use Rattle.koika_parse.proofs.source.Source.members.Given as goal

abbrev pub invariant-more : goal.invariant-more
invariant-more l = Joined l.self l.fn.cursor l.cursor (sign symbols.Comma) member_leaves IsMember l.all × CommasGo l.self l.fn.cursor l.cursor Any IsMember member_leaves

abbrev pub decreases-more : goal.decreases-more
decreases-more l = tokens_left l.self l.cursor
