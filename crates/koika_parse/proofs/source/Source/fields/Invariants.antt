use Rattle.koika_syntax.specs.Grammar.{IsField, field_leaves}
use Rattle.koika_syntax.specs.Tree.{sign}
use Rattle.koika_syntax.specs.declared.symbol.Symbol.TheVariants as symbols
use Rattle.koika_parse.specs.inner.Reading.{tokens_left}
use Rattle.koika_parse.proofs.Lists.{Joined}
use Rattle.koika_parse.specs.inner.Expected.{Any}
use Rattle.koika_parse.proofs.Commas.{CommasGo}
use Rattle.koika_parse.proofs.source.Source.fields.Given as goal

abbrev pub invariant-more : goal.invariant-more
invariant-more l = Joined l.self l.fn.cursor l.cursor (sign symbols.Comma) field_leaves IsField l.all × CommasGo l.self l.fn.cursor l.cursor Any IsField field_leaves

abbrev pub decreases-more : goal.decreases-more
decreases-more l = tokens_left l.self l.cursor
