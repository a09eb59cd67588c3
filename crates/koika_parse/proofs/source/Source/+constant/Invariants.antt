use Rattle.std.proofs.Common.{◌+◌, ◌*◌}
use Rattle.koika_syntax.specs.Grammar.{IsConstant, constant_leaves}
use Rattle.koika_syntax.specs.inner.Grammar.{constant_field_leaves}
use Rattle.koika_syntax.specs.Tree.{sign}
use Rattle.koika_syntax.specs.declared.symbol.Symbol.TheVariants as symbols
use Rattle.koika_parse.specs.inner.Reading.{tokens_left}
use Rattle.koika_parse.specs.inner.Parts.{IsConstantField}
use Rattle.koika_parse.proofs.Lists.{Joined}
use Rattle.koika_parse.specs.inner.Expected.{Any}
use Rattle.koika_parse.proofs.Commas.{CommasGo}
use Rattle.koika_parse.proofs.source.Source.+constant.Given as goal

abbrev pub decreases-constant : goal.decreases-constant
decreases-constant l = tokens_left l.self.now l.cursor.now * 4 + 2

abbrev pub decreases-constant_array : goal.decreases-constant_array
decreases-constant_array l = tokens_left l.self.now l.cursor.now * 4

abbrev pub decreases-constant_field : goal.decreases-constant_field
decreases-constant_field l = tokens_left l.self.now l.cursor.now * 4

abbrev pub decreases-constant_fields : goal.decreases-constant_fields
decreases-constant_fields l = tokens_left l.self.now l.cursor.now * 4 + 1

abbrev pub decreases-constants : goal.decreases-constants
decreases-constants l = tokens_left l.self.now l.cursor.now * 4 + 3

abbrev pub decreases-named_constant : goal.decreases-named_constant
decreases-named_constant l = tokens_left l.self.now l.cursor.now * 4

abbrev pub invariant-constant_fields-more : goal.invariant-constant_fields-more
invariant-constant_fields-more l =
    Joined l.self l.fn.cursor l.cursor (sign symbols.Comma) constant_field_leaves IsConstantField l.all
    × CommasGo l.self l.fn.cursor l.cursor Any IsConstantField constant_field_leaves

abbrev pub decreases-constant_fields-more : goal.decreases-constant_fields-more
decreases-constant_fields-more l = tokens_left l.self l.cursor

abbrev pub invariant-constants-more : goal.invariant-constants-more
invariant-constants-more l =
    Joined l.self l.fn.cursor l.cursor (sign symbols.Comma) constant_leaves IsConstant l.all
    × CommasGo l.self l.fn.cursor l.cursor Any IsConstant constant_leaves

abbrev pub decreases-constants-more : goal.decreases-constants-more
decreases-constants-more l = tokens_left l.self l.cursor
