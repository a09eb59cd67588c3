use Rattle.koika_syntax.specs.Tree.{keyword}
use Rattle.koika_parse.proofs.Expected.{not_so, refused_one, within}
use Rattle.koika_parse.proofs.source.Source.word_at.Goals as goal

pub returns-then-not-is_at_word-clause-takes : goal.returns-then-not-is_at_word-clause-takes
returns-then-not-is_at_word-clause-takes c = refused_one (keyword c.args.wanted) (not_so c.is_at_word.ensures c.if-not-is_at_word.true)

pub step-requires : goal.step-requires
step-requires c = within c.args.self.now c.args.cursor.now (c.is_at_word.ensures.0 c.if-not-is_at_word.false)
