use Rattle.koika_syntax.specs.Tree.{symbol}
use Rattle.koika_parse.proofs.Expected.{not_so, refused_one, within}
use Rattle.koika_parse.proofs.source.Source.sign_at.Goals as goal

pub returns-then-not-is_at_sign-clause-takes : goal.returns-then-not-is_at_sign-clause-takes
returns-then-not-is_at_sign-clause-takes c = refused_one (symbol c.args.wanted) (not_so c.is_at_sign.ensures c.if-not-is_at_sign.true)

pub step-requires : goal.step-requires
step-requires c = within c.args.self.now c.args.cursor.now (c.is_at_sign.ensures.0 c.if-not-is_at_sign.false)
