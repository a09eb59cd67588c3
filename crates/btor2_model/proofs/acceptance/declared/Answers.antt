use Rattle.std.proofs.Common.{sym, subst}
use Rattle.btor2_model.specs.inner.Known.{AreNarrow}
use Rattle.btor2_model.proofs.Walk.{Reached-start, narrow-none}
use Rattle.btor2_model.proofs.acceptance.declared.Goals as goal

pub loop-line-init : goal.loop-line-init
loop-line-init c = Reached-start c.args.lines.now _ c.in_ok-known.ensures (subst AreNarrow (sym c.in_ok-known.ensures) narrow-none)
