use Rattle.std.proofs.Common.{length, ◌-◌}
use Rattle.koika_syntax.proofs.Cuts.{CutTo}
use Rattle.koika_syntax.proofs.lexer.lex.Given as goal

abbrev pub invariant-loop-offset : goal.invariant-loop-offset
invariant-loop-offset l = CutTo l.text l.tokens.items l.offset

abbrev pub decreases-loop-offset : goal.decreases-loop-offset
decreases-loop-offset l = length l.text - l.offset
