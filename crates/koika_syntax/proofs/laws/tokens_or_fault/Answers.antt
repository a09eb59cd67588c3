use Rattle.koika_syntax.proofs.Lexing.{tokens_or_first_fault}
use Rattle.koika_syntax.proofs.laws.tokens_or_fault.Goals as goal

pub returns : goal.returns
returns c = tokens_or_first_fault
