use Rattle.std.proofs.Common.{◌≡◌, ◌≤◌, length, drop}
use Rattle.btor2_text.specs.Cut.{words_of}
use Rattle.btor2_text.proofs.argument.skip_tokens.Given as goal

abbrev pub invariant-loop : goal.invariant-loop
invariant-loop l = (l.counter ≤ length (words_of l.fn.bytes)) × (words_of l.rest ≡ drop l.counter (words_of l.fn.bytes))
