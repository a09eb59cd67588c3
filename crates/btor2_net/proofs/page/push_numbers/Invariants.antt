use Rattle.std.proofs.Common.{◌≡◌, ◌++◌, map, take}
use Rattle.btor2_text.specs.declared.line.Argument.TheVariants as arguments
use Rattle.btor2_net.proofs.page.push_numbers.Given as goal

abbrev pub invariant-loop-number : goal.invariant-loop-number
invariant-loop-number l = l.given ≡ l.initial.given ++ map arguments.Number (take l.number-index l.numbers)
