use Rattle.std.proofs.Common.{◌≡◌, ◌++◌, take}
use Rattle.std.specs.List.{flat_map}
use Rattle.btor2_text.specs.Printing.{spaced_argument}
use Rattle.btor2_text.proofs.print.push_arguments.Given as goal

abbrev pub invariant-loop-argument : goal.invariant-loop-argument
invariant-loop-argument l = l.text ≡ l.fn.text ++ flat_map spaced_argument (take l.argument-index l.arguments)
