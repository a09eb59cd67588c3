use Rattle.std.proofs.Common.{◌≡◌, take}
use Rattle.btor2_text.specs.Printing.{text_of}
use Rattle.btor2_text.proofs.print.print_lines.Given as goal

abbrev pub invariant-loop-line : goal.invariant-loop-line
invariant-loop-line l = l.text ≡ text_of (take l.line-index l.lines)
