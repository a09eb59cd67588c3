use Rattle.std.proofs.Common.{◌≡◌, length, ap, ◌∙◌, sym, subst, arith}
use Rattle.std.proofs.lemmas.List.{take_all}
use Rattle.btor2_text.specs.Printable.{numbered_from}
use Rattle.btor2_text.specs.Printing.{text_of}
use Rattle.btor2_text.specs.Reading.{AreLinesOf}
use Rattle.btor2_text.proofs.RoundTrip.{AreLines-text_of}
use Rattle.btor2_text.proofs.print.print_lines.Goals as goal

pub returns-clause-read_again : goal.returns-clause-read_again
returns-clause-read_again c = λ are.
    let whole = take_all c.loop-line.line-index c.args.lines.now (omega (arith, ap length c.as_slice-line-items.ensures)) in
    let text_is : c.loop-line.text ≡ text_of c.args.lines.now = c.loop-line.invariant ∙ ap text_of whole in
    subst (λ text. AreLinesOf text (numbered_from 1 c.args.lines.now)) (sym text_is) (AreLines-text_of 1 c.args.lines.now are)
