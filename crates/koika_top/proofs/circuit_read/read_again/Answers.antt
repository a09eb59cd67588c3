use Rattle.std.proofs.Common.{◌<◌, ◌^◌, List, length, sym, subst}
use Rattle.std.specs.Prelude.{IfOk}
use Rattle.btor2_text.specs.Printable.{ArePrintable}
use Rattle.btor2_text.specs.declared.line.Line.{Line}
use Rattle.btor2_model.specs.Rules.{is_input, is_state}
use Rattle.btor2_model.specs.Run.{lines_by_rule}
use Rattle.btor2_net.specs.Translations.{HasLines, RunsAs}
use Rattle.koika_top.proofs.ReadAgain.{found-is, no-fault-accepted, no-fault-read, text-is}
use Rattle.koika_top.proofs.circuit_read.read_again.Goals as goal

pub unrefused-requires : goal.unrefused-requires
unrefused-requires c = no-fault-read c.args.lines.now c.requires.accepted c.requires.numbers c.in_ok-printed.printed _ c.as_slice.ensures c.in_ok-printed.ensures.read_again c.read_lines.result c.read_lines.ensures.accepted

pub accept-requires : goal.accept-requires
accept-requires c =
    subst ArePrintable
    (sym (found-is c.args.lines.now c.requires.accepted c.requires.numbers c.in_ok-printed.printed _ c.as_slice.ensures c.in_ok-printed.ensures.read_again c.read_lines.result c.read_lines.ensures.accepted c.in_ok-read.read c.in_ok-read.ensures))
    c.requires.accepted.forms

pub unrefused-requires-2 : goal.unrefused-requires-2
unrefused-requires-2 c =
    no-fault-accepted c.args.lines.now c.requires.accepted c.requires.numbers c.in_ok-printed.printed _ c.as_slice.ensures c.in_ok-printed.ensures.read_again c.read_lines.result c.read_lines.ensures.accepted c.in_ok-read.read c.in_ok-read.ensures c.accept.result c.accept.ensures.accepted

pub to_circuit-requires-clause-inputs : goal.to_circuit-requires-clause-inputs
to_circuit-requires-clause-inputs c =
    subst (λ (lines : List Line). length (lines_by_rule is_input lines) < 2 ^ 32)
    (sym (text-is c.args.lines.now c.requires.accepted c.requires.numbers c.in_ok-printed.printed _ c.as_slice.ensures c.in_ok-printed.ensures.read_again c.read_lines.result c.read_lines.ensures.accepted c.in_ok-read.read c.in_ok-read.ensures c.accept.result c.accept.ensures.accepted c.in_ok-text.text c.in_ok-text.ensures))
    c.requires.inputs

pub to_circuit-requires-clause-states : goal.to_circuit-requires-clause-states
to_circuit-requires-clause-states c =
    subst (λ (lines : List Line). length (lines_by_rule is_state lines) < 2 ^ 32)
    (sym (text-is c.args.lines.now c.requires.accepted c.requires.numbers c.in_ok-printed.printed _ c.as_slice.ensures c.in_ok-printed.ensures.read_again c.read_lines.result c.read_lines.ensures.accepted c.in_ok-read.read c.in_ok-read.ensures c.accept.result c.accept.ensures.accepted c.in_ok-text.text c.in_ok-text.ensures))
    c.requires.states

pub returns-clause-lines : goal.returns-clause-lines
returns-clause-lines c =
    subst (λ (lines : List Line). IfOk c.to_circuit.result (HasLines lines))
    (text-is c.args.lines.now c.requires.accepted c.requires.numbers c.in_ok-printed.printed _ c.as_slice.ensures c.in_ok-printed.ensures.read_again c.read_lines.result c.read_lines.ensures.accepted c.in_ok-read.read c.in_ok-read.ensures c.accept.result c.accept.ensures.accepted c.in_ok-text.text c.in_ok-text.ensures)
    c.to_circuit.ensures.lines

pub returns-clause-run : goal.returns-clause-run
returns-clause-run c =
    subst (λ (lines : List Line). IfOk c.to_circuit.result (RunsAs lines))
    (text-is c.args.lines.now c.requires.accepted c.requires.numbers c.in_ok-printed.printed _ c.as_slice.ensures c.in_ok-printed.ensures.read_again c.read_lines.result c.read_lines.ensures.accepted c.in_ok-read.read c.in_ok-read.ensures c.accept.result c.accept.ensures.accepted c.in_ok-text.text c.in_ok-text.ensures)
    c.to_circuit.ensures.run
