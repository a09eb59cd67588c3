use Rattle.std.proofs.Common.{ap, subst, ◌∙◌}
use Rattle.koika_assert.specs.Bads.{ShowsMarks, with_bads}
use Rattle.koika_top.proofs.Wiring.{are-circuit, has-tokens, marks-have-flags, stay-numbered}
use Rattle.koika_top.proofs.circuits.circuit_lines.Goals as goal

pub to_lines-requires : goal.to_lines-requires
to_lines-requires c = record { names = has-tokens c.args.design.now c.args.circuit.now c.requires.names c.requires.wired }

pub add_bads-requires-clause-marks : goal.add_bads-requires-clause-marks
add_bads-requires-clause-marks c =
    let lines = c.in_ok-lines in
    rw c.asserts.ensures (marks-have-flags c.args.design.now c.args.circuit.now c.requires.wired lines.lines lines.ensures.lines lines.ensures.names c.requires.typed)

pub returns-clause-circuit : goal.returns-clause-circuit
returns-clause-circuit c =
    let lines = c.in_ok-lines in
    let all = c.in_ok-marked in
    are-circuit c.args.design.now c.args.circuit.now c.requires.wired lines.lines lines.ensures.lines lines.ensures.names c.requires.typed lines.ensures.run all.marked
    (all.ensures.lines ∙ ap (with_bads lines.lines) c.asserts.ensures) all.ensures.parts all.ensures.run
    (subst (λ marks. ShowsMarks lines.lines marks all.marked) c.asserts.ensures all.ensures.violations) all.ensures.accepted
    (all.ensures.layout lines.ensures.layout) (all.ensures.tidy (lines.ensures.tidy c.requires.tidy))

pub returns-clause-numbers : goal.returns-clause-numbers
returns-clause-numbers c =
    let lines = c.in_ok-lines in
    let all = c.in_ok-marked in
    stay-numbered c.args.design.now c.args.circuit.now c.requires.wired lines.lines lines.ensures.lines lines.ensures.names c.requires.typed lines.ensures.run all.marked
    (all.ensures.lines ∙ ap (with_bads lines.lines) c.asserts.ensures) all.ensures.parts all.ensures.run
    (subst (λ marks. ShowsMarks lines.lines marks all.marked) c.asserts.ensures all.ensures.violations)
