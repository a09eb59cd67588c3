use Rattle.std.proofs.Common.{◌≡◌, List, IfOk, subst}
use Rattle.btor2_text.specs.declared.line.Line.{Line}
use Rattle.koika_assert.specs.Bads.{with_bads}
use Rattle.koika_assert.proofs.LaidOutBads.{are-laid-out}
use Rattle.koika_assert.proofs.MarkedRuns.{are-marked}
use Rattle.koika_assert.proofs.TidyBads.{are-tidy}
use Rattle.koika_assert.proofs.marks.add_bads.Goals as goal

pub returns : goal.returns
returns c =
    let lines = c.args.lines.now in
    let marks = c.args.marks.now in
    let is = subst (λ (ls : List Line). IfOk c.marked_lines.result (λ (all : List Line). all ≡ with_bads ls marks)) c.as_slice.ensures c.marked_lines.ensures.lines in
    let all = are-marked c.marked_lines.result lines marks c.requires.accepted c.requires.ids c.requires.marks is c.marked_lines.ensures.few in
    record { lines = all.lines_are; accepted = all.accepted; ids = all.ids; parts = all.parts; run = all.run; violations = all.violations; layout = are-laid-out c.marked_lines.result lines marks c.requires.accepted c.requires.ids c.requires.marks is; tidy = are-tidy c.marked_lines.result lines marks is }
