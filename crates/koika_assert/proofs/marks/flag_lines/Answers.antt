use Rattle.std.proofs.Common.{◌≡◌, List, filter, ◌∙◌}
use Rattle.std.proofs.lemmas.Result.{IfOk-weaker}
use Rattle.btor2_text.specs.declared.line.Line.{Line}
use Rattle.koika_assert.specs.Bads.{flag_lines}
use Rattle.koika_assert.specs.inner.Widths.{is_narrow}
use Rattle.koika_assert.proofs.NarrowOutputs.{narrow-are}
use Rattle.koika_assert.proofs.marks.flag_lines.Goals as goal

pub returns : goal.returns
returns c =
    let lines = c.args.lines.now in
    IfOk-weaker c.narrow_lines.result (λ (flags : List Line). flags ≡ filter (is_narrow lines) lines) (λ (flags : List Line). flags ≡ flag_lines lines) (λ flags is. is ∙ narrow-are lines c.requires.accepted c.requires.ids) c.narrow_lines.ensures
