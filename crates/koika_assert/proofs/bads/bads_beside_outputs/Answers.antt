use Rattle.std.proofs.Common.{◌≡◌, List, ap, sym, subst, ◌∙◌}
use Rattle.btor2_text.specs.Printable.{ArePrintable}
use Rattle.btor2_text.specs.declared.line.Line.{Line}
use Rattle.btor2_model.specs.Acceptance.{first_fault}
use Rattle.koika_assert.specs.Bads.{ShowsBeside, bads_beside_outputs}
use Rattle.koika_assert.proofs.TurnedRuns.{if_ok-weaker, shows}
use Rattle.koika_assert.proofs.TurnedLines.{no-fault-turned, printable-turned}
use Rattle.koika_assert.proofs.bads.bads_beside_outputs.Goals as goal

pub accepted-requires-clause-forms : goal.accepted-requires-clause-forms
accepted-requires-clause-forms c =
    let same : c.in_ok-lines.lines ≡ bads_beside_outputs c.args.text.now = c.in_ok-lines.ensures ∙ ap bads_beside_outputs (c.as_slice.ensures ∙ c.lines.ensures.lines) in
    subst ArePrintable (sym same) (printable-turned c.args.text.now c.lines.ensures.accepted.forms)

pub accepted-requires-clause-fine : goal.accepted-requires-clause-fine
accepted-requires-clause-fine c =
    let same : c.in_ok-lines.lines ≡ bads_beside_outputs c.args.text.now = c.in_ok-lines.ensures ∙ ap bads_beside_outputs (c.as_slice.ensures ∙ c.lines.ensures.lines) in
    ap first_fault same ∙ no-fault-turned c.args.text.now c.lines.ensures.accepted

pub returns-clause-beside : goal.returns-clause-beside
returns-clause-beside c =
    let same : c.in_ok-lines.lines ≡ bads_beside_outputs c.args.text.now = c.in_ok-lines.ensures ∙ ap bads_beside_outputs (c.as_slice.ensures ∙ c.lines.ensures.lines) in
    if_ok-weaker c.accepted.result (λ (text : List Line). text ≡ c.in_ok-lines.lines) (ShowsBeside c.args.text.now)
    (λ text is. subst (ShowsBeside c.args.text.now) (sym (is ∙ same)) (shows c.args.text.now c.lines.ensures.accepted)) c.accepted.ensures
