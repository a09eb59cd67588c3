use Rattle.std.proofs.Common.{sym, ap, ◌∙◌}
use Rattle.std.proofs.lemmas.Result.{err_from_is_err_and}
use Rattle.aiger_text.specs.Cuts.{lines_of}
use Rattle.aiger_text.specs.Drafts.{Draft, draft_from, is_end}
use Rattle.aiger_text.specs.inner.Steps.{parts_of}
use Rattle.aiger_text.specs.declared.header.Section.{Section}
use Rattle.aiger_text.specs.declared.header.Section.TheVariants as sections
use Rattle.aiger_text.proofs.Lines.{faults_pass, read_end, read_fault, read_more, read_stop}
use Rattle.aiger_text.proofs.read.read_lines.Goals as goal

pub loop-line-init : goal.loop-line-init
loop-line-init c = ap (λ (d : Draft). draft_from c.args.header.now d 2 (lines_of c.args.bytes.now)) c.of_text-draft.ensures

pub returns-then-is_end-clause-draft : goal.returns-then-is_end-clause-draft
returns-then-is_end-clause-draft c =
    read_stop c.args.header.now (parts_of c.loop-line.draft) c.loop-line.number c.loop-line.rest.now c.in-Some.line.bytes.now c.in-Some.line.rest.now _ c.in-Some.ensures.found.first
    (ap (λ (s : Section). is_end s c.in-Some.line.bytes.now) (sym c.section-section.ensures) ∙ sym c.is_end.ensures ∙ c.if-is_end.true) c.loop-line.invariant

pub returns-in_err-add_line-clause-fault : goal.returns-in_err-add_line-clause-fault
returns-in_err-add_line-clause-fault c =
    let p = err_from_is_err_and c.from_residual.result c.from_residual.ensures.1 in
    rw (p.1, p.2) (faults_pass c.in_err-add_line.field-0.0 _ _ c.in_err-add_line.ensures.fault (λ fault reads.
    read_fault c.args.header.now (parts_of c.loop-line.draft) c.loop-line.number c.loop-line.rest.now c.in-Some.line.bytes.now c.in-Some.line.rest.now fault _ c.in-Some.ensures.found.first
    (ap (λ (s : Section). is_end s c.in-Some.line.bytes.now) (sym c.section-section.ensures) ∙ sym c.is_end.ensures ∙ c.if-is_end.false) reads c.loop-line.invariant))

pub loop-line-preserved : goal.loop-line-preserved
loop-line-preserved c =
    read_more c.args.header.now (parts_of c.loop-line.draft) (parts_of c.add_line.new.draft) c.loop-line.number c.saturating_add-number.result c.loop-line.rest.now c.in-Some.line.bytes.now c.in-Some.line.rest.now _ c.in-Some.ensures.found.first
    (ap (λ (s : Section). is_end s c.in-Some.line.bytes.now) (sym c.section-section.ensures) ∙ sym c.is_end.ensures ∙ c.if-is_end.false) c.in_ok-add_line.ensures.ok c.saturating_add-number.ensures c.loop-line.invariant

pub returns-in-Symbol-clause-draft : goal.returns-in-Symbol-clause-draft
returns-in-Symbol-clause-draft c =
    read_end c.args.header.now (parts_of c.loop-line.draft) c.loop-line.number c.loop-line.rest.now sections.Symbol _ c.in_default.ensures.absent (sym c.section-last.ensures ∙ c.in-Symbol.is) c.loop-line.invariant

pub returns-in-Input-clause-fault : goal.returns-in-Input-clause-fault
returns-in-Input-clause-fault c =
    rw c.refusal.ensures (read_end c.args.header.now (parts_of c.loop-line.draft) c.loop-line.number c.loop-line.rest.now sections.Input _ c.in_default.ensures.absent (sym c.section-last.ensures ∙ c.in-Input.is) c.loop-line.invariant)

pub returns-in-Latch-clause-fault : goal.returns-in-Latch-clause-fault
returns-in-Latch-clause-fault c =
    rw c.refusal-in-Latch.ensures (read_end c.args.header.now (parts_of c.loop-line.draft) c.loop-line.number c.loop-line.rest.now sections.Latch _ c.in_default.ensures.absent (sym c.section-last.ensures ∙ c.in-Latch.is) c.loop-line.invariant)

pub returns-in-Output-clause-fault : goal.returns-in-Output-clause-fault
returns-in-Output-clause-fault c =
    rw c.refusal-in-Output.ensures (read_end c.args.header.now (parts_of c.loop-line.draft) c.loop-line.number c.loop-line.rest.now sections.Output _ c.in_default.ensures.absent (sym c.section-last.ensures ∙ c.in-Output.is) c.loop-line.invariant)

pub returns-in-Gate-clause-fault : goal.returns-in-Gate-clause-fault
returns-in-Gate-clause-fault c =
    rw c.refusal-in-Gate.ensures (read_end c.args.header.now (parts_of c.loop-line.draft) c.loop-line.number c.loop-line.rest.now sections.Gate _ c.in_default.ensures.absent (sym c.section-last.ensures ∙ c.in-Gate.is) c.loop-line.invariant)
