use Rattle.std.proofs.Common.{subst}
use Rattle.std.proofs.lemmas.Result.{err_from_is_err_and}
use Rattle.btor2_text.specs.Reading.{AreLinesOf}
use Rattle.koika_check.specs.declared.checked.Checked.{Checked}
use Rattle.koika_top.specs.Compile.{AreCircuitOf}
use Rattle.koika_top.proofs.compile.compile_source.Goals as goal

pub lines_of-requires : goal.lines_of-requires
lines_of-requires g c = rw c.in_ok-lowered.ensures.checked c.in_ok-spelled.ensures.typed

pub returns-clause-text : goal.returns-clause-text
returns-clause-text g c =
    let lines = c.in_ok-lines in
    let circuit = subst (λ (d : Checked). AreCircuitOf d lines.lines) c.in_ok-lowered.ensures.checked lines.ensures.circuit in
    record {
      design = c.in_ok-spelled.spelled.design;
      stimulus = c.in_ok-spelled.spelled.stimulus;
      spelled = c.in_ok-spelled.ensures.spelled;
      lines = lines.lines;
      read = subst (AreLinesOf c.in_ok-text.text) lines.ensures.numbers (c.in_ok-text.ensures.read_again lines.ensures.circuit.accepted.forms);
      printed = c.in_ok-text.ensures.text;
      circuit = circuit;
    }

pub returns-in_err-lowered-clause-refused : goal.returns-in_err-lowered-clause-refused
returns-in_err-lowered-clause-refused g c =
    let p = err_from_is_err_and c.from_residual-in_err-lowered.result c.from_residual-in_err-lowered.ensures.1 in
    rw (p.1, p.2) tt

pub returns-in_err-lines-clause-refused : goal.returns-in_err-lines-clause-refused
returns-in_err-lines-clause-refused g c =
    let p = err_from_is_err_and c.from_residual-in_err-lines.result c.from_residual-in_err-lines.ensures.1 in
    rw (p.1, p.2) tt

pub returns-in_err-text-clause-refused : goal.returns-in_err-text-clause-refused
returns-in_err-text-clause-refused g c =
    let p = err_from_is_err_and c.from_residual-in_err-text.result c.from_residual-in_err-text.ensures.1 in
    rw (p.1, p.2) tt
