use Rattle.std.proofs.Common.{subst}
use Rattle.std.proofs.lemmas.Result.{err_from_is_err_and}
use Rattle.koika_check.specs.declared.checked.Checked.{Checked}
use Rattle.lab_top.specs.Verilog.{IsModuleOf}
use Rattle.lab_top.proofs.verilog.verilog_source.Goals as goal

pub design_text-requires : goal.design_text-requires
design_text-requires g c = rw c.in_ok-lowered.ensures.checked c.in_ok-spelled.ensures.typed

pub returns-clause-text : goal.returns-clause-text
returns-clause-text g c =
    let text = c.in_ok-text in
    record {
      design = c.in_ok-spelled.spelled.design;
      stimulus = c.in_ok-spelled.spelled.stimulus;
      spelled = c.in_ok-spelled.ensures.spelled;
      told = subst (λ (d : Checked). IsModuleOf c.args.ports d text.text) c.in_ok-lowered.ensures.checked text.ensures;
    }

pub returns-in_err-lowered-clause-refused : goal.returns-in_err-lowered-clause-refused
returns-in_err-lowered-clause-refused g c =
    let p = err_from_is_err_and c.from_residual-in_err-lowered.result c.from_residual-in_err-lowered.ensures.1 in
    rw (p.1, p.2) tt

pub returns-in_err-text-clause-refused : goal.returns-in_err-text-clause-refused
returns-in_err-text-clause-refused g c =
    let p = err_from_is_err_and c.from_residual-in_err-text.result c.from_residual-in_err-text.ensures.1 in
    rw (p.1, p.2) tt
