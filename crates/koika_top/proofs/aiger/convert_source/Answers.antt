use Rattle.std.proofs.Common.{inl, inr, subst}
use Rattle.std.proofs.lemmas.Result.{err_from_is_err_and}
use Rattle.koika_check.specs.declared.checked.Checked.{Checked}
use Rattle.front_end.specs.Aigs.{IsAigOf}
use Rattle.front_end.proofs.Reading.{fault-of-part}
use Rattle.koika_top.proofs.aiger.convert_source.Goals as goal

pub returns-clause-text : goal.returns-clause-text
returns-clause-text g c =
    let spelled = c.in_ok-spelled in
    let aig = c.in_ok-aig in
    record {
      design = spelled.spelled.design;
      stimulus = spelled.spelled.stimulus;
      spelled = spelled.ensures.spelled;
      light = c.in_ok-has_few_bits.ensures.light;
      aig = aig.aig;
      means = c.in_ok-text.ensures.meaning;
      read = c.in_ok-text.ensures.read_back;
      printed = c.in_ok-text.ensures.text;
      circuit = subst (λ (d : Checked). IsAigOf d aig.aig) c.in_ok-lowered.ensures.checked aig.ensures;
    }

pub returns-in_err-spelled-clause-refused : goal.returns-in_err-spelled-clause-refused
returns-in_err-spelled-clause-refused g c =
    let p = err_from_is_err_and c.from_residual.result c.from_residual.ensures.1 in
    rw (p.1, p.2) (fault-of-part _ _ c.in_err-spelled.field-0.0 (λ fault h. inl h) c.in_err-spelled.ensures.refused)

pub returns-in_err-has_few_bits-clause-refused : goal.returns-in_err-has_few_bits-clause-refused
returns-in_err-has_few_bits-clause-refused g c =
    let p = err_from_is_err_and c.from_residual-in_err-has_few_bits.result c.from_residual-in_err-has_few_bits.ensures.1 in
    let it = c.in_ok-spelled in
    rw (p.1, p.2)
    (fault-of-part _ _ c.in_err-has_few_bits.field-0.0 (λ fault h. inr (h.0, (it.spelled.design, it.spelled.stimulus, it.ensures.spelled, h.1))) c.in_err-has_few_bits.ensures.refused)

pub returns-in_err-lowered-clause-refused : goal.returns-in_err-lowered-clause-refused
returns-in_err-lowered-clause-refused g c =
    let p = err_from_is_err_and c.from_residual-in_err-lowered.result c.from_residual-in_err-lowered.ensures.1 in
    rw (p.1, p.2) tt

pub returns-in_err-aig-clause-refused : goal.returns-in_err-aig-clause-refused
returns-in_err-aig-clause-refused g c =
    let p = err_from_is_err_and c.from_residual-in_err-aig.result c.from_residual-in_err-aig.ensures.1 in
    rw (p.1, p.2) tt

pub returns-in_err-text-clause-refused : goal.returns-in_err-text-clause-refused
returns-in_err-text-clause-refused g c =
    let p = err_from_is_err_and c.from_residual-in_err-text.result c.from_residual-in_err-text.ensures.1 in
    rw (p.1, p.2) tt
