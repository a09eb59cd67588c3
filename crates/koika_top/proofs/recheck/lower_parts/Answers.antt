use Rattle.std.proofs.Common.{inl, sym, ◌∙◌}
use Rattle.std.proofs.lemmas.Result.{err_from_is_err_and}
use Rattle.front_end.proofs.Reading.{fault-of-part}
use Rattle.koika_top.proofs.recheck.lower_parts.Goals as goal

pub returns-in_err-spelled-clause-refused : goal.returns-in_err-spelled-clause-refused
returns-in_err-spelled-clause-refused g c =
    let p = err_from_is_err_and c.from_residual.result c.from_residual.ensures.1 in
    rw (p.1, p.2) (fault-of-part _ _ c.in_err-spelled.field-0.0 (λ fault h. inl h) c.in_err-spelled.ensures.refused)

pub returns-clause-lowered : goal.returns-clause-lowered
returns-clause-lowered g c =
    let lowered = c.in_ok-lowered.ensures in
    record {
      spelled = rw (lowered.checked, lowered.stimulus) c.in_ok-spelled.ensures.spelled;
      within = rw lowered.checked (sym c.is_too_long_for.ensures ∙ c.if-is_too_long_for.false);
      light = rw lowered.checked (sym c.is_too_heavy.ensures ∙ c.if-is_too_heavy.false);
    }

pub returns-clause-typed : goal.returns-clause-typed
returns-clause-typed g c = rw c.in_ok-lowered.ensures.checked c.in_ok-spelled.ensures.typed
